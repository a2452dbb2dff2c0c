-- The sources of the four protocols, for eight caches and for sixteen.
use Rattle.std.specs.Prelude.{ℕ, List, ◌++◌, Option, Some, None, codes, if◌then◌else◌}
use Rattle.std.specs.Str.{bytes_eq}
use Rattle.bk_proto.specs.declared.ei.TheConstants as ei
use Rattle.bk_proto.specs.declared.msi.TheConstants as msi
use Rattle.bk_proto.specs.declared.mesi.TheConstants as mesi
use Rattle.bk_proto.specs.declared.moesif.TheConstants as moesif

-- the text of a protocol for up to sixteen caches
abbrev pub for_sixteen : List ℕ → List ℕ
for_sixteen text = codes "caches 16\n" ++ text

-- The source of a name. The texts themselves stand in src/, a file for each.
abbrev pub source_of : List ℕ → Option (List ℕ)
source_of name =
    if bytes_eq name (codes "ei") then Some ei.SOURCE.now
    else if bytes_eq name (codes "msi") then Some msi.SOURCE.now
    else if bytes_eq name (codes "mesi") then Some mesi.SOURCE.now
    else if bytes_eq name (codes "moesif") then Some moesif.SOURCE.now
    else if bytes_eq name (codes "ei16") then Some (for_sixteen ei.SOURCE.now)
    else if bytes_eq name (codes "msi16") then Some (for_sixteen msi.SOURCE.now)
    else if bytes_eq name (codes "mesi16") then Some (for_sixteen mesi.SOURCE.now)
    else if bytes_eq name (codes "moesif16") then Some (for_sixteen moesif.SOURCE.now)
    else None
