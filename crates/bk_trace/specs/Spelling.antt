-- The canonical text of a trace.
use Rattle.std.specs.Prelude.{ℕ, List, ◌++◌, false, codes}
use Rattle.std.specs.List.{flat_map}
use Rattle.std.specs.Fmt.{decimal, digits}
use Rattle.bk_base.specs.Places.{Shape}
use Rattle.bk_base.specs.declared.op.Op.{Op}
use Rattle.bk_base.specs.declared.op.Op.TheVariants.{Load, Store, UcLoad, UcStore, Evict}
use Rattle.bk_trace.specs.Traces.{Parts}

abbrev pub hexadecimal : ℕ → List ℕ
hexadecimal n = codes "0x" ++ digits 16 false n

abbrev pub op_text : Op → List ℕ
op_text (Load address) = codes " L " ++ hexadecimal address
op_text (Store address value) = codes " S " ++ hexadecimal address ++ codes " " ++ decimal value
op_text (UcLoad address) = codes " UL " ++ hexadecimal address
op_text (UcStore address value) = codes " US " ++ hexadecimal address ++ codes " " ++ decimal value
op_text (Evict address) = codes " EV " ++ hexadecimal address

-- `CACHE OP ADDRESS`, and the value of a store
abbrev pub operation_text : ℕ → Op → List ℕ
operation_text cache op = decimal cache ++ op_text op

abbrev pub line_text : ℕ × Op → List ℕ
line_text line = operation_text line.0 line.1 ++ codes "\n"

abbrev pub config_text : Shape → List ℕ
config_text k = codes "config " ++ decimal k.caches ++ codes " " ++ decimal k.sets ++ codes " " ++ decimal k.ways ++ codes "\n"

-- the configuration, and a line for each operation
abbrev pub spelling : Parts → List ℕ
spelling t = config_text t.config ++ flat_map line_text t.lines
