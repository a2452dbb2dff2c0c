-- The bytes of an image, one spelling each.
use Rattle.std.specs.Prelude.{ℕ, List, [], ◌∷◌, ◌++◌, length, codes, ◌==◌, if◌then◌else◌}
use Rattle.std.specs.List.{flat_map, AllByRecursion}
use Rattle.std.specs.Int.{w32, w64, to_le_bytes}
use Rattle.bk_isa.specs.declared.form.Form.{Form}
use Rattle.bk_isa.specs.Words.{IsInRange, encode}
use Rattle.bk_know.specs.Sets.{mask_of, IsKnow}
use Rattle.bk_image.specs.Images.{Parts, Line, AreParts}
use Rattle.bk_image.specs.declared.header.Heading.{Heading}

-- the byte of the limit, which is reserved in version 1
abbrev pub limit_byte : ℕ → ℕ → ℕ
limit_byte version limit = if version == 1 then 0 else limit

-- the magic; the version, the limit and two reserved bytes; how many instructions and know lines follow
abbrev pub header : Heading → List ℕ
header h = codes "BKUC" ++ (h.version ∷ limit_byte h.version h.limit ∷ 0 ∷ 0 ∷ []) ++ to_le_bytes w32 h.instrs ++ to_le_bytes w32 h.knows

abbrev pub heading_of : Parts → Heading
heading_of p = record { version = p.version; limit = p.limit; instrs = length p.instrs; knows = length p.knows }

abbrev pub word : Form → List ℕ
word f = to_le_bytes w64 (encode f)

-- a know line: its place, and its mask
abbrev pub line : Line → List ℕ
line k = to_le_bytes w32 k.0 ++ to_le_bytes w64 (mask_of k.1)

-- what is known there is what some mask says
pub record HasMask (line : Line) : Type 0 where
  pub know : IsKnow line.1

abbrev pub spelling : Parts → List ℕ
spelling p = header (heading_of p) ++ flat_map word p.instrs ++ flat_map line p.knows

-- what has a spelling
pub record IsImage (p : Parts) : Type 0 where
  pub parts : AreParts p
  pub in_range : AllByRecursion IsInRange p.instrs
  pub masks : AllByRecursion HasMask p.knows
