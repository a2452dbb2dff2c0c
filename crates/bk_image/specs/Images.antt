-- What an image is.
use Rattle.std.specs.Prelude.{◌≡◌, ◌≤◌, ◌⊎◌, ℕ, ◌+◌, ◌==◌, nat_le, nat_lt, Bool, true, ◌&&◌, List, [], ◌∷◌, length, Option, Some, None, if◌then◌else◌}
use Rattle.bk_isa.specs.declared.form.Form.{Form}
use Rattle.bk_know.specs.declared.sets.Sets.{Sets}

-- a know line: a place, and for each field the values that it may have there
abbrev pub Line : Type 0
Line = ℕ × Sets

-- what an image consists of: the version of its format; its limit, the most caches that a replay of it has; instructions and know lines
pub record Parts : Type 0 where
  pub version : ℕ
  pub limit : ℕ
  pub instrs : List Form
  pub knows : List Line

-- version 1 has the limit 8, and version 2 one from 1 to 16
abbrev pub IsFormat : ℕ → ℕ → Type 0
IsFormat version limit = ((version ≡ 1) × (limit ≡ 8)) ⊎ ((version ≡ 2) × (1 ≤ limit) × (limit ≤ 16))

-- it has 1 to 256 instructions
pub record HasImageLength (instrs : List Form) : Type 0 where
  pub some : 1 ≤ length instrs
  pub few : length instrs ≤ 256

-- the places of know lines ascend strictly from the least one that may come, and are below the count of instructions
abbrev pub are_lines : ℕ → ℕ → List Line → Bool
are_lines count least [] = true
are_lines count least (k ∷ ks) = nat_le least k.0 && nat_lt k.0 count && are_lines count (k.0 + 1) ks

-- the two lists are an image
pub record IsWhole (instrs : List Form) (knows : List Line) : Type 0 where
  pub count : HasImageLength instrs
  pub lines : are_lines (length instrs) 0 knows ≡ true

-- these are an image
pub record AreParts (p : Parts) : Type 0 where
  pub format : IsFormat p.version p.limit
  pub whole : IsWhole p.instrs p.knows

-- what the know line at a place says
abbrev pub known : List Line → ℕ → Option Sets
known [] place = None
known (k ∷ ks) place = if k.0 == place then Some k.1 else known ks place
