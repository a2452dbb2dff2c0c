-- A trace: a configuration, and operations of its caches.
use Rattle.std.specs.Prelude.{ℕ, ◌+◌, ◌<◌, ◌≤◌, ◌^◌, List, [], ◌∷◌, length, map, ◌==◌, if◌then◌else◌}
use Rattle.std.specs.List.{All, range_with_len}
use Rattle.bk_base.specs.Places.{Shape, InProfile, IsAddr}
use Rattle.bk_base.specs.declared.op.Op.{Op}
use Rattle.bk_base.specs.declared.op.Op.TheVariants.{Load, Store, UcLoad, UcStore, Evict}

-- the configuration, and the operations, each with its cache
pub record Parts : Type 0 where
  pub config : Shape
  pub lines : List (ℕ × Op)

-- the operations of one cache, in order
abbrev pub operations_of : ℕ → List (ℕ × Op) → List Op
operations_of cache [] = []
operations_of cache (line ∷ lines) = if line.0 == cache then line.1 ∷ operations_of cache lines else operations_of cache lines

-- the numbers of one cache's lines, ascending, where the first of all lines has this number
abbrev pub places_from : ℕ → ℕ → List (ℕ × Op) → List ℕ
places_from number cache [] = []
places_from number cache (line ∷ lines) =
    if line.0 == cache then number ∷ places_from (number + 1) cache lines else places_from (number + 1) cache lines

-- the numbers of the lines of cache 0, of cache 1, and so on, counted from 0
abbrev pub index_of : ℕ → List (ℕ × Op) → List (List ℕ)
index_of caches lines = map (λ cache. places_from 0 cache lines) (range_with_len 0 caches)

-- the numbers of an operation: an address, and a value of 64 bits
abbrev pub IsOp : Op → Type 0
IsOp (Load address) = IsAddr address
IsOp (Store address value) = IsAddr address × (value < 2 ^ 64)
IsOp (UcLoad address) = IsAddr address
IsOp (UcStore address value) = IsAddr address × (value < 2 ^ 64)
IsOp (Evict address) = IsAddr address

-- an operation of one of so many caches
pub record IsLine (caches : ℕ) (line : ℕ × Op) : Type 0 where
  pub below : line.0 < caches
  pub op : IsOp line.1

-- the configuration is in the profile, and there are at most 10,000 operations, each of one of its caches
pub record IsTrace (t : Parts) : Type 0 where
  pub profile : InProfile t.config
  pub few : length t.lines ≤ 10000
  pub each : All (λ line. IsLine t.config.caches line) t.lines
