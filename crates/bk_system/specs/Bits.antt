-- The bits of a word of 64, and the marks of such words.
use Rattle.std.specs.Prelude.{◌≡◌, ℕ, ◌/◌, ◌%◌, ◌≤◌, ◌<◌, List, slice_index}
use Rattle.std.specs.Int.{bit_at}

-- c is the least place from a start on whose bit is set
pub record IsFirstBit (word start c : ℕ) : Type 0 where
  pub low : start ≤ c
  pub within : c < 64
  pub is_set : bit_at word c ≡ 1
  pub before : (d : ℕ) → start ≤ d → d < c → bit_at word d ≡ 0

-- the mark of a place in words of marks, 1 where it is set and else 0
abbrev pub mark_at : List ℕ → ℕ → ℕ
mark_at marks place = bit_at (slice_index marks (place / 64)) (place % 64)
