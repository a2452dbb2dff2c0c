-- Which number comes next: the least one from a start on, below a count, that passes a test.
use Rattle.std.specs.Prelude.{◌≡◌, ◌≤◌, ◌<◌, ℕ, Bool, true, false}

-- It is this one.
pub record IsNextOf (n start : ℕ) (test : ℕ → Bool) (c : ℕ) : Type 0 where
  pub from : start ≤ c
  pub within : c < n
  pub passes : test c ≡ true
  pub least : (j : ℕ) → start ≤ j → j < c → test j ≡ false

-- None passes.
abbrev pub IsNoneFrom : ℕ → ℕ → (ℕ → Bool) → Type 0
IsNoneFrom n start test = (j : ℕ) → start ≤ j → j < n → test j ≡ false
