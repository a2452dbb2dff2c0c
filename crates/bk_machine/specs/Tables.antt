-- A value for each pair of numbers, and the same with one of them set.
use Rattle.std.specs.Prelude.{ℕ, ◌&&◌, if◌then◌else◌, ◌==◌}

unfoldable pub put2 : {X : Type 0} → (ℕ → ℕ → X) → ℕ → ℕ → X → ℕ → ℕ → X
put2 f c w v i j = if i == c && j == w then v else f i j
