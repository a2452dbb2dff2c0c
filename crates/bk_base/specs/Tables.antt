-- A value for each number, and the same with one of them set.
use Rattle.std.specs.Prelude.{ℕ, cond, eqb}

unfoldable pub put : {X : Type 0} → (ℕ → X) → ℕ → X → ℕ → X
put f number v j = cond (eqb j number) v (f j)
