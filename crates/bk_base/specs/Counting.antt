-- The numbers below a count.
use Rattle.std.specs.Prelude.{ℕ, zero, suc, Bool, true, false, ◌&&◌, Option, Some, None, List, [], ◌∷◌, ◌++◌, if◌then◌else◌}

-- whether a test passes at each number below n
abbrev pub all_below : ℕ → (ℕ → Bool) → Bool
all_below zero test = true
all_below (suc n) test = all_below n test && test n

abbrev pub or_else : {X : Type 0} → Option X → Option X → Option X
or_else (Some x) later = Some x
or_else None later = later

-- the first answer among f 0, f 1 and so on below n
abbrev pub first_below : {X : Type 0} → ℕ → (ℕ → Option X) → Option X
first_below zero f = None
first_below (suc n) f = or_else (first_below n f) (f n)

-- f 0, f 1 and so on below n, one after the other
abbrev pub join_below : {X : Type 0} → ℕ → (ℕ → List X) → List X
join_below zero f = []
join_below (suc n) f = join_below n f ++ f n

-- whether a list has nothing
abbrev pub is_nil : {X : Type 0} → List X → Bool
is_nil [] = true
is_nil (x ∷ xs) = false

-- the least number below n that passes a test
abbrev pub least_below : ℕ → (ℕ → Bool) → Option ℕ
least_below n test = first_below n (λ i. if test i then Some i else None)
