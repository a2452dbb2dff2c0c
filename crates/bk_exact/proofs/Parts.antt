-- Small lemmas on tests: the parts of a test, and tests that contradict each other.
use Rattle.std.proofs.Common.{◌≡◌, ℕ, ◌<◌, ◌&&◌, Bool, true, false, sym, ◌∙◌, true≢false, arith, List, [], ◌∷◌, length}
use Rattle.std.proofs.lemmas.Bool.{and_parts}
use Rattle.std.proofs.lemmas.Bool.Decides.{nat_tests}
use Rattle.std.specs.Prelude.{nat_lt}
use Rattle.bk_machine.specs.Entries.{times}

pub and3 : (a b test : Bool) → (a && b && test) ≡ true → (a ≡ true) × (b ≡ true) × (test ≡ true)
and3 a b test e = let q = and_parts _ _ e in let r = and_parts _ _ q.0 in (r.0, r.1, q.1)

pub and4 : (a b test d : Bool) → (a && b && test && d) ≡ true → (a ≡ true) × (b ≡ true) × (test ≡ true) × (d ≡ true)
and4 a b test d e = let q = and_parts _ _ e in let r = and3 a b test q.0 in (r.0, r.1, r.2, q.1)

pub and5 : (a b test d f : Bool) → (a && b && test && d && f) ≡ true → (a ≡ true) × (b ≡ true) × (test ≡ true)
    × (d ≡ true) × (f ≡ true)
and5 a b test d f e = let q = and_parts _ _ e in let r = and4 a b test d q.0 in (r.0, r.1, r.2, r.3, q.1)

pub and7 : (a b test d f also h : Bool) → (a && b && test && d && f && also && h) ≡ true
    → (a ≡ true) × (b ≡ true) × (test ≡ true) × (d ≡ true) × (f ≡ true) × (also ≡ true) × (h ≡ true)
and7 a b test d f also h e =
    let q = and_parts _ _ e in
    let p = and_parts _ _ q.0 in
    let r = and5 a b test d f p.0 in
    (r.0, r.1, r.2, r.3, r.4, p.1, q.1)

-- a test that holds and doesn't
pub clash : {A : Type 0} {b : Bool} → b ≡ true → b ≡ false → A
clash p q = absurd (true≢false (sym p ∙ q))

-- a list in which a number stands isn't empty
pub some-times : (c : ℕ) (xs : List ℕ) → times c xs ≡ 1 → 0 < length xs
some-times c [] e = absurd (omega (arith, e))
some-times c (x ∷ xs) e = omega arith

-- a number of things is above 0
pub is-above : (number n : ℕ) → number ≡ n → 0 < n → nat_lt 0 number ≡ true
is-above number n e l = grind (arith, nat_tests)
