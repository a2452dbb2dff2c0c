-- Small numbers, one after the other, and the numbers of a list.
use Rattle.std.proofs.Common.{◌≡◌, ℕ, zero, suc, ◌<◌, ◌==◌, ◌||◌, Bool, true, false, refl, sym, subst, arith, List, [], ◌∷◌}
use Rattle.std.proofs.lemmas.Bool.{eqb-true}

-- what holds of each number below eight
pub below-eight : (P : ℕ → Type 0) → P 0 → P 1 → P 2 → P 3 → P 4 → P 5 → P 6 → P 7 → (a : ℕ) → a < 8 → P a
below-eight P p0 p1 p2 p3 p4 p5 p6 p7 zero l = p0
below-eight P p0 p1 p2 p3 p4 p5 p6 p7 (suc zero) l = p1
below-eight P p0 p1 p2 p3 p4 p5 p6 p7 (suc (suc zero)) l = p2
below-eight P p0 p1 p2 p3 p4 p5 p6 p7 (suc (suc (suc zero))) l = p3
below-eight P p0 p1 p2 p3 p4 p5 p6 p7 (suc (suc (suc (suc zero)))) l = p4
below-eight P p0 p1 p2 p3 p4 p5 p6 p7 (suc (suc (suc (suc (suc zero))))) l = p5
below-eight P p0 p1 p2 p3 p4 p5 p6 p7 (suc (suc (suc (suc (suc (suc zero)))))) l = p6
below-eight P p0 p1 p2 p3 p4 p5 p6 p7 (suc (suc (suc (suc (suc (suc (suc zero))))))) l = p7
below-eight P p0 p1 p2 p3 p4 p5 p6 p7 (suc (suc (suc (suc (suc (suc (suc (suc a)))))))) l = absurd (omega (arith, l))

-- a number that stands in a list
abbrev pub is_among : ℕ → List ℕ → Bool
is_among a [] = false
is_among a (x ∷ xs) = (a == x) || is_among a xs

-- what holds of each number of a list
abbrev pub OfEach : (ℕ → Type 0) → List ℕ → Type 0
OfEach P [] = Unit {0}
OfEach P (x ∷ xs) = P x × OfEach P xs

-- holds of a number that stands in it
pub among-each : (P : ℕ → Type 0) (xs : List ℕ) → OfEach P xs → (a : ℕ) → is_among a xs ≡ true → P a
among-each P [] each a i = absurd (cc)
among-each P (x ∷ xs) each a i = go (a == x) refl (among-each P xs each.1 a) i
  where
    go : (b : Bool) → (a == x) ≡ b → (is_among a xs ≡ true → P a) → (b || is_among a xs) ≡ true → P a
    go true j later i = subst P (sym (eqb-true a x j)) each.0
    go false j later i = later i
