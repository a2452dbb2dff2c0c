-- The first bytes of two texts, one behind the other.
use Rattle.std.proofs.Common.{◌≡◌, ℕ, suc, ◌+◌, ◌<◌, List, [], ◌∷◌, ◌++◌, length, take, refl, ap, sym, ◌∙◌, append_assoc, arith, length-append}

take_both : (number n : ℕ) (first second : List ℕ) → number ≡ length first + n
    → take number (first ++ second) ≡ first ++ take n second
take_both number n [] second e =
    let same : number ≡ n = omega (arith, e) in
    ap (λ (i : ℕ). take i second) same
take_both number n (b ∷ first) second e =
    let next : number ≡ suc (length first + n) = omega (arith, e) in
    ap (λ (i : ℕ). take i (b ∷ (first ++ second))) next
    ∙ ap (λ (bytes : List ℕ). b ∷ bytes) (take_both (length first + n) n first second refl)

-- after all of the first and a part of the second, that is a part of both
pub part_of_both : (first second before middle after : List ℕ) (n : ℕ) → middle ≡ before ++ first
    → n < length second → after ≡ middle ++ take n second
    → (length first + n < length (first ++ second)) × (after ≡ before ++ take (length first + n) (first ++ second))
part_of_both first second before middle after n whole part more = (
  omega (arith, length-append first second, part),
  more ∙ ap (λ (bytes : List ℕ). bytes ++ take n second) whole ∙ append_assoc before first (take n second)
      ∙ ap (λ (bytes : List ℕ). before ++ bytes) (sym (take_both (length first + n) n first second refl)),
)
