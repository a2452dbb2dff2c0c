-- Tests and answers for the numbers below a count, one number after the other.
use Rattle.std.proofs.Common.{◌≡◌, ℕ, zero, suc, ◌+◌, ◌<◌, Bool, true, false, Option, Some, None, refl, subst, inl, inr, sym, ◌⊎◌, arith, add-one, if◌then◌else◌}
use Rattle.std.proofs.lemmas.Bool.{cases_eq, and_left, and_right}
use Rattle.bk_base.specs.Counting.{all_below, first_below, least_below, or_else}

-- a test that fails at one number
pub all_below-fails : (n i : ℕ) (test : ℕ → Bool) → i < n → test i ≡ false → all_below n test ≡ false
all_below-fails zero i test l e = absurd (omega arith)
all_below-fails (suc n) i test l e =
    elim (cases_eq i n) [
      | inl same ↦ and_right (all_below n test) (test n) (subst (λ k. test k ≡ false) same e)
      | inr differ ↦ and_left (all_below n test) (test n) (all_below-fails n i test (omega arith) e)
    ]

-- one number more
pub all_below-more : (n : ℕ) (test : ℕ → Bool) → all_below n test ≡ true → test n ≡ true → all_below (n + 1) test ≡ true
all_below-more n test h e = rw (add-one, h, e) refl

-- a test that always passes
pub all_below-always : (n : ℕ) → all_below n (λ i. true) ≡ true
all_below-always zero = refl
all_below-always (suc n) = rw (all_below-always n) refl

-- one number more that has no answer
pub first_below-more : {X : Type 0} (n : ℕ) (f : ℕ → Option X) → first_below n f ≡ None → f n ≡ None
    → first_below (n + 1) f ≡ None
first_below-more n f h e = rw (add-one, h, e) refl

-- the first answer stays the first
pub first_below-found : {X : Type 0} (n i : ℕ) (f : ℕ → Option X) (x : X) → i < n → first_below i f ≡ None → f i ≡ Some x
    → first_below n f ≡ Some x
first_below-found zero i f x l h e = absurd (omega arith)
first_below-found (suc n) i f x l h e =
    elim (cases_eq i n) [
      | inl same ↦ rw (subst (λ k. first_below k f ≡ None) same h, subst (λ k. f k ≡ Some x) same e) refl
      | inr differ ↦ rw (first_below-found n i f x (omega arith) h e) refl
    ]

-- nothing is ever answered
pub first_below-never : {X : Type 0} (n : ℕ) (f : ℕ → Option X) → ((i : ℕ) → f i ≡ None) → first_below n f ≡ None
first_below-never zero f h = refl
first_below-never (suc n) f h = rw (first_below-never n f h, h n) refl

-- nor in a square of numbers
pub all_below-squares : (n number : ℕ) → all_below n (λ i. all_below number (λ j. true)) ≡ true
all_below-squares zero number = refl
all_below-squares (suc n) number = rw (all_below-squares n number, all_below-always number) refl

or_else-none : {X : Type 0} (a b : Option X) → or_else a b ≡ None → (a ≡ None) × (b ≡ None)
or_else-none None b h = (refl, h)
or_else-none (Some x) b h = absurd (cc)

or_else-some : {X : Type 0} (a b : Option X) (x : X) → or_else a b ≡ Some x → (a ≡ Some x) ⊎ ((a ≡ None) × (b ≡ Some x))
or_else-some None b x h = inr (refl, h)
or_else-some (Some y) b x h = inl h

-- where there is no answer, no number has one
pub first_below-none : {X : Type 0} (n : ℕ) (f : ℕ → Option X) → first_below n f ≡ None → (i : ℕ) → i < n → f i ≡ None
first_below-none zero f h i l = absurd (omega arith)
first_below-none (suc n) f h i l =
    let parts = or_else-none (first_below n f) (f n) h in
    elim (cases_eq i n) [
      | inl same ↦ subst (λ k. f k ≡ None) (sym same) parts.1
      | inr differ ↦ first_below-none n f parts.0 i (omega arith)
    ]

-- an answer is that of a number, and no less number has one
pub first_below-some : {X : Type 0} (n : ℕ) (f : ℕ → Option X) (x : X) → first_below n f ≡ Some x
    → (i : ℕ) × (i < n) × (f i ≡ Some x) × ((j : ℕ) → j < i → f j ≡ None)
first_below-some zero f x h = absurd (cc)
first_below-some (suc n) f x h =
    elim (or_else-some (first_below n f) (f n) x h) [
      | inl e ↦ let found = first_below-some n f x e in (found.0, omega arith, found.2, found.3)
      | inr e ↦ (n, omega arith, e.1, first_below-none n f e.0)
    ]

-- one number more that doesn't pass
pub least_below-more : (n : ℕ) (test : ℕ → Bool) → least_below n test ≡ None → test n ≡ false
    → least_below (n + 1) test ≡ None
least_below-more n test h e = rw (add-one, h, e) refl

-- the first number that passes is the least
pub least_below-found : (n i : ℕ) (test : ℕ → Bool) → i < n → least_below i test ≡ None → test i ≡ true
    → least_below n test ≡ Some i
least_below-found n i test l h e = first_below-found n i (λ k. if test k then Some k else None) i l h (rw e refl)

chosen-none : (b : Bool) (i : ℕ) → (if b then Some i else None) ≡ None → b ≡ false
chosen-none true i h = absurd (cc)
chosen-none false i h = refl

chosen-some : (b : Bool) (i number : ℕ) → (if b then Some i else None) ≡ Some number → (b ≡ true) × (i ≡ number)
chosen-some true i number h = (refl, cc)
chosen-some false i number h = absurd (cc)

-- where there is no least number, none passes
pub least_below-none : (n : ℕ) (test : ℕ → Bool) → least_below n test ≡ None → (i : ℕ) → i < n → test i ≡ false
least_below-none n test h i l = chosen-none (test i) i (first_below-none n (λ k. if test k then Some k else None) h i l)

-- the least number is below the count, it passes, and no less number does
pub least_below-some : (n : ℕ) (test : ℕ → Bool) (i : ℕ) → least_below n test ≡ Some i
    → (i < n) × (test i ≡ true) × ((j : ℕ) → j < i → test j ≡ false)
least_below-some n test i h =
    let found = first_below-some n (λ k. if test k then Some k else None) i h in
    let chosen = chosen-some (test found.0) found.0 i found.2 in
    subst (λ k. (k < n) × (test k ≡ true) × ((j : ℕ) → j < k → test j ≡ false)) chosen.1
    (found.1, chosen.0, λ j l. chosen-none (test j) j (found.3 j l))
