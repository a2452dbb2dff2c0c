-- Lists of ways: how often each stands in one, at which place, and after a way came to its front.
use Rattle.std.proofs.Common.{◌≡◌, ℕ, zero, suc, ◌+◌, ◌<◌, ◌≤◌, ◌≢◌, not, ◌==◌, List, [], ◌∷◌, ◌++◌, length, filter, refl, arith}
use Rattle.std.specs.List.{position_or_len}
use Rattle.std.proofs.lemmas.Bool.Decides.{nat_tests}
use Rattle.bk_base.specs.Counting.{join_below}
use Rattle.bk_lce.specs.CacheState.{ways_in_order, to_front}
use Rattle.bk_lce.specs.Lists.{times}

-- what stands in either part stands in the whole
pub times-append : (w : ℕ) (xs ys : List ℕ) → times w (xs ++ ys) ≡ times w xs + times w ys
unfolding times
times-append w [] ys = omega arith
times-append w (x ∷ xs) ys = let later = times-append w xs ys in grind (arith, nat_tests, later)

-- a way that isn't in a list isn't taken out of it
pub without_absent : (w : ℕ) (xs : List ℕ) → times w xs ≡ 0 → filter (λ v. not (v == w)) xs ≡ xs
unfolding times
without_absent w [] h = refl
without_absent w (x ∷ xs) h = let later = without_absent w xs in grind (arith, nat_tests, later)

-- taken out, a way is gone, and each other stands there as often
pub times-without : (w v : ℕ) (xs : List ℕ) → v ≢ w → times v (filter (λ u. not (u == w)) xs) ≡ times v xs
unfolding times
times-without w v [] d = refl
times-without w v (x ∷ xs) d = let later = times-without w v xs d in grind (arith, nat_tests, later)

pub times-gone : (w : ℕ) (xs : List ℕ) → times w (filter (λ u. not (u == w)) xs) ≡ 0
unfolding times
times-gone w [] = refl
times-gone w (x ∷ xs) = let later = times-gone w xs in grind (arith, nat_tests, later)

-- each way stands in the list as often once one of them, which stood in it once, is at its front
pub times-to_front : (w v : ℕ) (xs : List ℕ) → times w xs ≡ 1 → times v (to_front w xs) ≡ times v xs
unfolding times
times-to_front w v xs h = grind (arith, nat_tests, times-without w v xs, times-gone w xs)

-- the place of a way is behind those before it
pub age-after : (w : ℕ) (xs ys : List ℕ) → times w xs ≡ 0 → position_or_len (λ v. v == w) (xs ++ w ∷ ys) ≡ length xs
unfolding times
age-after w [] ys h = grind (arith, nat_tests)
age-after w (x ∷ xs) ys h = let later = age-after w xs ys in grind (arith, nat_tests, later)

-- in the list of all ways in order each stands once
times-past : (n w : ℕ) → n ≤ w → times w (ways_in_order n) ≡ 0
unfolding times
times-past zero w l = refl
times-past (suc n) w l =
    let later = times-past n w in
    let parts = times-append w (join_below n (λ v. v ∷ [])) (n ∷ []) in
    grind (arith, nat_tests, later, parts)

pub times-in_order : (n w : ℕ) → w < n → times w (ways_in_order n) ≡ 1
unfolding times
times-in_order zero w l = absurd (omega arith)
times-in_order (suc n) w l =
    let later = times-in_order n w in
    let past = times-past n w in
    let parts = times-append w (join_below n (λ v. v ∷ [])) (n ∷ []) in
    grind (arith, nat_tests, later, past, parts)
