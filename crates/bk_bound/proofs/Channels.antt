-- How many messages are in all channels of a kind, where one comes or goes.
use Rattle.std.proofs.Common.{◌≡◌, ◌≢◌, ℕ, suc, eqb, ◌+◌, ◌<◌, ◌≤◌, Bool, true, false, cond, refl, ap, ◌∙◌, arith, List, [], ◌∷◌, ◌++◌, length}
use Rattle.std.specs.Prelude.{◌&&◌}
use Rattle.std.proofs.lemmas.Bool.Decides.{nat_tests}
use Rattle.std.proofs.lemmas.List.{length-append}
use Rattle.bk_base.specs.Tables.{put}
use Rattle.bk_machine.specs.Entries.{times}
use Rattle.bk_machine.specs.Messages.{ToCache, Inv}
use Rattle.bk_machine.specs.Tables.{put2}
use Rattle.bk_machine.proofs.View.{put-here, put-other}
use Rattle.bk_bound.proofs.Sums.{sum_below, sum-same, sum-none, sum-plus, sum-one, sum-more}

-- in the channels of n caches, and in those between each two of them
abbrev pub all_in : {X : Type 0} → ℕ → (ℕ → List X) → ℕ
all_in n channel = sum_below n (λ c. length (channel c))

abbrev pub all_between : {X : Type 0} → ℕ → (ℕ → ℕ → List X) → ℕ
all_between n channel = sum_below n (λ to. all_in n (channel to))

one-longer : {X : Type 0} (xs ys : List X) (y : X) → ys ≡ xs ++ y ∷ [] → length ys ≤ length xs + 1
one-longer {X} xs ys y e = num (length ys) (length xs) (ap (λ (zs : List X). length zs) e ∙ length-append xs (y ∷ []))
  where
    num : (a b : ℕ) → a ≡ b + 1 → a ≤ b + 1
    num a b e = omega (arith, e)

-- the numbers of two functions that differ at one place, where the sum and one value are known
less-at : (a b i j n : ℕ) → a + i ≡ b + j → i ≡ suc n → j ≡ n → a + 1 ≡ b
less-at a b i j n e p q = omega (arith, e, p, q)

-- ONE CHANNEL A CACHE

-- a message comes at the end of one
pub one-more : {X : Type 0} (n : ℕ) (channel : ℕ → List X) (c : ℕ) (y : X)
    → all_in n (put channel c (channel c ++ y ∷ [])) ≤ all_in n channel + 1
one-more {X} n channel c y =
    sum-more n c 1 (λ i. length (channel i)) (λ i. length (put channel c (channel c ++ y ∷ []) i))
    (λ i e. ap (λ (xs : List X). length xs) (put-other channel c i _ e)) (one-longer (channel c) _ y (put-here channel c _))

-- the first of one goes
pub one-less : {X : Type 0} (n : ℕ) (channel : ℕ → List X) (c : ℕ) (y : X) (rest : List X) → channel c ≡ y ∷ rest → c < n
    → all_in n (put channel c rest) + 1 ≡ all_in n channel
one-less {X} n channel c y rest e l =
    less-at _ _ (length (channel c)) (length (put channel c rest c)) (length rest)
    (sum-one n c (λ i. length (channel i)) (λ i. length (put channel c rest i))
    (λ i b. ap (λ (xs : List X). length xs) (put-other channel c i rest b)) l)
    (ap (λ (xs : List X). length xs) e) (ap (λ (xs : List X). length xs) (put-here channel c rest))

-- CHANNELS BETWEEN CACHES

put2-row : {X : Type 0} (f : ℕ → ℕ → X) (c o : ℕ) (y : X) (i j : ℕ) → i ≢ c → put2 f c o y i j ≡ f i j
unfolding put2
put2-row f c o y i j e = go (eqb i c) refl
  where
    no : eqb i c ≡ true → ⊥
    no q = e (grind (arith, nat_tests))

    go : (b : Bool) → eqb i c ≡ b → cond (b && eqb j o) y (f i j) ≡ f i j
    go true q = absurd (no q)
    go false q = refl

put2-column : {X : Type 0} (f : ℕ → ℕ → X) (c o : ℕ) (y : X) (i j : ℕ) → j ≢ o → put2 f c o y i j ≡ f i j
unfolding put2
put2-column f c o y i j e = go (eqb i c) (eqb j o) refl
  where
    no : eqb j o ≡ true → ⊥
    no q = e (grind (arith, nat_tests))

    go : (a b : Bool) → eqb j o ≡ b → cond (a && b) y (f i j) ≡ f i j
    go a true q = absurd (no q)
    go true false q = refl
    go false false q = refl

put2-here : {X : Type 0} (f : ℕ → ℕ → X) (c o : ℕ) (y : X) → put2 f c o y c o ≡ y
unfolding put2
put2-here f c o y = go (eqb c c) (eqb o o) (same c) (same o)
  where
    same : (a : ℕ) → eqb a a ≡ true
    same a = grind (arith, nat_tests)

    go : (a b : Bool) → a ≡ true → b ≡ true → cond (a && b) y (f c o) ≡ y
    go true true p q = refl
    go true false p q = absurd (cc)
    go false b p q = absurd (cc)

pub fill-more : {X : Type 0} (n : ℕ) (f : ℕ → ℕ → List X) (c o : ℕ) (y : X)
    → all_between n (put2 f c o (f c o ++ y ∷ [])) ≤ all_between n f + 1
fill-more {X} n f c o y =
    sum-more n c 1 (λ i. all_in n (f i)) (λ i. all_in n (put2 f c o (f c o ++ y ∷ []) i))
    (λ i e. sum-same n (λ j. length (put2 f c o (f c o ++ y ∷ []) i j)) (λ j. length (f i j))
    (λ j. ap (λ (xs : List X). length xs) (put2-row f c o _ i j e)))
    (sum-more n o 1 (λ j. length (f c j)) (λ j. length (put2 f c o (f c o ++ y ∷ []) c j))
    (λ j e. ap (λ (xs : List X). length xs) (put2-column f c o _ c j e)) (one-longer (f c o) _ y (put2-here f c o _)))

pub fill-less : {X : Type 0} (n : ℕ) (f : ℕ → ℕ → List X) (c o : ℕ) (y : X) (rest : List X) → f c o ≡ y ∷ rest
    → c < n → o < n → all_between n (put2 f c o rest) + 1 ≡ all_between n f
fill-less {X} n f c o y rest e l other =
    num _ _ (all_in n (f c)) (all_in n (put2 f c o rest c))
    (sum-one n c (λ i. all_in n (f i)) (λ i. all_in n (put2 f c o rest i))
    (λ i b. sum-same n (λ j. length (put2 f c o rest i j)) (λ j. length (f i j))
    (λ j. ap (λ (xs : List X). length xs) (put2-row f c o rest i j b))) l)
    (less-at (all_in n (put2 f c o rest c)) (all_in n (f c)) (length (f c o)) (length (put2 f c o rest c o)) (length rest)
    (sum-one n o (λ j. length (f c j)) (λ j. length (put2 f c o rest c j))
    (λ j b. ap (λ (xs : List X). length xs) (put2-column f c o rest c j b)) other)
    (ap (λ (xs : List X). length xs) e) (ap (λ (xs : List X). length xs) (put2-here f c o rest)))
  where
    num : (a b i j : ℕ) → a + i ≡ b + j → j + 1 ≡ i → a + 1 ≡ b
    num a b i j e p = omega (arith, e, p)

-- INVALIDATIONS: one to each cache of a list

invs-all : (n : ℕ) (to : List ℕ) → sum_below n (λ c. times c to) ≤ length to
invs-all n [] = num (sum_below n (λ c. 0)) (sum-none n)
  where
    num : (a : ℕ) → a ≡ 0 → a ≤ 0
    num a e = omega (arith, e)
invs-all n (c ∷ to) =
    num (sum_below n (λ i. cond (eqb i c) 1 0 + times i to)) (sum_below n (λ i. times i to)) (length to) step (invs-all n to)
  where
    other : (i j : ℕ) → i ≢ c → cond (eqb i c) 1 0 + j ≡ j
    other i j e = grind (arith, nat_tests)

    here : (j : ℕ) → cond (eqb c c) 1 0 + j ≤ j + 1
    here j = grind (arith, nat_tests)

    step : sum_below n (λ i. cond (eqb i c) 1 0 + times i to) ≤ sum_below n (λ i. times i to) + 1
    step =
        sum-more n c 1 (λ i. times i to) (λ i. cond (eqb i c) 1 0 + times i to) (λ i e. other i (times i to) e) (here (times c to))

    num : (a b n : ℕ) → a ≤ b + 1 → b ≤ n → a ≤ suc n
    num a b n l q = omega (arith, l, q)

pub invs-more : (n g t : ℕ) (channel : ℕ → List (ℕ × ToCache)) (to : List ℕ)
    → all_in n (λ c. cond (eqb (times c to) 1) (channel c ++ (g, Inv t) ∷ []) (channel c)) ≤ all_in n channel + length to
invs-more n g t channel to =
    both _ (all_in n channel) (sum_below n (λ c. times c to)) (length to)
    (sum-plus n (λ c. length (channel c)) (λ c. times c to)
    (λ c. length (cond (eqb (times c to) 1) (channel c ++ (g, Inv t) ∷ []) (channel c))) (λ c. one (times c to) (channel c)))
    (invs-all n to)
  where
    one : (i : ℕ) (xs : List (ℕ × ToCache)) → length (cond (eqb i 1) (xs ++ (g, Inv t) ∷ []) xs) ≤ length xs + i
    one i xs = go (eqb i 1) refl
      where
        longer : length (xs ++ (g, Inv t) ∷ []) ≡ length xs + 1
        longer = length-append xs ((g, Inv t) ∷ [])

        same : eqb i 1 ≡ true → i ≡ 1
        same e = grind (arith, nat_tests)

        go : (b : Bool) → eqb i 1 ≡ b → length (cond b (xs ++ (g, Inv t) ∷ []) xs) ≤ length xs + i
        go true e = num (length (xs ++ (g, Inv t) ∷ [])) (length xs) longer (same e)
          where
            num : (a b : ℕ) → a ≡ b + 1 → i ≡ 1 → a ≤ b + i
            num a b p q = omega (arith, p, q)
        go false e = num (length xs)
          where
            num : (b : ℕ) → b ≤ b + i
            num b = omega arith

    both : (a b c d : ℕ) → a ≤ b + c → c ≤ d → a ≤ b + d
    both a b c d p q = omega (arith, p, q)
