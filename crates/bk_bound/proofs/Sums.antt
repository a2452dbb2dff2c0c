-- Sums of a function's values below a number, with one of them changed.
use Rattle.std.proofs.Common.{◌≡◌, ◌≢◌, ℕ, zero, suc, ◌+◌, ◌<◌, ◌≤◌, Bool, true, false, eqb, refl, ap, arith}
use Rattle.std.proofs.lemmas.Bool.Decides.{nat_tests}

-- f 0, f 1 and so on below n, summed up
abbrev pub sum_below : ℕ → (ℕ → ℕ) → ℕ
sum_below zero f = 0
sum_below (suc n) f = sum_below n f + f n

pub sum-none : (n : ℕ) → sum_below n (λ i. 0) ≡ 0
sum-none zero = refl
sum-none (suc n) = ap (λ (i : ℕ). i + 0) (sum-none n)

pub sum-same : (n : ℕ) (f g : ℕ → ℕ) → ((i : ℕ) → f i ≡ g i) → sum_below n f ≡ sum_below n g
sum-same zero f g e = refl
sum-same (suc n) f g e = num (sum_below n f) (sum_below n g) (f n) (g n) (sum-same n f g e) (e n)
  where
    num : (a b c d : ℕ) → a ≡ b → c ≡ d → a + c ≡ b + d
    num a b c d p q = omega (arith, p, q)

pub sum-up : (n : ℕ) (f g : ℕ → ℕ) → ((i : ℕ) → i < n → f i ≤ g i) → sum_below n f ≤ sum_below n g
sum-up zero f g l = omega arith
sum-up (suc n) f g l = num (sum_below n f) (sum_below n g) (f n) (g n) (sum-up n f g (λ i b. l i (more i b))) (l n (last n))
  where
    more : (i : ℕ) → i < n → i < suc n
    more i b = omega (arith, b)

    last : (i : ℕ) → i < suc i
    last i = omega arith

    num : (a b c d : ℕ) → a ≤ b → c ≤ d → a + c ≤ b + d
    num a b c d p q = omega (arith, p, q)

pub sum-plus : (n : ℕ) (f g h : ℕ → ℕ) → ((i : ℕ) → h i ≤ f i + g i) → sum_below n h ≤ sum_below n f + sum_below n g
sum-plus zero f g h l = omega arith
sum-plus (suc n) f g h l = num (sum_below n h) (sum_below n f) (sum_below n g) (h n) (f n) (g n) (sum-plus n f g h l) (l n)
  where
    num : (a b c i j o : ℕ) → a ≤ b + c → i ≤ j + o → a + i ≤ b + j + (c + o)
    num a b c i j o p q = omega (arith, p, q)

-- ONE VALUE CHANGED: g is f but at c

-- nothing changes below n where c isn't below it
same-above : (n c : ℕ) (f g : ℕ → ℕ) → ((i : ℕ) → i ≢ c → g i ≡ f i) → n ≤ c → sum_below n g ≡ sum_below n f
same-above zero c f g e l = refl
same-above (suc n) c f g e l =
    num (sum_below n g) (sum_below n f) (g n) (f n) (same-above n c f g e (omega (arith, l))) (e n (λ q. omega (arith, l, q)))
  where
    num : (a b c d : ℕ) → a ≡ b → c ≡ d → a + c ≡ b + d
    num a b c d p q = omega (arith, p, q)

-- where c is below n the sums differ as the values there
pub sum-one : (n c : ℕ) (f g : ℕ → ℕ) → ((i : ℕ) → i ≢ c → g i ≡ f i) → c < n
    → sum_below n g + f c ≡ sum_below n f + g c
sum-one zero c f g e l = absurd (omega (arith, l))
sum-one (suc n) c f g e l = go (λ b. sum-one n c f g e b) (eqb c n) refl
  where
    same : eqb c n ≡ true → n ≡ c
    same i = grind (arith, nat_tests)

    other : eqb c n ≡ false → n ≢ c
    other i q = grind (arith, nat_tests)

    here : n ≡ c → sum_below n g + g n + f c ≡ sum_below n f + f n + g c
    here i =
        num (sum_below n g) (sum_below n f) (g n) (f n) (g c) (f c) (same-above n c f g e (omega (arith, i))) (ap g i) (ap f i)
      where
        num : (a b u v h o : ℕ) → a ≡ b → u ≡ h → v ≡ o → a + u + o ≡ b + v + h
        num a b u v h o p q r = omega (arith, p, q, r)

    below : (c < n → sum_below n g + f c ≡ sum_below n f + g c) → n ≢ c → sum_below n g + g n + f c ≡ sum_below n f + f n + g c
    below r i = num (sum_below n g) (sum_below n f) (g n) (f n) (g c) (f c) (r (less i l)) (e n i)
      where
        num : (a b u v h o : ℕ) → a + o ≡ b + h → u ≡ v → a + u + o ≡ b + v + h
        num a b u v h o p q = omega (arith, p, q)

        less : n ≢ c → c < suc n → c < n
        less i l = grind (arith, nat_tests)

    go : (c < n → sum_below n g + f c ≡ sum_below n f + g c) → (b : Bool) → eqb c n ≡ b
        → sum_below n g + g n + f c ≡ sum_below n f + f n + g c
    go r true i = here (same i)
    go r false i = below r (other i)

-- wherever c is: no more than by the value there
pub sum-more : (n c d : ℕ) (f g : ℕ → ℕ) → ((i : ℕ) → i ≢ c → g i ≡ f i) → g c ≤ f c + d
    → sum_below n g ≤ sum_below n f + d
sum-more zero c d f g e l = omega arith
sum-more (suc n) c d f g e l = go (sum-more n c d f g e l) (eqb n c) refl
  where
    same : eqb n c ≡ true → n ≡ c
    same i = grind (arith, nat_tests)

    other : eqb n c ≡ false → n ≢ c
    other i q = grind (arith, nat_tests)

    go : sum_below n g ≤ sum_below n f + d → (b : Bool) → eqb n c ≡ b → sum_below n g + g n ≤ sum_below n f + f n + d
    go r true i =
        num (sum_below n g) (sum_below n f) (g n) (f n) (g c) (f c) (same-above n c f g e (omega (arith, same i))) (ap g (same i))
        (ap f (same i)) l
      where
        num : (a b u v h o : ℕ) → a ≡ b → u ≡ h → v ≡ o → h ≤ o + d → a + u ≤ b + v + d
        num a b u v h o p q r l = omega (arith, p, q, r, l)
    go r false i = num (sum_below n g) (sum_below n f) (g n) (f n) r (e n (other i))
      where
        num : (a b u v : ℕ) → a ≤ b + d → u ≡ v → a + u ≤ b + v + d
        num a b u v p q = omega (arith, p, q)

-- one of the values is no more than the sum
pub sum-has : (n c : ℕ) (f : ℕ → ℕ) → c < n → f c ≤ sum_below n f
sum-has zero c f l = absurd (omega (arith, l))
sum-has (suc n) c f l = go (λ b. sum-has n c f b) (eqb n c) refl
  where
    same : eqb n c ≡ true → n ≡ c
    same i = grind (arith, nat_tests)

    less : eqb n c ≡ false → c < suc n → c < n
    less i l = grind (arith, nat_tests)

    go : (c < n → f c ≤ sum_below n f) → (b : Bool) → eqb n c ≡ b → f c ≤ sum_below n f + f n
    go r true i = num (sum_below n f) (f n) (f c) (ap f (same i))
      where
        num : (a u v : ℕ) → u ≡ v → v ≤ a + u
        num a u v e = omega (arith, e)
    go r false i = num (sum_below n f) (f n) (f c) (r (less i l))
      where
        num : (a u v : ℕ) → v ≤ a → v ≤ a + u
        num a u v e = omega (arith, e)
