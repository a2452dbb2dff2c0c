-- Writes of one value in a table, seen through a function of the values, and by group where the system's table is by cache.
use Rattle.std.proofs.Common.{◌≡◌, ℕ, Bool, true, false, cond, eqb, refl, sym, ap, ◌∙◌, eqb-true, arith}
use Rattle.std.proofs.lemmas.Bool.Decides.{nat_tests}
use mathlib.Core.Path.{fun_ext}
use Rattle.bk_base.specs.Tables.{put}
use Rattle.bk_machine.specs.Tables.{put2}

-- a function of a choice is the choice of the function's values
of-cond : {X Y : Type 0} (f : X → Y) (b : Bool) (x y : X) → f (cond b x y) ≡ cond b (f x) (f y)
of-cond f true x y = refl
of-cond f false x y = refl

put-same_at : {X Y : Type 0} (f : X → Y) (m : ℕ → X) (c : ℕ) (n : X) → f n ≡ f (m c) → (i : ℕ) (b : Bool) → eqb i c ≡ b
    → f (cond b n (m i)) ≡ f (m i)
put-same_at f m c n e i true t = e ∙ ap (λ (j : ℕ). f (m j)) (sym (eqb-true i c t))
put-same_at f m c n e i false t = refl

-- what a write doesn't change of its value, it changes nowhere
pub put-same : {X Y : Type 0} (f : X → Y) (m : ℕ → X) (c : ℕ) (n : X) → f n ≡ f (m c)
    → ◌≡◌ {A = ℕ → Y} (λ i. f (put m c n i)) (λ i. f (m i))
unfolding put
put-same f m c n e = fun_ext (λ i. put-same_at f m c n e i (eqb i c) refl)

-- what a write gives of its value, it gives there
pub put-of : {X Y : Type 0} (f : X → Y) (m : ℕ → X) (c : ℕ) (n : X) (y : Y) → f n ≡ y
    → ◌≡◌ {A = ℕ → Y} (λ i. f (put m c n i)) (put (λ i. f (m i)) c y)
unfolding put
put-of {Y = Y} f m c n y e = fun_ext (λ i. of-cond f (eqb i c) n (m i) ∙ ap (λ (z : Y). cond (eqb i c) z (f (m i))) e)

-- A write at c of a table by group and cache, from one by cache and group: all other entries of c stay.
pub put-turned : {X : Type 0} (m : ℕ → ℕ → ℕ → X) (c group v : ℕ) (n : ℕ → ℕ → X) (y : X)
    → ((g w : ℕ) → n g w ≡ put (m c) group (put (m c group) v y) g w)
    → ◌≡◌ {A = ℕ → ℕ → ℕ
    → X} (λ g i w. put m c n i g w) (put (λ g i w. m i g w) group (put2 (λ i w. m i group w) c v y))
unfolding put put2
put-turned m c s v n y e = fun_ext (λ g. fun_ext (λ i. fun_ext (λ w. at g i w)))
  where
    at : (g i w : ℕ) → put m c n i g w ≡ put (λ g i w. m i g w) s (put2 (λ i w. m i s w) c v y) g i w
    at g i w = grind (arith, nat_tests, e g w)

-- a write of a table of tables, through a function of the values
pub put-put2 : {X Y : Type 0} (f : X → Y) (m : ℕ → ℕ → X) (a b : ℕ) (v : X) (y : Y) → f v ≡ y
    → ◌≡◌ {A = ℕ → ℕ → Y} (λ i j. f (put m a (put (m a) b v) i j)) (put2 (λ i j. f (m i j)) a b y)
unfolding put put2
put-put2 f m a b v y e = fun_ext (λ i. fun_ext (λ j. at i j))
  where
    at : (i j : ℕ) → f (put m a (put (m a) b v) i j) ≡ put2 (λ i j. f (m i j)) a b y i j
    at i j = grind (arith, nat_tests, e)
