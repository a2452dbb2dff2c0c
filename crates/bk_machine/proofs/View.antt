-- How a way group sees each write of the system.
use Rattle.std.proofs.Common.{◌≡◌, ℕ, ◌≢◌, Bool, true, false, ◌&&◌, refl, arith, List, [], ◌∷◌, ◌++◌, sym, ◌∙◌, ap}
use Rattle.std.specs.Prelude.{Option, Some, None, if◌then◌else◌, ◌==◌}
use Rattle.std.proofs.lemmas.Bool.Decides.{nat_tests}
use mathlib.Core.Path.{fun_ext}
use Rattle.bk_base.specs.Tables.{put}
use Rattle.bk_machine.specs.Tables.{put2}
use Rattle.bk_machine.specs.World.{of_group, option_of_group}

-- lists and values of groups

pub of_group-push : {X : Type 0} (g : ℕ) (xs : List (ℕ × X)) (x : X) → of_group g (xs ++ (g, x) ∷ []) ≡ of_group g xs ++ x ∷ []
of_group-push g [] x = ap (λ (y : Bool). if y then x ∷ [] else []) (same g)
  where
    same : (g : ℕ) → (g == g) ≡ true
    same g = grind (arith, nat_tests)
of_group-push {X} g (y ∷ ys) x = step (g == y.0) (of_group-push g ys x)
  where
    step : (b : Bool) → of_group g (ys ++ (g, x) ∷ []) ≡ of_group g ys ++ x ∷ []
        → (if b then y.1 ∷ of_group g (ys ++ (g, x) ∷ []) else of_group g (ys ++ (g, x) ∷ []))
        ≡ (if b then y.1 ∷ of_group g ys else of_group g ys) ++ x ∷ []
    step true e = ap (λ (zs : List X). y.1 ∷ zs) e
    step false e = e

pub of_group-push_other : {X : Type 0} (u g : ℕ) (xs : List (ℕ × X)) (x : X) → u ≢ g
    → of_group u (xs ++ (g, x) ∷ []) ≡ of_group u xs
of_group-push_other u g [] x n = ap (λ (y : Bool). if y then x ∷ [] else []) (other u g n)
  where
    other : (u g : ℕ) → u ≢ g → (u == g) ≡ false
    other u g n = grind (arith, nat_tests)
of_group-push_other {X} u g (y ∷ ys) x n = step (u == y.0) (of_group-push_other u g ys x n)
  where
    step : (b : Bool) → of_group u (ys ++ (g, x) ∷ []) ≡ of_group u ys
        → (if b then y.1 ∷ of_group u (ys ++ (g, x) ∷ []) else of_group u (ys ++ (g, x) ∷ []))
        ≡ (if b then y.1 ∷ of_group u ys else of_group u ys)
    step true e = ap (λ (zs : List X). y.1 ∷ zs) e
    step false e = e

pub of_group-head : {X : Type 0} (g : ℕ) (xs rest : List (ℕ × X)) (x : X) → xs ≡ (g, x) ∷ rest
    → of_group g xs ≡ x ∷ of_group g rest
of_group-head {X} g xs rest x e = ap (of_group g) e ∙ ap (λ (y : Bool). if y then x ∷ of_group g rest else of_group g rest) (same g)
  where
    same : (g : ℕ) → (g == g) ≡ true
    same g = grind (arith, nat_tests)

pub of_group-rest : {X : Type 0} (u g : ℕ) (xs rest : List (ℕ × X)) (x : X) → u ≢ g → xs ≡ (g, x) ∷ rest
    → of_group u rest ≡ of_group u xs
of_group-rest {X} u g xs rest x n e =
    sym (ap (of_group u) e ∙ ap (λ (y : Bool). if y then x ∷ of_group u rest else of_group u rest) (other u g n))
  where
    other : (u g : ℕ) → u ≢ g → (u == g) ≡ false
    other u g n = grind (arith, nat_tests)

pub option_of_group-here : {X : Type 0} (g : ℕ) (x : X) → option_of_group g (Some (g, x)) ≡ Some x
option_of_group-here g x = ap (λ (y : Bool). if y then Some x else None) (same g)
  where
    same : (g : ℕ) → (g == g) ≡ true
    same g = grind (arith, nat_tests)

pub option_of_group-other : {X : Type 0} (u g : ℕ) (x : X) → u ≢ g → option_of_group u (Some (g, x)) ≡ None
option_of_group-other u g x n = ap (λ (y : Bool). if y then Some x else None) (other u g n)
  where
    other : (u g : ℕ) → u ≢ g → (u == g) ≡ false
    other u g n = grind (arith, nat_tests)

pub put-here : {X : Type 0} (f : ℕ → X) (g : ℕ) (x : X) → put f g x g ≡ x
unfolding put
put-here f s x = grind (arith, nat_tests)

pub put-other : {X : Type 0} (f : ℕ → X) (g u : ℕ) (x : X) → u ≢ g → put f g x u ≡ f u
unfolding put
put-other f s u x n = grind (arith, nat_tests)

-- channels by cache

pub chan-put : {X Y : Type 0} (h : X → Y) (f : ℕ → X) (c : ℕ) (x : X)
    → ◌≡◌ {A = ℕ → Y} (λ i. h (put f c x i)) (put (λ i. h (f i)) c (h x))
unfolding put
chan-put h f c x = fun_ext (λ i. step i (i == c))
  where
    step : (i : ℕ) (b : Bool) → h (if b then x else f i) ≡ (if b then h x else h (f i))
    step i true = refl
    step i false = refl

pub chan-put_same : {X Y : Type 0} (h : X → Y) (f : ℕ → X) (c : ℕ) (x : X) → h x ≡ h (f c)
    → ◌≡◌ {A = ℕ → Y} (λ i. h (put f c x i)) (λ i. h (f i))
unfolding put
chan-put_same {X} {Y} h f c x e = fun_ext (λ i. step i (i == c) refl)
  where
    is : (i : ℕ) → (i == c) ≡ true → c ≡ i
    is i e = grind (arith, nat_tests)

    step : (i : ℕ) (b : Bool) → (i == c) ≡ b → h (if b then x else f i) ≡ h (f i)
    step i true q = e ∙ ap (λ (j : ℕ). h (f j)) (is i q)
    step i false q = refl

pub chan2-put : {X Y : Type 0} (h : X → Y) (f : ℕ → ℕ → X) (c o : ℕ) (x : X)
    → ◌≡◌ {A = ℕ → ℕ → Y} (λ i j. h (put2 f c o x i j)) (put2 (λ i j. h (f i j)) c o (h x))
unfolding put2
chan2-put h f c o x = fun_ext (λ i. fun_ext (λ j. step i j (i == c && j == o)))
  where
    step : (i j : ℕ) (b : Bool) → h (if b then x else f i j) ≡ (if b then h x else h (f i j))
    step i j true = refl
    step i j false = refl

pub chan2-put_same : {X Y : Type 0} (h : X → Y) (f : ℕ → ℕ → X) (c o : ℕ) (x : X) → h x ≡ h (f c o)
    → ◌≡◌ {A = ℕ → ℕ → Y} (λ i j. h (put2 f c o x i j)) (λ i j. h (f i j))
unfolding put2
chan2-put_same {X} {Y} h f c o x e = fun_ext (λ i. fun_ext (λ j. step i j (i == c && j == o) refl))
  where
    is : (i j : ℕ) → i == c && (j == o) ≡ true → (c ≡ i) × (o ≡ j)
    is i j e = grind (arith, nat_tests)

    step : (i j : ℕ) (b : Bool) → i == c && (j == o) ≡ b → h (if b then x else f i j) ≡ h (f i j)
    step i j true q = e ∙ ap (λ (a : ℕ). h (f a o)) (is i j q).0 ∙ ap (λ (a : ℕ). h (f i a)) (is i j q).1
    step i j false q = refl

-- a value of the group, and none

pub option_of_group-some : {X : Type 0} (g : ℕ) (x : Option (ℕ × X)) (y : X) → x ≡ Some (g, y) → option_of_group g x ≡ Some y
option_of_group-some g x y e = ap (option_of_group g) e ∙ option_of_group-here g y

pub option_of_group-none : {X : Type 0} (g : ℕ) (x : Option (ℕ × X)) → x ≡ None → option_of_group g x ≡ None
option_of_group-none g x e = ap (option_of_group g) e
