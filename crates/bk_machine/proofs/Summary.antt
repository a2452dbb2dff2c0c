-- What the least finds in the directory say of all its entries.
use Rattle.std.proofs.Common.{◌≡◌, ℕ, zero, suc, ◌+◌, ◌<◌, ◌≤◌, ◌≢◌, Bool, true, false, not, ◌&&◌, refl, arith, ◌∷◌, sym, ◌∙◌, subst, is_some}
use Rattle.std.specs.Prelude.{Option, Some, None, if◌then◌else◌, ◌==◌, nat_lt}
use Rattle.std.proofs.lemmas.Bool.Decides.{nat_tests}
use Rattle.std.proofs.Common.{}
use Rattle.bk_machine.specs.Entries.{Entry, Holds, holds, times, is_light}
use Rattle.bk_machine.specs.Copies.{OneWay}
use Rattle.bk_base.specs.Counting.{least_below, or_else}
use Rattle.bk_machine.specs.Directory.{found_way, passing_below, is_shared, owner_way, owner, shares, others}
use Rattle.bk_base.specs.States.{is_owner_like, is_readable}

pub least-some : (n : ℕ) (p : ℕ → Bool) (w : ℕ) → least_below n p ≡ Some w → (w < n) × (p w ≡ true)
least-some zero p w e = absurd (cc e)
least-some (suc n) p w e = step (least_below n p) (p n) refl (least-some n p w) e
  where
    step : (o : Option ℕ) (b : Bool) → p n ≡ b → (o ≡ Some w → (w < n) × (p w ≡ true))
        → or_else o (if b then Some n else None) ≡ Some w → (w < suc n) × (p w ≡ true)
    step (Some u) b q f e = (up (f e).0, (f e).1)
      where
        up : w < n → w < suc n
        up l = omega arith
    step None true q f e = here (is e) q
      where
        is : Some n ≡ Some w → n ≡ w
        is e = cc

        here : n ≡ w → p n ≡ true → (w < suc n) × (p w ≡ true)
        here e q = (omega arith, subst (λ (i : ℕ). p i ≡ true) e q)
    step None false q f e = absurd (cc e)

pub least-none : (n : ℕ) (p : ℕ → Bool) → least_below n p ≡ None → (w : ℕ) → w < n → p w ≡ false
least-none zero p e w l = absurd (omega arith)
least-none (suc n) p e w l = step (least_below n p) (p n) refl (λ q. least-none n p q w) e
  where
    step : (o : Option ℕ) (b : Bool) → p n ≡ b → (o ≡ None → w < n → p w ≡ false)
        → or_else o (if b then Some n else None) ≡ None → p w ≡ false
    step (Some u) b q f e = absurd (cc e)
    step None true q f e = absurd (cc e)
    step None false q f e = last (w == n) refl
      where
        is : (w == n) ≡ true → n ≡ w
        is e = grind (arith, nat_tests)

        below : (w == n) ≡ false → w < n
        below e = grind (arith, nat_tests)

        last : (y : Bool) → (w == n) ≡ y → p w ≡ false
        last true e = subst (λ (i : ℕ). p i ≡ false) (is e) q
        last false e = f refl (below e)

-- the way that `found_way` gives, and what its none says

pub is-holds : (h : Entry) (t : ℕ) → holds h t ≡ true → Holds h t
is-holds h t e = record { is_valid = grind (arith, nat_tests); is_tag = grind (arith, nat_tests) }

pub not-holds : (h : Entry) (t : ℕ) → holds h t ≡ false → Holds h t → ⊥
not-holds h t e k = lem k.is_valid k.is_tag
  where
    lem : is_readable h.state ≡ true → h.tag ≡ t → ⊥
    lem a b = grind (arith, nat_tests)

pub found : (n : ℕ) (h : ℕ → Entry) (t w : ℕ) → found_way n h t ≡ Some w → (w < n) × Holds (h w) t
found n h t w e = let f : (w < n) × (holds (h w) t ≡ true) = least-some n (λ i. holds (h i) t) w e in (f.0, is-holds (h w) t f.1)

pub not_found : (n : ℕ) (h : ℕ → Entry) (t : ℕ) → found_way n h t ≡ None → (w : ℕ) → w < n → Holds (h w) t → ⊥
not_found n h t e w l = not-holds (h w) t (least-none n (λ i. holds (h i) t) e w l)

-- One number after the other: each that passes is put in front once, and none below it is the same.
pub times-passing : (n : ℕ) (p : ℕ → Bool) (c : ℕ) → times c (passing_below n p) ≡ (if nat_lt c n && p c then 1 else 0)
times-passing zero p c = grind (arith, nat_tests)
times-passing (suc n) p c = step (p n) refl (times-passing n p c)
  where
    step : (b : Bool) → p n ≡ b → times c (passing_below n p) ≡ (if nat_lt c n && p c then 1 else 0)
        → times c (if b then n ∷ passing_below n p else passing_below n p) ≡ (if nat_lt c (suc n) && p c then 1 else 0)
    step true q e = at (c == n) refl e
      where
        here : (c == n) ≡ true → p n ≡ true → p c ≡ true
        here e q = subst (λ (i : ℕ). p i ≡ true) (is e) q
          where
            is : (c == n) ≡ true → n ≡ c
            is e = grind (arith, nat_tests)

        at : (y : Bool) → (c == n) ≡ y → times c (passing_below n p) ≡ (if nat_lt c n && p c then 1 else 0)
            → (if c == n then 1 else 0) + times c (passing_below n p) ≡ (if nat_lt c (suc n) && p c then 1 else 0)
        at true f e = lem (p c) (here f q) e
          where
            lem : (z : Bool) → z ≡ true → times c (passing_below n p) ≡ (if nat_lt c n && z then 1 else 0)
                → (if c == n then 1 else 0) + times c (passing_below n p) ≡ (if nat_lt c (suc n) && z then 1 else 0)
            lem z g e = grind (arith, nat_tests)
        at false f e = lem (p c) e
          where
            lem : (z : Bool) → times c (passing_below n p) ≡ (if nat_lt c n && z then 1 else 0)
                → (if c == n then 1 else 0) + times c (passing_below n p) ≡ (if nat_lt c (suc n) && z then 1 else 0)
            lem z e = grind (arith, nat_tests)
    step false q e = at (c == n) refl e
      where
        here : (c == n) ≡ true → p c ≡ false
        here e = subst (λ (i : ℕ). p i ≡ false) (is e) q
          where
            is : (c == n) ≡ true → n ≡ c
            is e = grind (arith, nat_tests)

        at : (y : Bool) → (c == n) ≡ y → times c (passing_below n p) ≡ (if nat_lt c n && p c then 1 else 0)
            → times c (passing_below n p) ≡ (if nat_lt c (suc n) && p c then 1 else 0)
        at true f e = lem (p c) (here f) e
          where
            lem : (z : Bool) → z ≡ false → times c (passing_below n p) ≡ (if nat_lt c n && z then 1 else 0)
                → times c (passing_below n p) ≡ (if nat_lt c (suc n) && z then 1 else 0)
            lem z g e = grind (arith, nat_tests)
        at false f e = lem (p c) e
          where
            lem : (z : Bool) → times c (passing_below n p) ≡ (if nat_lt c n && z then 1 else 0)
                → times c (passing_below n p) ≡ (if nat_lt c (suc n) && z then 1 else 0)
            lem z e = grind (arith, nat_tests)

-- no owner: no other cache has the tag in an owner-like state
pub owner-none : (caches ways : ℕ) (d : ℕ → ℕ → Entry) (r t : ℕ) → owner caches ways d r t ≡ None → (c w : ℕ)
    → c < caches → w < ways
    → c ≢ r → Holds (d c w) t
    → is_owner_like (d c w).state ≡ false
owner-none caches ways d r t e c w l m n k = lem (owner_way ways d t c) refl (least-none caches _ e c l) (λ q. least-none ways _ q w m)
  where
    lem : (o : Option ℕ) → owner_way ways d t c ≡ o → (not (c == r) && is_some o) ≡ false
        → (o ≡ None → (holds (d c w) t && is_owner_like (d c w).state) ≡ false)
        → is_owner_like (d c w).state ≡ false
    lem o q f g = grind (arith, nat_tests)

-- The search ends only at a cache that passes its test, and the test asks for such a way.
pub owner-some : (caches ways : ℕ) (d : ℕ → ℕ → Entry) (r t o : ℕ) → owner caches ways d r t ≡ Some o
    → (o ≢ r) × ((v : ℕ) × (owner_way ways d t o ≡ Some v) × (Holds (d o v) t) × (is_owner_like (d o v).state ≡ true))
owner-some caches ways d r t o e = lem (owner_way ways d t o) refl (least-some caches _ o e).1 (λ v. least-some ways _ v)
  where
    other : (test : Bool) → (not (o == r) && test) ≡ true → o ≢ r
    other test f = grind (arith, nat_tests)

    is_holds : (v : ℕ) → (holds (d o v) t && is_owner_like (d o v).state) ≡ true → Holds (d o v) t
    is_holds v f = record { is_valid = grind (arith, nat_tests); is_tag = grind (arith, nat_tests) }

    is_owner : (v : ℕ) → (holds (d o v) t && is_owner_like (d o v).state) ≡ true → is_owner_like (d o v).state ≡ true
    is_owner v f = grind arith

    lem : (w : Option ℕ) → owner_way ways d t o ≡ w → (not (o == r) && is_some w) ≡ true
        → ((v : ℕ) → w ≡ Some v → (v < ways) × ((holds (d o v) t && is_owner_like (d o v).state) ≡ true))
        → (o ≢ r) × ((v : ℕ) × (owner_way ways d t o ≡ Some v) × (Holds (d o v) t) × (is_owner_like (d o v).state ≡ true))
    lem None q f g = absurd (none (o == r) f)
      where
        none : (b : Bool) → (not b && false) ≡ true → ⊥
        none b f = grind arith
    lem (Some v) q f g = (other true f, (v, q, is_holds v (g v refl).1, is_owner v (g v refl).1))

-- the caches that an `inv` is sent to are as the action asks
module _ (caches ways : ℕ) (d : ℕ → ℕ → Entry) (r t : ℕ) where
  pub not-own : times r (others caches ways d r t) ≡ 0
  not-own = lem (shares ways d t r) (times-passing caches _ r)
    where
      lem : (b : Bool) → times r (others caches ways d r t) ≡ (if nat_lt r caches && (not (r == r) && b) then 1 else 0)
          → times r (others caches ways d r t) ≡ 0
      lem b e = grind (arith, nat_tests)

  pub at-most-once : (c : ℕ) → times c (others caches ways d r t) ≤ 1
  at-most-once c = lem (nat_lt c caches && (not (c == r) && shares ways d t c)) (times-passing caches _ c)
    where
      lem : (b : Bool) → times c (others caches ways d r t) ≡ (if b then 1 else 0) → times c (others caches ways d r t) ≤ 1
      lem b e = grind arith

  pub sharer : (c : ℕ) → times c (others caches ways d r t) ≡ 1 → (w : ℕ) × (Holds (d c w) t)
      × (is_light (d c w).state ≡ true)
  sharer c e = lem (least_below ways (λ w. holds (d c w) t && is_shared (d c w).state)) refl (λ w. least-some ways _ w)
      (sym (times-passing caches _ c) ∙ e)
    where
      none : (test y : Bool) → ◌≡◌ {A = ℕ} (if test && (y && false) then 1 else 0) 1 → ⊥
      none test y e = grind arith

      is_holds : (w : ℕ) → (holds (d c w) t && is_shared (d c w).state) ≡ true → Holds (d c w) t
      is_holds w f = record { is_valid = grind (arith, nat_tests); is_tag = grind (arith, nat_tests) }

      light : (w : ℕ) → (holds (d c w) t && is_shared (d c w).state) ≡ true → is_light (d c w).state ≡ true
      light w f = grind arith

      lem : (o : Option ℕ) → least_below ways (λ w. holds (d c w) t && is_shared (d c w).state) ≡ o
          → ((w : ℕ) → o ≡ Some w → (w < ways) × ((holds (d c w) t && is_shared (d c w).state) ≡ true))
          → ◌≡◌ {A = ℕ} (if nat_lt c caches && (not (c == r) && is_some o) then 1 else 0) 1 → (w : ℕ) × (Holds (d c w) t)
          × (is_light (d c w).state ≡ true)
      lem None q g e = absurd (none (nat_lt c caches) (not (c == r)) e)
      lem (Some w) q g e = (w, is_holds w (g w refl).1, light w (g w refl).1)

  pub all-light : OneWay d → (c w : ℕ) → times c (others caches ways d r t) ≡ 1 → Holds (d c w) t
      → is_light (d c w).state ≡ true
  all-light one c w e k = subst (λ (i : ℕ). is_light (d c i).state ≡ true) (one t c (sharer c e).0 w (sharer c e).1 k) (sharer c e).2
