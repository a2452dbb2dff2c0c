-- What own, owner, others and victim say of all entries of a directory where a block is in one way of a cache, one cache at most is
-- its owner, and what is held is within the configuration.
use Rattle.std.proofs.Common.{◌≡◌, ℕ, ◌+◌, ◌<◌, ◌≤◌, ◌≢◌, inl, inr, Bool, true, false, not, ◌&&◌, refl, arith, List, [], ◌∷◌, sym, ◌∙◌, subst, ap, is_some}
use Rattle.std.specs.Prelude.{Option, Some, None, if◌then◌else◌, ◌==◌, nat_lt}
use Rattle.std.proofs.lemmas.Bool.Decides.{nat_tests}
use Rattle.bk_base.specs.Places.{Shape}
use Rattle.bk_base.specs.declared.coh.Coh.{Coh}
use Rattle.bk_base.specs.declared.coh.Coh.TheVariants.{I, S, E, F, M, O}
use Rattle.bk_base.specs.States.{is_owner_like, is_readable}
use Rattle.bk_machine.specs.Entries.{Entry, Holds, holds, times, is_light}
use Rattle.bk_base.specs.Counting.{least_below}
use Rattle.bk_machine.specs.Directory.{found_way, state_at, own, own_way, owner, owner_way, owner_state, state_of_owner, is_shared, shares, others, victim}
use Rattle.bk_machine.specs.Actions.{NoneOrForward, BlockSuits, invalidation_targets, targets_with_owner}
use Rattle.bk_machine.specs.Copies.{OneWay, OneOwner}
use Rattle.bk_machine.specs.Invariant.{WayInRange}
use Rattle.bk_machine.proofs.Allowed.{fits}
use Rattle.bk_machine.proofs.Summary.{found, not_found, least-none, times-passing, owner-none, owner-some, not-own, at-most-once, sharer, all-light}

-- the directory of a way group, as it may be read
pub record Readable (k : Shape) (d : ℕ → ℕ → Entry) : Type 0 where
  pub one_way : OneWay d
  pub one_owner : OneOwner d
  pub range : (c w t : ℕ) → Holds (d c w) t → WayInRange k c w

pub light-if : (state : Coh) → is_owner_like state ≡ false → is_light state ≡ true
light-if state e = grind arith

shared-if : (state : Coh) → is_readable state ≡ true → is_owner_like state ≡ false → is_shared state ≡ true
shared-if state e f = grind arith

pub same-eq : (c o : ℕ) → (c == o) ≡ true → o ≡ c
same-eq c o e = grind (arith, nat_tests)

pub differ-eq : (c o : ℕ) → (c == o) ≡ false → c ≢ o
differ-eq c o e = grind (arith, nat_tests)

module _ (k : Shape) (d : ℕ → ℕ → Entry) (good : Readable k d) (r t : ℕ) where
  -- own is the state of each entry of the requester that holds the tag
  pub own-is : (v : ℕ) → Holds (d r v) t → own k.ways d r t ≡ (d r v).state
  own-is v h = lem (own_way k.ways d r t) refl
    where
      lem : (o : Option ℕ) → found_way k.ways (d r) t ≡ o → state_at (d r) o ≡ (d r v).state
      lem None e = absurd (not_found k.ways (d r) t e v (good.range r v t h).way h)
      lem (Some u) e = ap (λ (i : ℕ). (d r i).state) (good.one_way t r u v (found k.ways (d r) t u e).1 h)

  pub own-none : own k.ways d r t ≡ I → (w : ℕ) → Holds (d r w) t → ⊥
  own-none e w h = lem (sym (own-is w h) ∙ e) h.is_valid
    where
      lem : (d r w).state ≡ I → is_readable (d r w).state ≡ true → ⊥
      lem e f = grind arith

  pub own-light : is_light (own k.ways d r t) ≡ true → (w : ℕ) → Holds (d r w) t → is_light (d r w).state ≡ true
  own-light e w h = subst (λ (state : Coh). is_light state ≡ true) (own-is w h) e

  -- a way at which own is read
  pub own-found : own k.ways d r t ≢ I → (w : ℕ) × Holds (d r w) t
  own-found n = lem (own_way k.ways d r t) refl n
    where
      lem : (o : Option ℕ) → found_way k.ways (d r) t ≡ o → state_at (d r) o ≢ I → (w : ℕ) × Holds (d r w) t
      lem None e n = absurd (n refl)
      lem (Some u) e n = (u, (found k.ways (d r) t u e).1)

  -- the entry that the owner is read at
  pub record OwnerIs (o w : ℕ) : Type 0 where
    pub other : o ≢ r
    pub holds : Holds (d o w) t
    pub owner_like : is_owner_like (d o w).state ≡ true

  pub owner-at : (o w : ℕ) → owner k.caches k.ways d r t ≡ Some o → owner_way k.ways d t o ≡ Some w → OwnerIs o w
  owner-at o w e f = at (owner-some k.caches k.ways d r t o e)
    where
      same : (u : ℕ) → owner_way k.ways d t o ≡ Some u → u ≡ w
      same u g = some_is (sym g ∙ f)
        where
          some_is : Some u ≡ Some w → u ≡ w
          some_is q = cc

      at : (o ≢ r) × ((u : ℕ) × (owner_way k.ways d t o ≡ Some u) × (Holds (d o u) t) × (is_owner_like (d o u).state ≡ true))
          → OwnerIs o w
      at (n, (u, g, h, l)) = record {
        other = n;
        holds = subst (λ (i : ℕ). Holds (d o i) t) (same u g) h;
        owner_like = subst (λ (i : ℕ). is_owner_like (d o i).state ≡ true) (same u g) l;
      }

  pub owner-state-at : (o w : ℕ) → owner k.caches k.ways d r t ≡ Some o → owner_way k.ways d t o ≡ Some w
      → owner_state k.caches k.ways d r t ≡ (d o w).state
  owner-state-at o w e f = ap (state_of_owner k.ways d t) e ∙ ap (state_at (d o)) f

  -- the owner is the only other cache's owner-like entry
  pub owner-only : (o w : ℕ) → OwnerIs o w → (c u : ℕ) → Holds (d c u) t → is_owner_like (d c u).state ≡ true
      → (c ≡ o) × (u ≡ w)
  owner-only o w is c u h l = decide (c == o) refl
    where
      clash : is_owner_like (d c u).state ≡ false → ⊥
      clash e = grind arith

      decide : (b : Bool) → (c == o) ≡ b → (c ≡ o) × (u ≡ w)
      decide true e = (sym (same-eq c o e), good.one_way t o u w (subst (λ (i : ℕ). Holds (d i u) t) (sym (same-eq c o e)) h) is.holds)
      decide false e = absurd (clash (good.one_owner t o w c u is.holds h (λ q. differ-eq c o e (sym q)) is.owner_like))

  -- owner none: the state says so too
  pub owner-state-none : owner_state k.caches k.ways d r t ≡ I → owner k.caches k.ways d r t ≡ None
  owner-state-none e = lem (owner k.caches k.ways d r t) refl e
    where
      lem : (o : Option ℕ) → owner k.caches k.ways d r t ≡ o → state_of_owner k.ways d t o ≡ I → o ≡ None
      lem None f g = refl
      lem (Some c) f g = absurd (clash (owner-some k.caches k.ways d r t c f))
        where
          never : (state : Coh) → state ≡ I → is_owner_like state ≡ true → ⊥
          never state a b = grind arith

          clash : (c ≢ r) × ((u : ℕ) × (owner_way k.ways d t c ≡ Some u) × (Holds (d c u) t)
              × (is_owner_like (d c u).state ≡ true)) → ⊥
          clash (n, (u, h, i, l)) = never (d c u).state (sym (ap (state_at (d c)) h) ∙ g) l

  pub none-owner-like : owner k.caches k.ways d r t ≡ None → (c w : ℕ) → c ≢ r → Holds (d c w) t
      → is_owner_like (d c w).state ≡ false
  none-owner-like e c w n h = owner-none k.caches k.ways d r t e c w (good.range c w t h).cache (good.range c w t h).way n h

  -- owner none or in F: every other cache's entry is S or F
  pub others-light : NoneOrForward (owner_state k.caches k.ways d r t) → (c w : ℕ) → c ≢ r → Holds (d c w) t
      → is_light (d c w).state ≡ true
  others-light (inl e) c w n h = light-if (d c w).state (none-owner-like (owner-state-none e) c w n h)
  others-light (inr e) c w n h = lem (owner k.caches k.ways d r t) refl
    where
      lem : (o : Option ℕ) → owner k.caches k.ways d r t ≡ o → is_light (d c w).state ≡ true
      lem None f = light-if (d c w).state (none-owner-like f c w n h)
      lem (Some o) f = at (owner-some k.caches k.ways d r t o f)
        where
          at : (o ≢ r) × ((u : ℕ) × (owner_way k.ways d t o ≡ Some u) × (Holds (d o u) t)
              × (is_owner_like (d o u).state ≡ true))
              → is_light (d c w).state ≡ true
          at (number, (u, g, i, l)) = decide (is_owner_like (d c w).state) refl
            where
              forward : (state : Coh) → state ≡ F → is_light state ≡ true
              forward state q = grind arith

              state-is : (c ≡ o) × (w ≡ u) → (d c w).state ≡ F
              state-is q = ap (λ (j : ℕ). (d j w).state) q.0 ∙ ap (λ (j : ℕ). (d o j).state) q.1
                  ∙ sym (owner-state-at o u f g) ∙ e

              decide : (b : Bool) → is_owner_like (d c w).state ≡ b → is_light (d c w).state ≡ true
              decide true q = forward (d c w).state (state-is (owner-only o u (owner-at o u f g) c w h q))
              decide false q = light-if (d c w).state q

  -- a sharer stands in others
  pub in-others : (c w : ℕ) → c ≢ r → Holds (d c w) t → is_owner_like (d c w).state ≡ false
      → times c (others k.caches k.ways d r t) ≡ 1
  in-others c w n h l =
      lem (least_below k.ways (λ u. holds (d c u) t && is_shared (d c u).state)) (λ q. least-none k.ways _ q w (good.range c w t h).way)
      (times-passing k.caches (λ i. not (i == r) && shares k.ways d t i) c) (good.range c w t h).cache
    where
      test : (holds (d c w) t && is_shared (d c w).state) ≡ true
      test = lem2 h.is_valid h.is_tag (shared-if (d c w).state h.is_valid l)
        where
          lem2 : is_readable (d c w).state ≡ true → (d c w).tag ≡ t → is_shared (d c w).state ≡ true
              → (holds (d c w) t && is_shared (d c w).state) ≡ true
          lem2 a b e = grind (arith, nat_tests)

      lem : (o : Option ℕ) → (o ≡ None → (holds (d c w) t && is_shared (d c w).state) ≡ false)
          → times c (others k.caches k.ways d r t) ≡ (if nat_lt c k.caches && (not (c == r) && is_some o) then 1 else 0)
          → c < k.caches
          → times c (others k.caches k.ways d r t) ≡ 1
      lem None f e number = absurd (clash (f refl) test)
        where
          clash : (holds (d c w) t && is_shared (d c w).state) ≡ false → (holds (d c w) t && is_shared (d c w).state) ≡ true → ⊥
          clash a b = cc
      lem (Some u) f e number = sum (times c (others k.caches k.ways d r t)) e number
        where
          sum : (q : ℕ) → q ≡ (if nat_lt c k.caches && (not (c == r) && true) then 1 else 0) → c < k.caches → q ≡ 1
          sum q e number = grind (arith, nat_tests)

  no-others : others k.caches k.ways d r t ≡ [] → (c w : ℕ) → c ≢ r → Holds (d c w) t
      → is_owner_like (d c w).state ≡ false → ⊥
  no-others e c w n h l = zero-one (sym (ap (times c) e) ∙ in-others c w n h l)
    where
      zero-one : ◌≡◌ {A = ℕ} 0 1 → ⊥
      zero-one e = grind arith

  -- owner none and others empty: no other cache has an entry
  pub nobody : owner k.caches k.ways d r t ≡ None → others k.caches k.ways d r t ≡ [] → (c w : ℕ) → c ≢ r
      → Holds (d c w) t → ⊥
  nobody e f c w n h = no-others f c w n h (none-owner-like e c w n h)

  -- with others empty, no cache but the requester and the owner has one
  pub owner-alone : (o w : ℕ) → OwnerIs o w → others k.caches k.ways d r t ≡ [] → (c u : ℕ) → c ≢ r → c ≢ o
      → Holds (d c u) t → ⊥
  owner-alone o w is f c u n number h = no-others f c u n h (good.one_owner t o w c u is.holds h (λ q. number (sym q)) is.owner_like)

  -- the state that a block is granted in leaves the other caches' states
  pub block-fits : (y : Coh) → BlockSuits y (owner_state k.caches k.ways d r t) (others k.caches k.ways d r t) → (c w : ℕ) → c ≢ r
      → Holds (d c w) t
      → fits y (d c w).state ≡ true
  block-fits I b c w n h = absurd b
  block-fits S b c w n h = lem (d c w).state h.is_valid (others-light b c w n h)
    where
      lem : (state : Coh) → is_readable state ≡ true → is_light state ≡ true → fits S state ≡ true
      lem state e f = grind arith
  block-fits E b c w n h = absurd (nobody (owner-state-none b.0) b.1 c w n h)
  block-fits F b c w n h = lem (d c w).state h.is_valid (none-owner-like (owner-state-none b) c w n h)
    where
      lem : (state : Coh) → is_readable state ≡ true → is_owner_like state ≡ false → fits F state ≡ true
      lem state e f = grind arith
  block-fits M b c w n h = absurd (nobody (owner-state-none b.0) b.1 c w n h)
  block-fits O b c w n h = absurd b

  -- whom an invalidation goes to: not the requester, each once, and each has the block in S or F
  pub record Recipients (to : List ℕ) : Type 0 where
    pub not_own : times r to ≡ 0
    pub once : (c : ℕ) → times c to ≤ 1
    pub has : (c : ℕ) → times c to ≡ 1 → (w : ℕ) × Holds (d c w) t
    pub light : (c w : ℕ) → times c to ≡ 1 → Holds (d c w) t → is_light (d c w).state ≡ true

  others-recipients : Recipients (others k.caches k.ways d r t)
  others-recipients = record {
    not_own = not-own k.caches k.ways d r t;
    once = at-most-once k.caches k.ways d r t;
    has = λ c e. ((sharer k.caches k.ways d r t c e).0, (sharer k.caches k.ways d r t c e).1);
    light = all-light k.caches k.ways d r t good.one_way;
  }

  -- The owner isn't the requester nor among the others, so it stands in the list once; and its copy in F is light.
  with-owner : (o : ℕ) → owner k.caches k.ways d r t ≡ Some o → NoneOrForward (owner_state k.caches k.ways d r t)
      → times o (others k.caches k.ways d r t) ≡ 0
      → Recipients (o ∷ others k.caches k.ways d r t)
  with-owner o e f z = at (owner-some k.caches k.ways d r t o e)
    where
      os : List ℕ
      os = others k.caches k.ways d r t

      at : (o ≢ r) × ((u : ℕ) × (owner_way k.ways d t o ≡ Some u) × (Holds (d o u) t) × (is_owner_like (d o u).state ≡ true))
          → Recipients (o ∷ others k.caches k.ways d r t)
      at (n, (u, g, h, l)) = record {
        not_own = sum0 (times r (others k.caches k.ways d r t)) others-recipients.not_own;
        once = λ c. sum1 c (λ q. subst (λ (i : ℕ). times i (others k.caches k.ways d r t) ≡ 0) (same-eq c o q) z)
            (others-recipients.once c);
        has = λ c q. has-at c (c == o) refl q;
        light = λ c w q i. others-light f c w (not-r c q) i;
      }
        where
          sum0 : (number : ℕ) → number ≡ 0 → (if r == o then 1 else 0) + number ≡ 0
          sum0 number e = grind (arith, nat_tests)

          sum1 : (c : ℕ) → ((c == o) ≡ true → times c (others k.caches k.ways d r t) ≡ 0)
              → times c (others k.caches k.ways d r t) ≤ 1
              → (if c == o then 1 else 0) + times c (others k.caches k.ways d r t) ≤ 1
          sum1 c a b = two (c == o) (times c (others k.caches k.ways d r t)) a b
            where
              two : (test : Bool) (number : ℕ) → (test ≡ true → number ≡ 0) → number ≤ 1
                  → (if test then 1 else 0) + number ≤ 1
              two true number a b = subst (λ (i : ℕ). 1 + i ≤ 1) (sym (a refl)) (omega arith)
              two false number a b = omega arith

          has-at : (c : ℕ) (test : Bool) → (c == o) ≡ test
              → (if c == o then 1 else 0) + times c (others k.caches k.ways d r t) ≡ 1
              → (w : ℕ) × Holds (d c w) t
          has-at c true q s = (u, subst (λ (i : ℕ). Holds (d i u) t) (same-eq c o q) h)
          has-at c false q s = others-recipients.has c (plain (c == o) (times c (others k.caches k.ways d r t)) q s)
            where
              plain : (y : Bool) (number : ℕ) → y ≡ false → (if y then 1 else 0) + number ≡ 1 → number ≡ 1
              plain y number q s = grind (arith, nat_tests)

          not-r : (c : ℕ) → (if c == o then 1 else 0) + times c (others k.caches k.ways d r t) ≡ 1 → c ≢ r
          not-r c s q = zero-one (sym (sum0 (times r (others k.caches k.ways d r t)) others-recipients.not_own)
              ∙ subst (λ (i : ℕ). (if i == o then 1 else 0) + times i (others k.caches k.ways d r t) ≡ 1) q s)
            where
              zero-one : ◌≡◌ {A = ℕ} 0 1 → ⊥
              zero-one e = grind arith

  pub recipients : (f : Bool) → (f ≡ true → NoneOrForward (owner_state k.caches k.ways d r t))
      → Recipients (invalidation_targets f (owner k.caches k.ways d r t) (others k.caches k.ways d r t))
  recipients false g = others-recipients
  recipients true g = by (owner k.caches k.ways d r t) refl
    where
      by : (o : Option ℕ) → owner k.caches k.ways d r t ≡ o → Recipients (targets_with_owner o (others k.caches k.ways d r t))
      by None e = others-recipients
      by (Some o) e = among (times o (others k.caches k.ways d r t) == 0) refl
        where
          is0 : (times o (others k.caches k.ways d r t) == 0) ≡ true → times o (others k.caches k.ways d r t) ≡ 0
          is0 q = grind (arith, nat_tests)

          among : (b : Bool) → (times o (others k.caches k.ways d r t) == 0) ≡ b
              → Recipients (if b then o ∷ others k.caches k.ways d r t else others k.caches k.ways d r t)
          among true q = with-owner o e (g refl) (is0 q)
          among false q = others-recipients

  -- a light victim: the entry at the request's way is none, of the tag, or in S or F
  pub victim-light : (w : ℕ) → is_light (victim true d r t w) ≡ true → is_readable (d r w).state ≡ true → (d r w).tag ≢ t
      → is_light (d r w).state ≡ true
  victim-light w e f n = grind (arith, nat_tests)

  -- a heavy victim is an entry that holds its tag
  pub victim-heavy : (p : Bool) (w : ℕ) → is_light (victim p d r t w) ≡ false → Holds (d r w) (d r w).tag
  victim-heavy p w e = record { is_valid = grind (arith, nat_tests); is_tag = refl }
