-- What own, owner, others and victim are once an invalidation has wiped the entries of the caches that it is sent to.
use Rattle.std.proofs.Common.{◌≡◌, ◌≢◌, ℕ, ◌<◌, ◌≤◌, ◌&&◌, inl, inr, Bool, true, false, cond, not, eqb, ltb, refl, sym, ap, ◌∙◌, subst, arith, List, [], ◌∷◌, Option, Some, None, is_some}
use Rattle.std.proofs.lemmas.Bool.Decides.{nat_tests}
use Rattle.bk_base.specs.Places.{Shape}
use Rattle.bk_base.specs.States.{is_owner_like}
use Rattle.bk_base.specs.declared.coh.Coh.TheVariants.{I}
use Rattle.bk_machine.specs.Actions.{NoneOrForward, invalidation_targets}
use Rattle.bk_base.specs.Counting.{least_below}
use Rattle.bk_machine.specs.Directory.{own, owner, owner_state, shares, others, victim}
use Rattle.bk_machine.specs.Entries.{Entry, Holds, holds, times, wiped_entry, wiped_in_caches}
use Rattle.bk_machine.proofs.DirectoryReads.{Readable, Recipients, recipients, in-others, none-owner-like, owner-at, owner-only}
use Rattle.bk_machine.proofs.Summary.{least-some, owner-some, times-passing}
use Rattle.bk_exact.proofs.Parts.{clash}
use Rattle.bk_flows.proofs.Entries.{Alike, owns, is_sharer, owner-parts, sharer-parts, false-unless, own-alike, victim-same, others-gone, owner-gone, owner-alike}

-- whom an invalidation is sent to: each of others, and with the owner the owner too
sent-others : (f : Bool) (o : Option ℕ) (os : List ℕ) (c : ℕ) → times c os ≤ times c (invalidation_targets f o os)
sent-others false o os c = omega arith
sent-others true None os c = omega arith
sent-others true (Some a) os c = by (eqb (times a os) 0)
  where
    by : (b : Bool) → times c os ≤ times c (cond b (a ∷ os) os)
    by true = omega arith
    by false = omega arith

sent-owner : (a : ℕ) (os : List ℕ) → 0 < times a (invalidation_targets true (Some a) os)
sent-owner a os = by (eqb (times a os) 0) refl
  where
    by : (b : Bool) → eqb (times a os) 0 ≡ b → 0 < times a (cond b (a ∷ os) os)
    by true i = grind (arith, nat_tests)
    by false i = grind (arith, nat_tests)

wiped-none : (t : ℕ) (h : Entry) → holds (wiped_entry t h) t ≡ false
wiped-none t h = grind (arith, nat_tests)

false-and : (a b : Bool) → a ≡ false → (a && b) ≡ false
false-and a b e = grind arith

module _ (k : Shape) (d : ℕ → ℕ → Entry) (good : Readable k d) (r t : ℕ) (f : Bool)
    (forward : f ≡ true → NoneOrForward (owner_state k.caches k.ways d r t)) where
  abbrev o : Option ℕ
  o = owner k.caches k.ways d r t

  abbrev os : List ℕ
  os = others k.caches k.ways d r t

  abbrev to : List ℕ
  to = invalidation_targets f o os

  abbrev w : ℕ → ℕ → Entry
  w = wiped_in_caches to t d

  -- the machine knows whom it is sent to
  sent : Recipients k d good r t to
  sent = recipients k d good r t f forward

  -- an entry of a cache that stands in the list is wiped, any other stays
  gone : (c v : ℕ) → eqb (times c to) 1 ≡ true → holds (w c v) t ≡ false
  gone c v i = ap (λ (b : Bool). holds (cond b (wiped_entry t (d c v)) (d c v)) t) i ∙ wiped-none t (d c v)

  kept : (c v : ℕ) → eqb (times c to) 1 ≡ false → w c v ≡ d c v
  kept c v i = ap (λ (b : Bool). cond b (wiped_entry t (d c v)) (d c v)) i

  -- a cache that stands in the list stands in it once
  reached : {A : Type 0} (c : ℕ) → 0 < times c to → eqb (times c to) 1 ≡ false → A
  reached c l i = absurd (lem (times c to) l (sent.once c) i)
    where
      lem : (number : ℕ) → 0 < number → number ≤ 1 → eqb number 1 ≡ false → ⊥
      lem number l j i = grind (arith, nat_tests)

  -- THE REQUESTER'S ENTRIES stay

  own-row : (v : ℕ) → w r v ≡ d r v
  own-row v = kept r v (lem (times r to) sent.not_own)
    where
      lem : (number : ℕ) → number ≡ 0 → eqb number 1 ≡ false
      lem number e = grind (arith, nat_tests)

  pub own-wiped : own k.ways (wiped_in_caches to t d) r t ≡ own k.ways d r t
  own-wiped = own-alike k.caches k.ways d w r t (λ v. inl (own-row v))

  pub victim-wiped : (placed : Bool) (v : ℕ) → victim placed (wiped_in_caches to t d) r t v ≡ victim placed d r t v
  victim-wiped placed v = victim-same k.caches k.ways d w r t placed v (own-row v)

  -- OTHERS: none has a shared copy any more

  pub others-wiped : others k.caches k.ways (wiped_in_caches to t d) r t ≡ []
  others-wiped = others-gone k.caches k.ways d w r t (λ c v n. go c v n (eqb (times c to) 1) refl)
    where
      go : (c v : ℕ) → c ≢ r → (b : Bool) → eqb (times c to) 1 ≡ b → is_sharer t (w c v) ≡ false
      go c v n true i = false-and (holds (w c v) t) _ (gone c v i)
      go c v n false i =
          ap (is_sharer t) (kept c v i)
          ∙ false-unless _ (λ j.
          let p = sharer-parts (d c v) t j in
          let one = in-others k d good r t c v n p.0 p.1 in
          let more = sent-others f o os c in reached c (omega (arith, one, more)) i)

  -- WITH THE OWNER there is none any more

  pub owner-wiped : f ≡ true → owner_state k.caches k.ways (wiped_in_caches to t d) r t ≡ I
  owner-wiped sure = owner-gone k.caches k.ways d w r t (λ c v n. go c v n (eqb (times c to) 1) refl)
    where
      to-owner : (c v : ℕ) → c ≢ r → Holds (d c v) t → is_owner_like (d c v).state ≡ true → 0 < times c to
      to-owner c v n h l = by o refl
        where
          by : (q : Option ℕ) → o ≡ q → 0 < times c to
          by None g = clash l (none-owner-like k d good r t g c v n h)
          by (Some a) g =
              let q = owner-some k.caches k.ways d r t a g in
              let same = (owner-only k d good r t a q.1.0 (owner-at k d good r t a q.1.0 g q.1.1) c v h l).0 in
              subst (λ (i : ℕ). 0 < times i to) (sym same)
              (subst (λ (b : Bool). 0 < times a (invalidation_targets b o os)) (sym sure)
              (subst (λ (p : Option ℕ). 0 < times a (invalidation_targets true p os)) (sym g) (sent-owner a os)))

      go : (c v : ℕ) → c ≢ r → (b : Bool) → eqb (times c to) 1 ≡ b → owns t (w c v) ≡ false
      go c v n true i = false-and (holds (w c v) t) _ (gone c v i)
      go c v n false i = ap (owns t) (kept c v i)
          ∙ false-unless _ (λ j. let p = owner-parts (d c v) t j in reached c (to-owner c v n p.0 p.1) i)

  -- AND WITHOUT it stays: a sharer isn't owner-like

  sharer-apart : (c w : ℕ) → times c os ≡ 1 → Holds (d c w) t → is_owner_like (d c w).state ≡ true → ⊥
  sharer-apart c w e h l =
      go (least_below k.ways (λ u. is_sharer t (d c u))) refl
      (sym (times-passing k.caches (λ i. not (eqb i r) && shares k.ways d t i) c) ∙ e)
    where
      none : (test y : Bool) → ◌≡◌ {A = ℕ} (cond (test && (y && false)) 1 0) 1 → ⊥
      none test y e = grind arith

      go : (q : Option ℕ) → least_below k.ways (λ u. is_sharer t (d c u)) ≡ q
          → ◌≡◌ {A = ℕ} (cond (ltb c k.caches && (not (eqb c r) && is_some q)) 1 0) 1 → ⊥
      go None g e = none (ltb c k.caches) (not (eqb c r)) e
      go (Some u) g e =
          let p = sharer-parts (d c u) t (least-some k.ways _ u g).1 in
          clash (subst (λ (i : ℕ). is_owner_like (d c i).state ≡ true) (sym (good.one_way t c u w p.0 h)) l) p.1

  pub owner-spared : f ≡ false → owner_state k.caches k.ways (wiped_in_caches to t d) r t ≡ owner_state k.caches k.ways d r t
  owner-spared plain = owner-alike k.caches k.ways d w r t (λ c v n. go c v (eqb (times c to) 1) refl)
    where
      once : (c : ℕ) → eqb (times c to) 1 ≡ true → times c os ≡ 1
      once c i = sym (ap (λ (b : Bool). times c (invalidation_targets b o os)) plain) ∙ lem (times c to) i
        where
          lem : (number : ℕ) → eqb number 1 ≡ true → number ≡ 1
          lem number e = grind (arith, nat_tests)

      go : (c v : ℕ) (b : Bool) → eqb (times c to) 1 ≡ b → Alike (owns t) (w c v) (d c v)
      go c v true i =
          inr (
            false-and (holds (w c v) t) _ (gone c v i),
            false-unless _ (λ j. let p = owner-parts (d c v) t j in sharer-apart c v (once c i) p.0 p.1),
          )
      go c v false i = inl (kept c v i)
