-- What own, owner, others and victim are where entries of a way group have changed: over the machine's directory of the group. The
-- directory
-- was d and is e; r is the cache that asks, and t the block's tag.
use Rattle.std.proofs.Common.{◌≡◌, ◌≢◌, ℕ, zero, suc, ◌<◌, ◌&&◌, ◌⊎◌, inl, inr, Bool, true, false, cond, not, eqb, ltb, refl, sym, ap, ◌∙◌, subst, arith, [], Option, Some, None, is_some}
use Rattle.std.proofs.lemmas.Bool.{eqb-true, eqb-false, and_from, and_parts}
use Rattle.std.proofs.lemmas.Bool.Decides.{nat_tests}
use mathlib.Core.Path.{fun_ext}
use Rattle.bk_base.specs.States.{is_owner_like, is_readable}
use Rattle.bk_base.specs.declared.coh.Coh.{Coh}
use Rattle.bk_base.specs.declared.coh.Coh.TheVariants.{I, S}
use Rattle.bk_machine.specs.Tables.{put2}
use Rattle.bk_machine.specs.Entries.{Entry, Holds, holds, times, is_light, with_state}
use Rattle.bk_base.specs.Counting.{least_below, or_else}
use Rattle.bk_machine.specs.Directory.{passing_below, found_way, state_at, own, owner_way, owner, state_of_owner, owner_state, is_shared, shares, others, victim}
use Rattle.bk_machine.proofs.Summary.{found, not_found, least-none, owner-some, times-passing, is-holds}
use Rattle.bk_exact.proofs.Parts.{clash}

-- TESTS OF ENTRIES

-- an entry of the block that is owner-like, and one that is shared
abbrev pub owns : ℕ → Entry → Bool
owns t h = holds h t && is_owner_like h.state

abbrev pub is_sharer : ℕ → Entry → Bool
is_sharer t h = holds h t && is_shared h.state

pub holds-it : (h : Entry) (t : ℕ) → Holds h t → holds h t ≡ true
holds-it h t k = grind (arith, nat_tests)

pub false-unless : (b : Bool) → (b ≡ true → ⊥) → b ≡ false
false-unless true h = absurd (h refl)
false-unless false h = refl

-- the parts of a test for an owner's or a sharer's entry
pub owner-parts : (h : Entry) (t : ℕ) → owns t h ≡ true → Holds h t × (is_owner_like h.state ≡ true)
owner-parts h t e = let q = and_parts _ _ e in (is-holds h t q.0, q.1)

pub sharer-parts : (h : Entry) (t : ℕ) → is_sharer t h ≡ true → Holds h t × (is_owner_like h.state ≡ false)
sharer-parts h t e = let q = and_parts _ _ e in (is-holds h t q.0, lem h.state q.1)
  where
    lem : (y : Coh) → is_shared y ≡ true → is_owner_like y ≡ false
    lem y e = grind arith

owner-apart : (y : Coh) → is_owner_like y ≡ true → is_shared y ≡ false
owner-apart y e = grind arith

-- two entries that are the same, or that both fail a test
abbrev pub Alike : (Entry → Bool) → Entry → Entry → Type 0
Alike test g h = (g ≡ h) ⊎ ((test g ≡ false) × (test h ≡ false))

alike-test : (test : Entry → Bool) (g h : Entry) → Alike test g h → test g ≡ test h
alike-test test g h (inl i) = ap test i
alike-test test g h (inr p) = p.0 ∙ sym p.1

-- where the second passes they are the same
alike-same : (test : Entry → Bool) (g h : Entry) → Alike test g h → test h ≡ true → g ≡ h
alike-same test g h (inl i) e = i
alike-same test g h (inr p) e = clash e p.1

-- LEAST AND ALL of those that pass a test

-- of none
nowhere : (n : ℕ) → least_below n (λ i. false) ≡ None
nowhere zero = refl
nowhere (suc n) = ap (λ (o : Option ℕ). or_else o None) (nowhere n)

nobody : (n : ℕ) → passing_below n (λ i. false) ≡ []
nobody zero = refl
nobody (suc n) = nobody n

-- a test of the caches other than the requester
abbrev other_than : ℕ → (ℕ → Bool) → ℕ → Bool
other_than r x c = not (eqb c r) && x c

-- two such tests are the same where they agree on those caches, and fail everywhere where they fail on them
beside : (r : ℕ) (x y : ℕ → Bool) → ((c : ℕ) → c ≢ r → x c ≡ y c) → other_than r x ≡ other_than r y
beside r x y h = fun_ext (λ c. go c (eqb c r) refl)
  where
    go : (c : ℕ) (b : Bool) → eqb c r ≡ b → (not b && x c) ≡ (not b && y c)
    go c true i = refl
    go c false i = h c (eqb-false c r i)

beside-none : (r : ℕ) (x : ℕ → Bool) → ((c : ℕ) → c ≢ r → x c ≡ false) → other_than r x ≡ (λ c. false)
beside-none r x h = fun_ext (λ c. go c (eqb c r) refl)
  where
    go : (c : ℕ) (b : Bool) → eqb c r ≡ b → (not b && x c) ≡ false
    go c true i = refl
    go c false i = h c (eqb-false c r i)

module _ (caches ways : ℕ) (d e : ℕ → ℕ → Entry) (r t : ℕ) where
  -- THE REQUESTER'S ENTRIES

  -- own stays where no entry of the block comes or goes
  pub own-alike : ((w : ℕ) → Alike (λ h. holds h t) (e r w) (d r w)) → own ways e r t ≡ own ways d r t
  own-alike h = ap (state_at (e r)) (ap (least_below ways) (fun_ext (λ w. alike-test (λ h. holds h t) (e r w) (d r w) (h w))))
      ∙ go (found_way ways (d r) t) refl
    where
      go : (o : Option ℕ) → found_way ways (d r) t ≡ o → state_at (e r) o ≡ state_at (d r) o
      go None f = refl
      go (Some w) f =
          ap (λ (g : Entry). g.state) (alike-same (λ h. holds h t) (e r w) (d r w) (h w) (holds-it (d r w) t (found ways (d r) t w f).1))

  -- own is the state of an entry of the block, where no other way has the block
  pub own-is : (w : ℕ) → w < ways → (e r w).tag ≡ t → ((u : ℕ) → u ≢ w → Holds (e r u) t → ⊥)
      → own ways e r t ≡ (e r w).state
  own-is w l tag alone = go (found_way ways (e r) t) refl
    where
      invalid : (y : Coh) → is_readable y ≡ false → I ≡ y
      invalid y i = grind arith

      go : (o : Option ℕ) → found_way ways (e r) t ≡ o → state_at (e r) o ≡ (e r w).state
      go None i = by (is_readable (e r w).state) refl
        where
          by : (b : Bool) → is_readable (e r w).state ≡ b → I ≡ (e r w).state
          by true j = absurd (not_found ways (e r) t i w l (record { is_valid = j; is_tag = tag }))
          by false j = invalid (e r w).state j
      go (Some u) i = by (eqb u w) refl
        where
          by : (b : Bool) → eqb u w ≡ b → (e r u).state ≡ (e r w).state
          by true j = ap (λ (q : ℕ). (e r q).state) (eqb-true u w j)
          by false j = absurd (alone u (eqb-false u w j) (found ways (e r) t u i).1)

  -- victim stays with the entry at the request's way
  pub victim-same : (placed : Bool) (w : ℕ) → e r w ≡ d r w → victim placed e r t w ≡ victim placed d r t w
  victim-same placed w same = ap (λ (h : Entry). cond (placed && (is_readable h.state && not (eqb h.tag t))) h.state I) same

  -- OTHER CACHES' ENTRIES

  -- others stay where no shared entry comes or goes, and are none where there is none
  pub others-alike : ((c w : ℕ) → c ≢ r → Alike (is_sharer t) (e c w) (d c w))
      → others caches ways e r t ≡ others caches ways d r t
  others-alike h =
      ap (passing_below caches)
      (beside r (shares ways e t) (shares ways d t)
      (λ c n. ap is_some (ap (least_below ways) (fun_ext (λ w. alike-test (is_sharer t) (e c w) (d c w) (h c w n))))))

  pub others-gone : ((c w : ℕ) → c ≢ r → is_sharer t (e c w) ≡ false) → others caches ways e r t ≡ []
  others-gone h =
      ap (passing_below caches)
      (beside-none r (shares ways e t) (λ c n. ap is_some (ap (least_below ways) (fun_ext (λ w. h c w n)) ∙ nowhere ways)))
      ∙ nobody caches

  -- the owner and its state stay where no owner's entry comes or goes, and there is none where there is no such entry
  pub owner-alike : ((c w : ℕ) → c ≢ r → Alike (owns t) (e c w) (d c w))
      → owner_state caches ways e r t ≡ owner_state caches ways d r t
  owner-alike h =
      ap (state_of_owner ways e t)
      (ap (least_below caches) (beside r (λ c. is_some (owner_way ways e t c)) (λ c. is_some (owner_way ways d t c))
      (λ c n. ap is_some (way c n))))
      ∙ go (owner caches ways d r t) refl
    where
      way : (c : ℕ) → c ≢ r → owner_way ways e t c ≡ owner_way ways d t c
      way c n = ap (least_below ways) (fun_ext (λ w. alike-test (owns t) (e c w) (d c w) (h c w n)))

      go : (o : Option ℕ) → owner caches ways d r t ≡ o → state_of_owner ways e t o ≡ state_of_owner ways d t o
      go None f = refl
      go (Some c) f =
          let q = owner-some caches ways d r t c f in
          ap (state_at (e c)) (way c q.0 ∙ q.1.1)
          ∙ ap (λ (g : Entry). g.state)
          (alike-same (owns t) (e c q.1.0) (d c q.1.0) (h c q.1.0 q.0) (and_from _ _ (holds-it (d c q.1.0) t q.1.2) q.1.3))
          ∙ sym (ap (state_at (d c)) q.1.1)

  pub owner-gone : ((c w : ℕ) → c ≢ r → owns t (e c w) ≡ false) → owner_state caches ways e r t ≡ I
  owner-gone h =
      ap (state_of_owner ways e t)
      (ap (least_below caches)
      (beside-none r (λ c. is_some (owner_way ways e t c)) (λ c n. ap is_some (ap (least_below ways) (fun_ext (λ w. h c w n))
      ∙ nowhere ways)))
      ∙ nowhere caches)

-- ONE ENTRY IS WRITTEN

-- at its place, in other caches, and at other ways
pub put-here : (d : ℕ → ℕ → Entry) (c w : ℕ) (h : Entry) → put2 d c w h c w ≡ h
unfolding put2
put-here d c v h = grind (arith, nat_tests)

pub put-cache : (d : ℕ → ℕ → Entry) (c w : ℕ) (h : Entry) (i u : ℕ) → i ≢ c → put2 d c w h i u ≡ d i u
unfolding put2
put-cache d c v h i u n = grind (arith, nat_tests)

pub put-way : (d : ℕ → ℕ → Entry) (c w : ℕ) (h : Entry) (i u : ℕ) → u ≢ w → put2 d c w h i u ≡ d i u
unfolding put2
put-way d c v h i u n = grind (arith, nat_tests)

-- of the requester: what others have stays
module _ (caches ways : ℕ) (d : ℕ → ℕ → Entry) (r t v : ℕ) (h : Entry) where
  pub owner-put : owner_state caches ways (put2 d r v h) r t ≡ owner_state caches ways d r t
  owner-put = owner-alike caches ways d (put2 d r v h) r t (λ c u n. inl (put-cache d r v h c u n))

  pub others-put : others caches ways (put2 d r v h) r t ≡ others caches ways d r t
  others-put = others-alike caches ways d (put2 d r v h) r t (λ c u n. inl (put-cache d r v h c u n))

  -- at its way of the block
  pub own-put : v < ways → h.tag ≡ t → ((u : ℕ) → u ≢ v → Holds (d r u) t → ⊥) → own ways (put2 d r v h) r t ≡ h.state
  own-put l tag alone =
      own-is caches ways d (put2 d r v h) r t v l (ap (λ (g : Entry). g.tag) (put-here d r v h) ∙ tag)
      (λ u n k. alone u n (subst (λ (g : Entry). Holds g t) (put-way d r v h r u n) k))
      ∙ ap (λ (g : Entry). g.state) (put-here d r v h)

  -- which had the block before too
  pub victim-put : (placed : Bool) (w : ℕ) → h.tag ≡ t → (d r v).tag ≡ t
      → victim placed (put2 d r v h) r t w ≡ victim placed d r t w
  victim-put placed w tag was = go (eqb w v) refl
    where
      none : (g : Entry) → g.tag ≡ t → cond (placed && (is_readable g.state && not (eqb g.tag t))) g.state I ≡ I
      none g i = grind (arith, nat_tests)

      go : (b : Bool) → eqb w v ≡ b → victim placed (put2 d r v h) r t w ≡ victim placed d r t w
      go true i =
          ap (λ (u : ℕ). victim placed (put2 d r v h) r t u) (eqb-true w v i)
          ∙ none (put2 d r v h r v) (ap (λ (g : Entry). g.tag) (put-here d r v h) ∙ tag)
          ∙ sym (ap (λ (u : ℕ). victim placed d r t u) (eqb-true w v i) ∙ none (d r v) was)
      go false i = victim-same caches ways d (put2 d r v h) r t placed w (put-way d r v h r w (eqb-false w v i))

-- of the requester: the victim becomes I
module _ (caches ways : ℕ) (d : ℕ → ℕ → Entry) (r t w : ℕ) where
  pub victim-lowered : (placed : Bool) → victim placed (put2 d r w (with_state (d r w) I)) r t w ≡ I
  victim-lowered placed =
      ap (λ (g : Entry). cond (placed && (is_readable g.state && not (eqb g.tag t))) g.state I)
      (put-here d r w (with_state (d r w) I)) ∙ lem placed
    where
      lem : (p : Bool) → cond (p && (false && not (eqb (d r w).tag t))) I I ≡ I
      lem true = refl
      lem false = refl

  -- it was of another block
  pub own-lowered : (placed : Bool) → is_light (victim placed d r t w) ≡ false
      → own ways (put2 d r w (with_state (d r w) I)) r t ≡ own ways d r t
  own-lowered placed heavy = own-alike caches ways d (put2 d r w (with_state (d r w) I)) r t (λ v. at v (eqb v w) refl)
    where
      another : (g : Entry) (p : Bool) → is_light (cond (p && (is_readable g.state && not (eqb g.tag t))) g.state I) ≡ false
          → holds g t ≡ false
      another g p i = grind (arith, nat_tests)

      at : (v : ℕ) (b : Bool) → eqb v w ≡ b → Alike (λ h. holds h t) (put2 d r w (with_state (d r w) I) r v) (d r v)
      at v true i =
          inr (
            ap (λ (u : ℕ). holds (put2 d r w (with_state (d r w) I) r u) t) (eqb-true v w i)
                ∙ ap (λ (g : Entry). holds g t) (put-here d r w (with_state (d r w) I)),
            ap (λ (u : ℕ). holds (d r u) t) (eqb-true v w i) ∙ another (d r w) placed heavy,
          )
      at v false i = inl (put-way d r w (with_state (d r w) I) r v (eqb-false v w i))

-- of the owner: it becomes one that doesn't own
module _ (caches ways : ℕ) (d : ℕ → ℕ → Entry) (r t o v : ℕ) (state : Coh) (other : o ≢ r) (holding : Holds (d o v) t)
    (like : is_owner_like (d o v).state ≡ true)
    (only : (c u : ℕ) → Holds (d c u) t → is_owner_like (d c u).state ≡ true
    → (c ≡ o) × (u ≡ v)) (weak : is_owner_like state ≡ false) where
  abbrev weakened : ℕ → ℕ → Entry
  weakened = put2 d o v (with_state (d o v) state)

  -- by whether an entry is the owner's
  by-entry : (P : ℕ → ℕ → Type 0) → P o v
      → ((c u : ℕ) → ((c ≡ o) × (u ≡ v) → ⊥) → weakened c u ≡ d c u → P c u) → (c u : ℕ) → P c u
  by-entry P here there c u = go (eqb c o) refl (eqb u v) refl
    where
      go : (b1 : Bool) → eqb c o ≡ b1 → (b2 : Bool) → eqb u v ≡ b2 → P c u
      go true i true j = subst (λ (q : ℕ). P q u) (sym (eqb-true c o i)) (subst (P o) (sym (eqb-true u v j)) here)
      go true i false j = there c u (λ z. eqb-false u v j z.1) (put-way d o v (with_state (d o v) state) c u (eqb-false u v j))
      go false i b2 j = there c u (λ z. eqb-false c o i z.0) (put-cache d o v (with_state (d o v) state) c u (eqb-false c o i))

  and-false : (a b : Bool) → b ≡ false → (a && b) ≡ false
  and-false a b e = grind arith

  -- there is no owner any more: it was the only one
  pub owner-weakened : owner_state caches ways (put2 d o v (with_state (d o v) state)) r t ≡ I
  owner-weakened =
      owner-gone caches ways d weakened r t
      (by-entry (λ c u. c ≢ r → owns t (weakened c u) ≡ false)
      (λ n. and-false (holds (weakened o v) t) (is_owner_like (weakened o v).state)
      (ap (λ (g : Entry). is_owner_like g.state) (put-here d o v (with_state (d o v) state)) ∙ weak))
      (λ c u apart same n. ap (owns t) same ∙ false-unless _ (λ i. let q = owner-parts (d c u) t i in apart (only c u q.0 q.1))))

  -- own and victim stay: they are of the requester's entries
  requester-same : (u : ℕ) → weakened r u ≡ d r u
  requester-same u = put-cache d o v (with_state (d o v) state) r u (λ i. other (sym i))

  pub own-weakened : own ways (put2 d o v (with_state (d o v) state)) r t ≡ own ways d r t
  own-weakened = own-alike caches ways d weakened r t (λ u. inl (requester-same u))

  pub victim-weakened : (placed : Bool) (w : ℕ) → victim placed (put2 d o v (with_state (d o v) state)) r t w ≡ victim placed d r t w
  victim-weakened placed w = victim-same caches ways d weakened r t placed w (requester-same w)

  -- lowered to I it leaves others as they were
  pub others-dropped : state ≡ I → others caches ways (put2 d o v (with_state (d o v) state)) r t ≡ others caches ways d r t
  others-dropped i =
      others-alike caches ways d weakened r t (λ c u n.
      by-entry (λ c u. Alike (is_sharer t) (weakened c u) (d c u))
      (inr (
        ap (is_sharer t) (put-here d o v (with_state (d o v) state))
            ∙ gone state i,
        and-false (holds (d o v) t) (is_shared (d o v).state) (owner-apart (d o v).state like),
      ))
      (λ c u apart same. inl same) c u)
    where
      gone : (y : Coh) → y ≡ I → is_sharer t (with_state (d o v) y) ≡ false
      gone y j = grind arith

  -- lowered to S it is one of them
  pub others-shared : state ≡ S → o < caches → v < ways → others caches ways (put2 d o v (with_state (d o v) state)) r t ≢ []
  others-shared i l m e =
      zero-one (sym (ap (times o) e) ∙ times-passing caches (λ c. not (eqb c r) && shares ways weakened t c) o
      ∙ one (shares ways weakened t o) sharing)
    where
      zero-one : ◌≡◌ {A = ℕ} 0 1 → ⊥
      zero-one e = grind arith

      one : (b : Bool) → b ≡ true → ◌≡◌ {A = ℕ} (cond (ltb o caches && (not (eqb o r) && b)) 1 0) 1
      one b j = grind (arith, nat_tests, l, other)

      here : is_sharer t (weakened o v) ≡ true
      here = ap (is_sharer t) (put-here d o v (with_state (d o v) state)) ∙ lem state i holding.is_tag
        where
          lem : (y : Coh) → y ≡ S → (d o v).tag ≡ t → is_sharer t (with_state (d o v) y) ≡ true
          lem y j k = grind (arith, nat_tests)

      sharing : shares ways weakened t o ≡ true
      sharing = go (least_below ways (λ u. is_sharer t (weakened o u))) refl
        where
          go : (q : Option ℕ) → least_below ways (λ u. is_sharer t (weakened o u)) ≡ q → is_some q ≡ true
          go None j = clash here (least-none ways _ j v m)
          go (Some u) j = refl
