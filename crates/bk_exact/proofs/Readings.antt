-- What the machine reads of the transaction in its directory is what the engine reads of its request; and what a test of it says.
use Rattle.std.proofs.Common.{◌≡◌, ◌≢◌, ℕ, ◌==◌, true, false, refl, sym, ap, ◌∙◌, subst, arith, [], Option, Some, None}
use Rattle.std.specs.Prelude.{nat_lt, option_map, option_and_then}
use Rattle.std.proofs.lemmas.Option.{same_Some}
use Rattle.bk_base.specs.Places.{Shape, group_of, tag_at}
use Rattle.bk_base.specs.States.{is_owner_like}
use Rattle.bk_base.specs.declared.coh.Coh.{Coh}
use Rattle.bk_base.specs.declared.coh.Coh.TheVariants.{I, S}
use Rattle.bk_know.specs.Sets.{only, subset}
use Rattle.bk_flow.specs.Flow.{lacks}
use Rattle.bk_know.specs.declared.values.TheConstants.{OWNER_NONE, OWNER_NONE_F, OTHERS_NO, VICTIM_LIGHT, VICTIM_HEAVY}
use Rattle.bk_dir.specs.declared.entry.Summary.{Summary}
use Rattle.bk_engine.specs.declared.parts.RequestKind.{RequestKind}
use Rattle.bk_engine.specs.declared.parts.RequestKind.TheVariants as kinds
use Rattle.bk_engine.specs.Heads.{is_placed}
use Rattle.bk_engine.specs.Reads.{query_of, summary_for, number_of, owner_number, is_heavy}
use Rattle.bk_system.specs.State.{State}
use Rattle.bk_machine.specs.Entries.{Entry, Holds, is_light}
use Rattle.bk_machine.specs.Messages.{asks_block, request_tag}
use Rattle.bk_machine.specs.Directory as machine
use Rattle.bk_machine.specs.Actions.{own_for, own_way_for, owner_for, owner_state_for, others_for, victim_for, OwnerAt, NoneOrForward}
use Rattle.bk_machine.proofs.Summary.{owner-some}
use Rattle.bk_bridge.specs.Acting.{request_by}
use Rattle.bk_bridge.specs.Effects.{owner_place}
use Rattle.bk_bridge.specs.Readings.{seen, ReadsAlike}
use Rattle.bk_bridge.proofs.Acting.{serves-tag}
use Rattle.bk_bridge.proofs.Readings.{reads_alike}
use Rattle.bk_exact.specs.Told.{Told}
use Rattle.bk_exact.specs.Ties.{told_world}
use Rattle.bk_exact.proofs.Serving.{Serving}
use Rattle.bk_exact.proofs.Values as values

-- WHAT IS FOUND

-- an owner's state is never S
owner-not_S : (caches ways : ℕ) (d : ℕ → ℕ → Entry) (r t : ℕ) → machine.owner_state caches ways d r t ≢ S
owner-not_S caches ways d r t e = go (machine.owner caches ways d r t) refl e
  where
    shared : (y : Coh) → is_owner_like y ≡ true → y ≡ S → ⊥
    shared y l q = grind arith

    go : (o : Option ℕ) → machine.owner caches ways d r t ≡ o → machine.state_of_owner ways d t o ≡ S → ⊥
    go None f q = absurd (cc)
    go (Some o) f q =
        let found = owner-some caches ways d r t o f in
        shared (d o found.1.0).state found.1.3 (sym (ap (machine.state_at (d o)) found.1.1) ∙ q)

-- an owner with its way, which holds the block
pub record OwnerFound (k : Shape) (d : ℕ → ℕ → Entry) (r t : ℕ) : Type 0 where
  pub cache : ℕ
  pub way : ℕ
  pub is_owner : machine.owner k.caches k.ways d r t ≡ Some cache
  pub is_way : machine.owner_way k.ways d t cache ≡ Some way
  pub holds : Holds (d cache way) t

-- there is one where its state is read
owner-found : (k : Shape) (d : ℕ → ℕ → Entry) (r t : ℕ) → machine.owner_state k.caches k.ways d r t ≢ I → OwnerFound k d r t
owner-found k d r t n = go (machine.owner k.caches k.ways d r t) refl n
  where
    go : (o : Option ℕ) → machine.owner k.caches k.ways d r t ≡ o → machine.state_of_owner k.ways d t o ≢ I → OwnerFound k d r t
    go None f q = absurd (q refl)
    go (Some o) f q =
        let found = owner-some k.caches k.ways d r t o f in
        record { cache = o; way = found.1.0; is_owner = f; is_way = found.1.1; holds = found.1.2 }

-- with no owner's state there is no owner
owner-missing : (k : Shape) (d : ℕ → ℕ → Entry) (r t : ℕ) → machine.owner_state k.caches k.ways d r t ≡ I
    → machine.owner k.caches k.ways d r t ≡ None
owner-missing k d r t e = go (machine.owner k.caches k.ways d r t) refl
  where
    like : (y : Coh) → is_owner_like y ≡ true → y ≡ I → ⊥
    like y l q = grind arith

    go : (o : Option ℕ) → machine.owner k.caches k.ways d r t ≡ o → machine.owner k.caches k.ways d r t ≡ None
    go None f = f
    go (Some o) f =
        let found = owner-some k.caches k.ways d r t o f in
        absurd (like (d o found.1.0).state found.1.3
        (sym (ap (machine.state_of_owner k.ways d t) f ∙ ap (machine.state_at (d o)) found.1.1) ∙ e))

-- a way of the requester that holds the block is found where own is read
own-found : (ways : ℕ) (d : ℕ → ℕ → Entry) (r t : ℕ) → machine.own ways d r t ≢ I → (w : ℕ)
    × (machine.own_way ways d r t ≡ Some w)
own-found ways d r t n = go (machine.own_way ways d r t) refl n
  where
    go : (o : Option ℕ) → machine.own_way ways d r t ≡ o → machine.state_at (d r) o ≢ I → (w : ℕ)
        × (machine.own_way ways d r t ≡ Some w)
    go None f q = absurd (q refl)
    go (Some w) f q = (w, f)

-- FOR THE REQUEST THAT IS SERVED

module _ (k : Shape) (s : State) (told : Told) (v : Serving k s told) where
  open v use {held as h, transaction as x}

  abbrev t : ℕ
  t = tag_at k h.addr

  abbrev listed : ℕ → ℕ → Entry
  listed = seen s.engine.directory (group_of k h.addr)

  abbrev pub sum : Summary
  sum = summary_for k s.engine.directory h

  pub reads : ReadsAlike k s.engine.directory (query_of k h) sum
  reads = reads_alike k s.engine.directory (query_of k h)

  cache-is : x.cache ≡ h.source
  cache-is = v.serves.serves.cache

  tag-is : request_tag x.request ≡ t
  tag-is = serves-tag k h x v.serves.serves

  -- the transaction's request, where its kind is known
  pub of-kind : (q : RequestKind) → h.kind ≡ q → x.request ≡ request_by k q h
  of-kind q i = v.serves.serves.request ∙ ap (λ (r : RequestKind). request_by k r h) i

  -- the requester's entries of the block are the transaction's
  pub own-holds : (u : ℕ) → Holds (listed h.source u) t → Holds (listed x.cache u) (request_tag x.request)
  own-holds u e = subst (λ (c : ℕ). Holds (listed c u) (request_tag x.request)) (sym cache-is)
      (subst (Holds (listed h.source u)) (sym tag-is) e)

  -- the machine's reads for the transaction
  pub own-way : own_way_for k listed x ≡ machine.own_way k.ways listed h.source t
  own-way = λ i. machine.own_way k.ways listed (cache-is i) (tag-is i)

  -- own, owner, owner's state, others and victim of the transaction are those of the request
  pub own-read : own_for k listed x ≡ sum.own
  own-read = (λ i. machine.own k.ways listed (cache-is i) (tag-is i)) ∙ sym reads.own

  pub owner-same : owner_for k listed x ≡ machine.owner k.caches k.ways listed h.source t
  owner-same = λ i. machine.owner k.caches k.ways listed (cache-is i) (tag-is i)

  pub owner-way_same : (c : ℕ) → machine.owner_way k.ways listed (request_tag x.request) c ≡ machine.owner_way k.ways listed t c
  owner-way_same c = λ i. machine.owner_way k.ways listed (tag-is i) c

  pub owner-read : owner_state_for k listed x ≡ sum.owner_state
  owner-read = (λ i. machine.owner_state k.caches k.ways listed (cache-is i) (tag-is i)) ∙ sym reads.owner_state

  pub others-same : others_for k listed x ≡ machine.others k.caches k.ways listed h.source t
  others-same = λ i. machine.others k.caches k.ways listed (cache-is i) (tag-is i)

  victim-read : victim_for listed x ≡ sum.victim
  victim-read =
      (λ i. machine.victim ((ap asks_block v.serves.serves.request ∙ placed h.kind) i) listed (cache-is i) (tag-is i)
      (v.serves.serves.way i))
      ∙ sym reads.victim
    where
      placed : (q : RequestKind) → asks_block (request_by k q h) ≡ is_placed q
      placed kinds.Rd = refl
      placed kinds.Wr = refl
      placed kinds.UcRd = refl
      placed kinds.UcWr = refl
      placed kinds.Evict = refl

  -- OWN
  pub own-there : sum.own ≢ I → (u : ℕ) × (machine.own_way k.ways listed h.source t ≡ Some u)
  own-there q = own-found k.ways listed h.source t (λ i. q (reads.own ∙ i))

  -- THE OWNER
  pub not_S : sum.owner_state ≢ S
  not_S e = owner-not_S k.caches k.ways listed h.source t (sym reads.owner_state ∙ e)

  pub forward : subset (only (owner_number sum.owner_state)) OWNER_NONE_F ≡ true → NoneOrForward sum.owner_state
  forward q = values.owner-forward sum.owner_state not_S q

  pub no-owner_state : (only (owner_number sum.owner_state) == OWNER_NONE) ≡ true → owner_state_for k listed x ≡ I
  no-owner_state q = owner-read ∙ values.owner-none sum.owner_state not_S q

  pub no-owner : (only (owner_number sum.owner_state) == OWNER_NONE) ≡ true → owner_for k listed x ≡ None
  no-owner q = owner-missing k listed x.cache (request_tag x.request) (no-owner_state q)

  pub owner-there : lacks (only (owner_number sum.owner_state)) OWNER_NONE ≡ true → OwnerFound k listed h.source t
  owner-there q = owner-found k listed h.source t (λ i. values.owner-there sum.owner_state q (reads.owner_state ∙ i))

  -- where there is one, it is at an entry of the block
  pub owner-at : (f : OwnerFound k listed h.source t) → OwnerAt k listed x f.cache f.way
  owner-at f = record { is_owner = owner-same ∙ f.is_owner; is_way = owner-way_same f.cache ∙ f.is_way }

  -- the owner of the transaction is that of the request
  pub at-owner : (c u : ℕ) → OwnerAt k listed x c u → (machine.owner k.caches k.ways listed h.source t ≡ Some c)
      × (machine.owner_way k.ways listed t c ≡ Some u)
  at-owner c u a = (sym owner-same ∙ a.is_owner, sym (owner-way_same c) ∙ a.is_way)

  -- it is the place that an instruction names by `owner`
  pub owner-place : (c u : ℕ) → machine.owner k.caches k.ways listed h.source t ≡ Some c
      → machine.owner_way k.ways listed t c ≡ Some u
      → owner_place k h (told_world k s told) ≡ Some (c, u)
  owner-place c u i j =
      ap (option_and_then (λ c. option_map (λ (v : ℕ). (c, v)) (machine.owner_way k.ways listed t c))) i
      ∙ ap (option_map (λ (v : ℕ). (c, v))) j

  -- and the engine finds it there too
  pub owner-listed : (c u : ℕ) → machine.owner k.caches k.ways listed h.source t ≡ Some c
      → machine.owner_way k.ways listed t c ≡ Some u
      → sum.owner ≡ Some (c, u)
  owner-listed c u i j = go sum.owner refl
    where
      go : (o : Option (ℕ × ℕ)) → sum.owner ≡ o → o ≡ Some (c, u)
      go None e = absurd (none (sym (ap (option_map (λ at. at.0)) e) ∙ reads.owner ∙ i))
        where
          none : None ≡ Some c → ⊥
          none q = cc
      go (Some at) e =
          let cache : at.0 ≡ c = same_Some _ _ (sym (ap (option_map (λ at. at.0)) e) ∙ reads.owner ∙ i) in
          let way : at.1 ≡ u = same_Some _ _ (sym (reads.owner_way at e) ∙ ap (machine.owner_way k.ways listed t) cache ∙ j) in
          λ z. Some (cache z, way z)

  -- OTHERS AND VICTIM
  pub no-others : (only (number_of (nat_lt 0 sum.others)) == OTHERS_NO) ≡ true → others_for k listed x ≡ []
  no-others q =
      others-same ∙ values.nil-none (machine.others k.caches k.ways listed h.source t)
      (sym reads.no_others ∙ ap (λ (n : ℕ). n == 0) (values.number-none sum.others q))

  pub light-victim : (only (number_of (is_heavy sum.victim)) == VICTIM_LIGHT) ≡ true → is_light (victim_for listed x) ≡ true
  light-victim q = ap is_light victim-read ∙ values.victim-light sum.victim q

  pub heavy-victim : (only (number_of (is_heavy sum.victim)) == VICTIM_HEAVY) ≡ true → is_light (victim_for listed x) ≡ false
  heavy-victim q = ap is_light victim-read ∙ values.victim-heavy sum.victim q
