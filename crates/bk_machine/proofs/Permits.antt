-- A permitted action meets what the law needs of it.
use Rattle.std.proofs.Common.{◌≡◌, ℕ, ◌≢◌, ◌⊎◌, inl, inr, Bool, true, false, refl, arith, List, sym, ◌∙◌, subst, ap, ◌==◌}
use Rattle.bk_base.specs.Places.{Shape}
use Rattle.bk_base.specs.declared.coh.Coh.{Coh}
use Rattle.bk_base.specs.declared.coh.Coh.TheVariants.{I, S, F, O}
use Rattle.bk_base.specs.States.{is_readable, is_owner_like}
use Rattle.bk_machine.specs.Entries.{Holds, is_light}
use Rattle.bk_machine.specs.Messages.{Request, request_tag, request_way, request_suits, asks_block, asks_read}
use Rattle.bk_machine.specs.Transactions.{Transaction, Reading, NotRead, is_asked}
use Rattle.bk_machine.specs.Directory.{victim}
use Rattle.bk_machine.specs.World.{World}
use Rattle.bk_machine.specs.Actions.{Action, Takes, Settles, CollectsAck, CollectsAnswer, CollectsBlock, Invalidates, FlushesVictim, FlushesOwn, FlushesOwner, WritesBack, ReadsMemory, WritesWord, GrantsByBlock, GrantsByWake, GrantsByTransfer, AnswersWord, AnswersStore, AnswersEvict, PaysRequester, PaysOwner, Finishes, Idles, Permitted, Ungranted, FlushState, OwnerAt, may_pair, victim_for}
use Rattle.bk_machine.specs.Invariant.{Invariant}
use Rattle.bk_machine.proofs.Allowed.{Allowed, VictimLight}
use Rattle.bk_machine.proofs.Summary.{found}
use Rattle.bk_machine.proofs.DirectoryReads.{Readable, OwnerIs, owner-at, owner-state-at, own-none, own-light, own-found, others-light, nobody, owner-alone, block-fits, recipients, victim-light, victim-heavy, same-eq, differ-eq}
use Rattle.bk_machine.proofs.Opened.{opened, readable, granted, record_of}

flush-light : (y : Coh) → FlushState y → is_light y ≡ true
flush-light y (inl e) = subst (λ (state : Coh). is_light state ≡ true) (sym e) refl
flush-light y (inr e) = subst (λ (state : Coh). is_light state ≡ true) (sym e) refl

flush-weaker : (y : Coh) → FlushState y → is_owner_like y ≡ false
flush-weaker y (inl e) = subst (λ (state : Coh). is_owner_like state ≡ false) (sym e) refl
flush-weaker y (inr e) = subst (λ (state : Coh). is_owner_like state ≡ false) (sym e) refl

suits-block : (q : Request) (y : Coh) → request_suits q y ≡ true → (asks_block q ≡ true) × (is_readable y ≡ true)
suits-block q y e = grind arith

no-read : (x : Reading) → x ≡ NotRead → is_asked x ≡ false
no-read x e = ap is_asked e

-- own in S, F or O is no I
own-valid : (state : Coh) → (state ≡ S) ⊎ ((state ≡ F) ⊎ (state ≡ O)) → state ≢ I
own-valid state (inl e) f = absurd (cc (sym e ∙ f))
own-valid state (inr (inl e)) f = absurd (cc (sym e ∙ f))
own-valid state (inr (inr e)) f = absurd (cc (sym e ∙ f))

module _ (k : Shape) (group : ℕ) (world : World) (inv : Invariant k world) where
  module _ (x : Transaction) (u : Ungranted group x world) where
    seen : Readable k (world.directory group)
    seen = readable k world inv group x u.is u.ungranted

    unread : asks_read x.request ≡ false → is_asked x.reading ≡ false
    unread e = no-read x.reading ((record_of k world inv group x u.is).unread e)

    at-owner : (o w : ℕ) → OwnerAt k (world.directory group) x o w
        → OwnerIs k (world.directory group) seen x.cache (request_tag x.request) o w
    at-owner o w a = owner-at k (world.directory group) seen x.cache (request_tag x.request) o w a.is_owner a.is_way

    victim-drops : asks_block x.request ≡ true → is_light (victim_for (world.directory group) x) ≡ true
        → VictimLight x (world.directory group)
    victim-drops a l = victim-light k (world.directory group) seen x.cache (request_tag x.request) (request_way x.request)
        (subst (λ (p : Bool).
        is_light (victim p (world.directory group) x.cache (request_tag x.request) (request_way x.request)) ≡ true) a l)

  -- Each condition of the engine's table, read in the directory as it is, gives what the law asks of the action.
  pub permitted_allowed : (a : Action) → Permitted k group a world → Allowed group a world
  permitted_allowed (Takes c q rest) p = (p.0, p.2, p.1)
  permitted_allowed (Settles c t rest) p = p
  permitted_allowed (CollectsAck c t rest x) p = (p.0, p.1)
  permitted_allowed (CollectsAnswer c t ws rest x) p = (p.0, p.1)
  permitted_allowed (CollectsBlock t ws rest x) p = (p.0, p.2, p.1)
  permitted_allowed (Invalidates f to x) p =
      let r = recipients k (world.directory group) (seen x p.0) x.cache (request_tag x.request) f p.2 in
      let e = sym p.1 in
      subst (λ (ts : List ℕ). Allowed group (Invalidates f ts x) world) e (p.0, r.not_own, r.once, r.has, r.light)
  permitted_allowed (FlushesVictim x) p = record {
    ungranted = p.0;
    idle = p.1;
    aims = victim-heavy k (world.directory group) (seen x p.0) x.cache (request_tag x.request) (asks_block x.request)
        (request_way x.request) p.2;
    light = refl;
    weaker = refl;
    own = inr refl;
  }
  permitted_allowed (FlushesOwn w y x) p = record {
    ungranted = p.0;
    idle = p.1;
    aims = (found k.ways (world.directory group x.cache) (request_tag x.request) w p.2).1;
    light = flush-light y p.3;
    weaker = flush-weaker y p.3;
    own = inl refl;
  }
  permitted_allowed (FlushesOwner o w y x) p = record {
    ungranted = p.0;
    idle = p.1;
    aims = (at-owner x p.0 o w p.2).holds;
    light = flush-light y p.3;
    weaker = flush-weaker y p.3;
    own = inl refl;
  }
  permitted_allowed (WritesBack b x) p = (record { is = p.0; ungranted = kept x.granted refl }, p.1)
    where
      kept : (test : Bool) → x.granted ≡ test → x.granted ≡ false
      kept true e = absurd (cc (sym (granted k world inv group x p.0 e).no_flush ∙ p.1))
      kept false e = e
  permitted_allowed (ReadsMemory x) p = (p.0, p.3, p.2, p.1, λ c w h. light c w h)
    where
      light : (c w : ℕ) → Holds (world.directory group c w) (request_tag x.request)
          → is_light (world.directory group c w).state ≡ true
      light c w h = decide (c == x.cache) refl
        where
          decide : (b : Bool) → (c == x.cache) ≡ b → is_light (world.directory group c w).state ≡ true
          decide true e = subst (λ (i : ℕ). is_light (world.directory group i w).state ≡ true) (same-eq c x.cache e)
              (own-light k (world.directory group) (seen x p.0) x.cache (request_tag x.request) p.5 w
              (subst (λ (i : ℕ). Holds (world.directory group i w) (request_tag x.request)) (sym (same-eq c x.cache e)) h))
          decide false e = others-light k (world.directory group) (seen x p.0) x.cache (request_tag x.request) p.4 c w
              (differ-eq c x.cache e) h
  permitted_allowed (WritesWord t i n x) p = (p.0, p.1, p.2, p.6, λ c w h. none c w h)
    where
      none : (c w : ℕ) → Holds (world.directory group c w) t → ⊥
      none c w h = decide (c == x.cache) refl
        where
          tag : t ≡ request_tag x.request
          tag = sym (ap request_tag p.1)

          decide : (b : Bool) → (c == x.cache) ≡ b → ⊥
          decide true e = own-none k (world.directory group) (seen x p.0.ungranted) x.cache (request_tag x.request) p.3 w
              (subst (λ (i : ℕ). Holds (world.directory group i w) (request_tag x.request)) (sym (same-eq c x.cache e))
              (subst (λ (u : ℕ). Holds (world.directory group c w) u) tag h))
          decide false e = nobody k (world.directory group) (seen x p.0.ungranted) x.cache (request_tag x.request) p.4 p.5 c w
              (differ-eq c x.cache e)
              (subst (λ (u : ℕ). Holds (world.directory group c w) u) tag h)
  permitted_allowed (GrantsByBlock ws y x) p =
      let q = suits-block x.request y p.3 in (
        p.0,
        p.1,
        q.0,
        p.3,
        q.1,
        victim-drops x p.0.ungranted q.0 p.2,
        block-fits k (world.directory group) (seen x p.0.ungranted) x.cache (request_tag x.request) y p.4,
      )
  permitted_allowed (GrantsByWake t w x) p =
      let tag : request_tag x.request ≡ t = ap request_tag p.1 in
      let own = own-found k (world.directory group) (seen x p.0.ungranted) x.cache (request_tag x.request) (own-valid _ p.3) in (
        p.0,
        p.1,
        p.2,
        (own.0, subst (λ (u : ℕ). Holds (world.directory group x.cache own.0) u) tag own.1),
        λ c i n h. nobody k (world.directory group) (seen x p.0.ungranted) x.cache (request_tag x.request) p.4 p.5 c i n
            (subst (λ (u : ℕ). Holds (world.directory group c i) u) (sym tag) h),
      )
  permitted_allowed (GrantsByTransfer o w y z x) p =
      let q = suits-block x.request z p.5 in
      let a = at-owner x p.0.ungranted o w p.3 in (
        p.0,
        p.1,
        q.0,
        p.5,
        victim-drops x p.0.ungranted q.0 p.2,
        a.other,
        a.holds,
        a.owner_like,
        subst (λ (i : Coh). may_pair i y z ≡ true)
            (owner-state-at k (world.directory group) (seen x p.0.ungranted) x.cache (request_tag x.request) o w p.3.is_owner
            p.3.is_way) p.4,
        λ e c i n m h. owner-alone k (world.directory group) (seen x p.0.ungranted) x.cache (request_tag x.request) o w a
            (p.6 e) c i n m h,
      )
  permitted_allowed (AnswersWord t i ws x) p = p
  permitted_allowed (AnswersStore t i n x) p = (p.0, p.1, p.2, unread x p.0.ungranted (ap asks_read p.1))
  permitted_allowed (AnswersEvict t w x) p = (p.0, p.1, unread x p.0.ungranted (ap asks_read p.1))
  permitted_allowed (PaysRequester d x) p = (record { is = p.0; granted = owes x.granted refl }, p.1)
    where
      owes : (test : Bool) → x.granted ≡ test → x.granted ≡ true
      owes true e = e
      owes false e = absurd (cc (sym (opened k world inv group x p.0 e).at.no_requester_debt ∙ p.1))
  permitted_allowed (PaysOwner d x) p = (record { is = p.0; granted = owes x.granted refl }, p.1)
    where
      owes : (test : Bool) → x.granted ≡ test → x.granted ≡ true
      owes true e = e
      owes false e = absurd (cc (sym (opened k world inv group x p.0 e).at.no_owner_debt ∙ p.1))
  permitted_allowed (Finishes x) p = p
  permitted_allowed Idles p = tt
