-- What the engine's own reads of the directory say at each phase.
use Rattle.std.proofs.Common.{◌≡◌, ℕ, ◌≢◌, ◌⊎◌, inl, inr, Bool, true, false, ◌&&◌, refl, arith, sym, ◌∙◌, subst, ap, true≢false}
use Rattle.std.specs.Prelude.{Option, Some, None, if◌then◌else◌, ◌==◌}
use Rattle.std.proofs.lemmas.Bool.Decides.{nat_tests}
use Rattle.bk_base.specs.Places.{Shape}
use Rattle.bk_base.specs.declared.coh.Coh.{Coh}
use Rattle.bk_base.specs.declared.coh.Coh.TheVariants.{I}
use Rattle.bk_base.specs.States.{is_writable, is_owner_like, covers}
use Rattle.bk_machine.specs.Entries.{Entry, Holds, is_light}
use Rattle.bk_machine.specs.Messages.{Op, Load, Store, UcLoad, UcStore, Evict, Rd, Wr, op_tag, request_of, request_tag}
use Rattle.bk_machine.specs.Transactions.{InProgress, Transaction, Debt, with_debt_paid, paid_directory}
use Rattle.bk_machine.specs.Directory.{found_way, state_at, owner, owner_way}
use Rattle.bk_machine.specs.World.{World, view}
use Rattle.bk_machine.specs.Actions.{own_for, own_way_for, owner_for, OwnerAt}
use Rattle.bk_machine.specs.Phases.{Flush, NoFlush, FlushSent, FlushDone, Ack, Phase, Open, inv_effect, flush_effect}
use Rattle.bk_machine.specs.Copies.{Copies, FlushAims, OneWay}
use Rattle.bk_machine.specs.Invariant.{WaitingCopies, Taker, Invariant, Recorded, RequesterOwes, OwnerOwes}
use Rattle.bk_machine.specs.Readings.{OpenReadings, DebtReadings, Readings}
use Rattle.bk_machine.proofs.Summary.{found, owner-none, owner-some}
use Rattle.bk_machine.proofs.DirectoryReads.{Readable, owner-at, owner-only, nobody}
use Rattle.bk_machine.proofs.Opened.{AtOpen, opened, readable, record_of, now, copies-here, open-held}

-- the effects of what is under way keep an entry's tag, and make no entry writable
flush-tag : (fl : Flush) (c w : ℕ) (h : Entry) → (flush_effect fl c w h).tag ≡ h.tag
flush-tag fl c w h = grind (arith, nat_tests)

inv-tag : (t : ℕ) (a : Ack) (h : Entry) → (inv_effect t a h).tag ≡ h.tag
inv-tag t a h = grind (arith, nat_tests)

flush-write : (fl : Flush) (c v : ℕ) (h : ℕ → ℕ → Entry) → FlushAims fl h → is_writable (h c v).state ≡ false
    → is_writable (flush_effect fl c v (h c v)).state ≡ false
flush-write NoFlush c v h a e = e
flush-write (FlushSent o w t x) c v h a e = lem a.1 e
  where
    lem : is_light x ≡ true → is_writable (h c v).state ≡ false
        → is_writable (flush_effect (FlushSent o w t x) c v (h c v)).state ≡ false
    lem l e = grind (arith, nat_tests)
flush-write (FlushDone o t ws) c v h a e = e

inv-write : (t : ℕ) (a : Ack) (h : Entry) → is_writable h.state ≡ false → is_writable (inv_effect t a h).state ≡ false
inv-write t a h e = grind (arith, nat_tests)

covered-write : (state y : Coh) → covers state y ≡ true → is_writable y ≡ false → is_writable state ≡ false
covered-write state y e f = grind arith

-- an entry of the directory at an open phase is a copy of the cache's, and no more writable
module _ (r : ℕ) (b : InProgress) (fl : Flush) (inv : ℕ → Ack) (d h : ℕ → ℕ
    → Entry) (copies : Copies (Open r b fl inv) d h) where
  open-copy : (c w t : ℕ) → Holds (d c w) t → Holds (h c w) t
  open-copy c w t k = record {
    is_valid = open-held r b fl inv d h copies c w t k;
    is_tag =
        sym (inv-tag (op_tag b.op) (inv c) (flush_effect fl c w (h c w)) ∙ flush-tag fl c w (h c w))
        ∙ sym ((copies.matches c w).same_tag k.is_valid) ∙ k.is_tag;
  }

  open-write : (c w : ℕ) → is_writable (h c w).state ≡ false → is_writable (d c w).state ≡ false
  open-write c w e =
      covered-write (d c w).state _ (copies.matches c w).covered
      (inv-write (op_tag b.op) (inv c) (flush_effect fl c w (h c w)) (flush-write fl c w h copies.standing.0 e))

-- the request's operation
rd-placed : (op : Op) (w t v : ℕ) (h : ℕ → Entry) → request_of op w ≡ Rd t v → WaitingCopies op w h → (i : ℕ)
    → Holds (h i) t → ⊥
rd-placed (Load u spot) w t v h e p i l = p i (subst (λ (j : ℕ). Holds (h i) j) (sym (same e)) l)
  where
    same : Rd u w ≡ Rd t v → u ≡ t
    same e = cc
rd-placed (Store u k change) w t v h e p i l = absurd (cc e)
rd-placed (UcLoad u spot) w t v h e p i l = absurd (cc e)
rd-placed (UcStore u k change) w t v h e p i l = absurd (cc e)
rd-placed (Evict u) w t v h e p i l = absurd (cc e)

-- Only a Store makes a Wr, and it names the one way at which the Store may have a copy.
wr-placed : (op : Op) (w t v : ℕ) (h : ℕ → Entry) → request_of op w ≡ Wr t v → WaitingCopies op w h → (i : ℕ)
    → Holds (h i) t
    → (i ≡ v) × (is_writable (h i).state ≡ false)
wr-placed (Store u k change) w t v h e p i l = (
  (p i (subst (λ (j : ℕ). Holds (h i) j) (sym (tag e)) l)).0 ∙ way e,
  (p i (subst (λ (j : ℕ). Holds (h i) j) (sym (tag e)) l)).1,
)
  where
    tag : Wr u w ≡ Wr t v → u ≡ t
    tag e = cc

    way : Wr u w ≡ Wr t v → w ≡ v
    way e = cc
wr-placed (Load u spot) w t v h e p i l = absurd (cc e)
wr-placed (UcLoad u spot) w t v h e p i l = absurd (cc e)
wr-placed (UcStore u k change) w t v h e p i l = absurd (cc e)
wr-placed (Evict u) w t v h e p i l = absurd (cc e)

module _ (k : Shape) (world : World) (inv : Invariant k world) (group : ℕ) (x : Transaction) (is : world.transaction
    ≡ Some (group, x)) where
  module _ (g : x.granted ≡ false) where
    o : AtOpen (inv.groups group).0 x
    o = opened k world inv group x is g

    copies : Copies (Open o.cache o.busy o.flush o.acks) (world.directory group) (world.entries group)
    copies = subst (λ (p : Phase). Copies p (world.directory group) (world.entries group)) o.is (copies-here k world inv group x is g)

    taker : (view group world).busy o.cache ≡ Some o.busy
    taker = subst (λ (p : Phase). Taker p (view group world).busy) o.is (inv.groups group).1.taker

    placed : WaitingCopies o.busy.op o.busy.way (world.entries group x.cache)
    placed = subst (λ (c : ℕ). WaitingCopies o.busy.op o.busy.way (world.entries group c)) (sym o.at.is_cache)
        ((inv.groups group).1.placed o.cache o.busy taker)

    copy : (c w t : ℕ) → Holds (world.directory group c w) t → Holds (world.entries group c w) t
    copy = open-copy o.cache o.busy o.flush o.acks (world.directory group) (world.entries group) copies

    good : Readable k (world.directory group)
    good = readable k world inv group x is g

    rd-own : (t w : ℕ) → x.request ≡ Rd t w → own_for k (world.directory group) x ≡ I
    rd-own t w debt = lem (own_way_for k (world.directory group) x) refl
      where
        lem : (q : Option ℕ) → found_way k.ways (world.directory group x.cache) (request_tag x.request) ≡ q
            → state_at (world.directory group x.cache) q ≡ I
        lem None f = refl
        lem (Some u) f = absurd (rd-placed o.busy.op o.busy.way t w (world.entries group x.cache) (sym o.at.is_request ∙ debt) placed u
            (subst (λ (i : ℕ). Holds (world.entries group x.cache u) i) (ap request_tag debt)
            (copy x.cache u (request_tag x.request) (found k.ways (world.directory group x.cache) (request_tag x.request) u f).1)))

    wr-own : (t w : ℕ) → x.request ≡ Wr t w
        → (own_for k (world.directory group) x ≡ I)
        ⊎ ((own_way_for k (world.directory group) x ≡ Some w) × (is_writable (own_for k (world.directory group) x) ≡ false))
    wr-own t w debt = lem (own_way_for k (world.directory group) x) refl
      where
        lem : (q : Option ℕ) → found_way k.ways (world.directory group x.cache) (request_tag x.request) ≡ q
            → (state_at (world.directory group x.cache) q ≡ I)
            ⊎ ((q ≡ Some w) × (is_writable (state_at (world.directory group x.cache) q) ≡ false))
        lem None f = inl refl
        lem (Some u) f =
            let p : (u ≡ w) × (is_writable (world.entries group x.cache u).state ≡ false) =
            wr-placed o.busy.op o.busy.way t w (world.entries group x.cache) (sym o.at.is_request ∙ debt) placed u
            (subst (λ (i : ℕ). Holds (world.entries group x.cache u) i) (ap request_tag debt)
            (copy x.cache u (request_tag x.request) (found k.ways (world.directory group x.cache) (request_tag x.request) u f).1)) in
            inr (ap Some p.0, open-write o.cache o.busy o.flush o.acks (world.directory group) (world.entries group) copies x.cache u p.1)

    pub open_readings : OpenReadings k group x world
    open_readings = record {
      rd = rd-own;
      wr = wr-own;
      owner =
          λ o w a c u n h l. owner-only k (world.directory group) good x.cache (request_tag x.request) o w
          (owner-at k (world.directory group) good x.cache (request_tag x.request) o w a.is_owner a.is_way) c u h l;
      nobody = nobody k (world.directory group) good x.cache (request_tag x.request);
    }

  recorded : Recorded k x (world.directory group)
  recorded = record_of k world inv group x is

  paid-way : OneWay (paid_directory (Some x) (world.directory group))
  paid-way = subst (λ (o : Option Transaction). OneWay (paid_directory o (world.directory group))) (now k world inv group x is)
      (inv.groups group).1.copies.one_way

  -- an entry of the requester at another way than that of its debt is the same once the debts are paid
  pay-owner : (o : Option Debt) (w : ℕ) → ((debt : Debt) → o ≡ Some debt → debt.cache ≢ x.cache)
      → with_debt_paid o (world.directory group) x.cache w ≡ world.directory group x.cache w
  pay-owner None w f = refl
  pay-owner (Some debt) w f = lem (f debt refl)
    where
      lem : debt.cache ≢ x.cache → (if x.cache == debt.cache && w == debt.way then debt.entry else world.directory group x.cache w)
          ≡ world.directory group x.cache w
      lem n = grind (arith, nat_tests)

  -- An entry at another way stays when the debts are paid, and the block would then be in two ways of the requester.
  own-owes : (debt : Debt) → x.requester_debt ≡ Some debt → (w : ℕ)
      → Holds (world.directory group x.cache w) (request_tag x.request)
      → w ≡ debt.way
  own-owes debt f w h = decide (w == debt.way) refl
    where
      r : RequesterOwes x.cache x.request debt
      r = recorded.requester debt f

      is-way : (w == debt.way) ≡ true → w ≡ debt.way
      is-way g = grind (arith, nat_tests)

      paid-is : (w : ℕ) → paid_directory (Some x) (world.directory group) x.cache w
          ≡ (if x.cache == debt.cache && w == debt.way then debt.entry else world.directory group x.cache w)
      paid-is w = ap (λ (a : Option Debt). with_debt_paid a (with_debt_paid x.owner_debt (world.directory group)) x.cache w) f
          ∙ ap (λ (h : Entry). if x.cache == debt.cache && w == debt.way then debt.entry
          else h) (pay-owner x.owner_debt w (λ d g. (recorded.owner d g).other))

      at-debt : (h : Entry) → (if x.cache == debt.cache && debt.way == debt.way then debt.entry else h) ≡ debt.entry
      at-debt h = lem r.at_cache
        where
          lem : debt.cache ≡ x.cache → (if x.cache == debt.cache && debt.way == debt.way then debt.entry else h) ≡ debt.entry
          lem q = grind (arith, nat_tests)

      elsewhere : (h : Entry) → (w == debt.way) ≡ false → (if x.cache == debt.cache && w == debt.way then debt.entry else h) ≡ h
      elsewhere h g = lem (x.cache == debt.cache) (w == debt.way) g
        where
          lem : (a b : Bool) → b ≡ false → (if a && b then debt.entry else h) ≡ h
          lem a b g = grind arith

      decide : (b : Bool) → (w == debt.way) ≡ b → w ≡ debt.way
      decide true g = is-way g
      decide false g = paid-way (request_tag x.request) x.cache w debt.way
          (subst (λ (h : Entry). Holds h (request_tag x.request)) (sym (paid-is w ∙ elsewhere (world.directory group x.cache w) g)) h)
          (subst (λ (h : Entry). Holds h (request_tag x.request))
          (sym (paid-is debt.way ∙ at-debt (world.directory group x.cache debt.way))) r.holds)

  owner-owes : (debt : Debt) → x.owner_debt ≡ Some debt → OwnerAt k (world.directory group) x debt.cache debt.way
  owner-owes debt f = lem (owner_for k (world.directory group) x) refl
    where
      r : OwnerOwes k x.cache x.request (world.directory group) debt
      r = recorded.owner debt f

      lem : (q : Option ℕ) → owner k.caches k.ways (world.directory group) x.cache (request_tag x.request) ≡ q
          → OwnerAt k (world.directory group) x debt.cache debt.way
      lem None g =
          absurd (true≢false (sym r.owner_like
          ∙ owner-none k.caches k.ways (world.directory group) x.cache (request_tag x.request) g debt.cache debt.way r.range.cache
          r.range.way r.other r.holds))
      lem (Some c) g = at (owner-some k.caches k.ways (world.directory group) x.cache (request_tag x.request) c g)
        where
          at : (c ≢ x.cache) × ((u : ℕ) × (owner_way k.ways (world.directory group) (request_tag x.request) c ≡ Some u)
              × (Holds (world.directory group c u) (request_tag x.request)) × (is_owner_like (world.directory group c u).state ≡ true))
              → OwnerAt k (world.directory group) x debt.cache debt.way
          at (n, (u, h, i, l)) =
              let p : (c ≡ debt.cache) × (u ≡ debt.way) = r.only c u n i l in
              record {
                is_owner = g ∙ ap Some p.0;
                is_way = subst (λ (j : ℕ). owner_way k.ways (world.directory group) (request_tag x.request) j ≡ Some debt.way) p.0 (h
                    ∙ ap Some p.1);
              }

  pub debt_readings : DebtReadings k group x world
  debt_readings = record { own = own-owes; owner = owner-owes }

pub readings : (k : Shape) (world : World) → Invariant k world → Readings k world
readings k world inv = record {
  while_open = λ s x is g. open_readings k world inv s x is g;
  while_owing = λ s x is. debt_readings k world inv s x is;
}
