-- `popq`: what each kind of head leaves.
use Rattle.std.proofs.Common.{◌≡◌, ℕ, ◌-◌, ◌==◌, ◌&&◌, Bool, true, false, refl, sym, ap, ◌∙◌, subst, arith, List, Option, Some, None, IfSome}
use Rattle.std.specs.Prelude.{nat_lt, if◌then◌else◌}
use Rattle.std.proofs.lemmas.Bool.{and_parts}
use Rattle.bk_base.specs.Places.{Shape, group_of}
use Rattle.bk_base.specs.declared.coh.Coh.{Coh}
use Rattle.bk_isa.specs.declared.form.Form.TheVariants.{Popq}
use Rattle.bk_know.specs.declared.sets.Sets.{Sets}
use Rattle.bk_know.specs.Sets.{only, subset}
use Rattle.bk_flow.specs.Flow.{existing, pop, awake, empty_head, held_with}
use Rattle.bk_know.specs.declared.values.TheConstants.{HEAD_REQUEST, STAGE_IDLE, STAGE_HELD, STAGE_CLOSING, GP_FREE, KIND_ANY, OWN_ANY, OWNER_ANY, OTHERS_ANY, ACKS_ANY, ACKS_ZERO, SUMM_NO, MEM_WRITTEN, MEM_GOT, WB_IDLE, MEM_IDLE, DREQ_PAID, DOWN_PAID}
use Rattle.bk_check.specs.Obligations.{single_head}
use Rattle.bk_order.specs.Fits.{Fits, Leads, is_closing}
use Rattle.bk_order.proofs.Belows.{part_itself}
use Rattle.bk_order.proofs.Filled.{Filled}
use Rattle.bk_order.proofs.Leading.{leads, leads-path}
use Rattle.bk_order.proofs.Meets.{Met}
use Rattle.bk_order.proofs.Subsets.{itself}
use Rattle.bk_order.proofs.Tests.{implied}
use Rattle.bk_msg.specs.declared.row.Row.{Row}
use Rattle.bk_msg.specs.declared.row.Row.TheVariants as rows
use Rattle.bk_msg.specs.Networks.{address_of}
use Rattle.bk_dir.specs.Contents.{Contents, with_pending}
use Rattle.bk_engine.specs.declared.parts.Choice.{Choice}
use Rattle.bk_engine.specs.declared.parts.Core.{Core}
use Rattle.bk_engine.specs.declared.parts.Head.{Head}
use Rattle.bk_engine.specs.declared.parts.Held.{Held}
use Rattle.bk_engine.specs.declared.parts.RequestKind.{RequestKind}
use Rattle.bk_engine.specs.Changes.{after_pop, with_head_mark, next_place}
use Rattle.bk_engine.specs.Heads.{head_value, head_number, kind_number}
use Rattle.bk_engine.specs.Reads.{number_of, own_number, owner_number}
use Rattle.bk_system.specs.State.{State}
use Rattle.bk_system.specs.Events.{offered_head}
use Rattle.bk_machine.specs.Transactions.{Reading, NotRead, ReadAsked, Transaction, remove_one}
use Rattle.bk_machine.specs.World.{World}
use Rattle.bk_bridge.specs.Fronts.{IsFront}
use Rattle.bk_exact.specs.Told.{Told, Deferred}
use Rattle.bk_exact.specs.Exact.{exact, stage_of, gp_of}
use Rattle.bk_exact.specs.Agrees.{ServesNone}
use Rattle.bk_exact.specs.After.{head_action, transaction_after, deferred_by_head}
use Rattle.bk_exact.specs.Ties.{Tied, told_world}
use Rattle.bk_exact.proofs.Fronts.{ack-of, wb-of, null_wb-of, block-of}
use Rattle.bk_exact.proofs.Serving.{served, unserved}
use Rattle.bk_exact.proofs.Somes.{exact-filled}
use Rattle.bk_exact.proofs.Values as values
use Rattle.bk_flows.proofs.Masks.{after_mask, Goal}

-- ANY VALUE of a field is one of its set of all

any-own : (y : Coh) → subset (only (own_number y)) OWN_ANY ≡ true
any-own y = grind arith

any-owner : (y : Coh) → subset (only (owner_number y)) OWNER_ANY ≡ true
any-owner y = grind arith

any-bit : (b : Bool) → subset (only (number_of b)) OTHERS_ANY ≡ true
any-bit true = refl
any-bit false = refl

any-kind : (q : RequestKind) → subset (only (kind_number q)) KIND_ANY ≡ true
any-kind q = grind arith

-- a CohAck wakes the engine
awake-stage : (x : Option (ℕ × Transaction)) (d : Option Deferred) → stage_of x None ≡ awake (stage_of x d)
awake-stage None None = refl
awake-stage None (Some d) = refl
awake-stage (Some x) d = lem x.1.granted
  where
    lem : (b : Bool) → (if b then STAGE_CLOSING else STAGE_HELD) ≡ awake (if b then STAGE_CLOSING else STAGE_HELD)
    lem true = refl
    lem false = refl

-- a block that comes was asked for, so no word was written
unwritten : (b : Bool) (q : Reading) → (b ≡ true → q ≡ NotRead) → q ≡ ReadAsked → b ≡ false
unwritten b q g h = grind arith

-- PENDING BITS are no part of the mask where there is no head

marked-entries : (k : Shape) (d : Contents) (o : Option Head) (wp : Bool) → (if wp then with_head_mark k d o else d).entries ≡ d.entries
marked-entries k d o false = refl
marked-entries k d None true = refl
marked-entries k d (Some h) true = lem (head_number h.message == 1) (nat_lt 1 (head_number h.message) && nat_lt (head_number h.message) 6)
  where
    lem : (a b : Bool) → (if a then with_pending d (group_of k (address_of h.message)) true else if b
        then with_pending d (group_of k (address_of h.message)) false else d).entries ≡ d.entries
    lem true b = refl
    lem false true = refl
    lem false false = refl

module _ (k : Shape) (later : State) (told : Told) (tied : Tied k later told) (wp : ℕ) (picked : Choice) (message : Option Row) where
  abbrev e : Core
  e = later.engine.core

  abbrev w : World
  w = told_world k later told

  abbrev d : Contents
  d = later.engine.directory

  abbrev place : ℕ
  place = next_place k later.engine (Popq wp)

  abbrev goal : Type 0
  goal = Goal k later told picked message (Popq wp)

  -- the mask after a `popq` of this head
  abbrev popped_mask : Option Head → Sets
  popped_mask o =
      exact k (record { core = record (after_pop e o) { place = place }; directory = if wp == 1 then with_head_mark k d o else d })
      (record { transaction = transaction_after w (head_action k told.transaction o w); deferred = deferred_by_head o told.deferred })

  -- the mask before it, with this head and this transaction
  abbrev before : Option Head → Option (ℕ × Transaction) → Sets
  before o x = record (exact k later.engine (record { transaction = x; deferred = told.deferred })) {
    head = only (head_value o);
    gp = gp_of d k o;
  }

  -- the same after it, by the core that is left
  abbrev left_mask : Core → Option (ℕ × Transaction) → Option Deferred → Sets
  left_mask core x b = exact k (record { core = record core { head = None }; directory = d }) (record { transaction = x; deferred = b })

  abbrev at : Choice → Row → Head
  at choice sent = record { choice = choice; message = sent }

  -- by what was served before, and the core, the transaction and the deferred request after
  pop-to : (choice : Choice) (sent : Row) → e.head ≡ Some (at choice sent) → (x : Option (ℕ × Transaction))
      → told.transaction ≡ x
      → (core : Core) (y : Option (ℕ × Transaction)) (b : Option Deferred)
      → after_pop e (Some (at choice sent)) ≡ record core { head = None }
      → transaction_after w (head_action k told.transaction (Some (at choice sent)) w) ≡ y
      → deferred_by_head (Some (at choice sent)) told.deferred ≡ b
      → (Filled (left_mask core y b) → Leads (existing (pop (before (Some (at choice sent)) x))) (left_mask core y b)) → goal
  pop-to choice sent i x j core y b p q u h filled =
      subst (λ (mask : Sets). Leads (existing (pop mask)) (after_mask k later told picked message (Popq wp)))
      (λ z. before (sym i z) (sym j z))
      (subst (λ (sets : Sets). Leads (existing (pop (before (Some (at choice sent)) x))) sets) (sym same) (h (subst Filled same filled)))
    where
      same : after_mask k later told picked message (Popq wp) ≡ left_mask core y b
      same =
          ap popped_mask i
          ∙ (λ z. exact k (record {
            core = record (p z) { place = place };
            directory = if wp == 1 then with_head_mark k d (Some (at choice sent)) else d;
          })
          (record { transaction = q z; deferred = u z }))
          ∙ (λ z. exact k (record {
            core = record core { head = None; place = place };
            directory =
                record (if wp == 1 then with_head_mark k d (Some (at choice sent))
                else d) { entries = marked-entries k d (Some (at choice sent)) (wp == 1) z };
          }) (record { transaction = y; deferred = b }))

  -- A REQUEST is held: nothing else of it is known

  -- The held mask allows any kind, own, owner, others and victim. It has wb, mem and the debts as they are put here. That leaves summ
  -- and acks, both 0 since the engine served nothing before the take, and the flags, which stay.
  fits-taken : (h : Held) (g : ℕ) (other : Transaction) (o : Option Head) (x : Option (ℕ × Transaction)) → other.granted ≡ false
      → e.summ ≡ 0 → e.acks ≡ 0
      → Fits (record (left_mask (record e { held = Some h }) (Some (g, other)) told.deferred)
      { stage = STAGE_HELD; wb = WB_IDLE; mem = MEM_IDLE; dreq = DREQ_PAID; down = DOWN_PAID }) (held_with (before o x))
  fits-taken h g other o x sets m a = record {
    stage = refl;
    head = refl;
    gp = refl;
    kind = any-kind h.kind;
    summ = subst (λ (w : ℕ). subset (only w) SUMM_NO ≡ true) (sym m) refl;
    own = any-own _;
    owner = any-owner _;
    others = any-bit _;
    victim = any-bit _;
    acks = subst (λ (w : ℕ). subset (only (number_of (nat_lt 0 w))) ACKS_ZERO ≡ true) (sym a) refl;
    wb = refl;
    mem = refl;
    dreq = refl;
    down = refl;
    f0 = itself _;
    f1 = itself _;
    f2 = itself _;
    f3 = itself _;
  }

  -- no request is held where one is taken
  idle : (choice : Choice) (sent : Row) → e.head ≡ Some (at choice sent) → head_number sent ≡ 1
      → Met (Popq wp) (exact k later.engine told)
      → ServesNone e
  idle choice sent i j o =
      let q : (((exact k later.engine told).stage == STAGE_IDLE) && ((exact k later.engine told).gp == GP_FREE)) ≡ true
      = implied _ _ (ap (λ (w : ℕ). only w == HEAD_REQUEST) (ap head_value i ∙ j)) o.o8 in
      (unserved k e e.held told.transaction tied.agrees (values.stage-idle told.transaction told.deferred (and_parts _ _ q).0).0).0

  -- A request at the head goes to the held one, and the mask becomes that of a request just taken: the flow adds this case to the others.
  take : (choice : Choice) (sent : Row) (h : Held) (g : ℕ) (other : Transaction) → e.head ≡ Some (at choice sent)
      → head_number sent ≡ 1
      → after_pop e (Some (at choice sent)) ≡ record e { head = None; held = Some h }
      → transaction_after w (head_action k told.transaction (Some (at choice sent)) w) ≡ Some (g, other)
      → deferred_by_head (Some (at choice sent)) told.deferred ≡ told.deferred
      → existing (pop (before (Some (at choice sent)) told.transaction))
      ≡ existing (held_with (before (Some (at choice sent)) told.transaction))
      → other.granted ≡ false
      → record (left_mask (record e { held = Some h }) (Some (g, other)) told.deferred)
      { stage = STAGE_HELD; wb = WB_IDLE; mem = MEM_IDLE; dreq = DREQ_PAID; down = DOWN_PAID }
      ≡ left_mask (record e { held = Some h }) (Some (g, other)) told.deferred
      → Met (Popq wp) (exact k later.engine told) → goal
  take choice sent h g other i j p q u edge sets same o =
      let none = idle choice sent i j o in
      pop-to choice sent i told.transaction refl (record e { held = Some h }) (Some (g, other)) told.deferred p q u
      (λ filled.
      subst (λ (x : Option Sets). Leads x (left_mask (record e { held = Some h }) (Some (g, other)) told.deferred)) (sym edge)
      (leads (held_with (before (Some (at choice sent)) told.transaction))
      (left_mask (record e { held = Some h }) (Some (g, other)) told.deferred) filled
      (subst (λ (x : Sets). Fits x (held_with (before (Some (at choice sent)) told.transaction))) same
      (fits-taken h g other (Some (at choice sent)) told.transaction sets none.unread none.acks))))

  -- AN ACK is counted: there may be more

  fits-acked : (o : Option Head) (g : ℕ) (x : Transaction) (a : ℕ) (ws : List ℕ)
      → Fits (left_mask (record e { acks = a }) (Some (g, record x { waiting = ws })) told.deferred)
      (empty_head (record (before o (Some (g, x))) { acks = ACKS_ANY }))
  fits-acked o g x a ws =
      let some = exact-filled k later told tied in
      let owner = part_itself (is_closing (before o (Some (g, x)))) _ some.owner in
      let others = part_itself (is_closing (before o (Some (g, x)))) _ some.others in
      let victim = part_itself (is_closing (before o (Some (g, x)))) _ some.victim in
      let acks : subset (only (number_of (nat_lt 0 a))) ACKS_ANY ≡ true = any-bit (nat_lt 0 a) in
      search itself

  -- BY THE HEAD

  -- what an answer leaves of the transaction
  abbrev leaves : Choice → Row → Option (ℕ × Transaction) → Option (ℕ × Transaction)
  leaves core sent x = transaction_after w (head_action k x (Some (at core sent)) w)

  -- each kind of head, which stands first in its channel
  leads-pop : (choice : Choice) (sent : Row) → e.head ≡ Some (at choice sent) → offered_head later choice ≡ Some sent
      → Met (Popq wp) (exact k later.engine told) → goal
  leads-pop core (rows.Rd from to v addr) i f o = take core (rows.Rd from to v addr) _ _ _ i refl refl refl refl refl refl refl o
  leads-pop core (rows.Wr from to v addr) i f o = take core (rows.Wr from to v addr) _ _ _ i refl refl refl refl refl refl refl o
  leads-pop core (rows.UcRd from to addr) i f o = take core (rows.UcRd from to addr) _ _ _ i refl refl refl refl refl refl refl o
  leads-pop core (rows.UcWr from to addr word) i f o = take core (rows.UcWr from to addr word) _ _ _ i refl refl refl refl refl refl refl o
  leads-pop core (rows.Evict from to v addr) i f o = take core (rows.Evict from to v addr) _ _ _ i refl refl refl refl refl refl refl o
  leads-pop core (rows.InvAck from to addr) i f o =
      let y = ack-of k later told tied core from to addr f in
      pop-to core (rows.InvAck from to addr) i (Some (group_of k addr, y.transaction)) y.is (record e { acks = e.acks - 1 }) _
      told.deferred refl
      (ap (leaves core (rows.InvAck from to addr)) y.is) refl
      (λ filled. leads _ _ filled (fits-acked (Some (at core (rows.InvAck from to addr))) (group_of k addr) y.transaction (e.acks - 1)
      (remove_one core.source y.transaction.waiting)))
  leads-pop core (rows.CohAck from to addr) i f o =
      pop-to core (rows.CohAck from to addr) i told.transaction refl e told.transaction None refl refl refl
      (leads-path _ _ (ap (λ (v : ℕ). record (left_mask e told.transaction None) { stage = v })
      (awake-stage told.transaction told.deferred)))
  leads-pop core (rows.Wb from to addr words) i f o =
      let y = wb-of k later told tied core from to addr words f in
      pop-to core (rows.Wb from to addr words) i (Some (group_of k addr, y.transaction)) y.is
      (record e { dirty = Some (record { addr = addr; words = words }) }) _
      told.deferred refl (ap (leaves core (rows.Wb from to addr words)) y.is) refl (leads-path _ _ refl)
  leads-pop core (rows.NullWb from to addr) i f o =
      let y = null_wb-of k later told tied core from to addr f in
      pop-to core (rows.NullWb from to addr) i (Some (group_of k addr, y.transaction)) y.is e _ told.deferred refl
      (ap (leaves core (rows.NullWb from to addr)) y.is) refl (leads-path _ _ refl)
  leads-pop core (rows.Block from to addr words) i f o =
      let y = block-of k later told tied core from to addr words f in
      let sv = (served k e e.held told.transaction (group_of k addr, y.transaction) tied.agrees y.is).2 in
      pop-to core (rows.Block from to addr words) i (Some (group_of k addr, y.transaction)) y.is (record e { got = Some words }) _
      told.deferred refl
      (ap (leaves core (rows.Block from to addr words)) y.is) refl
      (leads-path _ _
      (ap (λ (v : Bool). record (before None (Some (group_of k addr, y.transaction))) { mem = if v then MEM_WRITTEN else MEM_GOT })
      (unwritten y.transaction.written y.transaction.reading sv.written y.so)))
  leads-pop core sent i f o = absurd (lem sent (subst (λ (h : Option Head). single_head (only (head_value h)) ≡ true) i o.o7))
    where
      lem : (q : Row) → single_head (only (head_number sent)) ≡ true → ⊥
      lem q e = cc

  pub leads-popq : (o : Option Head) → e.head ≡ o → IfSome o (IsFront k later) → Met (Popq wp) (exact k later.engine told) → goal
  leads-popq None i f o = absurd (lem (subst (λ (h : Option Head). single_head (only (head_value h)) ≡ true) i o.o7))
    where
      lem : single_head (only (head_value None)) ≡ true → ⊥
      lem e = cc
  leads-popq (Some head) i f o = leads-pop head.choice head.message i f.first o
