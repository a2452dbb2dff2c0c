-- A `popq` that runs: each head that it takes is counted, and was had at the `wfq`. So each instruction counts.
use Rattle.std.proofs.Common.{◌≡◌, ℕ, ◌+◌, ◌≤◌, Bool, true, false, refl, sym, ap, ◌∙◌, subst, arith, List, Option, Some, None, slice_get}
use Rattle.std.specs.Prelude.{if◌then◌else◌}
use Rattle.bk_base.specs.Places.{Shape, InProfile}
use Rattle.bk_isa.specs.declared.form.Form.{Form}
use Rattle.bk_isa.specs.declared.form.Form.TheVariants as forms
use Rattle.bk_isa.specs.Words.{IsInRange}
use Rattle.bk_know.specs.declared.sets.Sets.{Sets}
use Rattle.bk_know.specs.declared.values.TheConstants.{STAGE_HELD, STAGE_CLOSING, WB_ASKED, MEM_ASKED}
use Rattle.bk_know.specs.Sets.{only}
use Rattle.bk_flow.specs.Flow.{pop}
use Rattle.bk_check.specs.Accepted.{is_wait}
use Rattle.bk_check.specs.Obligations.{single_head, unmet_here}
use Rattle.bk_order.specs.Fits.{Leads}
use Rattle.bk_order.proofs.Flows.{existing-is}
use Rattle.bk_order.proofs.Meets.{Met, met}
use Rattle.bk_msg.specs.declared.row.Row.{Row}
use Rattle.bk_engine.specs.declared.heads.TheConstants.{HEAD_REQUEST, HEAD_INV_ACK, HEAD_COH_ACK, HEAD_WB, HEAD_NULL_WB, HEAD_BLOCK}
use Rattle.bk_engine.specs.declared.parts.Choice.{Choice}
use Rattle.bk_engine.specs.declared.parts.Core.{Core}
use Rattle.bk_engine.specs.declared.parts.Head.{Head}
use Rattle.bk_engine.specs.declared.parts.Held.{Held}
use Rattle.bk_engine.specs.Changes.{after_take, after_pop}
use Rattle.bk_engine.specs.Heads.{head_number, head_value, request_of}
use Rattle.bk_system.specs.declared.event.Event.TheVariants as events
use Rattle.bk_system.specs.State.{State}
use Rattle.bk_system.specs.Events.{can_run}
use Rattle.bk_system.specs.Runs.{after}
use Rattle.bk_machine.specs.Transactions.{Transaction, WriteBack, Reading, NotRead, ReadAsked}
use Rattle.bk_machine.specs.World.{World}
use Rattle.bk_exact.specs.Told.{Told, Deferred}
use Rattle.bk_exact.specs.Exact.{exact, stage_of, wb_of, mem_of}
use Rattle.bk_exact.specs.After.{told_after, head_action, deferred_popped, deferred_by_head}
use Rattle.bk_exact.specs.Runs.{IsAction}
use Rattle.bk_exact.specs.Ties.{Tied, told_world}
use Rattle.bk_exact.proofs.Serving.{served}
use Rattle.bk_flows.specs.Flows.{edge_of}
use Rattle.bk_bound.proofs.Counted.{number_in}
use Rattle.bk_bound.proofs.Due.{heads_due, messages_due, fits-due}
use Rattle.bk_bound.proofs.DuePopped.{Popped, OneStage, Unheld, IsHeld, pop-ack, pop-settles, pop-write, pop-null, pop-block, pop-request}
use Rattle.bk_bound.proofs.Instructions.{one-at-most}
use Rattle.bk_bound.proofs.InstructionCounts.{Counts, acted, heads-fall, messages-fall, head-is, quiet-counts}
use Rattle.bk_bound.proofs.Pops.{Awaits, AnswerAsked, BlockAsked, PopOf, OfRequest, OfAck, OfSettle, OfWrite, OfNull, OfBlock, pop-of}
use Rattle.bk_bound.proofs.WorldCounts.{heads_of, heads_taken, messages_of, messages_sent, messages_taken}

took-head : (core : Core) (o : Option Held) (m : Row) → (after_take core o m).head ≡ core.head
took-head core (Some held) m = refl
took-head core None m = grind arith

-- a head that was popped is looked at no more
popped-none : (core : Core) (head : Head) → (after_pop core (Some head)).head ≡ None
popped-none core head = took-head (record core { head = None }) (request_of head.choice.source head.message) head.message

-- THE EXACT MASK where an answer is awaited

one-stage : (x : Option (ℕ × Transaction)) (d : Option Deferred) → OneStage (stage_of x d)
one-stage None None = Unheld refl refl
one-stage None (Some d) = Unheld refl refl
one-stage (Some x) d = go x.1.granted
  where
    go : (b : Bool) → OneStage (if b then STAGE_CLOSING else STAGE_HELD)
    go true = Unheld refl refl
    go false = IsHeld refl

not-written : (x : Transaction) → (x.written ≡ true → x.reading ≡ NotRead) → x.reading ≡ ReadAsked → x.written ≡ false
not-written x unread asked = go x.written refl
  where
    clash : x.reading ≡ NotRead → x.reading ≡ ReadAsked → ⊥
    clash p q = let e : NotRead ≡ ReadAsked = sym p ∙ q in cc

    go : (b : Bool) → x.written ≡ b → x.written ≡ false
    go true i = absurd (clash (unread i) asked)
    go false i = i

module _ (k : Shape) (program : List Form) (s : State) (told : Told) (choice : Choice) (wp : ℕ) (profile : InProfile k)
    (tied : Tied k s told) (range : IsInRange (forms.Popq wp)) (here : slice_get program s.engine.core.place ≡ Some (forms.Popq wp))
    (can : can_run k program s choice ≡ true) (unmet : unmet_here (forms.Popq wp) (exact k s.engine told) ≡ None)
    (head : Head) (is : s.engine.core.head ≡ Some head) where
  abbrev core : Core
  core = s.engine.core

  abbrev world : World
  world = told_world k s told

  abbrev later : State
  later = after k program s (events.Engine choice)

  abbrev next : Told
  next = told_after k core world (forms.Popq wp) told

  abbrev e : Sets
  e = exact k s.engine told

  abbrev e_later : Sets
  e_later = exact k later.engine next

  abbrev act : IsAction k program s told choice (forms.Popq wp)
  act = acted k program s told choice (forms.Popq wp) profile tied range here can unmet

  obliged : Met (forms.Popq wp) e
  obliged = met (forms.Popq wp) e unmet

  kind : PopOf world head.message act.acts.action
  kind =
      pop-of k told.transaction head.choice.source head.message world (act.acts.group, act.acts.action)
      (subst (λ (o : Option Head). single_head (only (head_value o)) ≡ true) is obliged.o7)
      (ap (λ (o : Option Head). head_action k told.transaction o world) (sym is) ∙ act.acts.is) act.acts.permitted

  no-head : number_in later.engine.core.head ≡ 0
  no-head =
      head-is k program s told choice (forms.Popq wp) profile tied range here can unmet None
      (ap (λ (o : Option Head). (after_pop core o).head) is ∙ popped-none core head)

  one-head : number_in core.head ≡ 1
  one-head = ap (λ (o : Option Head). number_in o) is

  deferred-is : next.deferred ≡ deferred_popped head.message told.deferred
  deferred-is = ap (λ (o : Option Head). deferred_by_head o told.deferred) is

  head-field : (h : ℕ) → head_number head.message ≡ h → e.head ≡ only h
  head-field h i = ap (λ (o : Option Head). only (head_value o)) is ∙ ap only i

  -- THE FIELDS of an answer that is awaited
  awaited-held : (P : Transaction → Type 0) → Awaits world P → e.stage ≡ STAGE_HELD
  awaited-held P a =
      ap (λ (x : Option (ℕ × Transaction)). stage_of x told.deferred) a.is
      ∙ ap (λ (b : Bool). if b then STAGE_CLOSING else STAGE_HELD) a.ungranted

  awaited-wb : Awaits world AnswerAsked → e.wb ≡ WB_ASKED
  awaited-wb a = ap wb_of a.is ∙ ap (λ (b : WriteBack). wb_of (Some (a.group, record (a.transaction) { write_back = b }))) a.so

  awaited-mem : Awaits world BlockAsked → e.mem ≡ MEM_ASKED
  awaited-mem a =
      let held = served k core core.held told.transaction (a.group, a.transaction) tied.agrees a.is in
      ap mem_of a.is
      ∙ ap (λ (b : Bool). mem_of (Some (a.group, record (a.transaction) { written = b })))
      (not-written a.transaction held.2.written a.so)
      ∙ ap (λ (r : Reading). mem_of (Some (a.group, record (a.transaction) { reading = r; written = false }))) a.so

  module _ (leads : Leads (edge_of k s.engine (forms.Popq wp) e) e_later) where
    due : (heads_due e_later ≤ heads_due (pop e)) × (messages_due e_later ≤ messages_due (pop e))
    due =
        let q = existing-is (pop e) leads.next leads.is in
        subst (λ (p : Sets). (heads_due e_later ≤ heads_due p) × (messages_due e_later ≤ messages_due p)) (sym q.1)
        (fits-due e_later leads.next leads.fits)

    -- a head whose action takes so many, and whose mask so many
    counts : (n i : ℕ) → heads_taken act.acts.action ≡ n → messages_sent act.acts.action ≡ 0 → Popped (pop e) e i
        → 1 + number_in told.deferred ≤ number_in next.deferred + n + i → Counts k s later told next false
    counts n i taken quiet popped had = record {
      heads = heads (heads_of k (told_world k later next)) (heads_taken act.acts.action) (heads_of k world) (heads_due e_later)
          (heads_due (pop e)) (heads_due e) (number_in core.head) (number_in told.deferred) (number_in later.engine.core.head)
          (number_in next.deferred) taken
          (heads-fall k program s told choice (forms.Popq wp) profile tied range here can unmet) due.0 popped.heads one-head no-head had;
      messages = messages (messages_of k (told_world k later next)) (messages_taken act.acts.action) (messages_of k world)
          (messages_sent act.acts.action) (messages_due e_later) (messages_due (pop e)) (messages_due e)
          (messages-fall k program s told choice (forms.Popq wp) profile tied range here can unmet) quiet due.1 popped.messages;
    }
      where
        heads : (a t b c d j h o u v : ℕ) → t ≡ n → a + t ≤ b → c ≤ d → d + i ≤ j → h ≡ 1 → u ≡ 0
            → 1 + o ≤ v + n + i → a + c + (h + o) + 0 ≤ b + j + (u + v)
        heads a t b c d j h o u v p q r e f g l = omega (arith, p, q, r, e, f, g, l)

        messages : (a t b c d i j : ℕ) → a + t ≤ b + c → c ≡ 0 → d ≤ i → i ≤ j → a + d ≤ b + j
        messages a t b c d i j p q r e = omega (arith, p, q, r, e)

    -- the request that was deferred stays so
    stays : ((d : Option Deferred) → deferred_popped head.message d ≡ d) → (n i : ℕ) → 1 ≤ n + i
        → 1 + number_in told.deferred ≤ number_in next.deferred + n + i
    stays same n i l =
        num (number_in told.deferred) (number_in next.deferred)
        (ap (λ (d : Option Deferred). number_in d) (deferred-is ∙ same told.deferred))
      where
        num : (a b : ℕ) → b ≡ a → 1 + a ≤ b + n + i
        num a b e = omega (arith, e, l)

    -- a CohAck may wake the engine, which takes the deferral off
    woken : number_in told.deferred ≤ 1 → number_in next.deferred ≡ 0
        → 1 + number_in told.deferred ≤ number_in next.deferred + 2 + 0
    woken l e = num (number_in told.deferred) (number_in next.deferred) l e
      where
        num : (a b : ℕ) → a ≤ 1 → b ≡ 0 → 1 + a ≤ b + 2 + 0
        num a b l e = omega (arith, l, e)

    -- a request's heads and messages of the mask are new ones
    request-counts : head_number head.message ≡ HEAD_REQUEST → heads_taken act.acts.action ≡ 6
        → messages_taken act.acts.action ≡ 15 → messages_sent act.acts.action ≡ 0
        → ((d : Option Deferred) → deferred_popped head.message d ≡ d)
        → Counts k s later told next false
    request-counts i taken off quiet same = record {
      heads = heads (heads_of k (told_world k later next)) (heads_taken act.acts.action) (heads_of k world) (heads_due e_later)
          (heads_due (pop e)) (heads_due e) (number_in core.head) (number_in told.deferred) (number_in later.engine.core.head)
          (number_in next.deferred) taken
          (heads-fall k program s told choice (forms.Popq wp) profile tied range here can unmet) due.0 new.0 one-head no-head
          (ap (λ (d : Option Deferred). number_in d) (deferred-is ∙ same told.deferred));
      messages = messages (messages_of k (told_world k later next)) (messages_taken act.acts.action) (messages_of k world)
          (messages_sent act.acts.action) (messages_due e_later) (messages_due (pop e)) (messages_due e)
          (messages-fall k program s told choice (forms.Popq wp) profile tied range here can unmet) off quiet due.1 new.1;
    }
      where
        new : (heads_due (pop e) ≡ 5) × (messages_due (pop e) ≡ 15)
        new = pop-request e (head-field HEAD_REQUEST i)

        heads : (a t b c d j h o u v : ℕ) → t ≡ 6 → a + t ≤ b → c ≤ d → d ≡ 5 → h ≡ 1 → u ≡ 0 → v ≡ o
            → a + c + (h + o) + 0 ≤ b + j + (u + v)
        heads a t b c d j h o u v p q r e f g l = omega (arith, p, q, r, e, f, g, l)

        messages : (a t b c d i j : ℕ) → a + t ≤ b + c → t ≡ 15 → c ≡ 0 → d ≤ i → i ≡ 15 → a + d ≤ b + j
        messages a t b c d i j p q r e f = omega (arith, p, q, r, e, f)

    one : (n : ℕ) → 1 ≤ n + 1
    one n = omega arith

    pub pop-counts : Counts k s later told next false
    pop-counts = go kind
      where
        go : PopOf world head.message act.acts.action → Counts k s later told next false
        go (OfRequest i taken off quiet same) = request-counts i taken off quiet same
        go (OfAck i taken quiet same) =
            counts 1 0 taken quiet (pop-ack e (head-field HEAD_INV_ACK i)) (stays same 1 0 (omega arith))
        go (OfSettle i taken quiet same) =
            counts 2 0 taken quiet (pop-settles e (head-field HEAD_COH_ACK i) (one-stage told.transaction told.deferred))
            (woken (one-at-most told.deferred) (ap (λ (d : Option Deferred). number_in d) (deferred-is ∙ same told.deferred)))
        go (OfWrite i a quiet same) =
            counts (heads_taken act.acts.action) 1 refl quiet
            (pop-write e (head-field HEAD_WB i) (awaited-held AnswerAsked a) (awaited-wb a))
            (stays same (heads_taken act.acts.action) 1 (one (heads_taken act.acts.action)))
        go (OfNull i a quiet same) =
            counts (heads_taken act.acts.action) 1 refl quiet
            (pop-null e (head-field HEAD_NULL_WB i) (awaited-held AnswerAsked a) (awaited-wb a))
            (stays same (heads_taken act.acts.action) 1 (one (heads_taken act.acts.action)))
        go (OfBlock i a quiet same) =
            counts (heads_taken act.acts.action) 1 refl quiet
            (pop-block e (head-field HEAD_BLOCK i) (awaited-held BlockAsked a) (awaited-mem a))
            (stays same (heads_taken act.acts.action) 1 (one (heads_taken act.acts.action)))

-- EACH INSTRUCTION

head-there : (o : Option Head) → single_head (only (head_value o)) ≡ true → (head : Head) × (o ≡ Some head)
head-there None e = absurd (cc)
head-there (Some head) e = (head, refl)

pub instruction-counts : (k : Shape) (program : List Form) (s : State) (told : Told) (choice : Choice) (f : Form) → InProfile k
    → Tied k s told → IsInRange f → slice_get program s.engine.core.place ≡ Some f → can_run k program s choice ≡ true
    → unmet_here f (exact k s.engine told) ≡ None
    → Leads (edge_of k s.engine f (exact k s.engine told))
    (exact k (after k program s (events.Engine choice)).engine (told_after k s.engine.core (told_world k s told) f told))
    → Counts k s (after k program s (events.Engine choice)) told (told_after k s.engine.core (told_world k s told) f told)
    (is_wait (Some f))
instruction-counts k program s told choice (forms.Popq wp) profile tied range here can unmet leads =
    let o = met (forms.Popq wp) (exact k s.engine told) unmet in
    let head = head-there s.engine.core.head o.o7 in
    pop-counts k program s told choice wp profile tied range here can unmet head.0 head.1 leads
instruction-counts k program s told choice f profile tied range here can unmet leads =
    quiet-counts k program s told choice f profile tied range here can unmet refl leads
