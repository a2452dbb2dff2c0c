-- An instruction that runs and takes no head off: the heads that are counted don't grow, but for one that a `wfq` has; nor do the messages.
use Rattle.std.proofs.Common.{◌≡◌, ℕ, ◌+◌, ◌≤◌, Bool, true, false, refl, sym, ap, ◌∙◌, subst, arith, Option, Some, None, length, List, slice_get}
use Rattle.std.specs.Prelude.{if◌then◌else◌, is_none}
use Rattle.std.proofs.lemmas.Bool.{and_parts}
use Rattle.bk_base.specs.Places.{Shape, InProfile}
use Rattle.bk_isa.specs.declared.form.Form.{Form}
use Rattle.bk_isa.specs.declared.form.Form.TheVariants as forms
use Rattle.bk_isa.specs.Words.{IsInRange}
use Rattle.bk_know.specs.declared.sets.Sets.{Sets}
use Rattle.bk_flow.specs.Flow.{fall, jump}
use Rattle.bk_check.specs.Accepted.{is_wait}
use Rattle.bk_check.specs.Obligations.{unmet_here}
use Rattle.bk_order.specs.Fits.{Leads}
use Rattle.bk_order.proofs.Meets.{Met, met}
use Rattle.bk_engine.specs.declared.parts.Choice.{Choice}
use Rattle.bk_engine.specs.declared.parts.Core.{Core}
use Rattle.bk_engine.specs.declared.parts.Head.{Head}
use Rattle.bk_engine.specs.Changes.{core_but_place}
use Rattle.bk_engine.specs.Reads.{is_branch_taken}
use Rattle.bk_engine.specs.Sends.{sends}
use Rattle.bk_engine.specs.Stops.{form_stop, stop_at}
use Rattle.bk_system.specs.declared.event.Event.TheVariants as events
use Rattle.bk_system.specs.State.{State}
use Rattle.bk_system.specs.Events.{can_run, offered_head}
use Rattle.bk_system.specs.Runs.{after}
use Rattle.bk_machine.specs.World.{World}
use Rattle.bk_bridge.specs.Effects.{is_pop}
use Rattle.bk_exact.specs.Told.{Told, Deferred}
use Rattle.bk_exact.specs.Exact.{exact}
use Rattle.bk_exact.specs.After.{told_after, deferred_after}
use Rattle.bk_exact.specs.Runs.{IsAction}
use Rattle.bk_exact.specs.Ties.{Tied, told_world}
use Rattle.bk_exact.proofs.Forms.{states-of}
use Rattle.bk_exact.proofs.Somes.{exact-some}
use Rattle.bk_exact.proofs.Steps.{core-is, instructions-act}
use Rattle.bk_exact.proofs.Values.{stage-idle}
use Rattle.bk_flows.specs.Flows.{edge_of}
use Rattle.bk_bound.proofs.Counted.{number_in, heads_counted, heads_had, messages_counted}
use Rattle.bk_bound.proofs.Due.{heads_due, messages_due, fits-due}
use Rattle.bk_bound.proofs.DueAfter.{cost, fall-falls, jump-falls}
use Rattle.bk_bound.proofs.Inside.{Inside, told-inside}
use Rattle.bk_bound.proofs.WorldCounts.{heads_of, heads_taken, messages_of, messages_sent, messages_taken}
use Rattle.bk_bound.proofs.WorldHeads.{action-falls}
use Rattle.bk_bound.proofs.WorldMessages.{action-sent}
use Rattle.bk_bound.proofs.Instructions.{at-costs, branch-costs, service-head, waits-head, one-at-most, deferred-one}

-- what an instruction does to what is counted, where it is a `wfq` or not
pub record Counts (k : Shape) (s later : State) (told next : Told) (waits : Bool) : Type 0 where
  pub heads : heads_counted k later next + heads_had s told + (if waits then 1 else 0) ≤ heads_counted k s told + heads_had later next
  pub messages : messages_counted k later next ≤ messages_counted k s told

module _ (k : Shape) (program : List Form) (s : State) (told : Told) (choice : Choice) (f : Form) (profile : InProfile k)
    (tied : Tied k s told) (range : IsInRange f) (here : slice_get program s.engine.core.place ≡ Some f)
    (can : can_run k program s choice ≡ true) (unmet : unmet_here f (exact k s.engine told) ≡ None) where
  abbrev pub core : Core
  core = s.engine.core

  abbrev pub world : World
  world = told_world k s told

  abbrev pub later : State
  later = after k program s (events.Engine choice)

  abbrev pub next : Told
  next = told_after k core world f told

  abbrev pub e : Sets
  e = exact k s.engine told

  abbrev pub e_later : Sets
  e_later = exact k later.engine next

  -- THE MACHINE'S PART, by the action
  pub acted : IsAction k program s told choice f
  acted = instructions-act k program s told choice f profile range here can unmet tied

  inside : Inside k world
  inside = told-inside k s told profile tied

  pub heads-fall : heads_of k (told_world k later next) + heads_taken acted.acts.action ≤ heads_of k world
  heads-fall =
      subst (λ (v : World). heads_of k v + heads_taken acted.acts.action ≤ heads_of k world) (sym acted.world)
      (action-falls k world tied.invariant inside acted.acts.group acted.acts.action acted.acts.permitted)

  pub messages-fall : messages_of k (told_world k later next) + messages_taken acted.acts.action
      ≤ messages_of k world + messages_sent acted.acts.action
  messages-fall =
      subst
      (λ (v : World). messages_of k v + messages_taken acted.acts.action ≤ messages_of k world + messages_sent acted.acts.action)
      (sym acted.world)
      (action-sent k world tied.invariant inside acted.acts.group acted.acts.action acted.acts.permitted)

  -- THE HEAD after it
  pub head-is : (o : Option Head)
      → (core_but_place core (length (sends k s.engine f)) f choice (offered_head s choice)).head ≡ o
      → number_in later.engine.core.head ≡ number_in o
  head-is o i =
      ap (λ (h : Option Head). number_in h)
      (ap (λ (c : Core). c.head) (core-is k program s told choice profile tied can f here) ∙ i)

  -- THE MASK'S PART, by the edge that is taken
  module _ (quiet : is_pop f ≡ false) (leads : Leads (edge_of k s.engine f e) e_later) where
    obliged : Met f e
    obliged = met f e unmet

    due : (heads_due e_later ≤ heads_due e) × (messages_due e_later + cost f ≤ messages_due e)
    due = go (is_branch_taken k s.engine f) refl leads
      where
        both : (a b c : ℕ) → a ≤ b → b ≤ c → a ≤ c
        both a b c p q = omega (arith, p, q)

        with-cost : (a b c i j : ℕ) → a ≤ b → b + i ≤ c → j ≡ i → a + j ≤ c
        with-cost a b c i j p q e = omega (arith, p, q, e)

        go : (b : Bool) → is_branch_taken k s.engine f ≡ b → Leads (if b then jump f e else fall f e) e_later
            → (heads_due e_later ≤ heads_due e) × (messages_due e_later + cost f ≤ messages_due e)
        go true i l =
            let p = fits-due e_later l.next l.fits in
            let q = jump-falls f e l.next l.is in (
              both (heads_due e_later) (heads_due l.next) (heads_due e) p.0 q.heads,
              with-cost (messages_due e_later) (messages_due l.next) (messages_due e) 0 (cost f) p.1 q.messages
                  (branch-costs k s.engine f i),
            )
        go false i l =
            let p = fits-due e_later l.next l.fits in
            let q = fall-falls f e l.next (states-of f range) quiet obliged (exact-some k s told tied) l.is in (
              both (heads_due e_later) (heads_due l.next) (heads_due e) p.0 q.heads,
              with-cost (messages_due e_later) (messages_due l.next) (messages_due e) (cost f) (cost f) p.1 q.messages refl,
            )

    -- it has no reason not to run
    no-stop : is_none (form_stop k s.engine f choice (offered_head s choice)) ≡ true
    no-stop =
        let q = and_parts _ _ can in
        subst (λ (o : Option Form). is_none (stop_at k s.engine o choice (offered_head s choice)) ≡ true) here q.1

    -- the heads that were had already: one more at a `wfq`, and where one is deferred it goes from the one place to the other
    had-grows : heads_had s told + (if is_wait (Some f) then 1 else 0) ≤ heads_had later next
    had-grows = by-form f refl quiet obliged
      where
        same : (core_but_place core (length (sends k s.engine f)) f choice (offered_head s choice)).head ≡ core.head
            → deferred_after k core f told.deferred ≡ told.deferred → is_wait (Some f) ≡ false
            → heads_had s told + (if is_wait (Some f) then 1 else 0) ≤ heads_had later next
        same h d q =
            num (number_in core.head) (number_in told.deferred) (number_in later.engine.core.head) (number_in next.deferred)
            (is_wait (Some f)) (head-is core.head h) (ap (λ (o : Option Deferred). number_in o) d) q
          where
            num : (a b i j : ℕ) (waits : Bool) → i ≡ a → j ≡ b → waits ≡ false → a + b + (if waits then 1 else 0) ≤ i + j
            num a b i j true p q r = absurd (cc)
            num a b i j false p q r = omega (arith, p, q)

        by-form : (form : Form) → f ≡ form → is_pop form ≡ false → Met form e
            → heads_had s told + (if is_wait (Some f) then 1 else 0) ≤ heads_had later next
        by-form (forms.Wfq classes) j i o =
            let stop = subst (λ (g : Form). is_none (form_stop k s.engine g choice (offered_head s choice)) ≡ true) j no-stop in
            let q = waits-head core core.head classes choice (offered_head s choice) stop in
            num (number_in core.head) (number_in told.deferred) (number_in later.engine.core.head) (number_in next.deferred)
            (is_wait (Some f)) q.0
            (head-is _ (ap (λ (g : Form). (core_but_place core (length (sends k s.engine f)) g choice (offered_head s choice)).head) j)
            ∙ q.1) (ap (λ (g : Form). number_in (deferred_after k core g told.deferred)) j)
          where
            num : (a b i j : ℕ) (waits : Bool) → a ≡ 0 → i ≡ 1 → j ≡ b → a + b + (if waits then 1 else 0) ≤ i + j
            num a b i j true p q r = omega (arith, p, q, r)
            num a b i j false p q r = omega (arith, p, q, r)
        by-form forms.Defer j i o =
            let q = and_parts _ _ o.o8 in
            let r = and_parts _ _ q.0 in
            num (number_in core.head) (number_in told.deferred) (number_in later.engine.core.head) (number_in next.deferred)
            (is_wait (Some f)) (one-at-most core.head)
            (ap (λ (o : Option Deferred). number_in o) (stage-idle told.transaction told.deferred r.0).1)
            (ap (λ (g : Form). number_in (deferred_after k core g told.deferred)) j ∙ deferred-one k core.head r.1)
            (ap (λ (g : Form). is_wait (Some g)) j)
          where
            num : (a b i j : ℕ) (waits : Bool) → a ≤ 1 → b ≡ 0 → j ≡ 1 → waits ≡ false
                → a + b + (if waits then 1 else 0) ≤ i + j
            num a b i j true p q r u = absurd (cc)
            num a b i j false p q r u = omega (arith, p, q, r)
        by-form (forms.Popq wp) j i o = absurd (cc)
        by-form g j i o =
            same
            (ap (λ (g : Form). (core_but_place core (length (sends k s.engine f)) g choice (offered_head s choice)).head) j
            ∙ service-head core (length (sends k s.engine f)) g)
            (ap (λ (g : Form). deferred_after k core g told.deferred) j) (ap (λ (g : Form). is_wait (Some g)) j)

    pub quiet-counts : Counts k s later told next (is_wait (Some f))
    quiet-counts = record {
      heads = heads (heads_of k (told_world k later next)) (heads_taken acted.acts.action) (heads_of k world) (heads_due e_later)
          (heads_due e) (heads_had s told) (heads_had later next) (if is_wait (Some f) then 1 else 0) heads-fall due.0 had-grows;
      messages = messages (messages_of k (told_world k later next)) (messages_taken acted.acts.action) (messages_of k world)
          (messages_sent acted.acts.action) (cost f) (messages_due e_later) (messages_due e) messages-fall
          (at-costs k core world f acted.acts.group acted.acts.action quiet acted.acts.is) due.1;
    }
      where
        heads : (a t b c d i j n : ℕ) → a + t ≤ b → c ≤ d → i + n ≤ j → a + c + i + n ≤ b + d + j
        heads a t b c d i j n p q r = omega (arith, p, q, r)

        messages : (a t b c n i j : ℕ) → a + t ≤ b + c → c ≤ n → i + n ≤ j → a + i ≤ b + j
        messages a t b c n i j p q r = omega (arith, p, q, r)
