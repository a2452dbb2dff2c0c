-- Each event keeps the tie between the state and what is told.
use Rattle.std.proofs.Common.{◌≡◌, ℕ, ◌==◌, ◌&&◌, ◌++◌, Bool, true, false, cond, eqb, refl, sym, ap, ◌∙◌, subst, arith, List, [], ◌∷◌, Option, Some, None, IfSome, slice_get}
use Rattle.std.specs.Prelude.{nat_lt, is_none, if◌then◌else◌}
use Rattle.std.proofs.lemmas.Bool.Decides.{nat_tests}
use Rattle.bk_base.specs.Places.{Shape, InProfile}
use Rattle.bk_base.specs.Tables.{put}
use Rattle.bk_isa.specs.declared.form.Form.{Form}
use Rattle.bk_isa.specs.declared.form.Form.TheVariants as forms
use Rattle.bk_isa.specs.Words.{IsInRange}
use Rattle.bk_isa.proofs.Operands.{operands}
use Rattle.bk_know.specs.Sets.{only}
use Rattle.bk_msg.specs.declared.row.Row.{Row}
use Rattle.bk_lce.specs.CacheTable.{Transition}
use Rattle.bk_check.specs.Obligations.{single_head}
use Rattle.bk_order.proofs.Meets.{Met, met}
use Rattle.bk_engine.specs.declared.parts.Choice.{Choice}
use Rattle.bk_engine.specs.declared.parts.Core.{Core}
use Rattle.bk_engine.specs.declared.parts.Head.{Head}
use Rattle.bk_engine.specs.Changes.{core_after}
use Rattle.bk_engine.specs.Heads.{head_value}
use Rattle.bk_engine.specs.Step.{ran_at, runs_to}
use Rattle.bk_engine.specs.Stops.{stop_at}
use Rattle.bk_system.specs.declared.event.Event.{Event}
use Rattle.bk_system.specs.declared.event.Event.TheVariants as events
use Rattle.bk_system.specs.State.{State}
use Rattle.bk_system.specs.Events.{offered_head, with_outcome, can_run, is_choice, cache_row, access_row, issue_taken, command_taken, fill_taken, without_command, without_fill, first}
use Rattle.bk_system.specs.Runs.{state_after_row, after}
use Rattle.bk_system.specs.Lawful.{IsLawful}
use Rattle.bk_machine.specs.Actions.{action_after}
use Rattle.bk_machine.specs.Invariant.{Invariant}
use Rattle.bk_machine.specs.Messages.{request_of}
use Rattle.bk_machine.specs.Runs as machine
use Rattle.bk_machine.specs.Steps.{MachineStep, Asks, step_after}
use Rattle.bk_machine.specs.Transactions.{Transaction}
use Rattle.bk_machine.specs.World.{World}
use Rattle.bk_machine.proofs.Sound.{event_keeps, empty_keeps}
use Rattle.bk_bridge.specs.Effects.{is_pop, done_by, pops_head}
use Rattle.bk_bridge.specs.Fronts.{IsFront}
use Rattle.bk_bridge.specs.Worlds.{event_of}
use Rattle.bk_bridge.proofs.Asides.{instructions-aside, pops-aside}
use Rattle.bk_bridge.proofs.Fronts.{event-front}
use Rattle.bk_bridge.proofs.Instructions.{instructions-do}
use Rattle.bk_bridge.proofs.Keeps.{event-keeps}
use Rattle.bk_bridge.proofs.Steps.{event_step}
use Rattle.bk_bridge.proofs.Opening.{opens_empty, opens_formed}
use Rattle.bk_bridge.proofs.Pops.{pops-do}
use Rattle.bk_bridge.proofs.Ranges.{event-range, runs-range}
use Rattle.bk_exact.specs.Told.{Told, Deferred}
use Rattle.bk_exact.specs.Exact.{exact}
use Rattle.bk_exact.specs.Agrees.{AgreesWith, LeavesDeferred, IsLeft}
use Rattle.bk_exact.specs.After.{action_at, told_after, transaction_after, deferred_after}
use Rattle.bk_exact.specs.Ties.{Tied, told_world}
use Rattle.bk_exact.specs.Runs.{told_by, told_next, AreInRange, IsMet, Acts, OpensTied, EventsTie, InstructionsAct}
use Rattle.bk_exact.proofs.Forms.{states-of}
use Rattle.bk_exact.proofs.Moves.{Moves}
use Rattle.bk_exact.proofs.Popped.{Pops, pop}
use Rattle.bk_exact.proofs.Table.{moves}

-- THE ENGINE

-- An instruction that runs is a permitted action, and what the state is after it: the machine's is the action's, the engine agrees with
-- what
-- is told then, and the request that is deferred still stands.
pub record Acted (k : Shape) (program : List Form) (s : State) (told : Told) (choice : Choice) (f : Form) : Type 0 where
  pub acts : Acts k s told f
  pub world : told_world k (after k program s (events.Engine choice)) (told_after k s.engine.core (told_world k s told) f told)
      ≡ action_after acts.group acts.action (told_world k s told)
  pub agrees : AgreesWith k (core_after k s.engine f choice (offered_head s choice))
      (told_after k s.engine.core (told_world k s told) f told)
  pub left : LeavesDeferred (action_after acts.group acts.action (told_world k s told)) (deferred_after k s.engine.core f told.deferred)

module _ (k : Shape) (program : List Form) (s : State) (told : Told) (choice : Choice) (profile : InProfile k) (tied : Tied k s told)
    (can : can_run k program s choice ≡ true) where
  abbrev e : Core
  e = s.engine.core

  abbrev w : World
  w = told_world k s told

  abbrev p : State
  p = after k program s (events.Engine choice)

  -- by the bridge, an instruction does to the machine what its action does: one that takes no head off, and `popq`
  move-acted : (f : Form) → slice_get program e.place ≡ Some f → is_pop f ≡ false → Moves k s told f
      → Acted k program s told choice f
  move-acted f here i q = record {
    acts = q.acts;
    world =
        instructions-do k program s (transaction_after w (action_at k e w f)) choice f profile tied.range here i can
        ∙ instructions-aside k e f w (transaction_after w (action_at k e w f))
        ∙ ap (λ (x : Option (ℕ × Transaction)). record (done_by k e f w) { transaction = x })
        (ap (transaction_after w) q.acts.is) ∙ q.alike;
    agrees = q.agrees choice (offered_head s choice);
    left = q.left;
  }

  pop-acted : (wp : ℕ) → slice_get program e.place ≡ Some (forms.Popq wp) → (head : Head) → e.head ≡ Some head
      → Pops k s told wp head
      → Acted k program s told choice (forms.Popq wp)
  pop-acted wp here head i q = record {
    acts = q.acts;
    world =
        pops-do k program s (transaction_after w (action_at k e w (forms.Popq wp))) choice wp head tied.formed tied.front here i can
        ∙ pops-aside k (wp == 1) head.choice.source head.message w (transaction_after w (action_at k e w (forms.Popq wp)))
        ∙ ap (λ (x : Option (ℕ × Transaction)). record (pops_head k (wp == 1) head.choice.source head.message w) { transaction = x })
        (ap (transaction_after w) q.acts.is) ∙ q.alike;
    agrees = q.agrees choice (offered_head s choice);
    left = q.left;
  }

  -- the head that a `popq` takes off
  head-there : (o : Option Head) → IfSome o (IsFront k s) → single_head (only (head_value o)) ≡ true
      → (head : Head) × (o ≡ Some head) × IsFront k s head
  head-there None f i = absurd (cc)
  head-there (Some head) f i = (head, refl, f)

  -- each instruction in range whose obligations are met
  pub form-acted : (f : Form) → IsInRange f → slice_get program e.place ≡ Some f → Met f (exact k s.engine told)
      → Acted k program s told choice f
  form-acted (forms.Popq wp) g here o =
      let head = head-there e.head tied.front o.o7 in
      pop-acted wp here head.0 head.1 (pop k s told tied wp head.0.choice o head.0.message head.1 head.2.first)
  form-acted f g here o = move-acted f here refl (moves k s told tied f profile (states-of f g) (operands f g) refl o)

  -- the engine's core after it
  pub core-is : (f : Form) → slice_get program e.place ≡ Some f
      → p.engine.core ≡ core_after k s.engine f choice (offered_head s choice)
  core-is f here =
      ap (λ (b : Bool). (state_after_row s (if b then Some
      (with_outcome k s (runs_to k s.engine program choice (offered_head s choice))) else None)).engine.core) can
      ∙ ap (λ (o : Option Form). (with_outcome k s (ran_at k s.engine o choice (offered_head s choice))).state.engine.core) here

  -- a permitted action keeps the tie
  pub acted-ties : (f : Form) → slice_get program e.place ≡ Some f → Acted k program s told choice f
      → Tied k p (told_after k e w f told)
  acted-ties f here a = record {
    invariant = subst (Invariant k) (sym a.world)
        (event_keeps k w (machine.Engine a.acts.group a.acts.action) a.acts.permitted tied.invariant);
    formed = event-keeps k program s (events.Engine choice) tied.formed tt;
    range = event-range k program s (events.Engine choice) profile tied.range;
    front = event-front k program s (events.Engine choice) tied.front;
    agrees = subst (λ (core : Core). AgreesWith k core (told_after k e w f told)) (sym (core-is f here)) a.agrees;
    left = subst (λ (world : World). LeavesDeferred world (deferred_after k e f told.deferred)) (sym a.world) a.left;
  }

  -- where there is no instruction, none runs
  pub no-form : slice_get program e.place ≡ None → ⊥
  no-form here =
      last (nat_lt choice.source k.caches) (is_choice None choice)
      (subst (λ (o : Option Form). (nat_lt choice.source k.caches && is_choice o choice && is_none
      (stop_at k s.engine o choice (offered_head s choice))) ≡ true) here can)
    where
      last : (a b : Bool) → (a && b && false) ≡ true → ⊥
      last a b i = grind arith

  -- so each event of the engine keeps the tie, by what stands at its place
  place-ties : (o : Option Form) → AreInRange program → IsMet k program s told → slice_get program e.place ≡ o
      → Tied k p (told_by k s told o)
  place-ties None g o here = absurd (no-form here)
  place-ties (Some f) g o here = acted-ties f here (form-acted f (g e.place f here) here (met f (exact k s.engine told) (o f here)))

engine-ties : (k : Shape) (program : List Form) (s : State) (told : Told) (choice : Choice) → InProfile k → AreInRange program
    → IsMet k program s told
    → Tied k s told
    → Tied k (after k program s (events.Engine choice)) (told_next k program s told (events.Engine choice))
engine-ties k program s told choice profile g o tied = go (can_run k program s choice) refl
  where
    go : (b : Bool) → can_run k program s choice ≡ b
        → Tied k (after k program s (events.Engine choice)) (if b then told_by k s told (slice_get program s.engine.core.place) else told)
    go true i = place-ties k program s told choice profile tied i (slice_get program s.engine.core.place) g o refl
    go false i =
        subst (λ (later : State). Tied k later told)
        (sym (ap (λ (b : Bool). state_after_row s (if b then Some
        (with_outcome k s (runs_to k s.engine program choice (offered_head s choice))) else None)) i)) tied

-- CACHES AND MEMORY

-- what stands first in a channel stays first where a message comes at the end of one
put-front : {X : Type 0} (channel : ℕ → List X) (c d : ℕ) (y z : X) (rest : List X) → channel d ≡ z ∷ rest
    → (more : List X) × (put channel c (channel c ++ y ∷ []) d ≡ z ∷ more)
unfolding put
put-front {X} channel c d y z rest e = go (eqb d c) refl
  where
    is : eqb d c ≡ true → d ≡ c
    is i = grind (arith, nat_tests)

    go : (b : Bool) → eqb d c ≡ b → (more : List X) × (cond b (channel c ++ y ∷ []) (channel d) ≡ z ∷ more)
    go true i = (rest ++ y ∷ [], ap (λ (xs : List X). xs ++ y ∷ []) (ap channel (sym (is i)) ∙ e))
    go false i = (rest, e)

-- a step leaves the front of a request channel, the pending bits and the transaction
left-step : (g : ℕ) (a : MachineStep) (world : World) (d : Deferred) → IsLeft world d → IsLeft (step_after g a world) d
left-step g (Asks c v op) world d h =
    let go = put-front world.request c d.cache (g, request_of op v) (d.group, h.request) h.rest h.first in
    record { none = h.none; request = h.request; rest = go.0; first = go.1; pending = h.pending }
left-step g a world d h = record { none = h.none; request = h.request; rest = h.rest; first = h.first; pending = h.pending }

left-stepped : (world : World) (o : Option (ℕ × MachineStep)) (d : Option Deferred) → LeavesDeferred world d
    → LeavesDeferred (machine.option_step_after world o) d
left-stepped world None d h = h
left-stepped world (Some a) None h = tt
left-stepped world (Some a) (Some d) h = left-step a.0 a.1 world d h

-- an event of a cache or the memory leaves the engine as it is
taken-engine : (s later : State) (c : ℕ) (o : Option Transition) → later.engine.core ≡ s.engine.core
    → (state_after_row s (cache_row later c o)).engine.core ≡ s.engine.core
taken-engine s later c None e = refl
taken-engine s later c (Some t) e = e

accessed-engine : (s : State) (o : Option Row) → (state_after_row s (access_row s o)).engine.core ≡ s.engine.core
accessed-engine s None = refl
accessed-engine s (Some m) = refl

-- what such an event leaves is what the machine's event leaves
outside-ties : (k : Shape) (program : List Form) (s : State) (told : Told) (event : Event) (machine_event : machine.Event) → InProfile k
    → IsLawful event → Tied k s told
    → event_of k event ≡ Some machine_event → machine.MayHappen k (told_world k s told) machine_event
    → ((d : Option Deferred) → LeavesDeferred (told_world k s told) d
    → LeavesDeferred (machine.event_after k (told_world k s told) machine_event) d)
    → (after k program s event).engine.core ≡ s.engine.core → Tied k (after k program s event) told
outside-ties k program s told event machine_event profile lawful tied i may left same =
    let world = (event_step k program s told.transaction event machine_event tied.formed lawful i).left in
    record {
      invariant = subst (Invariant k) (sym world) (event_keeps k (told_world k s told) machine_event may tied.invariant);
      formed = event-keeps k program s event tied.formed lawful;
      range = event-range k program s event profile tied.range;
      front = event-front k program s event tied.front;
      agrees = subst (λ (core : Core). AgreesWith k core told) (sym same) tied.agrees;
      left = subst (λ (later : World). LeavesDeferred later told.deferred) (sym world) (left told.deferred tied.left);
    }

-- THE STATEMENTS

pub events-tie : EventsTie
events-tie k program n told (events.Issue c v op) profile g lawful o tied =
    outside-ties k program n told (events.Issue c v op) _ profile lawful tied refl tt (λ d h. left-stepped (told_world k n told) _ d h)
    (taken-engine n n c (issue_taken k n c op v) refl)
events-tie k program n told (events.Command c) profile g lawful o tied =
    outside-ties k program n told (events.Command c) _ profile lawful tied refl tt (λ d h. left-stepped (told_world k n told) _ d h)
    (taken-engine n (without_command n c) c (command_taken k n c) refl)
events-tie k program n told (events.Fill to from) profile g lawful o tied =
    outside-ties k program n told (events.Fill to from) _ profile lawful tied refl tt (λ d h. left-stepped (told_world k n told) _ d h)
    (taken-engine n (without_fill n to from) to (fill_taken k n to from) refl)
events-tie k program n told events.Memory profile g lawful o tied =
    outside-ties k program n told events.Memory _ profile lawful tied refl tt (λ d h. left-stepped (told_world k n told) _ d h)
    (accessed-engine n (first n.memout))
events-tie k program n told (events.Engine choice) profile g lawful o tied = engine-ties k program n told choice profile g o tied

pub opens-tied : OpensTied
opens-tied k profile = record {
  invariant = subst (Invariant k) (sym (opens_empty k)) (empty_keeps k);
  formed = opens_formed k profile;
  range = runs-range k [] [] profile;
  front = tt;
  agrees = record { unread = refl; acks = refl; kept = refl; got = refl };
  left = tt;
}

pub instructions-act : InstructionsAct
instructions-act k program n told choice f profile g here can unmet tied =
    let a = form-acted k program n told choice profile tied can f g here (met f (exact k n.engine told) unmet)
    in record { acts = a.acts; world = a.world }
