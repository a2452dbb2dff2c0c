-- Where each event is due, each Issue has its cache's next operation and a way of the policy.
use Rattle.std.proofs.Common.{ℕ, ◌<◌, List, [], ◌∷◌, Bool, ◌&&◌, subst, refl}
use Rattle.std.specs.Prelude.{IsTrue, is_some, nat_lt}
use Rattle.std.proofs.lemmas.Bool.{and_parts, ltb-true}
use Rattle.bk_base.specs.Places.{Shape}
use Rattle.bk_base.specs.declared.op.Op.{Op}
use Rattle.bk_isa.specs.declared.form.Form.{Form}
use Rattle.bk_lce.specs.CacheTable.{issue}
use Rattle.bk_lce.specs.declared.line.WayView.{WayView}
use Rattle.bk_trace.specs.Traces.{operations_of}
use Rattle.bk_system.specs.declared.event.Event.{Event}
use Rattle.bk_system.specs.declared.event.Event.TheVariants.{Issue, Command, Fill, Memory, Engine}
use Rattle.bk_system.specs.Events.{issue_taken}
use Rattle.bk_system.specs.Runs.{after, is_enabled, IsTight, IsTightFrom, IsInOrder}
use Rattle.bk_system.specs.State.{State, opening}
use Rattle.bk_run.specs.Greedy.{IsAsked}
use Rattle.bk_run.proofs.InOrder.{ArePickedFrom, picked_from-in_order}
use Rattle.bk_run.proofs.Lawful.{issue-cache}
use Rattle.bk_run.proofs.Tight.{IsNext, taken-some, is_some-if}
use Rattle.bk_agents.specs.Parts.{Part, part_of, agent_of}
use Rattle.bk_agents.proofs.Numbers.{cache-part}
use Rattle.bk_threads.specs.Rounds.{HoldsFrom}
use Rattle.bk_rounds.specs.Tasks.{IsDue}
use Rattle.bk_parallel.specs.Runs.{AreAsked}

module _ (policy : List WayView → ℕ → Type 0) (k : Shape) (program : List Form) (operations : List (ℕ × Op)) where
  -- one event that is due
  due-both : (s : State) (event : Event) → IsTrue (is_enabled k program s event)
      → IsDue policy k operations (part_of k s (agent_of k event)) event → IsNext s operations event × IsAsked policy k s event
  due-both s (Issue c way op) enabled due =
      subst (λ (part : Part). IsDue policy k operations part (Issue c way op))
      (cache-part k s c (issue-cache k program s c way op enabled)) due
  due-both s (Command c) enabled due = (tt, tt)
  due-both s (Fill to from) enabled due = (tt, tt)
  due-both s Memory enabled due = (tt, tt)
  due-both s (Engine choice) enabled due = (tt, tt)

  pub due-asked : (s : State) (events : List Event) → IsTightFrom k program s events
      → HoldsFrom (IsDue policy k operations) k program s events → AreAsked policy k program s events
  due-asked s [] tight due = tt
  due-asked s (event ∷ events) tight due =
      ((due-both s event tight.0 due.0).1, due-asked (after k program s event) events tight.1 due.1)

  due-picked : (s : State) (events : List Event) → IsTightFrom k program s events
      → HoldsFrom (IsDue policy k operations) k program s events → ArePickedFrom k program operations s events
  due-picked s [] tight due = tt
  due-picked s (event ∷ events) tight due = (
    record { enabled = tight.0; next = (due-both s event tight.0 due.0).0 },
    due-picked (after k program s event) events tight.1 due.1,
  )

  -- so each cache issues its operations in order
  pub due-in_order : (events : List Event) → IsTight k program events
      → HoldsFrom (IsDue policy k operations) k program (opening k) events → IsInOrder k operations events
  due-in_order events tight due = λ c l.
      picked_from-in_order c k program operations (opening k) events (due-picked (opening k) events tight due)
      (operations_of c operations, refl)
