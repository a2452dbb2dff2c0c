-- What is told along a run, that all of it is tied, and which action of the machine each instruction is that runs.
use Rattle.std.specs.Prelude.{◌≡◌, ℕ, true, false, List, Option, Some, None, if◌then◌else◌, slice_get}
use Rattle.bk_base.specs.Places.{Shape, InProfile}
use Rattle.bk_isa.specs.declared.form.Form.{Form}
use Rattle.bk_isa.specs.Words.{IsInRange}
use Rattle.bk_know.specs.Sets.{any_empty}
use Rattle.bk_check.specs.Obligations.{unmet_here}
use Rattle.bk_engine.specs.declared.parts.Choice.{Choice}
use Rattle.bk_system.specs.declared.event.Event.{Event}
use Rattle.bk_system.specs.declared.event.Event.TheVariants as events
use Rattle.bk_system.specs.State.{State, opening}
use Rattle.bk_system.specs.Events.{can_run}
use Rattle.bk_system.specs.Runs.{after}
use Rattle.bk_system.specs.Lawful.{IsLawful}
use Rattle.bk_machine.specs.Actions.{Action, Permitted, action_after}
use Rattle.bk_exact.specs.Told.{Told, untold}
use Rattle.bk_exact.specs.Exact.{exact}
use Rattle.bk_exact.specs.After.{action_at, told_after}
use Rattle.bk_exact.specs.Ties.{Tied, told_world}

-- what is told after the instruction at the engine's place, if there is one
abbrev pub told_by : Shape → State → Told → Option Form → Told
told_by k s told None = told
told_by k s told (Some f) = told_after k s.engine.core (told_world k s told) f told

-- what is told after an event: an instruction that runs alone tells something
abbrev pub told_next : Shape → List Form → State → Told → Event → Told
told_next k program s told (events.Engine choice) =
    if can_run k program s choice then told_by k s told (slice_get program s.engine.core.place) else told
told_next k program s told (events.Issue c way op) = told
told_next k program s told (events.Command c) = told
told_next k program s told (events.Fill to from) = told
told_next k program s told events.Memory = told

-- the operands of each instruction are in the ranges that its form gives them
abbrev pub AreInRange : List Form → Type 0
AreInRange program = (p : ℕ) (f : Form) → slice_get program p ≡ Some f → IsInRange f

-- the exact mask meets the obligations at the engine's place
abbrev pub IsMet : Shape → List Form → State → Told → Type 0
IsMet k program s told = (f : Form) → slice_get program s.engine.core.place ≡ Some f → unmet_here f (exact k s.engine told) ≡ None

-- an instruction's action is there, and is permitted
pub record Acts (k : Shape) (s : State) (told : Told) (f : Form) : Type 0 where
  pub group : ℕ
  pub action : Action
  pub is : action_at k s.engine.core (told_world k s told) f ≡ Some (group, action)
  pub permitted : Permitted k group action (told_world k s told)

-- the instruction at the engine's place does what a permitted action of the machine does
pub record IsAction (k : Shape) (program : List Form) (s : State) (told : Told) (choice : Choice) (f : Form) : Type 0 where
  pub acts : Acts k s told f
  pub world : told_world k (after k program s (events.Engine choice)) (told_after k s.engine.core (told_world k s told) f told)
      ≡ action_after acts.group acts.action (told_world k s told)

-- THE STATEMENTS

-- at the opening nothing is told, and it is tied
abbrev pub OpensTied : Type 0
OpensTied = (k : Shape) → InProfile k → Tied k (opening k) untold

-- Each event keeps the tie, if the exact mask meets the obligations at the engine's place.
abbrev pub EventsTie : Type 0
EventsTie = (k : Shape) (program : List Form) (s : State) (told : Told) (event : Event)
    → InProfile k → AreInRange program → IsLawful event → IsMet k program s told → Tied k s told
    → Tied k (after k program s event) (told_next k program s told event)

-- An instruction that runs, whose obligations the exact mask meets, is a permitted action.
abbrev pub InstructionsAct : Type 0
InstructionsAct = (k : Shape) (program : List Form) (s : State) (told : Told) (choice : Choice) (f : Form)
    → InProfile k → IsInRange f → slice_get program s.engine.core.place ≡ Some f → can_run k program s choice ≡ true
    → unmet_here f (exact k s.engine told) ≡ None → Tied k s told → IsAction k program s told choice f

-- an exact mask leaves no field empty
abbrev pub ExactAreSome : Type 0
ExactAreSome = (k : Shape) (s : State) (told : Told) → Tied k s told → any_empty (exact k s.engine told) ≡ false
