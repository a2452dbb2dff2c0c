-- The system's events of caches and memory are the machine's steps.
use Rattle.std.specs.Prelude.{◌≡◌, ℕ, Option, Some, None, List, is_some}
use Rattle.bk_base.specs.Places.{Shape, InProfile}
use Rattle.bk_isa.specs.declared.form.Form.{Form}
use Rattle.bk_system.specs.declared.event.Event.{Event}
use Rattle.bk_system.specs.State.{State, opening}
use Rattle.bk_system.specs.Runs.{is_enabled, after, run}
use Rattle.bk_system.specs.Lawful.{IsLawful, AreLawful}
use Rattle.bk_machine.specs.Transactions.{Transaction}
use Rattle.bk_machine.specs.World.{empty_world}
use Rattle.bk_machine.specs.Runs as machine
use Rattle.bk_bridge.specs.Worlds.{world_of, event_of}
use Rattle.bk_bridge.specs.Formed.{WellFormed}

-- An event does in the machine what it does in the system: it is enabled in both, or in neither, and what it leaves is the same.
pub record IsStep (k : Shape) (program : List Form) (s : State) (x : Option (ℕ × Transaction)) (event : Event)
    (machine_event : machine.Event) : Type 0 where
  pub enabled : is_enabled k program s event ≡ is_some (machine.step_of k (world_of k s x) machine_event)
  pub left : world_of k (after k program s event) x ≡ machine.event_after k (world_of k s x) machine_event

-- THE STATEMENTS

-- the opening state is the empty machine
abbrev pub OpensEmpty : Type 0
OpensEmpty = (k : Shape) → world_of k (opening k) None ≡ empty_world k.ways

-- each event of a cache or the memory is a step of the machine, or isn't enabled in both
abbrev pub EventsAreSteps : Type 0
EventsAreSteps = (k : Shape) (program : List Form) (s : State) (x : Option (ℕ × Transaction)) (event : Event)
    (machine_event : machine.Event)
    → WellFormed k s → IsLawful event → event_of k event ≡ Some machine_event → IsStep k program s x event machine_event

-- whatever the program did before, an event of a cache or the memory is a step of the machine
abbrev pub ReachedStatesStep : Type 0
ReachedStatesStep = (k : Shape) (program : List Form) (es : List Event) (x : Option (ℕ × Transaction)) (event : Event)
    (machine_event : machine.Event)
    → InProfile k → AreLawful es → IsLawful event → event_of k event ≡ Some machine_event
    → IsStep k program (run k program es) x event machine_event
