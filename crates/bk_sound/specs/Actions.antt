-- That each event of the engine is one permitted action of the abstract protocol.
use Rattle.std.specs.Prelude.{◌≡◌, ℕ, List, [], ◌∷◌, ◌++◌, true, Some, slice_get}
use Rattle.bk_base.specs.Places.{Shape, InProfile}
use Rattle.bk_isa.specs.declared.form.Form.{Form}
use Rattle.bk_engine.specs.declared.parts.Choice.{Choice}
use Rattle.bk_system.specs.declared.event.Event.{Event}
use Rattle.bk_system.specs.declared.event.Event.TheVariants.{Engine}
use Rattle.bk_system.specs.Lawful.{AreLawful}
use Rattle.bk_system.specs.State.{opening}
use Rattle.bk_system.specs.Runs.{is_enabled, run}
use Rattle.bk_machine.specs.Actions.{Action, Permitted, action_after}
use Rattle.bk_machine.specs.World.{World}
use Rattle.bk_exact.specs.Told.{untold}
use Rattle.bk_exact.specs.After.{action_at}
use Rattle.bk_exact.specs.Ties.{told_world}
use Rattle.bk_bound.specs.Runs.{told_from}

-- the abstract protocol's state after a list of events
abbrev pub world_after : Shape → List Form → List Event → World
world_after k program events = told_world k (run k program events) (told_from k program (opening k) untold events)

-- An event of the engine after a list of events is an action: the one that the table has for the instruction at its place. It is
-- permitted where it happens, and the state after it is the one that the action leaves.
pub record IsAction (k : Shape) (program : List Form) (events : List Event) (choice : Choice) : Type 0 where
  pub form : Form
  pub here : slice_get program (run k program events).engine.core.place ≡ Some form
  pub group : ℕ
  pub action : Action
  pub is : action_at k (run k program events).engine.core (world_after k program events) form ≡ Some (group, action)
  pub permitted : Permitted k group action (world_after k program events)
  pub leaves : world_after k program (events ++ Engine choice ∷ []) ≡ action_after group action (world_after k program events)

-- So is each event of the engine in every run.
abbrev pub ActsAsPermitted : List Form → Type 0
ActsAsPermitted program = (k : Shape) (events : List Event) (choice : Choice) → InProfile k → AreLawful events
    → is_enabled k program (run k program events) (Engine choice) ≡ true → IsAction k program events choice
