-- A run of all agents, to its end.
use Rattle.std.specs.Prelude.{ℕ, List, [], ◌∷◌}
use Rattle.bk_base.specs.Places.{Shape}
use Rattle.bk_isa.specs.declared.form.Form.{Form}
use Rattle.bk_lce.specs.declared.line.WayView.{WayView}
use Rattle.bk_run.specs.Greedy.{IsAsked, IsEnd}
use Rattle.bk_system.specs.declared.event.Event.{Event}
use Rattle.bk_system.specs.Runs.{after, run, IsTight, IsInOrder}
use Rattle.bk_system.specs.State.{State, opening}
use Rattle.bk_rounds.specs.Tasks.{Task}

-- Each Issue has a way that the policy answers where it stands.
abbrev pub AreAsked : (List WayView → ℕ → Type 0) → Shape → List Form → State → List Event → Type 0
AreAsked policy k program s [] = Unit {0}
AreAsked policy k program s (event ∷ events) =
    IsAsked policy k s event × AreAsked policy k program (after k program s event) events

-- Each event was enabled where it stands, each cache's operations were issued in order, each Issue with a way of the policy, and nothing
-- is enabled after the last.
pub record IsWholeRun (task : Task) (events : List Event) : Type 0 where
  pub tight : IsTight task.config task.program events
  pub in_order : IsInOrder task.config task.operations events
  pub asked : AreAsked task.policy task.config task.program (opening task.config) events
  pub ended : IsEnd task.config task.program (run task.config task.program events) task.operations
