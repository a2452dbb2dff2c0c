-- How many events a run of an accepted image has, where each of them was enabled.
use Rattle.std.specs.Prelude.{ℕ, ◌+◌, ◌*◌, ◌<◌, ◌≤◌, List, [], ◌∷◌, length}
use Rattle.bk_base.specs.Places.{Shape, InProfile}
use Rattle.bk_base.specs.declared.op.Op.{Op}
use Rattle.bk_isa.specs.declared.form.Form.{Form}
use Rattle.bk_image.specs.Images.{Parts}
use Rattle.bk_check.specs.Accepted.{Accepted, IsMade}
use Rattle.bk_system.specs.declared.event.Event.{Event}
use Rattle.bk_system.specs.declared.event.Event.TheVariants as events
use Rattle.bk_system.specs.Lawful.{AreLawful}
use Rattle.bk_system.specs.Runs.{IsTight, IsInOrder}

-- whether an event issues an operation, or is one of the engine: as a number, 1 or 0
abbrev pub issue_in : Event → ℕ
issue_in (events.Issue c way op) = 1
issue_in (events.Command c) = 0
issue_in (events.Fill to from) = 0
issue_in events.Memory = 0
issue_in (events.Engine choice) = 0

abbrev pub engine_in : Event → ℕ
engine_in (events.Issue c way op) = 0
engine_in (events.Command c) = 0
engine_in (events.Fill to from) = 0
engine_in events.Memory = 0
engine_in (events.Engine choice) = 1

-- how many such events a list has
abbrev pub issues : List Event → ℕ
issues [] = 0
issues (event ∷ es) = issue_in event + issues es

abbrev pub engine_events : List Event → ℕ
engine_events [] = 0
engine_events (event ∷ es) = engine_in event + engine_events es

-- The budget of so many instructions and operations. A replay has the same (`budget_of` of bk_run).
abbrev pub budget : Shape → ℕ → ℕ → ℕ
budget k instructions operations = operations * (4 * k.caches + 32) * (instructions + 4) + instructions

-- A list has few events: no more of the engine than for each operation that it issues each instruction (caches + 7) times, and each
-- instruction once; and no more in all than the budget of these operations.
pub record HasFewEvents (k : Shape) (program : List Form) (es : List Event) : Type 0 where
  pub engine : engine_events es ≤ (k.caches + 7) * length program * issues es + length program
  pub all : length es ≤ budget k (length program) (issues es)

-- A list is within the budget of a trace: it issues no more operations, and has no more events; fewer, where the trace has an operation.
pub record IsWithinBudget (k : Shape) (program : List Form) (lines : List (ℕ × Op)) (es : List Event) : Type 0 where
  pub issued : issues es ≤ length lines
  pub within : length es ≤ budget k (length program) (length lines)
  pub fewer : 1 ≤ length lines → length es < budget k (length program) (length lines)

-- Every tight list of lawful events has few events, and where it issues the operations of a trace in order, it is within the budget of the
-- trace. So no run goes on without end, whatever its schedule: where no operation is left to issue, at most so many events are to come.
pub record IsBounded (program : List Form) : Type 0 where
  pub lists : (k : Shape) (es : List Event) → InProfile k → AreLawful es → IsTight k program es → HasFewEvents k program es
  pub traces : (k : Shape) (lines : List (ℕ × Op)) (es : List Event) → InProfile k → AreLawful es → IsTight k program es
      → IsInOrder k lines es → IsWithinBudget k program lines es

-- THE STATEMENT
abbrev pub AcceptedImagesAreBounded : Type 0
AcceptedImagesAreBounded = (image : Parts) → IsMade image → Accepted image → IsBounded image.instrs
