-- How a run of the greedy schedule may end.
use Rattle.std.specs.Prelude.{◌≡◌, ◌≤◌, ◌↔◌, List, Bool, length, IsTrue, IsSome}
use Rattle.bk_system.specs.declared.event.Event.{Event}
use Rattle.bk_system.specs.Runs.{run, IsTight, IsInOrder, IsComplete}
use Rattle.bk_run.specs.declared.serial_runs.SerialFault.{SerialFault}
use Rattle.bk_run.specs.declared.serial_runs.SerialFault.TheVariants.{Spent, Unreported, Memory}
use Rattle.bk_run.specs.Jobs.{Job}
use Rattle.bk_run.specs.Greedy.{IsGreedy, IsEnd, least_enabled}

-- The events are greedy for the job, and no more than its limit: each was enabled where it stands, each cache's operations were
-- issued in order, and complete says whether they do all of the trace.
pub record IsGreedyRun (job : Job) (events : List Event) (complete : Bool) : Type 0 where
  pub greedy : IsGreedy job events
  pub few : length events ≤ job.limit
  pub tight : IsTight job.config job.program events
  pub in_order : IsInOrder job.config job.operations events
  pub told : IsTrue complete ↔ IsComplete job.config job.program job.operations events

-- it came to its end: nothing is enabled after it
pub record IsEnded (job : Job) (events : List Event) (complete : Bool) : Type 0 where
  pub made : IsGreedyRun job events complete
  pub ended : IsEnd job.config job.program (run job.config job.program events) job.operations

-- it used its limit up, and one more event is enabled
pub record IsSpent (job : Job) (events : List Event) (complete : Bool) : Type 0 where
  pub made : IsGreedyRun job events complete
  pub spent : length events ≡ job.limit
  pub enabled : IsSome (least_enabled job.config job.program (run job.config job.program events) job.operations 0)

-- what a fault of a run says
abbrev pub IsFault : Job → SerialFault → Type 0
IsFault job (Spent end) = IsSpent job end.events.items end.complete
IsFault job (Unreported end) = IsEnded job end.events.items end.complete
IsFault job Memory = Unit {0}
