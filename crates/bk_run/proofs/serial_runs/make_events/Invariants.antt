use Rattle.std.proofs.Common.{◌≡◌, ◌*◌, length, string_bytes}
use Rattle.std.specs.Fn.{FnReturnsAt}
use Rattle.bk_system.specs.Runs.{run}
use Rattle.bk_run.specs.CountBounds.{IsAtMost}
use Rattle.bk_run.specs.Jobs.{job_of}
use Rattle.bk_run.specs.Greedy.{IsGreedy}
use Rattle.bk_run.specs.Log.{log_of, text_if}
use Rattle.bk_run.specs.Report.{counts_of}
use Rattle.bk_run.specs.Schedule.{AreThrough}
use Rattle.bk_system.specs.Systems.{state_of}
use Rattle.bk_run.proofs.serial_runs.make_events.Given as goal

abbrev pub invariant-loop : goal.invariant-loop
invariant-loop g l = record {
  config : l.counted.hardware.config ≡ l.trace.config;
  room : IsAtMost l.counter (16 * l.counter) l.counted.counts;
  state : state_of l.counted.hardware ≡ run l.trace.config l.program l.events.items;
  counts : l.counted.counts ≡ counts_of l.trace.config l.program l.events.items;
  greedy : IsGreedy (job_of (FnReturnsAt g.F.Fn l.victim.pick) l.program l.trace l.budget) l.events.items;
  log : string_bytes l.log ≡ text_if l.is_logged (log_of l.trace.config l.program l.events.items);
  count : length l.events.items ≡ l.counter;
  through : AreThrough (state_of l.counted.hardware) l.trace.lines l.finished;
}
