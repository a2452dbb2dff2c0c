use Rattle.std.proofs.Common.{◌≡◌, ◌*◌, drop}
use Rattle.bk_run.specs.CountBounds.{IsAtMost}
use Rattle.bk_system.specs.Runs.{run, run_from}
use Rattle.bk_run.specs.Report.{counts_from, counts_of}
use Rattle.bk_system.specs.Systems.{state_of}
use Rattle.bk_run.proofs.reports.count_events.Given as goal

abbrev pub invariant-loop-event : goal.invariant-loop-event
invariant-loop-event l = record {
  config : l.counted.hardware.config ≡ l.trace.config;
  room : IsAtMost l.event-index (16 * l.event-index) l.counted.counts;
  state : run_from l.trace.config l.program (state_of l.counted.hardware) (drop l.event-index l.events)
      ≡ run l.trace.config l.program l.events;
  counts : counts_from l.trace.config l.program (state_of l.counted.hardware) l.counted.counts (drop l.event-index l.events)
      ≡ counts_of l.trace.config l.program l.events;
}
