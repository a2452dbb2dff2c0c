use Rattle.std.proofs.Common.{◌∙◌, ◌*◌, ◌^◌, arith}
use Rattle.bk_system.specs.Runs.{run}
use Rattle.bk_run.specs.Report.{counts_of}
use Rattle.bk_system.specs.Systems.{state_of}
use Rattle.bk_run.proofs.CountBounds.{at_most_higher}
use Rattle.bk_run.proofs.Scheduling.{run-next, counts-next}
use Rattle.bk_run.proofs.reports.count_events.Goals as goal

pub step-requires : goal.step-requires
step-requires c = record {
  few = c.requires;
  room = at_most_higher c.loop-event.event-index (2 ^ 59) (16 * c.loop-event.event-index) (2 ^ 63) c.loop-event.counted.counts (omega arith)
      (omega arith) c.loop-event.invariant.room;
}

pub loop-event-preserved : goal.loop-event-preserved
loop-event-preserved c =
    let k = c.args.trace.now.config in
    let p = c.args.program.now in
    let old = c.loop-event.counted in
    let new = c.step.new.self in
    record {
      config = c.in_ok-step.ensures.config ∙ c.loop-event.invariant.config;
      room = c.in_ok-step.ensures.grows c.loop-event.event-index c.loop-event.invariant.room;
      state = run-next k old.hardware.config p c.args.events.now c.loop-event.event-index c.event-item.result (state_of old.hardware)
          (state_of new.hardware) (run k p c.args.events.now)
          c.loop-event-test.true c.event-item.is c.loop-event.invariant.config c.in_ok-step.ensures.state c.loop-event.invariant.state;
      counts = counts-next k old.hardware.config p c.args.events.now c.loop-event.event-index c.event-item.result (state_of old.hardware)
          (state_of new.hardware) old.counts new.counts (counts_of k p c.args.events.now)
          c.loop-event-test.true c.event-item.is c.loop-event.invariant.config c.in_ok-step.ensures.state c.in_ok-step.ensures.counts
          c.loop-event.invariant.counts;
    }
