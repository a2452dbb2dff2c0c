use Rattle.std.proofs.Common.{string_bytes, ◌∙◌}
use Rattle.bk_system.specs.Systems.{state_of}
use Rattle.bk_run.specs.Log.{log_of}
use Rattle.bk_run.proofs.Logging.{log-next}
use Rattle.bk_run.proofs.logs.log.Goals as goal

pub loop-event-preserved : goal.loop-event-preserved
loop-event-preserved c =
    let k = c.args.trace.now.config in
    let p = c.instrs-program.result.now in
    record {
      config = c.in_ok-log_event.ensures.config ∙ c.loop-event.invariant.config;
      text = log-next k c.loop-event.hardware.config p c.args.events.now c.loop-event.event-index c.event-item.result
          (state_of c.loop-event.hardware) (state_of c.log_event.new.hardware)
          (string_bytes c.loop-event.out) (string_bytes c.log_event.new.out) (log_of k p c.args.events.now)
          c.loop-event-test.true c.event-item.is c.loop-event.invariant.config c.in_ok-log_event.ensures.state
          c.in_ok-log_event.ensures.text c.loop-event.invariant.text;
    }
