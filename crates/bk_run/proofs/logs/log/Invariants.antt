use Rattle.std.proofs.Common.{◌≡◌, ◌++◌, string_bytes, drop}
use Rattle.bk_system.specs.Systems.{state_of}
use Rattle.bk_run.specs.Log.{log_from, log_of}
use Rattle.bk_run.proofs.logs.log.Given as goal

abbrev pub invariant-loop-event : goal.invariant-loop-event
invariant-loop-event l = record {
  config : l.hardware.config ≡ l.trace.config;
  text : string_bytes l.out ++ log_from l.trace.config l.program (state_of l.hardware) (drop l.event-index l.events)
      ≡ log_of l.trace.config l.program l.events;
}
