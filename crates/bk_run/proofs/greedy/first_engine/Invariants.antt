use Rattle.std.proofs.Common.{◌≡◌, None}
use Rattle.bk_base.specs.Counting.{first_below}
use Rattle.bk_run.specs.Greedy.{engine_event}
use Rattle.bk_system.specs.Systems.{state_of}
use Rattle.bk_run.proofs.greedy.first_engine.Given as goal

abbrev pub invariant-loop-source : goal.invariant-loop-source
invariant-loop-source l = first_below l.source (engine_event l.hardware.config l.program (state_of l.hardware) l.class) ≡ None
