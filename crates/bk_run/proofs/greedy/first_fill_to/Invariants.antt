use Rattle.std.proofs.Common.{◌≡◌, None}
use Rattle.bk_base.specs.Counting.{first_below}
use Rattle.bk_run.specs.Greedy.{fill_event}
use Rattle.bk_system.specs.Systems.{state_of}
use Rattle.bk_run.proofs.greedy.first_fill_to.Given as goal

abbrev pub invariant-loop-from : goal.invariant-loop-from
invariant-loop-from l = first_below l.from (fill_event l.hardware.config l.program (state_of l.hardware) l.to) ≡ None
