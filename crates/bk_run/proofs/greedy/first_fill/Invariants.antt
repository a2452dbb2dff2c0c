use Rattle.std.proofs.Common.{◌≡◌, None}
use Rattle.bk_base.specs.Counting.{first_below}
use Rattle.bk_run.specs.Greedy.{fill_event}
use Rattle.bk_system.specs.Systems.{state_of}
use Rattle.bk_run.proofs.greedy.first_fill.Given as goal

abbrev pub invariant-loop-to : goal.invariant-loop-to
invariant-loop-to l =
    first_below l.to (λ to. first_below l.hardware.config.caches
    (fill_event l.hardware.config l.program (state_of l.hardware) to)) ≡ None
