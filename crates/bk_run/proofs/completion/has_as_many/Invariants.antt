use Rattle.std.proofs.Common.{◌≡◌, ℕ, ◌<◌, length}
use Rattle.bk_trace.specs.Traces.{operations_of}
use Rattle.bk_system.specs.Runs.{completed_by}
use Rattle.bk_system.specs.Systems.{state_of}
use Rattle.bk_run.proofs.completion.has_as_many.Given as goal

abbrev pub invariant-loop-cache : goal.invariant-loop-cache
invariant-loop-cache l = (c : ℕ) → c < l.cache
    → length (completed_by c (state_of l.hardware).history) ≡ length (operations_of c l.trace.lines)
