use Rattle.std.proofs.Common.{◌≡◌, ℕ, ◌<◌}
use Rattle.bk_trace.specs.Traces.{operations_of}
use Rattle.bk_system.specs.Runs.{completed_by}
use Rattle.bk_run.proofs.completion.is_whole.Given as goal

abbrev pub invariant-loop-cache : goal.invariant-loop-cache
invariant-loop-cache l = (c : ℕ) → c < l.cache → completed_by c l.history ≡ operations_of c l.trace.lines
