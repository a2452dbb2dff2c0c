use Rattle.std.proofs.Common.{ℕ, ◌<◌}
use Rattle.bk_trace.specs.Traces.{operations_of}
use Rattle.bk_system.specs.Runs.{issued_by, IsPrefix}
use Rattle.bk_run.proofs.completion.is_in_order.Given as goal

abbrev pub invariant-loop-cache : goal.invariant-loop-cache
invariant-loop-cache l = (c : ℕ) → c < l.cache → IsPrefix (issued_by c l.events) (operations_of c l.trace.lines)
