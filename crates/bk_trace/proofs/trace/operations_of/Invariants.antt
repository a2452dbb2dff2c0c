use Rattle.std.proofs.Common.{◌≡◌, ◌++◌, drop}
use Rattle.bk_trace.specs.Traces.{operations_of}
use Rattle.bk_trace.proofs.trace.operations_of.Given as goal

abbrev pub invariant-loop-at : goal.invariant-loop-at
invariant-loop-at l = l.operations.items ++ operations_of l.cache (drop l.at-index l.lines) ≡ operations_of l.cache l.lines
