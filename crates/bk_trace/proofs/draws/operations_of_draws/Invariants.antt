use Rattle.std.proofs.Common.{◌≡◌, ◌+◌, ◌-◌, ◌++◌, length}
use Rattle.std.specs.List.{All}
use Rattle.bk_trace.specs.Traces.{IsLine}
use Rattle.bk_trace.specs.Generator.{generated}
use Rattle.bk_trace.proofs.draws.operations_of_draws.Given as goal

abbrev pub invariant-loop-number : goal.invariant-loop-number
invariant-loop-number l = record {
  value : l.lines.items ++ generated l.config l.draws.state (l.number + 1) (l.operations - l.number)
      ≡ generated l.config l.seed 1 l.operations;
  each : All (λ line. IsLine l.config.caches line) l.lines.items;
  count : length l.lines.items ≡ l.number;
}
