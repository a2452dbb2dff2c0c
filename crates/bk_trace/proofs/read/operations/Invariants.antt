use Rattle.std.proofs.Common.{◌≡◌, ◌+◌, ◌≤◌, length}
use Rattle.std.specs.List.{All}
use Rattle.std.specs.Str.Lines.{lines}
use Rattle.bk_trace.specs.Traces.{IsLine}
use Rattle.bk_trace.specs.Reading.{lines_at}
use Rattle.bk_trace.proofs.Loop.{with_front}
use Rattle.bk_trace.proofs.read.operations.Given as goal

abbrev pub invariant-loop-rest : goal.invariant-loop-rest
invariant-loop-rest l = record {
  value : with_front l.operations.items (lines_at 10000 l.caches (length l.operations.items) l.line (lines l.rest))
      ≡ lines_at 10000 l.caches 0 l.first (lines l.text);
  few : length l.operations.items ≤ 10000;
  each : All (λ line. IsLine l.caches line) l.operations.items;
  short : l.line + length l.rest ≤ l.first + length l.text;
}

abbrev pub decreases-loop-rest : goal.decreases-loop-rest
decreases-loop-rest l = length l.rest
