use Rattle.std.proofs.Common.{◌≡◌, map, take}
use Rattle.bk_trace.specs.Traces.{index_of}
use Rattle.bk_trace.proofs.trace.index_of.Given as goal

abbrev pub invariant-loop-number : goal.invariant-loop-number
invariant-loop-number l = map (λ places. places.items) l.index.items ≡ index_of l.caches (take l.number l.lines)
