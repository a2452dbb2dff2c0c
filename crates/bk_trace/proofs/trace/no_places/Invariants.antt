use Rattle.std.proofs.Common.{◌≡◌, [], map}
use Rattle.bk_trace.specs.Traces.{index_of}
use Rattle.bk_trace.proofs.trace.no_places.Given as goal

abbrev pub invariant-loop : goal.invariant-loop
invariant-loop l = map (λ places. places.items) l.index.items ≡ index_of l.counter []
