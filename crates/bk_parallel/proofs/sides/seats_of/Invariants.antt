use Rattle.std.proofs.Common.{◌≡◌, ◌++◌, length, map, All}
use Rattle.bk_parallel.specs.declared.sides.Seat as places
use Rattle.bk_parallel.proofs.sides.seats_of.Given as goal

abbrev pub invariant-loop-agent : goal.invariant-loop-agent
invariant-loop-agent g l = record {
  victim : l.victim ≡ l.fn.victim;
  agents : map (λ (seat : places.Seat g.row.F.Denot). seat.agent) l.seats.items ++ l.agent-iterator.rest.items ≡ l.fn.agents.items;
  victims : All (λ (seat : places.Seat g.row.F.Denot). seat.victim ≡ l.fn.victim) l.seats.items;
  rest_len : l.agent-iterator.rest.len ≡ length l.agent-iterator.rest.items;
}
