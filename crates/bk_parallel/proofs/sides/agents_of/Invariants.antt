use Rattle.bk_parallel.specs.declared.sides.Seat as places
use Rattle.bk_parallel.proofs.Seats.{Seen}
use Rattle.bk_parallel.proofs.sides.agents_of.Given as goal

abbrev pub invariant-loop-seat : goal.invariant-loop-seat
invariant-loop-seat g l =
    Seen (λ (seat : places.Seat g.row.F.Denot). seat.agent) (λ (seat : places.Seat g.row.F.Denot). seat.ending) l.fn.seats.items
    l.seat-iterator.rest.items l.seat-iterator.rest.len l.agents.items l.idle
