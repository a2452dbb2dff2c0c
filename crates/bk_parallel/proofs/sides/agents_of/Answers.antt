use Rattle.std.proofs.Common.{sym, ◌∙◌}
use Rattle.bk_parallel.specs.declared.sides.Seat as places
use Rattle.bk_parallel.proofs.Seats.{none-seen, one-seen, all-seen}
use Rattle.bk_parallel.proofs.sides.agents_of.Goals as goal
use Rattle.bk_parallel.proofs.sides.agents_of.Goals.{in-Idle, in-Busy}

pub loop-seat-init : goal.loop-seat-init
loop-seat-init g c =
    none-seen (λ (seat : places.Seat g.row.F.Denot). seat.agent) (λ (seat : places.Seat g.row.F.Denot). seat.ending) c.args.seats.items
    c.into_iter-seat-iterator.result.rest.items c.into_iter-seat-iterator.result.rest.len c.args.seats.len c.new-agents.result.items
    c.into_iter-seat-iterator.ensures.into_iter_gives.0 c.into_iter-seat-iterator.ensures.into_iter_gives.1 c.args.seats.ok.0
    c.new-agents.ensures.items

pub loop-seat-preserved : goal.loop-seat-preserved
loop-seat-preserved g c =
    let seen = one-seen (λ (seat : places.Seat g.row.F.Denot). seat.agent) (λ (seat : places.Seat g.row.F.Denot). seat.ending)
    c.args.seats.items c.loop-seat.seat-iterator.rest.items c.next.new.self.rest.items c.loop-seat.seat-iterator.rest.len
    c.next.new.self.rest.len c.loop-seat.agents.items c.push.new.self.items c.loop-seat.idle c.match-seat.idle c.in-Some.seat
    c.loop-seat.invariant (c.in-Some.ensures).steps.0 (c.in-Some.ensures).steps.1 (c.in_ok-push.ensures).items in
    elim c.match-seat.branch [
      | in-Idle w ↦ seen (λ e. sym w.idle-is ∙ e) ((λ out. absurd (cc (w.in-Idle.is, out))), λ e. w.in-Idle.is)
      | in-Busy w ↦ seen (λ e. let off = sym w.idle-is ∙ e in absurd (cc (off)))
          ((λ out. absurd (cc (w.in-Busy.is, out))), λ e. let off = sym w.idle-is ∙ e in absurd (cc (off)))
    ]

pub returns-clause-agents : goal.returns-clause-agents
returns-clause-agents g c =
    (all-seen (λ (seat : places.Seat g.row.F.Denot). seat.agent) (λ (seat : places.Seat g.row.F.Denot). seat.ending) c.args.seats.items
    c.loop-seat.seat-iterator.rest.items c.loop-seat.seat-iterator.rest.len c.loop-seat.agents.items c.loop-seat.idle
    c.loop-seat.invariant (c.in-None.ensures).steps.0).0

pub returns-clause-ended : goal.returns-clause-ended
returns-clause-ended g c =
    (all-seen (λ (seat : places.Seat g.row.F.Denot). seat.agent) (λ (seat : places.Seat g.row.F.Denot). seat.ending) c.args.seats.items
    c.loop-seat.seat-iterator.rest.items c.loop-seat.seat-iterator.rest.len c.loop-seat.agents.items c.loop-seat.idle
    c.loop-seat.invariant (c.in-None.ensures).steps.0).1
