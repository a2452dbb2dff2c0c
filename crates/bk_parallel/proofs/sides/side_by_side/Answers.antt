use Rattle.std.proofs.Common.{◌≡◌, ◌++◌, List, length, map, take, drop, get_or, IfOk, sym, ap, ◌∙◌, subst}
use Rattle.std.specs.List.{All}
use Rattle.std.specs.Fn.{FnReturnsAt}
use Rattle.bk_lce.specs.declared.policy.Victim.{Victim}
use Rattle.bk_rounds.specs.declared.agent.Agent.{Agent}
use Rattle.bk_rounds.specs.Tasks.{task_of}
use Rattle.bk_parallel.specs.Rounds.{EndsRound}
use Rattle.bk_parallel.specs.declared.sides.Seat as places
use Rattle.bk_parallel.specs.declared.sides.Ending.{Ending}
use Rattle.bk_parallel.proofs.Seats.{HasEnded, can-work, has-worked}
use Rattle.bk_parallel.proofs.Worked.{back}
use Rattle.bk_parallel.proofs.sides.side_by_side.Goals as goal

pub work_all-requires-clause-can : goal.work_all-requires-clause-can
work_all-requires-clause-can g c κs within =
    can-work (λ (seat : places.Seat g.row.F.Denot). seat.agent) (λ (seat : places.Seat g.row.F.Denot). seat.ending)
    c.args.trace.now.config c.deref_mut.result.now c.args.agents.items
    (ap (map (λ (seat : places.Seat g.row.F.Denot). seat.agent)) c.deref_mut.ensures.value ∙ (c.in_ok-seats.ensures).agents)
    c.requires.team c.requires.ready

pub returns-clause-worked : goal.returns-clause-worked
returns-clause-worked g c =
    let agent_of : places.Seat g.row.F.Denot → Agent = λ seat. seat.agent in
    let ending_of : places.Seat g.row.F.Denot → Ending = λ seat. seat.ending in
    let seats = c.deref_mut.result.now in
    let after = c.work_all.new.seats in
    let task = task_of (FnReturnsAt g.F.Fn c.args.victim.pick) c.args.program.now c.args.trace.now in
    let came : take c.in_ok-seats.seats.len (after ++ drop (length after) c.in_ok-seats.seats.items) ≡ after =
    back c.in_ok-seats.seats.items seats after c.in_ok-seats.seats.len c.deref_mut.ensures.value c.deref_mut.ensures.len
    (c.work_all.ensures.count ∙ ap length c.deref_mut.ensures.value) in
    let victims = subst (All (λ (seat : places.Seat g.row.F.Denot). seat.victim ≡ c.args.victim)) (sym c.deref_mut.ensures.value)
    (c.in_ok-seats.ensures).victims in
    has-worked agent_of ending_of task seats after c.args.agents.items c.agents_of.result
    (ap (map agent_of) c.deref_mut.ensures.value ∙ (c.in_ok-seats.ensures).agents) c.work_all.ensures.count
    (λ n d l. subst (λ (victim : Victim g.row.F.Denot). EndsRound (task_of (FnReturnsAt g.F.Fn victim.pick) c.args.program.now
    c.args.trace.now) (get_or after n d).ending (get_or seats n d).agent (get_or after n d).agent) (victims n d l)
    (c.work_all.ensures.ends n d l))
    (subst (λ (xs : List (places.Seat g.row.F.Denot)). IfOk c.agents_of.result (λ r. r.0.items ≡ map agent_of xs)) came
    c.agents_of.ensures.agents)
    (subst (λ (xs : List (places.Seat g.row.F.Denot)). IfOk c.agents_of.result (λ r. All (HasEnded agent_of ending_of r.1) xs)) came
    c.agents_of.ensures.ended)
