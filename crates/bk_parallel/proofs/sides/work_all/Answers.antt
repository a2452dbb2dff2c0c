use Rattle.std.proofs.Common.{rules, sym, subst}
use Rattle.std.specs.Fn.{FnReturnsAt}
use Rattle.bk_lce.specs.Policies.{IsPolicy}
use Rattle.bk_rounds.specs.Tasks.{task_of}
use Rattle.bk_parallel.specs.Rounds.{CanWork, EndsRound}
use Rattle.bk_parallel.specs.declared.sides.Seat as places
use Rattle.bk_parallel.proofs.sides.work_all.Goals as goal

pub for_each_mut-requires-clause-accepts : goal.for_each_mut-requires-clause-accepts
for_each_mut-requires-clause-accepts g c κs within = λ i p below is. (
  (
    c.requires.few,
    subst (λ (seat : places.Seat g.row.F.Denot). IsPolicy g.F.Fn seat.victim.pick) (sym is) (c.requires.policies i p.now below),
    subst (λ (seat : places.Seat g.row.F.Denot). CanWork c.args.trace.now.config seat.agent) (sym is) (c.requires.can i p.now below),
  ),
  (search rules, search rules, search rules),
)

pub returns-clause-ends : goal.returns-clause-ends
returns-clause-ends g c n d l =
    let r = (c.for_each_mut.ensures n d l).1 in
    subst (λ (p : places.Seat g.row.F.Denot × places.Seat g.row.F.Denot).
    EndsRound (task_of (FnReturnsAt g.F.Fn p.0.victim.pick) c.args.program.now c.args.trace.now) p.1.ending p.0.agent p.1.agent)
    (λ j. (r.argument_is j, r.left j)) r.call
