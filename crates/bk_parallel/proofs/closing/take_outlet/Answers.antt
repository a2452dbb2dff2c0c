use Rattle.std.proofs.Common.{refl, sym, subst}
use Rattle.bk_parallel.specs.Teams.{IsAgent}
use Rattle.bk_parallel.proofs.LastEnds.{takes-outlet}
use Rattle.bk_parallel.proofs.OneChannel.{begins-within, team-kept}
use Rattle.bk_parallel.proofs.closing.take_outlet.Goals as goal

pub returns-clause-team : goal.returns-clause-team
returns-clause-team c =
    let agent = subst (IsAgent c.args.config) (sym c.begins_at-from.ensures)
    (begins-within c.args.config c.args.channel c.requires.between.there) in
    team-kept c.args.config c.args.agents.now c.begins_at-from.result c.index-agents-from.result _ c.requires.team agent refl refl

pub returns-clause-taken : goal.returns-clause-taken
returns-clause-taken c =
    let agent = subst (IsAgent c.args.config) (sym c.begins_at-from.ensures)
    (begins-within c.args.config c.args.channel c.requires.between.there) in
    takes-outlet c.args.config c.args.agents.now c.begins_at-from.result c.index-agents-from.result _ c.requires.team agent
    c.args.channel c.in-Some.outlet c.begins_at-from.ensures c.in-Some.ensures.items refl refl refl
