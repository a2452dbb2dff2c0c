use Rattle.std.proofs.Common.{refl, sym, subst}
use Rattle.bk_parallel.specs.Teams.{IsAgent}
use Rattle.bk_parallel.proofs.LastEnds.{takes-inlet}
use Rattle.bk_parallel.proofs.OneChannel.{ends-within, team-kept}
use Rattle.bk_parallel.proofs.closing.take_inlet.Goals as goal

pub returns-clause-team : goal.returns-clause-team
returns-clause-team c =
    let agent = subst (IsAgent c.args.config) (sym c.ends_at-to.ensures)
    (ends-within c.args.config c.args.channel c.requires.between.there) in
    team-kept c.args.config c.args.agents.now c.ends_at-to.result c.index-agents-to.result _ c.requires.team agent refl refl

pub returns-clause-taken : goal.returns-clause-taken
returns-clause-taken c =
    let agent = subst (IsAgent c.args.config) (sym c.ends_at-to.ensures)
    (ends-within c.args.config c.args.channel c.requires.between.there) in
    takes-inlet c.args.config c.args.agents.now c.ends_at-to.result c.index-agents-to.result _ c.requires.team agent
    c.args.channel c.in-Some.inlet c.ends_at-to.ensures c.in-Some.ensures.items refl refl refl
