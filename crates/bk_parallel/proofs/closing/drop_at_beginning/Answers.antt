use Rattle.std.proofs.Common.{drop, refl, sym, subst, ap, ◌∙◌}
use Rattle.bk_system.specs.State.{State}
use Rattle.bk_system.specs.Routes.{channel_of}
use Rattle.bk_parallel.specs.Teams.{IsAgent, state_at}
use Rattle.bk_parallel.specs.ClosesOne.{at_end, at_beginning}
use Rattle.bk_parallel.proofs.OneChannel.{begins-within, its-channel, team-kept, ends-kept, moved-beginning, state-before, moved-same}
use Rattle.bk_parallel.proofs.closing.drop_at_beginning.Goals as goal

pub drop_head-requires : goal.drop_head-requires
drop_head-requires c =
    let agent = subst (IsAgent c.args.config) (sym c.begins_at-from.ensures)
    (begins-within c.args.config c.args.channel c.requires.between.there) in
    its-channel c.args.config c.args.agents.now c.begins_at-from.result c.index-agents-from.result c.index-agents-from.result
    c.requires.team agent c.args.channel c.requires.between.there

pub returns-clause-team : goal.returns-clause-team
returns-clause-team c =
    let agent = subst (IsAgent c.args.config) (sym c.begins_at-from.ensures)
    (begins-within c.args.config c.args.channel c.requires.between.there) in
    team-kept c.args.config c.args.agents.now c.begins_at-from.result c.index-agents-from.result _ c.requires.team agent refl
    c.drop_head.ensures.config

pub returns-clause-ends : goal.returns-clause-ends
returns-clause-ends c =
    let agent = subst (IsAgent c.args.config) (sym c.begins_at-from.ensures)
    (begins-within c.args.config c.args.channel c.requires.between.there) in
    ends-kept c.args.config c.args.agents.now c.begins_at-from.result c.index-agents-from.result _ c.requires.team agent refl refl refl

pub returns-clause-moved : goal.returns-clause-moved
returns-clause-moved c =
    let k = c.args.config in
    let agents = c.args.agents.now in
    let channel = c.args.channel in
    let agent = subst (IsAgent k) (sym c.begins_at-from.ensures) (begins-within k channel c.requires.between.there) in
    moved-same k channel agents _ (at_end k agents channel) _ (at_end k agents channel) (drop 1 (at_beginning k agents channel))
    (moved-beginning k agents c.begins_at-from.result c.index-agents-from.result _ c.requires.team agent channel _ c.drop_head.ensures.rest
    c.begins_at-from.ensures c.requires.between.apart)
    refl
    (ap (λ (s : State). drop 1 (channel_of s channel))
    (sym (state-before k agents c.begins_at-from.result c.index-agents-from.result c.index-agents-from.result c.requires.team agent)
    ∙ ap (state_at k agents) c.begins_at-from.ensures))
