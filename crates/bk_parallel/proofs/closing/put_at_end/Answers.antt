use Rattle.std.proofs.Common.{[], ◌∷◌, ◌++◌, refl, sym, subst, ap, ◌∙◌}
use Rattle.std.proofs.lemmas.Result.{on_ok_weaker}
use Rattle.bk_base.specs.Places.{Shape}
use Rattle.bk_msg.specs.Within.{IsWithin}
use Rattle.bk_system.specs.State.{State}
use Rattle.bk_system.specs.Routes.{channel_of}
use Rattle.bk_parallel.specs.Teams.{IsAgent, state_at}
use Rattle.bk_parallel.specs.ClosesOne.{at_end, at_beginning}
use Rattle.bk_parallel.proofs.OneChannel.{ends-within, its-config, its-channel, team-kept, ends-kept, moved-end, state-before, moved-same}
use Rattle.bk_parallel.proofs.closing.put_at_end.Goals as goal

pub deliver-requires-clause-channel : goal.deliver-requires-clause-channel
deliver-requires-clause-channel c =
    let agent = subst (IsAgent c.args.config) (sym c.ends_at-to.ensures) (ends-within c.args.config c.args.channel c.requires.between.there)
    in
    its-channel c.args.config c.args.agents.now c.ends_at-to.result c.index-agents-to.result c.index-agents-to.result c.requires.team agent
    c.args.channel c.requires.between.there

pub deliver-requires-clause-within : goal.deliver-requires-clause-within
deliver-requires-clause-within c =
    let agent = subst (IsAgent c.args.config) (sym c.ends_at-to.ensures) (ends-within c.args.config c.args.channel c.requires.between.there)
    in
    subst (λ (k : Shape). IsWithin k c.args.message.now)
    (sym (its-config c.args.config c.args.agents.now c.ends_at-to.result c.index-agents-to.result c.index-agents-to.result c.requires.team
    agent)) c.requires.within

pub returns-clause-team : goal.returns-clause-team
returns-clause-team c =
    let agent = subst (IsAgent c.args.config) (sym c.ends_at-to.ensures) (ends-within c.args.config c.args.channel c.requires.between.there)
    in
    team-kept c.args.config c.args.agents.now c.ends_at-to.result c.index-agents-to.result _ c.requires.team agent refl
    c.deliver.ensures.config

pub returns-clause-ends : goal.returns-clause-ends
returns-clause-ends c =
    let agent = subst (IsAgent c.args.config) (sym c.ends_at-to.ensures) (ends-within c.args.config c.args.channel c.requires.between.there)
    in
    ends-kept c.args.config c.args.agents.now c.ends_at-to.result c.index-agents-to.result _ c.requires.team agent refl refl refl

pub returns-clause-moved : goal.returns-clause-moved
returns-clause-moved c =
    let k = c.args.config in
    let agents = c.args.agents.now in
    let channel = c.args.channel in
    let agent = subst (IsAgent k) (sym c.ends_at-to.ensures) (ends-within k channel c.requires.between.there) in
    on_ok_weaker c.deliver.result (λ holds.
    moved-same k channel agents _ _ (at_beginning k agents channel) (at_end k agents channel ++ c.args.message.now ∷ [])
    (at_beginning k agents channel)
    (moved-end k agents c.ends_at-to.result c.index-agents-to.result _ c.requires.team agent channel _ holds c.ends_at-to.ensures
    c.requires.between.apart)
    (ap (λ (s : State). channel_of s channel ++ c.args.message.now ∷ [])
    (sym (state-before k agents c.ends_at-to.result c.index-agents-to.result c.index-agents-to.result c.requires.team agent)
    ∙ ap (state_at k agents) c.ends_at-to.ensures)) refl) c.deliver.ensures.ok
