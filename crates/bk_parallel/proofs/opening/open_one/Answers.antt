use Rattle.std.proofs.Common.{refl}
use Rattle.bk_rounds.specs.declared.ends.Inlet.{Inlet}
use Rattle.bk_rounds.specs.declared.ends.Outlet.{Outlet}
use Rattle.bk_parallel.proofs.Giving.{mid-team, mid-states, mid-entries, both-team, both-states, both-entries, both-opens}
use Rattle.bk_parallel.proofs.opening.open_one.Goals as goal

pub returns-in_err-push-clause-team : goal.returns-in_err-push-clause-team
returns-in_err-push-clause-team c =
    mid-team c.args.config c.args.agents.now c.args.channel c.requires.team c.requires.between.there c.begins_at.result c.begins_at.ensures
    c.index-agents-begins_at.result c.push.new.self

pub returns-in_err-push-clause-states : goal.returns-in_err-push-clause-states
returns-in_err-push-clause-states c =
    mid-states c.args.config c.args.agents.now c.args.channel c.requires.team c.requires.between.there c.begins_at.result
    c.begins_at.ensures c.index-agents-begins_at.result c.push.new.self

pub returns-in_err-push-clause-entries : goal.returns-in_err-push-clause-entries
returns-in_err-push-clause-entries c =
    mid-entries c.args.config c.args.agents.now c.args.channel c.requires.team c.requires.between.there c.begins_at.result
    c.begins_at.ensures c.index-agents-begins_at.result c.push.new.self

pub returns-in_err-push-2-clause-team : goal.returns-in_err-push-2-clause-team
returns-in_err-push-2-clause-team c =
    both-team c.args.config c.args.agents.now c.args.channel c.requires.team c.requires.between.there c.begins_at.result
    c.begins_at.ensures c.index-agents-begins_at.result c.push.new.self c.ends_at.result c.ends_at.ensures
    c.index-agents-ends_at.result c.push-2.new.self

pub returns-in_err-push-2-clause-states : goal.returns-in_err-push-2-clause-states
returns-in_err-push-2-clause-states c =
    both-states c.args.config c.args.agents.now c.args.channel c.requires.team c.requires.between.there c.begins_at.result
    c.begins_at.ensures c.index-agents-begins_at.result c.push.new.self c.ends_at.result c.ends_at.ensures
    c.index-agents-ends_at.result c.push-2.new.self

pub returns-in_err-push-2-clause-entries : goal.returns-in_err-push-2-clause-entries
returns-in_err-push-2-clause-entries c =
    both-entries c.args.config c.args.agents.now c.args.channel c.requires.team c.requires.between.there c.begins_at.result
    c.begins_at.ensures c.index-agents-begins_at.result c.push.new.self c.ends_at.result c.ends_at.ensures
    c.index-agents-ends_at.result c.push-2.new.self

pub returns-clause-team : goal.returns-clause-team
returns-clause-team c =
    both-team c.args.config c.args.agents.now c.args.channel c.requires.team c.requires.between.there c.begins_at.result
    c.begins_at.ensures c.index-agents-begins_at.result c.push.new.self c.ends_at.result c.ends_at.ensures
    c.index-agents-ends_at.result c.push-2.new.self

pub returns-clause-states : goal.returns-clause-states
returns-clause-states c =
    both-states c.args.config c.args.agents.now c.args.channel c.requires.team c.requires.between.there c.begins_at.result
    c.begins_at.ensures c.index-agents-begins_at.result c.push.new.self c.ends_at.result c.ends_at.ensures
    c.index-agents-ends_at.result c.push-2.new.self

pub returns-clause-entries : goal.returns-clause-entries
returns-clause-entries c =
    both-entries c.args.config c.args.agents.now c.args.channel c.requires.team c.requires.between.there c.begins_at.result
    c.begins_at.ensures c.index-agents-begins_at.result c.push.new.self c.ends_at.result c.ends_at.ensures
    c.index-agents-ends_at.result c.push-2.new.self

pub returns-clause-opens : goal.returns-clause-opens
returns-clause-opens c =
    let inlet : Inlet = record { channel = c.args.channel; receiver = c.in_ok-sender.receiver } in
    let outlet : Outlet = record { channel = c.args.channel; sender = c.in_ok-sender.sender } in (
      inlet,
      outlet,
      both-opens c.args.config c.args.agents.now c.args.channel c.requires.team c.requires.between.there c.begins_at.result
          c.begins_at.ensures c.index-agents-begins_at.result c.push.new.self c.ends_at.result c.ends_at.ensures
          c.index-agents-ends_at.result c.push-2.new.self inlet outlet c.in_ok-push.ensures.items c.in_ok-push-2.ensures.items refl refl
          c.in_ok-sender.ensures.one c.in_ok-sender.ensures.empty.1 c.in_ok-sender.ensures.empty.0,
    )
