use Rattle.std.proofs.Common.{◌<◌, List, length, refl, subst, ◌∙◌, arith}
use Rattle.std.proofs.lemmas.List.{take_all}
use Rattle.bk_system.specs.declared.channel.Channel.{Channel}
use Rattle.bk_parallel.specs.Joined.{AreJoined}
use Rattle.bk_parallel.proofs.Opened.{joined-none, unused-none, opened-next, opened-unused, some-channel}
use Rattle.bk_parallel.proofs.opening.open.Goals as goal

pub loop-channel-init : goal.loop-channel-init
loop-channel-init c = record {
  team = c.requires.team;
  table = λ some. absurd (omega (arith, some));
  joined = λ table. (λ channel. table, joined-none c.args.config (λ channel. table) c.args.agents.now c.requires.apart);
  unused = unused-none c.args.agents.now c.requires.apart;
  states = λ n. refl;
  entries = λ n. refl;
}

pub open_one-requires-clause-team : goal.open_one-requires-clause-team
open_one-requires-clause-team c = c.loop-channel.invariant.team

pub returns-in_err-open_one-clause-states : goal.returns-in_err-open_one-clause-states
returns-in_err-open_one-clause-states c = λ n. c.open_one.ensures.states n ∙ c.loop-channel.invariant.states n

pub returns-in_err-open_one-clause-entries : goal.returns-in_err-open_one-clause-entries
returns-in_err-open_one-clause-entries c = λ n. c.open_one.ensures.entries n ∙ c.loop-channel.invariant.entries n

pub loop-channel-preserved : goal.loop-channel-preserved
loop-channel-preserved c =
    let opens = c.in_ok-open_one.ensures.opens in
    record {
      team = c.in_ok-open_one.ensures.team;
      table = λ some. opens.0.receiver.channel;
      joined = λ table. opened-next c.args.config c.args.channels.now c.loop-channel.channel-index _ c.loop-channel.agents
          c.open_one.new.agents c.requires.channels c.loop-channel-test.true opens c.loop-channel.invariant.joined;
      unused = opened-unused c.args.config c.args.channels.now c.loop-channel.channel-index _ c.loop-channel.agents
          c.open_one.new.agents opens c.loop-channel.invariant.unused;
      states = λ n. c.in_ok-open_one.ensures.states n ∙ c.loop-channel.invariant.states n;
      entries = λ n. c.in_ok-open_one.ensures.entries n ∙ c.loop-channel.invariant.entries n;
    }

pub returns-clause-team : goal.returns-clause-team
returns-clause-team c = c.loop-channel.invariant.team

pub returns-clause-joined : goal.returns-clause-joined
returns-clause-joined c =
    let many : 0 < length c.args.channels.now = some-channel c.args.config c.args.channels.now c.requires.channels in
    let begun : 0 < c.loop-channel.channel-index = omega (arith, many, c.loop-channel-test.false) in
    let joined = c.loop-channel.invariant.joined (c.loop-channel.invariant.table begun) in (
      joined.0,
      subst (λ (opened : List Channel). AreJoined c.args.config opened joined.0 c.loop-channel.agents)
          (take_all c.loop-channel.channel-index c.args.channels.now (omega (arith, c.loop-channel-test.false))) joined.1,
    )

pub returns-clause-unused : goal.returns-clause-unused
returns-clause-unused c = c.loop-channel.invariant.unused

pub returns-clause-states : goal.returns-clause-states
returns-clause-states c = c.loop-channel.invariant.states

pub returns-clause-entries : goal.returns-clause-entries
returns-clause-entries c = c.loop-channel.invariant.entries
