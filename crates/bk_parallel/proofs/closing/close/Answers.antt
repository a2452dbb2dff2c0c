use Rattle.std.proofs.Common.{◌≡◌, ◌<◌, ℕ, ◌-◌, List, take, length, get_or, refl, sym, subst, ap, ◌∙◌, arith}
use Rattle.std.proofs.lemmas.List.{take_all}
use Rattle.bk_system.specs.declared.channel.Channel.{Channel}
use Rattle.bk_system.specs.declared.channel.Channel.TheVariants.{Request}
use Rattle.bk_rounds.specs.Ends.{is_in}
use Rattle.bk_rounds.specs.Reading.{packets_in}
use Rattle.bk_parallel.specs.Joined.{AreJoined}
use Rattle.bk_parallel.proofs.LastEnds.{joined-less}
use Rattle.bk_parallel.proofs.PartlyClosed.{IsPartly, left_in, partly-none, partly-more, all-closed, all-apart, one-more, fresh}
use Rattle.bk_parallel.proofs.closing.close.Goals as goal

pub loop-place-init : goal.loop-place-init
loop-place-init g c =
    let all : take (length c.args.channels.now) c.args.channels.now ≡ c.args.channels.now =
    take_all (length c.args.channels.now) c.args.channels.now (omega arith) in
    record {
      team = c.requires.team;
      entries = λ n. refl;
      joined = (
        c.requires.joined.0,
        subst (λ (cs : List Channel). AreJoined c.args.config cs c.requires.joined.0 c.args.agents.now)
            (sym all) c.requires.joined.1,
      );
      partly = partly-none c.args.config (take (length c.args.channels.now) c.args.channels.now) c.args.agents.now
          (λ channel between. ap (is_in channel) all ∙ c.requires.channels.whole channel between);
    }

pub close_one-requires-clause-team : goal.close_one-requires-clause-team
close_one-requires-clause-team g c = c.loop-place.invariant.team

pub close_one-requires-clause-joined : goal.close_one-requires-clause-joined
close_one-requires-clause-joined g c = (
  take (c.loop-place.place - 1) c.args.channels.now,
  c.loop-place.invariant.joined.0,
  subst (λ (cs : List Channel). AreJoined c.args.config cs c.loop-place.invariant.joined.0 c.loop-place.agents)
      (one-more c.args.channels.now c.loop-place.place (Request 0) c.loop-place-test.true c.loop-place.auto.place)
      c.loop-place.invariant.joined.1,
)

pub loop-place-preserved : goal.loop-place-preserved
loop-place-preserved g c =
    let k = c.args.config in
    let cs = c.args.channels.now in
    let some = c.loop-place-test.true in
    let few = c.loop-place.auto.place in
    let inside : c.loop-place.place - 1 < length c.args.channels.now = omega (arith, some, few) in
    let rest = take (c.loop-place.place - 1) cs in
    let channel = get_or cs (c.loop-place.place - 1) (Request 0) in
    let queues = c.loop-place.invariant.joined.0 in
    let split = one-more cs c.loop-place.place (Request 0) some few in
    let joined = subst (λ (those : List Channel). AreJoined c.args.config those c.loop-place.invariant.joined.0 c.loop-place.agents) split
    c.loop-place.invariant.joined.1 in
    let partly = subst (λ (those : List Channel). IsPartly c.args.config those c.args.agents.now c.loop-place.agents) split
    c.loop-place.invariant.partly in
    let closes = c.in_ok-close_one.ensures.closes in
    let between = c.requires.channels.each (c.loop-place.place - 1) (Request 0) inside in
    record {
      team = c.close_one.ensures.team;
      entries = λ n. c.close_one.ensures.entries n ∙ c.loop-place.invariant.entries n;
      joined = (queues, joined-less k rest channel queues c.loop-place.agents joined c.close_one.new.agents closes);
      partly = partly-more k rest channel queues c.args.agents.now c.loop-place.agents c.close_one.new.agents between
          (fresh cs (c.loop-place.place - 1) (Request 0) c.requires.channels.different inside) joined partly closes;
    }

pub returns-in_err-close_one-clause-entries : goal.returns-in_err-close_one-clause-entries
returns-in_err-close_one-clause-entries g c = λ n. c.close_one.ensures.entries n ∙ c.loop-place.invariant.entries n

pub returns-clause-team : goal.returns-clause-team
returns-clause-team g c = c.loop-place.invariant.team

pub returns-clause-apart : goal.returns-clause-apart
returns-clause-apart g c =
    let stop = c.loop-place-test.false in
    let none : c.loop-place.place ≡ 0 = omega (arith, stop) in
    all-apart c.args.config c.loop-place.invariant.joined.0 c.loop-place.agents c.loop-place.invariant.team
    (subst (λ (n : ℕ). AreJoined c.args.config (take n c.args.channels.now) c.loop-place.invariant.joined.0 c.loop-place.agents) none
    c.loop-place.invariant.joined.1)

pub returns-clause-closed : goal.returns-clause-closed
returns-clause-closed g c =
    let stop = c.loop-place-test.false in
    let none : c.loop-place.place ≡ 0 = omega (arith, stop) in (
      (λ channel. packets_in c.args.config (left_in c.args.config c.args.agents.now channel)),
      all-closed c.args.config c.args.agents.now c.loop-place.agents
          (subst (λ (n : ℕ). IsPartly c.args.config (take n c.args.channels.now) c.args.agents.now c.loop-place.agents) none
          c.loop-place.invariant.partly),
    )

pub returns-clause-entries : goal.returns-clause-entries
returns-clause-entries g c = c.loop-place.invariant.entries
