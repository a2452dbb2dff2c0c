use Rattle.std.proofs.Common.{◌≤◌, List, refl, sym, subst, ◌∙◌, arith}
use Rattle.bk_msg.specs.declared.codec.Packet as wire
use Rattle.bk_system.specs.Systems.{state_of}
use Rattle.bk_rounds.specs.Moves.{Brings}
use Rattle.bk_rounds.proofs.Brings.{brings-none, brings-more}
use Rattle.bk_rounds.proofs.Channels.{is-channel}
use Rattle.bk_rounds.proofs.taking.take_from.Goals as goal

pub loop-init : goal.loop-init
loop-init g c = record {
  config = refl;
  channel = refl;
  table = refl;
  brings = brings-none c.args.hardware.now.config c.args.inlet.now.channel (state_of c.args.hardware.now) c.args.inlet.now.receiver.taken
      c.args.clock;
}

pub returns-in_default-clause-brings : goal.returns-in_default-clause-brings
returns-in_default-clause-brings g c =
    subst (λ (ps : List wire.Packet). Brings c.args.hardware.now.config c.args.inlet.now.channel (state_of c.args.hardware.now)
    (state_of c.loop.hardware) c.args.inlet.now.receiver.taken ps c.args.clock c.loop.clock) (sym c.in_default.ensures.none)
    c.loop.invariant.brings

pub returns-in_default-clause-channel : goal.returns-in_default-clause-channel
returns-in_default-clause-channel g c = c.loop.invariant.channel

pub returns-in_default-clause-table : goal.returns-in_default-clause-table
returns-in_default-clause-table g c = c.take.ensures.end.0 ∙ c.loop.invariant.table

pub returns-in_default-clause-config : goal.returns-in_default-clause-config
returns-in_default-clause-config g c = c.loop.invariant.config

pub put_in-requires : goal.put_in-requires
put_in-requires g c =
    is-channel c.args.hardware.now.config c.loop.hardware.config c.args.inlet.now.channel c.loop.inlet.channel
    c.loop.invariant.config c.loop.invariant.channel c.requires

pub returns-in_err-put_in-clause-channel : goal.returns-in_err-put_in-clause-channel
returns-in_err-put_in-clause-channel g c = c.loop.invariant.channel

pub returns-in_err-put_in-clause-table : goal.returns-in_err-put_in-clause-table
returns-in_err-put_in-clause-table g c = c.take.ensures.end.0 ∙ c.loop.invariant.table

pub returns-in_err-put_in-clause-config : goal.returns-in_err-put_in-clause-config
returns-in_err-put_in-clause-config g c = c.put_in.ensures.config ∙ c.loop.invariant.config

pub loop-preserved : goal.loop-preserved
loop-preserved g c =
    let greatest = c.max-clock.ensures in
    let on : c.loop.clock ≤ c.max-clock.result = omega (arith, greatest) in
    let by : c.in-Some.packet.stamp ≤ c.max-clock.result = omega (arith, greatest) in
    record {
      config = c.put_in.ensures.config ∙ c.loop.invariant.config;
      channel = c.loop.invariant.channel;
      table = c.take.ensures.end.0 ∙ c.loop.invariant.table;
      brings = brings-more c.args.hardware.now.config c.loop.hardware.config c.args.inlet.now.channel c.loop.inlet.channel
          (state_of c.args.hardware.now) (state_of c.loop.hardware) (state_of c.put_in.new.hardware) c.args.inlet.now.receiver.taken
          c.loop.inlet.receiver.taken c.take.new.self.taken c.in-Some.packet c.args.clock c.loop.clock c.max-clock.result
          c.loop.invariant.config c.loop.invariant.channel c.loop.invariant.brings c.in-Some.ensures.taken c.in_ok-put_in.ensures.ok on by;
    }

pub returns-clause-brings : goal.returns-clause-brings
returns-clause-brings g c = c.loop.invariant.brings

pub returns-clause-channel : goal.returns-clause-channel
returns-clause-channel g c = c.loop.invariant.channel

pub returns-clause-table : goal.returns-clause-table
returns-clause-table g c = c.loop.invariant.table

pub returns-clause-config : goal.returns-clause-config
returns-clause-config g c = c.loop.invariant.config
