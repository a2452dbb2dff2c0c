use Rattle.std.proofs.Common.{◌≡◌, List, [], refl, sym, subst, ◌∙◌}
use Rattle.bk_base.specs.Places.{Shape}
use Rattle.bk_msg.specs.Within.{IsWithin}
use Rattle.bk_msg.specs.declared.codec.Packet as wire
use Rattle.bk_system.specs.Routes.{channel_of}
use Rattle.bk_system.specs.Systems.{state_of}
use Rattle.bk_system.specs.declared.channel.Channel.{Channel}
use Rattle.bk_rounds.specs.Moves.{Sheds}
use Rattle.bk_rounds.proofs.Brings.{sheds-none, sheds-more}
use Rattle.bk_rounds.proofs.Channels.{is-channel, no-head, none-there}
use Rattle.bk_rounds.proofs.Choices.{on-err, on-ok}
use Rattle.bk_rounds.proofs.sending.send_to.Goals as goal

pub loop-init : goal.loop-init
loop-init g c = record {
  config = refl;
  channel = refl;
  table = refl;
  sheds = sheds-none c.args.hardware.now.config c.args.outlet.now.channel (state_of c.args.hardware.now) c.args.outlet.now.sender.sent
      c.args.clock;
}

pub head-requires : goal.head-requires
head-requires g c =
    is-channel c.args.hardware.now.config c.loop.hardware.config c.args.outlet.now.channel c.loop.outlet.channel
    c.loop.invariant.config c.loop.invariant.channel c.requires

pub returns-in_default-clause-sheds : goal.returns-in_default-clause-sheds
returns-in_default-clause-sheds g c = c.loop.invariant.sheds

pub returns-in_default-clause-all : goal.returns-in_default-clause-all
returns-in_default-clause-all g c =
    λ done. subst (λ (channel : Channel). channel_of (state_of c.loop.hardware) channel ≡ []) c.loop.invariant.channel
    (no-head (channel_of (state_of c.loop.hardware) c.loop.outlet.channel) (sym c.in_default.ensures.value))

pub returns-in_default-clause-channel : goal.returns-in_default-clause-channel
returns-in_default-clause-channel g c = c.loop.invariant.channel

pub returns-in_default-clause-table : goal.returns-in_default-clause-table
returns-in_default-clause-table g c = c.loop.invariant.table

pub returns-in_default-clause-config : goal.returns-in_default-clause-config
returns-in_default-clause-config g c = c.loop.invariant.config

pub returns-then-is_err-clause-sheds : goal.returns-then-is_err-clause-sheds
returns-then-is_err-clause-sheds g c =
    subst (λ (ps : List wire.Packet). Sheds c.args.hardware.now.config c.args.outlet.now.channel (state_of c.args.hardware.now)
    (state_of c.loop.hardware) c.args.outlet.now.sender.sent ps c.args.clock)
    (sym (on-err c.send.result _ (sym c.is_err.ensures.value ∙ c.if-is_err.true) c.send.ensures.unsent)) c.loop.invariant.sheds

pub returns-then-is_err-clause-channel : goal.returns-then-is_err-clause-channel
returns-then-is_err-clause-channel g c = c.loop.invariant.channel

pub returns-then-is_err-clause-table : goal.returns-then-is_err-clause-table
returns-then-is_err-clause-table g c = c.send.ensures.end.0 ∙ c.loop.invariant.table

pub returns-then-is_err-clause-config : goal.returns-then-is_err-clause-config
returns-then-is_err-clause-config g c = c.loop.invariant.config

pub drop_head-requires : goal.drop_head-requires
drop_head-requires g c =
    is-channel c.args.hardware.now.config c.loop.hardware.config c.args.outlet.now.channel c.loop.outlet.channel
    c.loop.invariant.config c.loop.invariant.channel c.requires

pub loop-preserved : goal.loop-preserved
loop-preserved g c =
    let within = subst (λ (k : Shape). IsWithin k c.in-Some.message.now) c.loop.invariant.config c.in-Some.ensures.within in
    record {
      config = c.drop_head.ensures.config ∙ c.loop.invariant.config;
      channel = c.loop.invariant.channel;
      table = c.send.ensures.end.0 ∙ c.loop.invariant.table;
      sheds = sheds-more c.args.hardware.now.config c.args.outlet.now.channel c.loop.outlet.channel (state_of c.args.hardware.now)
          (state_of c.loop.hardware) (state_of c.drop_head.new.self) c.args.outlet.now.sender.sent c.loop.outlet.sender.sent
          c.send.new.self.sent c.packet_with-packet.result c.in-Some.message.now c.args.clock c.loop.invariant.channel
          c.loop.invariant.sheds (on-ok c.send.result _ (sym c.is_err.ensures.value ∙ c.if-is_err.false) c.send.ensures.sent)
          (c.packet_with-packet.ensures c.args.hardware.now.config within) (sym c.in-Some.ensures.value) c.drop_head.ensures.rest;
    }

pub head-requires-2 : goal.head-requires-2
head-requires-2 g c =
    is-channel c.args.hardware.now.config c.loop.hardware.config c.args.outlet.now.channel c.loop.outlet.channel
    c.loop.invariant.config c.loop.invariant.channel c.requires

pub returns-clause-sheds : goal.returns-clause-sheds
returns-clause-sheds g c = c.loop.invariant.sheds

pub returns-clause-all : goal.returns-clause-all
returns-clause-all g c =
    λ done. subst (λ (channel : Channel). channel_of (state_of c.loop.hardware) channel ≡ []) c.loop.invariant.channel
    (none-there (channel_of (state_of c.loop.hardware) c.loop.outlet.channel) c.head-2.result c.is_none.result c.head-2.ensures.value
    c.is_none.ensures done)

pub returns-clause-channel : goal.returns-clause-channel
returns-clause-channel g c = c.loop.invariant.channel

pub returns-clause-table : goal.returns-clause-table
returns-clause-table g c = c.loop.invariant.table

pub returns-clause-config : goal.returns-clause-config
returns-clause-config g c = c.loop.invariant.config
