use Rattle.std.proofs.Common.{◌≡◌}
use Rattle.bk_system.specs.Systems.{state_of}
use Rattle.bk_rounds.specs.Moves.{Brings}
use Rattle.bk_rounds.proofs.taking.take_from.Given as goal

abbrev pub invariant-loop : goal.invariant-loop
invariant-loop g l = record {
  config : l.hardware.config ≡ l.fn.hardware.config;
  channel : l.inlet.channel ≡ l.fn.inlet.channel;
  table : l.inlet.receiver.channel ≡ l.fn.inlet.receiver.channel;
  brings : Brings l.fn.hardware.config l.fn.inlet.channel (state_of l.fn.hardware) (state_of l.hardware) l.fn.inlet.receiver.taken
      l.inlet.receiver.taken l.fn.clock l.clock;
}
