use Rattle.std.proofs.Common.{◌≡◌}
use Rattle.bk_system.specs.Systems.{state_of}
use Rattle.bk_rounds.specs.Moves.{Sheds}
use Rattle.bk_rounds.proofs.sending.send_to.Given as goal

abbrev pub invariant-loop : goal.invariant-loop
invariant-loop g l = record {
  config : l.hardware.config ≡ l.fn.hardware.config;
  channel : l.outlet.channel ≡ l.fn.outlet.channel;
  table : l.outlet.sender.channel ≡ l.fn.outlet.sender.channel;
  sheds : Sheds l.fn.hardware.config l.fn.outlet.channel (state_of l.fn.hardware) (state_of l.hardware) l.fn.outlet.sender.sent
      l.outlet.sender.sent l.fn.clock;
}
