use Rattle.std.proofs.Common.{◌≡◌, map}
use Rattle.bk_system.specs.Systems.{state_of}
use Rattle.bk_rounds.specs.Ends.{took, inlet_channel, inlet_table}
use Rattle.bk_rounds.specs.Moves.{Takes}
use Rattle.bk_rounds.proofs.agent.Agent.take.Given as goal

abbrev pub invariant-loop-place : goal.invariant-loop-place
invariant-loop-place g l = record {
  number : l.self.number ≡ l.fn.self.number;
  config : l.self.hardware.config ≡ l.fn.self.hardware.config;
  outlets : l.self.outlets ≡ l.fn.self.outlets;
  entries : l.self.entries ≡ l.fn.self.entries;
  tables : map inlet_table l.self.inlets.items ≡ map inlet_table l.fn.self.inlets.items;
  inlets : map inlet_channel l.self.inlets.items ≡ map inlet_channel l.fn.self.inlets.items;
  takes : Takes l.fn.self.hardware.config l.fn.self.number (state_of l.fn.self.hardware) (state_of l.self.hardware)
      (took l.fn.self.hardware.config l.fn.self.inlets.items) (took l.fn.self.hardware.config l.self.inlets.items)
      l.fn.self.clock l.self.clock;
}
