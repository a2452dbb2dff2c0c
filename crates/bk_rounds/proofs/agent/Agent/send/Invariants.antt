use Rattle.std.proofs.Common.{◌≡◌, [], map}
use Rattle.std.specs.List.{AllWithin}
use Rattle.bk_system.specs.Routes.{channel_of}
use Rattle.bk_system.specs.Systems.{state_of}
use Rattle.bk_rounds.specs.Ends.{sent, outlet_channel, outlet_table}
use Rattle.bk_rounds.specs.Moves.{Sends}
use Rattle.bk_rounds.proofs.agent.Agent.send.Given as goal

-- Of the outlets before this one, no channel holds anything any more: another send leaves them as they are.
abbrev pub invariant-loop-place : goal.invariant-loop-place
invariant-loop-place g l = record {
  number : l.self.number ≡ l.fn.self.number;
  config : l.self.hardware.config ≡ l.fn.self.hardware.config;
  inlets : l.self.inlets ≡ l.fn.self.inlets;
  clock : l.self.clock ≡ l.fn.self.clock;
  entries : l.self.entries ≡ l.fn.self.entries;
  tables : map outlet_table l.self.outlets.items ≡ map outlet_table l.fn.self.outlets.items;
  outlets : map outlet_channel l.self.outlets.items ≡ map outlet_channel l.fn.self.outlets.items;
  empty : AllWithin (λ channel. channel_of (state_of l.self.hardware) channel ≡ [])
      (map outlet_channel l.fn.self.outlets.items) 0 l.place;
  sends : Sends l.fn.self.hardware.config l.fn.self.number (state_of l.fn.self.hardware) (state_of l.self.hardware)
      (sent l.fn.self.hardware.config l.fn.self.outlets.items) (sent l.fn.self.hardware.config l.self.outlets.items)
      l.fn.self.clock;
}
