use Rattle.std.proofs.Common.{◌≡◌, ℕ, ◌<◌, ◌≤◌, drop}
use Rattle.bk_system.specs.Channels.{queue, room, channel_count}
use Rattle.bk_system.specs.Events.{commands_with, memout_with}
use Rattle.bk_system.specs.Needs.{command_count, memory_count}
use Rattle.bk_system.proofs.sending.send_all.Given as goal

abbrev pub invariant-loop-message : goal.invariant-loop-message
invariant-loop-message l = record {
  commands : commands_with (drop l.message-index l.sent) (queue l.commands) ≡ commands_with l.sent (queue l.initial.commands);
  memout : memout_with (drop l.message-index l.sent) (queue l.memout 0) ≡ memout_with l.sent (queue l.initial.memout 0);
  commands_room : (c : ℕ) → c < l.commands.config.caches → command_count (drop l.message-index l.sent) ≤ room l.commands c;
  memout_room : memory_count (drop l.message-index l.sent) ≤ room l.memout 0;
  commands_count : channel_count l.commands ≡ channel_count l.initial.commands;
  memout_count : channel_count l.memout ≡ channel_count l.initial.memout;
  commands_config : l.commands.config ≡ l.initial.commands.config;
  memout_config : l.memout.config ≡ l.initial.memout.config;
}
