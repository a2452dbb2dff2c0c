use Rattle.std.proofs.Common.{◌≡◌, ℕ, ◌<◌, ◌≤◌}
use Rattle.bk_system.specs.Channels.{queue, room, channel_count}
use Rattle.bk_system.proofs.sending.reserve_each.Given as goal

abbrev pub invariant-loop-channel : goal.invariant-loop-channel
invariant-loop-channel l = record {
  queue : queue l.channels ≡ queue l.initial.channels;
  room : (c : ℕ) → c < l.channel → l.more ≤ room l.channels c;
  count : channel_count l.channels ≡ channel_count l.initial.channels;
  config : l.channels.config ≡ l.initial.channels.config;
}
