use Rattle.std.proofs.Common.{◌≡◌, ℕ, ◌<◌, take}
use Rattle.atomic_table.specs.Seated.{TableId}
use Rattle.bk_system.specs.declared.channel.Channel.{Channel}
use Rattle.bk_parallel.specs.Teams.{IsTeam, state_at, entries_at}
use Rattle.bk_parallel.specs.Joined.{AreJoined, AreUnused}
use Rattle.bk_parallel.proofs.opening.open.Given as goal

-- A table is in hand only once a channel is open.
abbrev pub invariant-loop-channel : goal.invariant-loop-channel
invariant-loop-channel l = record {
  team : IsTeam l.fn.config l.agents;
  table : 0 < l.channel-index → TableId;
  joined : TableId → ((queues : Channel → TableId) × AreJoined l.fn.config (take l.channel-index l.fn.channels) queues l.agents);
  unused : AreUnused l.agents;
  states : (n : ℕ) → state_at l.fn.config l.agents n ≡ state_at l.fn.config l.fn.agents n;
  entries : (n : ℕ) → entries_at l.agents n ≡ entries_at l.fn.agents n;
}
