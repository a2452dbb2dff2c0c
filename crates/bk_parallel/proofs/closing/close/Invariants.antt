use Rattle.std.proofs.Common.{◌≡◌, ℕ, take}
use Rattle.atomic_table.specs.Seated.{TableId}
use Rattle.bk_system.specs.declared.channel.Channel.{Channel}
use Rattle.bk_parallel.specs.Teams.{IsTeam, entries_at}
use Rattle.bk_parallel.specs.Joined.{AreJoined}
use Rattle.bk_parallel.proofs.PartlyClosed.{IsPartly}
use Rattle.bk_parallel.proofs.closing.close.Given as goal

-- The channels from this place on are closed, and those before it still open.
abbrev pub invariant-loop-place : goal.invariant-loop-place
invariant-loop-place g l = record {
  team : IsTeam l.fn.config l.agents;
  entries : (n : ℕ) → entries_at l.agents n ≡ entries_at l.fn.agents n;
  joined : (queues : Channel → TableId) × AreJoined l.fn.config (take l.place l.fn.channels) queues l.agents;
  partly : IsPartly l.fn.config (take l.place l.fn.channels) l.fn.agents l.agents;
}
