-- The channels of a round, from the moment at which they are opened to the one at which they are closed.
use Rattle.std.specs.Prelude.{◌≡◌, ◌≢◌, ℕ, ◌==◌, List, [], ◌++◌, true, map, filter, All, AllPairs}
use Rattle.atomic_table.specs.Seated.{TableId}
use Rattle.bk_base.specs.Places.{Shape}
use Rattle.bk_msg.specs.declared.row.Row.{Row}
use Rattle.bk_system.specs.declared.channel.Channel.{Channel}
use Rattle.bk_system.specs.Routes.{channel_of, begins_at, ends_at, IsChannel}
use Rattle.bk_agents.specs.Parts.{part_of}
use Rattle.bk_threads.specs.Agents.{Channels}
use Rattle.bk_threads.specs.System.{messages_of}
use Rattle.bk_rounds.specs.declared.agent.Agent.{Agent}
use Rattle.bk_rounds.specs.Ends.{taken_of, sent_to, took, sent, inlet_channel, outlet_channel, inlet_table, outlet_table, is_in}
use Rattle.bk_parallel.specs.Teams.{IsAgent, state_at, inlets_at, outlets_at}

-- a channel of the configuration that leads from one agent to another
pub record IsBetween (k : Shape) (channel : Channel) : Type 0 where
  pub there : IsChannel k channel
  pub apart : begins_at k channel ≢ ends_at k channel

-- all of them, each once
pub record AreBetween (k : Shape) (channels : List Channel) : Type 0 where
  pub each : All (IsBetween k) channels
  pub different : AllPairs (λ channel other. channel ≢ other) channels
  pub whole : (channel : Channel) → IsBetween k channel → is_in channel channels ≡ true

-- those that end, and those that begin, at agent n
abbrev pub ending_at : Shape → ℕ → List Channel → List Channel
ending_at k n channels = filter (λ channel. ends_at k channel == n) channels

abbrev pub beginning_at : Shape → ℕ → List Channel → List Channel
beginning_at k n channels = filter (λ channel. begins_at k channel == n) channels

-- Each agent has the inlets of the channels that end at it, and the outlets of those that begin at it, in the order of the channels. Both
-- ends of a channel are of the same queue.
pub record AreJoined (k : Shape) (channels : List Channel) (queues : Channel → TableId) (agents : List Agent) : Type 0 where
  pub inlets : (n : ℕ) → IsAgent k n → map inlet_channel (inlets_at agents n) ≡ ending_at k n channels
  pub outlets : (n : ℕ) → IsAgent k n → map outlet_channel (outlets_at agents n) ≡ beginning_at k n channels
  pub inlet_tables : (n : ℕ) → IsAgent k n → map inlet_table (inlets_at agents n) ≡ map queues (ending_at k n channels)
  pub outlet_tables : (n : ℕ) → IsAgent k n → map outlet_table (outlets_at agents n) ≡ map queues (beginning_at k n channels)

-- nothing was taken of a channel and nothing sent
pub record AreUnused (agents : List Agent) : Type 0 where
  pub taken : (n : ℕ) (channel : Channel) → taken_of (inlets_at agents n) channel ≡ []
  pub sent : (n : ℕ) (channel : Channel) → sent_to (outlets_at agents n) channel ≡ []

-- The channels were closed. What was left in the queue of one, and then what its sender still had in it, has gone to the agent at its end.
pub record AreClosed (k : Shape) (old new : List Agent) (left : Channels Channel Row) : Type 0 where
  pub queues : (channel : Channel) → IsBetween k channel
      → sent k (outlets_at old (begins_at k channel)) channel ≡ took k (inlets_at old (ends_at k channel)) channel ++ left channel
  pub received : (channel : Channel) → IsBetween k channel
      → channel_of (state_at k new (ends_at k channel)) channel
      ≡ channel_of (state_at k old (ends_at k channel)) channel
      ++ (messages_of (left channel) ++ channel_of (state_at k old (begins_at k channel)) channel)
  pub given : (channel : Channel) → IsBetween k channel → channel_of (state_at k new (begins_at k channel)) channel ≡ []
  pub others : (channel : Channel) → (IsBetween k channel → ⊥)
      → (n : ℕ) → channel_of (state_at k new n) channel ≡ channel_of (state_at k old n) channel
  pub parts : (n : ℕ) → part_of k (state_at k new n) n ≡ part_of k (state_at k old n) n
