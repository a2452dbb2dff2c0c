-- What closing one channel does to the agents of a system.
use Rattle.std.specs.Prelude.{◌≡◌, ◌≢◌, ℕ, ◌==◌, List, [], ◌∷◌, ◌++◌, if◌then◌else◌}
use Rattle.bk_base.specs.Places.{Shape}
use Rattle.bk_msg.specs.declared.codec.Packet as wire
use Rattle.bk_msg.specs.declared.row.Row.{Row}
use Rattle.bk_agents.specs.Parts.{part_of}
use Rattle.bk_system.specs.declared.channel.Channel.{Channel}
use Rattle.bk_system.specs.Routes.{channel_of, begins_at, ends_at}
use Rattle.bk_threads.specs.System.{messages_of}
use Rattle.bk_rounds.specs.declared.agent.Agent.{Agent}
use Rattle.bk_rounds.specs.declared.ends.Inlet.{Inlet}
use Rattle.bk_rounds.specs.declared.ends.Outlet.{Outlet}
use Rattle.bk_rounds.specs.Reading.{packets_in}
use Rattle.bk_parallel.specs.Teams.{state_at, inlets_at, outlets_at, entries_at}

-- what the hardware of the agent at the end of a channel has in it, and that of the agent at its beginning
abbrev pub at_end : Shape → List Agent → Channel → List Row
at_end k agents channel = channel_of (state_at k agents (ends_at k channel)) channel

abbrev pub at_beginning : Shape → List Agent → Channel → List Row
at_beginning k agents channel = channel_of (state_at k agents (begins_at k channel)) channel

-- the ends of channels are those that they were, and so are the events of the round
pub record KeepsEnds (old new : List Agent) : Type 0 where
  pub inlets : (n : ℕ) → inlets_at new n ≡ inlets_at old n
  pub outlets : (n : ℕ) → outlets_at new n ≡ outlets_at old n
  pub entries : (n : ℕ) → entries_at new n ≡ entries_at old n

-- of the hardware of all agents, one channel has these messages at its end and those at its beginning, and nothing else has changed
pub record IsMoved (k : Shape) (channel : Channel) (old new : List Agent) (received kept : List Row) : Type 0 where
  pub channels : (n : ℕ) (other : Channel) → channel ≢ other
      → channel_of (state_at k new n) other ≡ channel_of (state_at k old n) other
  pub parts : (n : ℕ) → part_of k (state_at k new n) n ≡ part_of k (state_at k old n) n
  pub ending : at_end k new channel ≡ received
  pub beginning : at_beginning k new channel ≡ kept

-- an outlet was the last one of the agent at the beginning of a channel, and it is there no more
pub record TakesOutlet (k : Shape) (channel : Channel) (old new : List Agent) (outlet : Outlet) : Type 0 where
  pub outlets : (n : ℕ) → outlets_at old n ≡ outlets_at new n ++ (if begins_at k channel == n then outlet ∷ [] else [])
  pub inlets : (n : ℕ) → inlets_at new n ≡ inlets_at old n
  pub entries : (n : ℕ) → entries_at new n ≡ entries_at old n
  pub states : (n : ℕ) → state_at k new n ≡ state_at k old n

-- an inlet was the last one of the agent at the end of a channel, and it is there no more
pub record TakesInlet (k : Shape) (channel : Channel) (old new : List Agent) (inlet : Inlet) : Type 0 where
  pub inlets : (n : ℕ) → inlets_at old n ≡ inlets_at new n ++ (if ends_at k channel == n then inlet ∷ [] else [])
  pub outlets : (n : ℕ) → outlets_at new n ≡ outlets_at old n
  pub entries : (n : ℕ) → entries_at new n ≡ entries_at old n
  pub states : (n : ℕ) → state_at k new n ≡ state_at k old n

-- The last inlet of one agent and the last outlet of another were ends of the channel. They are there no more, and what was left in the
-- queue between them has gone to the agent at the end of the channel, and then what the other had not sent.
pub record ClosesOne (k : Shape) (channel : Channel) (old new : List Agent) : Type 0 where
  pub inlet : Inlet
  pub outlet : Outlet
  pub left : List wire.Packet
  pub ends : inlet.channel ≡ channel
  pub begins : outlet.channel ≡ channel
  pub inlets : (n : ℕ) → inlets_at old n ≡ inlets_at new n ++ (if ends_at k channel == n then inlet ∷ [] else [])
  pub outlets : (n : ℕ) → outlets_at old n ≡ outlets_at new n ++ (if begins_at k channel == n then outlet ∷ [] else [])
  pub queue : outlet.sender.sent ≡ inlet.receiver.taken ++ left
  pub moved : IsMoved k channel old new (at_end k old channel ++ (messages_of (packets_in k left) ++ at_beginning k old channel)) []
