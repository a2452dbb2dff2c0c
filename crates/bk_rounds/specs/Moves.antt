-- What an agent's calls do: packets are taken, an event is made, messages are sent.
use Rattle.std.specs.Prelude.{◌≡◌, ◌⊎◌, ℕ, ◌≤◌, Bool, true, false, List, [], ◌∷◌, ◌++◌, Option, Some, None, All}
use Rattle.bk_base.specs.Places.{Shape}
use Rattle.bk_msg.specs.declared.codec.Packet as wire
use Rattle.bk_msg.specs.declared.row.Row.{Row}
use Rattle.bk_system.specs.declared.channel.Channel.{Channel}
use Rattle.bk_system.specs.declared.event.Event.{Event}
use Rattle.bk_system.specs.Deliveries.{Holds}
use Rattle.bk_system.specs.Events.{row}
use Rattle.bk_system.specs.Routes.{channel_of, ends_at}
use Rattle.bk_system.specs.State.{State}
use Rattle.bk_agents.specs.Parts.{part_of, agent_of}
use Rattle.bk_threads.specs.declared.merging.Stamped.{Stamped}
use Rattle.bk_threads.specs.Agents.{Packet, Channels}
use Rattle.bk_threads.specs.System.{messages_of, packets_of}
use Rattle.bk_rounds.specs.Ends.{IsInward, IsOutward}
use Rattle.bk_rounds.specs.Reading.{packets_in}
use Rattle.bk_rounds.specs.Tasks.{Task, IsDue, IsIdle}

-- of a stamp of a packet
abbrev pub IsBy : ℕ → Packet Row → Type 0
IsBy clock packet = packet.stamp ≤ clock

-- ONE CHANNEL

-- Packets of a channel are taken. What they say goes to the end of the channel in the hardware of the agent, and its clock isn't behind
-- their stamps.
pub record Brings (k : Shape) (channel : Channel) (old new : State) (taken later : List wire.Packet) (clock next : ℕ) : Type 0 where
  pub more : List wire.Packet
  pub taken_later : later ≡ taken ++ more
  pub holds : Holds old new channel (channel_of old channel ++ messages_of (packets_in k more))
  pub stamps : All (IsBy next) (packets_in k more)
  pub forward : clock ≤ next

-- Messages of a channel leave the hardware of the agent as packets with the stamp of its clock. What was sent, and then what is still
-- there, is as before.
pub record Sheds (k : Shape) (channel : Channel) (old new : State) (given later : List wire.Packet) (clock : ℕ) : Type 0 where
  pub rest : List Row
  pub holds : Holds old new channel rest
  pub total : packets_in k later ++ packets_of clock rest ≡ packets_in k given ++ packets_of clock (channel_of old channel)

-- ALL CHANNELS OF AGENT n

pub record Takes (k : Shape) (n : ℕ) (old new : State) (took later : Channels Channel Row) (clock next : ℕ) : Type 0 where
  pub more : Channels Channel Row
  pub took_later : (channel : Channel) → later channel ≡ took channel ++ more channel
  pub inbox : (channel : Channel) → channel_of new channel ≡ channel_of old channel ++ messages_of (more channel)
  pub inward : (channel : Channel) → IsInward k n channel ⊎ (more channel ≡ [])
  pub stamps : (channel : Channel) → All (IsBy next) (more channel)
  pub forward : clock ≤ next
  pub part : part_of k new n ≡ part_of k old n

pub record Sends (k : Shape) (n : ℕ) (old new : State) (sent later : Channels Channel Row) (clock : ℕ) : Type 0 where
  pub total : (channel : Channel) → IsOutward k n channel
      → later channel ++ packets_of clock (channel_of new channel) ≡ sent channel ++ packets_of clock (channel_of old channel)
  pub inbox : (channel : Channel) → ends_at k channel ≡ n → channel_of new channel ≡ channel_of old channel
  pub part : part_of k new n ≡ part_of k old n

-- ONE EVENT

-- Agent n makes an event that is due, or it has none and nothing has changed.
abbrev pub Acts : Task → ℕ → State → State → List Row → Option Event → Type 0
Acts task n old new ms (Some event) = (agent_of task.config event ≡ n)
    × IsDue task.policy task.config task.operations (part_of task.config old n) event
    × (row task.config task.program old event ≡ Some (record { state = new; sent = ms }))
Acts task n old new ms None = IsIdle task.config task.program task.operations old n × (new ≡ old)

-- and notes it in its journal with a stamp, to which its clock goes
abbrev pub Notes : Task → ℕ → ℕ → State → State → ℕ → ℕ → List Stamped → List Stamped → Bool → Type 0
Notes task n stamp old new clock next entries later true = (event : Event) × (ms : List Row) × Acts task n old new ms (Some event)
    × (next ≡ stamp)
    × (later ≡ entries ++ record { stamp = stamp; event = event } ∷ [])
Notes task n stamp old new clock next entries later false =
    IsIdle task.config task.program task.operations old n × (new ≡ old) × (next ≡ clock) × (later ≡ entries)
