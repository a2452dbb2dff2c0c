-- The ends of channels that an agent has: the inlets from which it takes, and the outlets to which it sends.
use Rattle.std.specs.Prelude.{◌≡◌, ◌≢◌, ℕ, List, [], ◌∷◌, Bool, true, false, if◌then◌else◌, map, All, AllPairs}
use Rattle.atomic_table.specs.Seated.{TableId}
use Rattle.bk_base.specs.Places.{Shape}
use Rattle.bk_msg.specs.declared.codec.Packet as wire
use Rattle.bk_msg.specs.declared.row.Row.{Row}
use Rattle.bk_system.specs.declared.channel.Channel.{Channel}
use Rattle.bk_system.specs.Routes.{is_same, begins_at, ends_at, IsChannel}
use Rattle.bk_threads.specs.Agents.{Channels}
use Rattle.bk_rounds.specs.declared.ends.Inlet.{Inlet}
use Rattle.bk_rounds.specs.declared.ends.Outlet.{Outlet}
use Rattle.bk_rounds.specs.Reading.{packets_in}

-- a channel leads from another agent to agent n
pub record IsInward (k : Shape) (n : ℕ) (channel : Channel) : Type 0 where
  pub here : ends_at k channel ≡ n
  pub elsewhere : begins_at k channel ≢ n

-- a channel leads from agent n to another
pub record IsOutward (k : Shape) (n : ℕ) (channel : Channel) : Type 0 where
  pub here : begins_at k channel ≡ n
  pub elsewhere : ends_at k channel ≢ n

-- the packets that were taken of a channel
abbrev pub taken_of : List Inlet → Channel → List wire.Packet
taken_of [] channel = []
taken_of (inlet ∷ inlets) channel = if is_same inlet.channel channel then inlet.receiver.taken else taken_of inlets channel

-- and those that were sent to it
abbrev pub sent_to : List Outlet → Channel → List wire.Packet
sent_to [] channel = []
sent_to (outlet ∷ outlets) channel = if is_same outlet.channel channel then outlet.sender.sent else sent_to outlets channel

-- what they say
abbrev pub took : Shape → List Inlet → Channels Channel Row
took k inlets channel = packets_in k (taken_of inlets channel)

abbrev pub sent : Shape → List Outlet → Channels Channel Row
sent k outlets channel = packets_in k (sent_to outlets channel)

abbrev pub inlet_channel : Inlet → Channel
inlet_channel inlet = inlet.channel

abbrev pub outlet_channel : Outlet → Channel
outlet_channel outlet = outlet.channel

-- which channel between threads it is an end of: `close` asks that of both ends
abbrev pub inlet_table : Inlet → TableId
inlet_table inlet = inlet.receiver.channel

abbrev pub outlet_table : Outlet → TableId
outlet_table outlet = outlet.sender.channel

abbrev pub is_in : Channel → List Channel → Bool
is_in channel [] = false
is_in channel (other ∷ others) = if is_same other channel then true else is_in channel others

-- The inlets of agent n: of channels that lead to it from other agents, of each at the most one.
pub record AreInlets (k : Shape) (n : ℕ) (inlets : List Inlet) : Type 0 where
  pub channels : All (IsChannel k) (map inlet_channel inlets)
  pub inward : All (IsInward k n) (map inlet_channel inlets)
  pub different : AllPairs (λ channel other. channel ≢ other) (map inlet_channel inlets)

-- Its outlets: of channels that lead from it to other agents, of each exactly one.
pub record AreOutlets (k : Shape) (n : ℕ) (outlets : List Outlet) : Type 0 where
  pub channels : All (IsChannel k) (map outlet_channel outlets)
  pub outward : All (IsOutward k n) (map outlet_channel outlets)
  pub different : AllPairs (λ channel other. channel ≢ other) (map outlet_channel outlets)
  pub whole : (channel : Channel) → IsChannel k channel → IsOutward k n channel → is_in channel (map outlet_channel outlets) ≡ true
