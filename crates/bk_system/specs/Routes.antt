-- The channels between the agents of a system: what a state has in each, at which agent it begins and ends, and on which one a message
-- goes. The agents have numbers: the caches theirs, then the engine, then the memory.
use Rattle.std.specs.Prelude.{ℕ, ◌+◌, ◌<◌, Bool, true, false, ◌&&◌, ◌==◌, List, Option}
use Rattle.bk_base.specs.Places.{Shape}
use Rattle.bk_msg.specs.declared.row.Row.{Row}
use Rattle.bk_msg.specs.declared.row.Network.{Network}
use Rattle.bk_msg.specs.declared.row.Network.TheVariants as networks
use Rattle.bk_msg.specs.Networks.{network_of, receiver_of}
use Rattle.bk_system.specs.State.{State}
use Rattle.bk_system.specs.Events.{first}
use Rattle.bk_system.specs.declared.channel.Channel.{Channel}
use Rattle.bk_system.specs.declared.channel.Channel.TheVariants.{Request, Command, Fill, Response, Memout, Memin}

abbrev pub engine_number : Shape → ℕ
engine_number k = k.caches

abbrev pub memory_number : Shape → ℕ
memory_number k = k.caches + 1

-- what a system's state has in a channel
abbrev pub channel_of : State → Channel → List Row
channel_of s (Request from) = s.request from
channel_of s (Command to) = s.command to
channel_of s (Fill to from) = s.fill to from
channel_of s (Response from) = s.response from
channel_of s Memout = s.memout
channel_of s Memin = s.memin

-- the oldest message of each channel
abbrev pub heads_of : State → Channel → Option Row
heads_of s channel = first (channel_of s channel)

-- the agent that sends on a channel
abbrev pub begins_at : Shape → Channel → ℕ
begins_at k (Request from) = from
begins_at k (Command to) = engine_number k
begins_at k (Fill to from) = from
begins_at k (Response from) = from
begins_at k Memout = engine_number k
begins_at k Memin = memory_number k

-- the agent that takes from it
abbrev pub ends_at : Shape → Channel → ℕ
ends_at k (Request from) = engine_number k
ends_at k (Command to) = to
ends_at k (Fill to from) = to
ends_at k (Response from) = engine_number k
ends_at k Memout = memory_number k
ends_at k Memin = engine_number k

abbrev pub is_same : Channel → Channel → Bool
is_same (Request from) (Request c) = from == c
is_same (Command to) (Command c) = to == c
is_same (Fill to from) (Fill c o) = to == c && from == o
is_same (Response from) (Response c) = from == c
is_same Memout Memout = true
is_same Memin Memin = true
is_same channel other = false

-- the channel of a network from an agent to another
abbrev pub channel_in : Network → ℕ → ℕ → Channel
channel_in networks.Request from to = Request from
channel_in networks.Command from to = Command to
channel_in networks.Fill from to = Fill to from
channel_in networks.Response from to = Response from
channel_in networks.Memout from to = Memout
channel_in networks.Memin from to = Memin

-- the channel on which an agent's message goes
abbrev pub channel_for : ℕ → Row → Channel
channel_for n m = channel_in (network_of m) n (receiver_of m)

-- it is between agents of the configuration
abbrev pub IsChannel : Shape → Channel → Type 0
IsChannel k (Request from) = from < k.caches
IsChannel k (Command to) = to < k.caches
IsChannel k (Fill to from) = (to < k.caches) × (from < k.caches)
IsChannel k (Response from) = from < k.caches
IsChannel k Memout = Unit {0}
IsChannel k Memin = Unit {0}
