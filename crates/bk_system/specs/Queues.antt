-- The channels of a network, in a list: what each holds, how much room it has, that its messages are within a configuration, and
-- four words of marks for those that hold any.
use Rattle.std.specs.Prelude.{◌≡◌, ℕ, ◌+◌, ◌-◌, ◌<◌, List, [], ◌∷◌, ◌++◌, length, slice_get}
use Rattle.std.specs.Option.{option_map_or}
use Rattle.std.specs.Coded.{×_prop, Unit-prop}
use Rattle.std.specs.VecDeque.{deque_len, deque_capacity}
use Rattle.bk_base.specs.Places.{Shape}
use Rattle.bk_msg.specs.declared.row.Row.{Row}
use Rattle.bk_msg.specs.Within.{IsWithin, IsWithin-prop}
use Rattle.bk_system.specs.declared.queue.Queue.{Queue}
use Rattle.bk_system.specs.Bits.{mark_at}

-- what a channel holds, the oldest message first: those of its ring, then those of its list
abbrev pub items_of : Queue → List Row
items_of q = q.ring.items ++ q.list.items

-- how many more messages a channel takes without memory
abbrev pub room_of : Queue → ℕ
room_of q = (16 - length q.ring.items) + (deque_capacity q.list - deque_len q.list)

-- what the channel of a number holds, the oldest message first; nothing where there is no such channel
abbrev pub queues_of : List Queue → ℕ → List Row
queues_of queues c = option_map_or items_of (slice_get queues c) []

-- how many more messages the channel of a number takes without memory
abbrev pub rooms_of : List Queue → ℕ → ℕ
rooms_of queues c = option_map_or room_of (slice_get queues c) 0

-- each message of a list is within the configuration
abbrev pub EachWithin : Shape → List Row → Type 0
EachWithin k [] = Unit {0}
EachWithin k (m ∷ ms) = IsWithin k m × EachWithin k ms

-- so of each channel
abbrev pub AreWithin : Shape → (ℕ → List Row) → Type 0
AreWithin k channel = (c : ℕ) → EachWithin k (channel c)

-- that they are is a fact with one proof, as a ghost field wants it
EachWithin-prop : (k : Shape) (ms : List Row) → IsProp (EachWithin k ms)
EachWithin-prop k [] = Unit-prop
EachWithin-prop k (m ∷ ms) = ×_prop (IsWithin-prop k m) (EachWithin-prop k ms)

pub AreWithin-prop : (k : Shape) (channel : ℕ → List Row) → IsProp (AreWithin k channel)
AreWithin-prop k channel = hlevel (EachWithin-prop k)

-- 1 where a channel holds a message, else 0
abbrev pub mark_of : List Row → ℕ
mark_of [] = 0
mark_of (m ∷ ms) = 1

-- four words mark the channels that hold a message
abbrev pub AreMarks : List ℕ → (ℕ → List Row) → Type 0
AreMarks marks channel = (c : ℕ) → c < 256 → mark_at marks c ≡ mark_of (channel c)
