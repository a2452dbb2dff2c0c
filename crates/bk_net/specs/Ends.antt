-- What clauses see of the two ends of a channel.
use Rattle.std.specs.Prelude.{ℕ, List}
use Rattle.atomic_table.specs.Seated.{TableId}
use Rattle.bk_msg.specs.declared.codec.Packet.{Packet}

-- the end that sends: which channel it is of, how many packets that has room for, and the packets that were sent, the oldest first
pub record Sending : Type 0 where
  pub channel : TableId
  pub capacity : ℕ
  pub sent : List Packet

-- the end that takes: the same, with the packets that were taken
pub record Taking : Type 0 where
  pub channel : TableId
  pub capacity : ℕ
  pub taken : List Packet
