-- What packets say. One that doesn't say anything is passed over.
use Rattle.std.specs.Prelude.{ℕ, List, [], ◌∷◌, ◌++◌, Option, Some, None, Result, Ok, Err, option_map, length, ◌==◌, ◌&&◌, if◌then◌else◌}
use Rattle.std.specs.Option.{option_to_list}
use Rattle.bk_base.specs.Places.{Shape}
use Rattle.bk_msg.specs.declared.codec.Packet as wire
use Rattle.bk_msg.specs.declared.fault.MsgFault.{MsgFault}
use Rattle.bk_msg.specs.declared.row.Row.{Row}
use Rattle.bk_msg.specs.Reading.{decode}
use Rattle.bk_msg.specs.Within.{is_within}
use Rattle.bk_threads.specs.Agents.{Packet}

-- what was read of so many bytes counts where they are the whole of it, and it names caches and ways of the configuration alone
abbrev pub whole_within : Shape → ℕ → Result (Row × ℕ) MsgFault → Option Row
whole_within k size (Ok found) = if found.1 == size && is_within k found.0 then Some found.0 else None
whole_within k size (Err fault) = None

-- the message that bytes spell
abbrev pub message_in : Shape → List ℕ → Option Row
message_in k bytes = whole_within k (length bytes) (decode bytes)

abbrev pub with_stamp : ℕ → Row → Packet Row
with_stamp stamp m = record { stamp = stamp; message = m }

-- a packet with its message in place of the bytes, where it has one
abbrev pub packet_of : Shape → wire.Packet → Option (Packet Row)
packet_of k packet = option_map (with_stamp packet.stamp) (message_in k packet.bytes.items)

-- those of a list of packets
abbrev pub packets_in : Shape → List wire.Packet → List (Packet Row)
packets_in k [] = []
packets_in k (packet ∷ packets) = option_to_list (packet_of k packet) ++ packets_in k packets
