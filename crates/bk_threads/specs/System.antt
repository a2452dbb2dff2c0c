-- The agents of a system, as agents that walk.
use Rattle.std.specs.Prelude.{ℕ, ◌==◌, if◌then◌else◌, List, None, map, option_map}
use Rattle.bk_base.specs.Places.{Shape}
use Rattle.bk_isa.specs.declared.form.Form.{Form}
use Rattle.bk_msg.specs.declared.row.Row.{Row}
use Rattle.bk_system.specs.declared.event.Event.{Event}
use Rattle.bk_agents.specs.Parts.{Part, agent_of}
use Rattle.bk_system.specs.declared.channel.Channel.{Channel}
use Rattle.bk_agents.specs.Local.{Local, local_row, sent_on}
use Rattle.bk_threads.specs.declared.merging.Stamped.{Stamped}
use Rattle.bk_threads.specs.Agents.{Packet, Effect, Step, Rules}

-- a step of the system, and packets of it
abbrev pub SystemStep : Type 0
SystemStep = Step Channel Part Stamped Row

abbrev pub message_of : Packet Row → Row
message_of packet = packet.message

abbrev pub messages_of : List (Packet Row) → List Row
messages_of packets = map message_of packets

-- messages that are sent at a stamp
abbrev pub packets_of : ℕ → List Row → List (Packet Row)
packets_of stamp ms = map (λ m. record { stamp = stamp; message = m }) ms

-- what an event does, by its local row and stamp
abbrev pub effect_of : ℕ → ℕ → Local → Effect Channel Part Row
effect_of n stamp local = record {
  part = local.part;
  sent = λ channel. packets_of stamp (sent_on n channel local.sent);
  looked = local.touched;
  takes = local.pops;
}

-- An event is its own agent's, and does what its local row says. Of a packet it sees the message alone.
abbrev pub system_rules : Shape → List Form → Rules Channel Part Stamped Row
system_rules k program n part heads entry =
    if agent_of k entry.event == n
    then option_map (effect_of n entry.stamp) (local_row k program part (λ channel. option_map message_of (heads channel)) entry.event)
    else None

-- the system's event that a step is
abbrev pub step_event : SystemStep → Event
step_event step = step.event.event
