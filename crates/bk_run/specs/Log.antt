-- The log of a list of events: a line for each one that was enabled, and after it a line for each message that it sent, in order.
use Rattle.std.specs.Prelude.{ℕ, List, [], ◌∷◌, ◌++◌, Bool, Option, Some, None, codes, if◌then◌else◌}
use Rattle.std.specs.List.{flat_map}
use Rattle.std.specs.Fmt.{decimal}
use Rattle.hex.specs.Hex.{encode_lower}
use Rattle.bk_base.specs.Places.{Shape}
use Rattle.bk_isa.specs.declared.form.Form.{Form}
use Rattle.bk_msg.specs.declared.row.Row.{Row}
use Rattle.bk_msg.specs.Spelling.{spelling}
use Rattle.bk_trace.specs.Spelling.{operation_text}
use Rattle.bk_system.specs.declared.event.Event.{Event}
use Rattle.bk_system.specs.declared.event.Event.TheVariants.{Issue, Command, Fill, Memory, Engine}
use Rattle.bk_system.specs.State.{State, opening}
use Rattle.bk_system.specs.Events.{Happening, row}
use Rattle.bk_system.specs.Runs.{after}

-- `I`, the operation as in a trace and its way; `C` and a cache; `F`, to whom and from whom; `M`; `E`, a class and a source
abbrev pub event_text : Event → List ℕ
event_text (Issue cache way op) = codes "I " ++ operation_text cache op ++ codes " " ++ decimal way ++ codes "\n"
event_text (Command cache) = codes "C " ++ decimal cache ++ codes "\n"
event_text (Fill to from) = codes "F " ++ decimal to ++ codes " " ++ decimal from ++ codes "\n"
event_text Memory = codes "M\n"
event_text (Engine choice) = codes "E " ++ decimal choice.class ++ codes " " ++ decimal choice.source ++ codes "\n"

-- `m`, and the message's spelling, two lower-case hexadecimal digits a byte
abbrev pub message_text : Row → List ℕ
message_text message = codes "m " ++ encode_lower (spelling message) ++ codes "\n"

-- an event that was enabled, and the messages that it sent
abbrev pub ran_text : Event → List Row → List ℕ
ran_text event sent = event_text event ++ flat_map message_text sent

-- an event that isn't enabled isn't logged
abbrev pub row_text : Event → Option Happening → List ℕ
row_text event None = []
row_text event (Some happening) = ran_text event happening.sent

-- the log of events that begin in a state
abbrev pub log_from : Shape → List Form → State → List Event → List ℕ
log_from k program s [] = []
log_from k program s (event ∷ events) = row_text event (row k program s event) ++ log_from k program (after k program s event) events

-- the log of events that begin in the opening state
abbrev pub log_of : Shape → List Form → List Event → List ℕ
log_of k program events = log_from k program (opening k) events

-- a text where it is wanted, and else nothing
abbrev pub text_if : Bool → List ℕ → List ℕ
text_if wanted text = if wanted then text else []
