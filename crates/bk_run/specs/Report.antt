-- The report of a list of events: the history, counts of events and of messages, the caches' entries, and whether
-- the trace was done.
use Rattle.std.specs.Prelude.{◌≡◌, ℕ, ◌+◌, ◌↔◌, List, [], ◌∷◌, ◌++◌, Bool, Option, Some, None, flat_map, IsTrue, codes, if◌then◌else◌}
use Rattle.std.specs.Fmt.{decimal}
use Rattle.bk_base.specs.Places.{Shape}
use Rattle.bk_base.specs.declared.coh.Coh.{Coh}
use Rattle.bk_base.specs.declared.coh.Coh.TheVariants as states
use Rattle.bk_base.specs.declared.op.Op.{Op}
use Rattle.bk_base.specs.declared.op.Op.TheVariants.{Load, UcLoad}
use Rattle.bk_base.specs.declared.op.Done.{Done}
use Rattle.bk_isa.specs.declared.form.Form.{Form}
use Rattle.bk_msg.specs.declared.row.Row.{Row}
use Rattle.bk_msg.specs.declared.row.Network.{Network}
use Rattle.bk_msg.specs.declared.row.Network.TheVariants as networks
use Rattle.bk_msg.specs.Networks.{network_of}
use Rattle.bk_trace.specs.Spelling.{hexadecimal, operation_text}
use Rattle.bk_system.specs.declared.event.Event.{Event}
use Rattle.bk_system.specs.declared.event.Event.TheVariants as events
use Rattle.bk_run.specs.declared.counts.Counts.{Counts}
use Rattle.bk_base.specs.Counting.{join_below}
use Rattle.bk_lce.specs.declared.line.Line.{Line}
use Rattle.bk_lce.specs.CacheState.{CacheState}
use Rattle.bk_system.specs.State.{State, opening}
use Rattle.bk_system.specs.Events.{Happening, row}
use Rattle.bk_system.specs.Runs.{after, run, IsComplete}

-- Counts of the events that were enabled, by kind, and of the messages that they sent, by network.

abbrev pub no_counts : Counts
no_counts = record {
  issue = 0;
  command = 0;
  fill = 0;
  memory = 0;
  engine = 0;
  requests = 0;
  commands = 0;
  fills = 0;
  responses = 0;
  memouts = 0;
  memins = 0;
}

abbrev pub count_event : Counts → Event → Counts
count_event counts (events.Issue _ _ _) = record counts { issue = counts.issue + 1 }
count_event counts (events.Command _) = record counts { command = counts.command + 1 }
count_event counts (events.Fill _ _) = record counts { fill = counts.fill + 1 }
count_event counts events.Memory = record counts { memory = counts.memory + 1 }
count_event counts (events.Engine _) = record counts { engine = counts.engine + 1 }

abbrev pub count_network : Counts → Network → Counts
count_network counts networks.Request = record counts { requests = counts.requests + 1 }
count_network counts networks.Command = record counts { commands = counts.commands + 1 }
count_network counts networks.Fill = record counts { fills = counts.fills + 1 }
count_network counts networks.Response = record counts { responses = counts.responses + 1 }
count_network counts networks.Memout = record counts { memouts = counts.memouts + 1 }
count_network counts networks.Memin = record counts { memins = counts.memins + 1 }

abbrev pub count_sent : Counts → List Row → Counts
count_sent counts [] = counts
count_sent counts (m ∷ ms) = count_sent (count_network counts (network_of m)) ms

-- an event that isn't enabled isn't counted
abbrev pub count_row : Counts → Event → Option Happening → Counts
count_row counts event None = counts
count_row counts event (Some happening) = count_sent (count_event counts event) happening.sent

abbrev pub counts_from : Shape → List Form → State → Counts → List Event → Counts
counts_from k program s counts [] = counts
counts_from k program s counts (event ∷ events) =
    counts_from k program (after k program s event) (count_row counts event (row k program s event)) events

abbrev pub counts_of : Shape → List Form → List Event → Counts
counts_of k program events = counts_from k program (opening k) no_counts events

-- The text. Numbers are decimal; addresses and tags are hexadecimal.

-- what a load has read
abbrev pub answer_text : Op → ℕ → List ℕ
answer_text (Load addr) answer = codes " = " ++ decimal answer
answer_text (UcLoad addr) answer = codes " = " ++ decimal answer
answer_text op answer = []

-- a line of the history: the operation as in a trace, and what a load has read
abbrev pub done_text : Done → List ℕ
done_text done = operation_text done.cache done.op ++ answer_text done.op done.answer ++ codes "\n"

abbrev pub events_text : Counts → List ℕ
events_text counts = codes "events issue " ++ decimal counts.issue ++ codes " command " ++ decimal counts.command ++ codes " fill "
    ++ decimal counts.fill
    ++ codes " memory " ++ decimal counts.memory ++ codes " engine " ++ decimal counts.engine ++ codes "\n"

abbrev pub messages_text : Counts → List ℕ
messages_text counts = codes "messages request " ++ decimal counts.requests ++ codes " command " ++ decimal counts.commands
    ++ codes " fill " ++ decimal counts.fills
    ++ codes " response " ++ decimal counts.responses ++ codes " memout " ++ decimal counts.memouts ++ codes " memin "
    ++ decimal counts.memins ++ codes "\n"

-- the letter of a state
abbrev pub letter_of : Coh → List ℕ
letter_of states.I = codes "I"
letter_of states.S = codes "S"
letter_of states.E = codes "E"
letter_of states.F = codes "F"
letter_of states.M = codes "M"
letter_of states.O = codes "O"

-- an entry that holds a block
abbrev pub line_text_in : ℕ → ℕ → ℕ → Line → Coh → List ℕ
line_text_in c set_number w line states.I = []
line_text_in c set_number w line state = codes "cache " ++ decimal c ++ codes " set " ++ decimal set_number ++ codes " way " ++ decimal w
    ++ codes " tag " ++ hexadecimal line.tag ++ codes " " ++ letter_of state ++ codes "\n"

abbrev pub line_text : ℕ → ℕ → ℕ → Line → List ℕ
line_text c set w line = line_text_in c set w line line.state

-- the entries by cache, set and way
abbrev pub set_text : Shape → (ℕ → CacheState) → ℕ → ℕ → List ℕ
set_text k caches c set = join_below k.ways (λ w. line_text c set w ((caches c).lines set w))

abbrev pub cache_text : Shape → (ℕ → CacheState) → ℕ → List ℕ
cache_text k caches c = join_below k.sets (set_text k caches c)

abbrev pub lines_text : Shape → (ℕ → CacheState) → List ℕ
lines_text k caches = join_below k.caches (cache_text k caches)

abbrev pub end_text : Bool → List ℕ
end_text complete = if complete then codes "end rested\n" else codes "end unrested\n"

abbrev pub report_text : Shape → State → Counts → Bool → List ℕ
report_text k s counts complete = flat_map done_text s.history ++ events_text counts ++ messages_text counts ++ lines_text k s.caches
    ++ end_text complete

-- The bytes are the report of the events: its last line says whether they do all of the trace.
abbrev pub IsReport : Shape → List Form → List (ℕ × Op) → List Event → List ℕ → Type 0
IsReport k program lines events bytes = (complete : Bool) × (IsTrue complete ↔ IsComplete k program lines events)
    × (bytes ≡ report_text k (run k program events) (counts_of k program events) complete)
