-- The system as the abstract machine sees it: the machine's state of a system's state, and the machine's event of an event.
-- The machine goes by way group, tag and the word's place in its block where the system goes by address.
use Rattle.std.specs.Prelude.{ℕ, ◌+◌, ◌*◌, ◌&&◌, ◌==◌, nat_lt, if◌then◌else◌, List, map, Option, Some, None}
use Rattle.std.specs.List.{filter_map, count_by}
use Rattle.bk_base.specs.Places.{Shape, address_in}
use Rattle.bk_lce.specs.declared.line.Line.{Line}
use Rattle.bk_lce.specs.declared.line.InProgress.{InProgress as Begun}
use Rattle.bk_dir.specs.declared.entry.Entry.{Entry as DirectoryEntry}
use Rattle.bk_system.specs.declared.event.Event.{Event as SystemEvent}
use Rattle.bk_system.specs.declared.event.Event.TheVariants as events
use Rattle.bk_system.specs.declared.event.Origin.{Origin}
use Rattle.bk_system.specs.State.{State}
use Rattle.bk_machine.specs.Entries.{Entry}
use Rattle.bk_machine.specs.Transactions.{InProgress, Transaction}
use Rattle.bk_machine.specs.Products.{words_of, op_of, completed_of, as_request, as_command, as_fill, as_response, as_to_memory, as_block}
use Rattle.bk_machine.specs.World.{World}
use Rattle.bk_machine.specs.Runs.{Event, Issue, Command, Fill, Memory}

-- tag and state of a line, and of an entry of the directory
abbrev pub entry_of : Line → Entry
entry_of line = record { tag = line.tag; state = line.state }

abbrev pub listed_of : DirectoryEntry → Entry
listed_of entry = record { tag = entry.tag; state = entry.state }

-- an operation in progress, with its way group
abbrev pub begun_of : Shape → Option Begun → Option (ℕ × InProgress)
begun_of k None = None
begun_of k (Some b) = Some ((op_of k b.op).0, record { op = (op_of k b.op).1; way = b.way })

-- A word of the memory by group, tag and place. Where the group isn't below the sets or the place not below 8 there is no such
-- word, and the value is 0 (without this test another word's address would come out).
abbrev pub word_at : Shape → (ℕ → ℕ) → ℕ → ℕ → ℕ → ℕ
word_at k memory g t i = if nat_lt g k.sets && nat_lt i 8 then memory (address_in k g t + i * 8) else 0

-- how often a group stands in a list
abbrev pub count_of : List Origin → ℕ → ℕ
count_of gs group = count_by (λ g. g.group == group) gs

-- The machine's state. The transaction is no part of the system's state, so it is handed in. Of a channel the messages of its own
-- network are taken: in each state that is met all are (WellFormed).
abbrev pub world_of : Shape → State → Option (ℕ × Transaction) → World
world_of k later x = record {
  entries = λ s c w. entry_of ((later.caches c).lines s w);
  words = λ s c w. words_of ((later.caches c).lines s w).words;
  directory = λ s c w. listed_of (later.engine.directory.entries c s w);
  recency = λ s c. (later.caches c).recency s;
  busy = λ c. begun_of k (later.caches c).busy;
  pending = later.engine.directory.pending;
  memory = word_at k later.memory;
  request = λ c. filter_map (as_request k) (later.request c);
  command = λ c. filter_map (as_command k) (later.command c);
  fill = λ to from. filter_map (as_fill k) (later.fill to from);
  response = λ c. filter_map (as_response k) (later.response c);
  memout = filter_map (as_to_memory k) later.memout;
  memin = filter_map (as_block k) later.memin;
  transaction = x;
  history = map (completed_of k) later.history;
  taken_count = count_of later.taken;
  settled_count = count_of later.settled;
}

-- The machine's event of an event of a cache or the memory. What an instruction of the engine is for the machine depends on the
-- program, so it has none here.
abbrev pub event_of : Shape → SystemEvent → Option Event
event_of k (events.Issue c way op) = Some (Issue c (op_of k op).0 (op_of k op).1 way)
event_of k (events.Command c) = Some (Command c)
event_of k (events.Fill to from) = Some (Fill to from)
event_of k events.Memory = Some Memory
event_of k (events.Engine choice) = None
