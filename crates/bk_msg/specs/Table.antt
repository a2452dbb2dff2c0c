-- The table of the kinds: which bytes may stand at each place of a message.
use Rattle.std.specs.Prelude.{ℕ, ◌+◌, ◌*◌, ◌%◌, ◌==◌, nat_lt, Bool, true, false, Option, Some, None, List, [], ◌∷◌}
use Rattle.bk_base.specs.declared.coh.Coh.{Coh}
use Rattle.bk_base.specs.declared.coh.Coh.TheVariants.{I, S, E, F, M, O}
use Rattle.bk_base.specs.States.{state_of_code}
use Rattle.bk_base.specs.declared.config.TheConstants.{MOST_CACHES, MOST_WAYS}
use Rattle.bk_msg.specs.declared.fault.MsgFault.{MsgFault}
use Rattle.bk_msg.specs.declared.fault.MsgFault.TheVariants as faults
use Rattle.bk_msg.specs.declared.kind.Kind.{Kind}
use Rattle.bk_msg.specs.declared.kind.Kind.TheVariants.{Rd, Wr, UcRd, UcWr, Evict, Inv, StWb, StTr, Blk, StWake, UcBlk, UcDone, Done, Fill, InvAck, CohAck, Wb, NullWb, Read, Write, WriteWord, Block}
use Rattle.bk_msg.specs.declared.row.TheConstants.{ENGINE, MEMORY}
use Rattle.bk_msg.specs.declared.table.States.{States}
use Rattle.bk_msg.specs.declared.table.States.TheVariants.{Lowered, Left, Received, Granted, Modified}
use Rattle.bk_msg.specs.declared.table.Unit.{Unit as Aligns}
use Rattle.bk_msg.specs.declared.table.Unit.TheVariants as units
use Rattle.bk_msg.specs.declared.table.Load.{Load}
use Rattle.bk_msg.specs.declared.table.Load.TheVariants as loads
use Rattle.bk_msg.specs.declared.table.Rule.{Rule}
use Rattle.bk_msg.specs.declared.table.Rule.TheVariants.{Reserved, Cache, Way, Only, State, Aligned, Any}
use Rattle.bk_msg.specs.declared.table.Layout.{Layout}

-- the states of a set
abbrev pub holds : States → Coh → Bool
holds Lowered I = true
holds Lowered S = true
holds Left I = true
holds Left S = true
holds Left F = true
holds Left O = true
holds Received S = true
holds Received F = true
holds Received M = true
holds Received O = true
holds Granted S = true
holds Granted E = true
holds Granted F = true
holds Granted M = true
holds Modified M = true
holds _ _ = false

abbrev pub holds_code : States → Option Coh → Bool
holds_code states None = false
holds_code states (Some state) = holds states state

-- what the lowest byte of an address, and the address itself, is a multiple of
abbrev pub unit_bytes : Aligns → ℕ
unit_bytes units.Block = 64
unit_bytes units.Word = 8

-- the bytes that may stand at a place
abbrev pub admits : Rule → ℕ → Bool
admits Reserved b = b == 0
admits Cache b = nat_lt b MOST_CACHES
admits Way b = nat_lt b MOST_WAYS
admits (Only n) b = b == n
admits (State states) b = holds_code states (state_of_code b)
admits (Aligned unit) b = b % unit_bytes unit == 0
admits Any b = true

-- the fault of a byte that may not stand at its place
abbrev pub fault_at : Rule → ℕ → MsgFault
fault_at Reserved place = faults.Reserved place
fault_at _ place = faults.Field place

-- only the two ends and an address are named, and nothing follows
abbrev pub between : Rule → Rule → Aligns → Layout
between from to address = record {
  from = from;
  to = to;
  way = Reserved;
  state = Reserved;
  peer = Reserved;
  peer_way = Reserved;
  peer_state = Reserved;
  address = address;
  load = loads.Nothing;
}

abbrev pub to_engine : Aligns → Layout
to_engine = between Cache (Only ENGINE)

abbrev pub to_cache : Aligns → Layout
to_cache = between (Only ENGINE) Cache

abbrev pub to_memory : Aligns → Layout
to_memory = between (Only ENGINE) (Only MEMORY)

-- THE TABLE: a line a kind, with what it has besides the two ends and the address
abbrev pub layout_of : Kind → Layout
layout_of Rd = record (to_engine units.Block) { way = Way }
layout_of Wr = record (to_engine units.Block) { way = Way }
layout_of UcRd = to_engine units.Word
layout_of UcWr = record (to_engine units.Word) { load = loads.Word }
layout_of Evict = record (to_engine units.Block) { way = Way }
layout_of Inv = to_cache units.Block
layout_of StWb = record (to_cache units.Block) { state = State Lowered }
layout_of StTr = record (to_cache units.Block) { state = State Left; peer = Cache; peer_way = Way; peer_state = State Received }
layout_of Blk = record (to_cache units.Block) { way = Way; state = State Granted; load = loads.Block }
layout_of StWake = record (to_cache units.Block) { way = Way; state = State Modified }
layout_of UcBlk = record (to_cache units.Word) { load = loads.Word }
layout_of UcDone = to_cache units.Word
layout_of Done = to_cache units.Block
layout_of Fill = record (between Cache Cache units.Block) { way = Way; state = State Received; load = loads.Block }
layout_of InvAck = to_engine units.Block
layout_of CohAck = to_engine units.Block
layout_of Wb = record (to_engine units.Block) { load = loads.Block }
layout_of NullWb = to_engine units.Block
layout_of Read = to_memory units.Block
layout_of Write = record (to_memory units.Block) { load = loads.Block }
layout_of WriteWord = record (to_memory units.Word) { load = loads.Word }
layout_of Block = record (between (Only MEMORY) (Only ENGINE) units.Block) { load = loads.Block }

-- what may stand in bytes 8 to 15, the address: it is below 2^40
abbrev pub address_rules : Aligns → List Rule
address_rules unit = Aligned unit ∷ Any ∷ Any ∷ Any ∷ Any ∷ Only 0 ∷ Only 0 ∷ Only 0 ∷ []

-- what may stand in bytes 1 to 15
abbrev pub rules_of : Layout → List Rule
rules_of l = l.from ∷ l.to ∷ l.way ∷ l.state ∷ l.peer ∷ l.peer_way ∷ l.peer_state ∷ address_rules l.address

abbrev pub load_words : Load → ℕ
load_words loads.Nothing = 0
load_words loads.Word = 1
load_words loads.Block = 8

abbrev pub load_bytes : Load → ℕ
load_bytes load = 8 * load_words load

-- how many bytes a message has
abbrev pub size_of : Layout → ℕ
size_of l = 16 + load_bytes l.load
