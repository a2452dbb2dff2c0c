-- What an instruction sends, in order, where it runs.
use Rattle.std.specs.Prelude.{ℕ, Bool, false, ◌||◌, ◌&&◌, ◌==◌, if◌then◌else◌, List, [], ◌∷◌, Option, Some, None, slice_index, ◌≡◌, true}
use Rattle.bk_base.specs.Places.{Shape, block_start, word_of, group_of, address_in}
use Rattle.bk_base.specs.Counting.{join_below}
use Rattle.bk_base.specs.declared.coh.Coh.{Coh}
use Rattle.bk_base.specs.declared.coh.Coh.TheVariants.{M}
use Rattle.bk_isa.specs.declared.form.Form.{Form}
use Rattle.bk_isa.specs.declared.form.Form.TheVariants.{Inv, Stwb, Blk, Wake, Tr, Ucblk, Ucdone, Done, Memrd, Memwb, Memww}
use Rattle.bk_isa.specs.declared.operand.TheConstants.{WHOSE_OWN, WHOSE_OWNER, WITH_OWNER}
use Rattle.bk_msg.specs.declared.row.Row.{Row}
use Rattle.bk_msg.specs.declared.row.Row.TheVariants as rows
use Rattle.bk_msg.specs.declared.row.TheConstants.{ENGINE, MEMORY}
use Rattle.bk_msg.specs.declared.table.States.TheVariants.{Lowered, Left, Received, Granted}
use Rattle.bk_msg.specs.Table.{holds}
use Rattle.bk_dir.specs.declared.entry.Summary.{Summary}
use Rattle.bk_dir.specs.Contents.{Contents}
use Rattle.bk_dir.specs.Summaries.{has_bit}
use Rattle.bk_engine.specs.declared.parts.Held.{Held}
use Rattle.bk_engine.specs.declared.parts.DirtyBlock.{DirtyBlock}
use Rattle.bk_engine.specs.Engine.{EngineState}
use Rattle.bk_engine.specs.Reads.{summary_for}

-- INVALIDATIONS go to each cache of others, and, where it is asked for, to the owner too

abbrev pub is_owner : Option (ℕ × ℕ) → ℕ → Bool
is_owner None c = false
is_owner (Some at) c = c == at.0

abbrev pub is_invalidated : Bool → Summary → ℕ → Bool
is_invalidated with_owner summary c = has_bit summary.others c || (with_owner && is_owner summary.owner c)

abbrev pub inv_to : Held → Bool → Summary → ℕ → List Row
inv_to held with_owner summary c = if is_invalidated with_owner summary c then rows.Inv ENGINE c (block_start held.addr) ∷ [] else []

-- by cache
abbrev pub invs : Shape → Held → Bool → Summary → List Row
invs k held with_owner summary = join_below k.caches (inv_to held with_owner summary)

-- ENTRIES: a flush goes to the entry's cache, for the entry's block; a transfer to the owner

abbrev pub flush_to : Option (ℕ × ℕ) → Coh → ℕ → List Row
flush_to None state addr = []
flush_to (Some at) state addr = rows.StWb ENGINE at.0 state (block_start addr) ∷ []

-- the address of the victim's block: its tag is the entry's
abbrev pub victim_address : Shape → Contents → Held → ℕ
victim_address k d held = address_in k (group_of k held.addr) (d.entries held.source (group_of k held.addr) held.way).tag

abbrev pub flushes : Shape → Contents → Held → ℕ → Coh → List Row
flushes k d held who state =
    if who == WHOSE_OWN then rows.StWb ENGINE held.source state (block_start held.addr) ∷ []
    else if who == WHOSE_OWNER then flush_to (summary_for k d held).owner state held.addr
    else rows.StWb ENGINE held.source state (block_start (victim_address k d held)) ∷ []

abbrev pub transfer_to : Held → Option (ℕ × ℕ) → Coh → Coh → List Row
transfer_to held None owner_state state = []
transfer_to held (Some at) owner_state state = rows.StTr ENGINE at.0 owner_state held.source held.way state (block_start held.addr) ∷ []

-- BLOCKS: what memory has answered, or what is kept for it

abbrev pub grants : Held → Coh → Option (List ℕ) → List Row
grants held state None = []
grants held state (Some words) = rows.Blk ENGINE held.source held.way state (block_start held.addr) words ∷ []

abbrev pub answers_word : Held → Option (List ℕ) → List Row
answers_word held None = []
answers_word held (Some words) = rows.UcBlk ENGINE held.source held.addr (slice_index words (word_of held.addr)) ∷ []

abbrev pub writes_back : Option DirtyBlock → List Row
writes_back None = []
writes_back (Some kept) = rows.Write ENGINE MEMORY (block_start kept.addr) kept.words ∷ []

-- the messages that an instruction sends for the held request
abbrev pub sends_for : Shape → EngineState → Held → Form → List Row
sends_for k engine held (Inv a) = invs k held (a == WITH_OWNER) (summary_for k engine.directory held)
sends_for k engine held (Stwb who state) = flushes k engine.directory held who state
sends_for k engine held (Tr owner_state state) = transfer_to held (summary_for k engine.directory held).owner owner_state state
sends_for k engine held (Blk state) = grants held state engine.core.got
sends_for k engine held Wake = rows.StWake ENGINE held.source held.way M (block_start held.addr) ∷ []
sends_for k engine held Ucblk = answers_word held engine.core.got
sends_for k engine held Ucdone = rows.UcDone ENGINE held.source held.addr ∷ []
sends_for k engine held Done = rows.Done ENGINE held.source (block_start held.addr) ∷ []
sends_for k engine held Memrd = rows.Read ENGINE MEMORY (block_start held.addr) ∷ []
sends_for k engine held Memww = rows.WriteWord ENGINE MEMORY held.addr held.value ∷ []
sends_for k engine held f = []

abbrev pub sends_held : Shape → EngineState → Option Held → Form → List Row
sends_held k engine None f = []
sends_held k engine (Some held) f = sends_for k engine held f

-- the kept block needs no request
abbrev pub sends : Shape → EngineState → Form → List Row
sends k engine Memwb = writes_back engine.core.dirty
sends k engine f = sends_held k engine engine.core.held f

-- STATES that an instruction may put into a message: a flush lowers, a grant grants, a transfer leaves the one and gives the other

abbrev pub HasStates : Form → Type 0
HasStates (Stwb _ state) = holds Lowered state ≡ true
HasStates (Blk state) = holds Granted state ≡ true
HasStates (Tr owner_state state) = (holds Left owner_state ≡ true) × (holds Received state ≡ true)
HasStates f = Unit {0}
