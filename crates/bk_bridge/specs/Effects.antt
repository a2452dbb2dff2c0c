-- What an instruction does to the machine's state, the transaction aside: the messages that it sends and the entries that it writes.
use Rattle.std.specs.Prelude.{◌≡◌, ℕ, ◌+◌, ◌==◌, Bool, true, false, List, [], ◌∷◌, ◌++◌, Option, Some, None, unwrap_or, option_map, option_and_then, slice_get, drop, if◌then◌else◌}
use Rattle.bk_base.specs.Places.{Shape, InProfile, group_of, tag_at, word_of}
use Rattle.bk_base.specs.Tables.{put}
use Rattle.bk_base.specs.declared.coh.Coh.{Coh}
use Rattle.bk_msg.specs.declared.row.Row.{Row}
use Rattle.bk_msg.specs.declared.row.Row.TheVariants as rows
use Rattle.bk_isa.specs.declared.operand.TheConstants.{WHOSE_OWN, WHOSE_OWNER, WITH_MARK, WITH_OWNER}
use Rattle.bk_isa.specs.declared.form.Form.{Form}
use Rattle.bk_isa.specs.declared.form.Form.TheVariants as forms
use Rattle.bk_engine.specs.declared.parts.Choice.{Choice}
use Rattle.bk_engine.specs.declared.parts.Core.{Core}
use Rattle.bk_engine.specs.declared.parts.Head.{Head}
use Rattle.bk_engine.specs.declared.parts.Held.{Held}
use Rattle.bk_engine.specs.declared.parts.DirtyBlock.{DirtyBlock}
use Rattle.bk_system.specs.declared.event.Event.TheVariants.{Engine}
use Rattle.bk_system.specs.State.{State}
use Rattle.bk_system.specs.Events.{can_run}
use Rattle.bk_system.specs.Runs.{after}
use Rattle.bk_machine.specs.Actions.{with_command_sent, invalidation_targets}
use Rattle.bk_machine.specs.Directory as machine
use Rattle.bk_machine.specs.Entries.{Entry, with_state, wiped_in_caches, times}
use Rattle.bk_machine.specs.Messages.{becomes, Inv, StWb, StTr, Blk, StWake, UcBlk, UcDone, EvictDone, Read, Write, WriteWord, ToMemory}
use Rattle.bk_machine.specs.Products.{words_of}
use Rattle.bk_machine.specs.Tables.{put2}
use Rattle.bk_machine.specs.Transactions.{Transaction}
use Rattle.bk_machine.specs.World.{World}
use Rattle.bk_bridge.specs.Formed.{WellFormed}
use Rattle.bk_bridge.specs.Fronts.{HoldsFront}
use Rattle.bk_bridge.specs.Ranges.{InRange}
use Rattle.bk_bridge.specs.Worlds.{world_of}

-- THE REQUEST'S ENTRIES, as the machine reads them: the requester's own (0), the owner's (1), the victim (2)

abbrev pub own_place : Shape → Held → World → ℕ × ℕ
own_place k h world = (h.source, unwrap_or (machine.own_way k.ways (world.directory (group_of k h.addr)) h.source (tag_at k h.addr)) 0)

abbrev pub owner_place : Shape → Held → World → Option (ℕ × ℕ)
owner_place k h world =
    option_and_then (λ c. option_map (λ v. (c, v)) (machine.owner_way k.ways (world.directory (group_of k h.addr)) (tag_at k h.addr) c))
    (machine.owner k.caches k.ways (world.directory (group_of k h.addr)) h.source (tag_at k h.addr))

abbrev pub place_of : Shape → Held → ℕ → World → Option (ℕ × ℕ)
place_of k h who world = if who == WHOSE_OWN then Some (own_place k h world) else if who == WHOSE_OWNER then owner_place k h world
    else Some (h.source, h.way)

-- WRITES

-- an entry of a way group
abbrev pub writes : ℕ → ℕ × ℕ → Entry → World → World
writes g at entry world = record world { directory = put world.directory g (put2 (world.directory g) at.0 at.1 entry) }

-- its state alone
abbrev pub writes_state : ℕ → Option (ℕ × ℕ) → Coh → World → World
writes_state g None state world = world
writes_state g (Some at) state world = writes g at (with_state (world.directory g at.0 at.1) state) world

-- a flush of an entry: it takes the state, and its cache is sent StWb for the entry's block
abbrev pub flushes : ℕ → Option (ℕ × ℕ) → ℕ → Coh → World → World
flushes g None t state world = world
flushes g (Some at) t state world = with_command_sent g at.0 (StWb t state) (writes_state g (Some at) state world)

abbrev pub tells_memory : ℕ → ToMemory → World → World
tells_memory g m world = record world { memout = world.memout ++ (g, m) ∷ [] }

-- an Inv to each cache of a list, whose entries of the block become I
abbrev pub invalidates : ℕ → ℕ → List ℕ → World → World
invalidates g t to world = record world {
  directory = put world.directory g (wiped_in_caches to t (world.directory g));
  command = λ c. if times c to == 1 then world.command c ++ (g, Inv t) ∷ [] else world.command c;
}

abbrev pub transfers : Shape → Held → Option (ℕ × ℕ) → Coh → Coh → World → World
transfers k h None owner_state state world = world
transfers k h (Some at) owner_state state world =
    with_command_sent (group_of k h.addr) at.0 (StTr (tag_at k h.addr) owner_state h.source h.way state) world

abbrev pub grants : Shape → Held → Coh → Option (List ℕ) → World → World
grants k h state None world = world
grants k h state (Some words) world =
    with_command_sent (group_of k h.addr) h.source (Blk (tag_at k h.addr) h.way state (words_of words)) world

abbrev pub answers_word : Shape → Held → Option (List ℕ) → World → World
answers_word k h None world = world
answers_word k h (Some words) world =
    with_command_sent (group_of k h.addr) h.source (UcBlk (tag_at k h.addr) (word_of h.addr) (words_of words (word_of h.addr))) world

abbrev pub writes_back : Shape → Option DirtyBlock → World → World
writes_back k None world = world
writes_back k (Some kept) world = tells_memory (group_of k kept.addr) (Write (tag_at k kept.addr) (words_of kept.words)) world

-- the block that a flush of an entry is about: the request's, or the victim's
abbrev pub flushed_tag : Shape → Held → ℕ → World → ℕ
flushed_tag k h who world = if who == WHOSE_OWN then tag_at k h.addr else if who == WHOSE_OWNER then tag_at k h.addr
    else (world.directory (group_of k h.addr) h.source h.way).tag

-- THE TABLE, by instruction, for the request that is held. All others change nothing of the machine's.

abbrev pub done_for : Shape → Core → Held → Form → World → World
done_for k core h (forms.Wde state) world =
    writes (group_of k h.addr) (h.source, h.way) (record { tag = tag_at k h.addr; state = state }) world
done_for k core h (forms.Wds who state) world = writes_state (group_of k h.addr) (place_of k h who world) state world
done_for k core h (forms.Inv a) world =
    invalidates (group_of k h.addr) (tag_at k h.addr)
    (invalidation_targets (a == WITH_OWNER) (machine.owner k.caches k.ways (world.directory (group_of k h.addr)) h.source (tag_at k h.addr))
    (machine.others k.caches k.ways (world.directory (group_of k h.addr)) h.source (tag_at k h.addr))) world
done_for k core h (forms.Stwb who state) world =
    flushes (group_of k h.addr) (place_of k h who world) (flushed_tag k h who world) state world
done_for k core h (forms.Tr owner_state state) world = transfers k h (owner_place k h world) owner_state state world
done_for k core h (forms.Blk state) world = grants k h state core.got world
done_for k core h forms.Wake world = with_command_sent (group_of k h.addr) h.source (StWake (tag_at k h.addr) h.way) world
done_for k core h forms.Ucblk world = answers_word k h core.got world
done_for k core h forms.Ucdone world = with_command_sent (group_of k h.addr) h.source (UcDone (tag_at k h.addr) (word_of h.addr)) world
done_for k core h forms.Done world = with_command_sent (group_of k h.addr) h.source (EvictDone (tag_at k h.addr)) world
done_for k core h forms.Memrd world = tells_memory (group_of k h.addr) (Read (tag_at k h.addr)) world
done_for k core h forms.Memww world = tells_memory (group_of k h.addr)
    (WriteWord (tag_at k h.addr) (word_of h.addr) (becomes h.value)) world
done_for k core h f world = world

abbrev pub done_held : Shape → Core → Option Held → Form → World → World
done_held k core None f world = world
done_held k core (Some h) f world = done_for k core h f world

-- the kept block needs no request
abbrev pub done_by : Shape → Core → Form → World → World
done_by k core forms.Memwb world = writes_back k core.dirty world
done_by k core f world = done_held k core core.held f world

abbrev pub is_pop : Form → Bool
is_pop (forms.Popq wp) = true
is_pop f = false

-- POPQ: the head is taken off its channel

-- with `wp` the pending bit of the head's group is set by a request, and cleared by an answer of a cache
abbrev pub marked : Bool → ℕ → Bool → (ℕ → Bool) → ℕ → Bool
marked wp g bit pending = if wp then put pending g bit else pending

abbrev pub without_request : ℕ → World → World
without_request c world = record world { request = put world.request c (drop 1 (world.request c)) }

abbrev pub without_response : ℕ → World → World
without_response c world = record world { response = put world.response c (drop 1 (world.response c)) }

-- a request is taken
abbrev pub takes : Bool → ℕ → ℕ → World → World
takes wp g c world = record (without_request c world) {
  pending = marked wp g true world.pending;
  taken_count = put world.taken_count g (world.taken_count g + 1);
}

abbrev pub collects : Bool → ℕ → ℕ → World → World
collects wp g c world = record (without_response c world) { pending = marked wp g false world.pending }

-- and one is settled
abbrev pub settles : Bool → ℕ → ℕ → World → World
settles wp g c world = record (collects wp g c world) { settled_count = put world.settled_count g (world.settled_count g + 1) }

-- by the head; no other message is one
abbrev pub pops_head : Shape → Bool → ℕ → Row → World → World
pops_head k wp c (rows.Rd _ _ _ addr) world = takes wp (group_of k addr) c world
pops_head k wp c (rows.Wr _ _ _ addr) world = takes wp (group_of k addr) c world
pops_head k wp c (rows.UcRd _ _ addr) world = takes wp (group_of k addr) c world
pops_head k wp c (rows.UcWr _ _ addr _) world = takes wp (group_of k addr) c world
pops_head k wp c (rows.Evict _ _ _ addr) world = takes wp (group_of k addr) c world
pops_head k wp c (rows.InvAck _ _ addr) world = collects wp (group_of k addr) c world
pops_head k wp c (rows.CohAck _ _ addr) world = settles wp (group_of k addr) c world
pops_head k wp c (rows.Wb _ _ addr _) world = collects wp (group_of k addr) c world
pops_head k wp c (rows.NullWb _ _ addr) world = collects wp (group_of k addr) c world
pops_head k wp c (rows.Block _ _ _ _) world = record world { memin = drop 1 world.memin }
pops_head k wp c m world = world

-- THE STATEMENTS

-- an instruction that runs and takes no head off does what the table says
abbrev pub InstructionsDo : Type 0
InstructionsDo = (k : Shape) (program : List Form) (s : State) (x : Option (ℕ × Transaction)) (choice : Choice) (f : Form)
    → InProfile k → InRange k s → slice_get program s.engine.core.place ≡ Some f → is_pop f ≡ false
    → can_run k program s choice ≡ true
    → world_of k (after k program s (Engine choice)) x ≡ done_by k s.engine.core f (world_of k s x)

-- and a `popq` that runs takes the head off that the engine looks at
abbrev pub PopsDo : Type 0
PopsDo = (k : Shape) (program : List Form) (s : State) (x : Option (ℕ × Transaction)) (choice : Choice) (wp : ℕ) (head : Head)
    → WellFormed k s → HoldsFront k s → slice_get program s.engine.core.place ≡ Some (forms.Popq wp)
    → s.engine.core.head ≡ Some head
    → can_run k program s choice ≡ true
    → world_of k (after k program s (Engine choice)) x ≡ pops_head k (wp == WITH_MARK) head.choice.source head.message (world_of k s x)

-- what neither reads the transaction nor changes it
abbrev pub LeavesTransaction : (World → World) → Type 0
LeavesTransaction does = (world : World) (x : Option (ℕ × Transaction))
    → does (record world { transaction = x }) ≡ record (does world) { transaction = x }

-- so do both tables
abbrev pub InstructionsAside : Type 0
InstructionsAside = (k : Shape) (core : Core) (f : Form) → LeavesTransaction (done_by k core f)

abbrev pub PopsAside : Type 0
PopsAside = (k : Shape) (wp : Bool) (c : ℕ) (m : Row) → LeavesTransaction (pops_head k wp c m)
