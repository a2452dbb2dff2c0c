-- Why an instruction doesn't run. Of several reasons to halt the least is answered, in this order: no instruction at the place; the
-- head is missing, of the wrong kind, or already held; the request is missing, or one is already held; the directory isn't read far
-- enough; there is no such entry; a block is missing, or one is already kept; no acknowledgement is to come.
use Rattle.std.specs.Prelude.{ℕ, ◌==◌, Bool, nat_lt, if◌then◌else◌, List, Option, Some, None, is_none, is_some, slice_get}
use Rattle.bk_base.specs.Places.{Shape}
use Rattle.bk_isa.specs.declared.form.Form.{Form}
use Rattle.bk_isa.specs.declared.form.Form.TheVariants.{Mova, Movs, Movw, Bk, Rdw, Gad, Wde, Wds, Fin, Wfq, Popq, Defer, Inv, Stwb, Blk, Wake, Tr, Ucblk, Ucdone, Done, Memrd, Memwb, Memww}
use Rattle.bk_isa.specs.declared.operand.TheConstants.{FIELD_GP, FIELD_KIND, WHOSE_OWN, WHOSE_OWNER}
use Rattle.bk_msg.specs.declared.row.Row.{Row}
use Rattle.bk_dir.specs.Contents.{Contents}
use Rattle.bk_engine.specs.declared.heads.TheConstants.{HEAD_REQUEST, HEAD_INV_ACK, HEAD_WB, HEAD_OTHER}
use Rattle.bk_engine.specs.declared.parts.TheConstants.{NOT_READ, ROW_READ}
use Rattle.bk_engine.specs.declared.parts.Choice.{Choice}
use Rattle.bk_engine.specs.declared.parts.Core.{Core}
use Rattle.bk_engine.specs.declared.parts.Head.{Head}
use Rattle.bk_engine.specs.declared.parts.Held.{Held}
use Rattle.bk_engine.specs.declared.stop.Halt.{Halt}
use Rattle.bk_engine.specs.declared.stop.Halt.TheVariants as halts
use Rattle.bk_engine.specs.declared.stop.Stop.{Stop}
use Rattle.bk_engine.specs.declared.stop.Stop.TheVariants.{Waits, Halts}
use Rattle.bk_engine.specs.Engine.{EngineState}
use Rattle.bk_engine.specs.Heads.{head_number, head_value, names_class}
use Rattle.bk_engine.specs.Reads.{has_own, has_owner, has_victim, is_of_summary}

abbrev pub halts_unless : Bool → Halt → Option Stop → Option Stop
halts_unless met reason later = if met then later else Some (Halts reason)

-- QUEUES

-- `wfq` takes a head of a class that it names, and holds none yet
abbrev pub wait_stop : Option Head → ℕ → Choice → Option Row → Option Stop
wait_stop (Some _) classes choice message = Some (Halts halts.Head)
wait_stop None classes choice None = Some (Waits classes)
wait_stop None classes choice (Some _) = if names_class classes choice.class then None else Some (Waits classes)

-- `popq` has room for what it takes off: a request where none is held, an InvAck where one is to come, a Wb where no block is kept
abbrev pub pop_stop : Core → Option Head → Option Stop
pop_stop core None = Some (Halts halts.Head)
pop_stop core (Some head) =
    let kind = head_number head.message in
    if kind == HEAD_REQUEST then halts_unless (is_none core.held) halts.Request None
    else if kind == HEAD_INV_ACK then halts_unless (nat_lt 0 core.acks) halts.Acks None
    else if kind == HEAD_WB then halts_unless (is_none core.dirty) halts.Block None
    else if kind == HEAD_OTHER then Some (Halts halts.Head)
    else None

-- `bk`: gp wants a request as the head, kind a held one, and own, owner, others and victim the summary
abbrev pub branch_stop : Core → ℕ → Option Stop
branch_stop core field =
    if field == FIELD_GP then halts_unless (head_value core.head == HEAD_REQUEST) halts.Head None
    else if field == FIELD_KIND then halts_unless (is_some core.held) halts.Request None
    else if is_of_summary field then halts_unless (nat_lt ROW_READ core.summ) halts.Summary None
    else None

-- THE REQUEST AND THE DIRECTORY

-- the summary, and an entry to act on
abbrev pub entry_stop : Core → Bool → Option Stop
entry_stop core is_there = halts_unless (nat_lt ROW_READ core.summ) halts.Summary (halts_unless is_there halts.Target None)

-- the requester's own entry, the owner's, or the victim
abbrev pub named_entry : Shape → Contents → Option Held → ℕ → Bool
named_entry k d held who = if who == WHOSE_OWN then has_own k d held else if who == WHOSE_OWNER then has_owner k d held
    else has_victim k d held

-- a request, and a block that memory has answered
abbrev pub block_stop : Core → Option Stop
block_stop core = halts_unless (is_some core.held) halts.Request (halts_unless (is_some core.got) halts.Block None)

abbrev pub request_stop : Core → Option Stop
request_stop core = halts_unless (is_some core.held) halts.Request None

-- the messages to the requester and to memory; any other instruction always runs
abbrev pub push_stop : Core → Form → Option Stop
push_stop core (Blk _) = block_stop core
push_stop core Ucblk = block_stop core
push_stop core Wake = request_stop core
push_stop core Ucdone = request_stop core
push_stop core Done = request_stop core
push_stop core Memrd = request_stop core
push_stop core Memww = request_stop core
push_stop core Memwb = halts_unless (is_some core.dirty) halts.Block None
push_stop core f = None

abbrev pub directory_stop : Shape → EngineState → Form → Option Stop
directory_stop k engine Rdw = request_stop engine.core
directory_stop k engine Gad = halts_unless (nat_lt NOT_READ engine.core.summ) halts.Summary None
directory_stop k engine (Wde _) = request_stop engine.core
directory_stop k engine (Wds who _) = entry_stop engine.core (named_entry k engine.directory engine.core.held who)
directory_stop k engine Fin = request_stop engine.core
directory_stop k engine (Inv _) = halts_unless (nat_lt ROW_READ engine.core.summ) halts.Summary None
directory_stop k engine (Stwb who _) = entry_stop engine.core (named_entry k engine.directory engine.core.held who)
directory_stop k engine (Tr _ _) = entry_stop engine.core (has_owner k engine.directory engine.core.held)
directory_stop k engine f = push_stop engine.core f

-- why an instruction doesn't run, or none where it does
abbrev pub form_stop : Shape → EngineState → Form → Choice → Option Row → Option Stop
form_stop k engine (Mova _) choice message = request_stop engine.core
form_stop k engine (Movs _) choice message = request_stop engine.core
form_stop k engine (Movw _) choice message = request_stop engine.core
form_stop k engine (Bk field _ _) choice message = branch_stop engine.core field
form_stop k engine (Wfq classes) choice message = wait_stop engine.core.head classes choice message
form_stop k engine (Popq _) choice message = pop_stop engine.core engine.core.head
form_stop k engine Defer choice message = halts_unless (head_value engine.core.head == HEAD_REQUEST) halts.Head None
form_stop k engine f choice message = directory_stop k engine f

abbrev pub stop_at : Shape → EngineState → Option Form → Choice → Option Row → Option Stop
stop_at k engine None choice message = Some (Halts halts.NoInstruction)
stop_at k engine (Some f) choice message = form_stop k engine f choice message

-- why the instruction at the engine's place doesn't run, or none where it does
abbrev pub stop_of : Shape → EngineState → List Form → Choice → Option Row → Option Stop
stop_of k engine program choice message = stop_at k engine (slice_get program engine.core.place) choice message
