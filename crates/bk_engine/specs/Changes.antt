-- What an instruction changes in the engine and in the directory, where it runs.
use Rattle.std.specs.Prelude.{ℕ, ◌+◌, ◌-◌, ◌*◌, ◌/◌, ◌%◌, ◌^◌, Bool, true, false, not, ◌&&◌, ◌||◌, ◌==◌, nat_lt, if◌then◌else◌, bit_and, bit_or, bit_xor, length, Option, Some, None, slice_set}
use Rattle.bk_base.specs.Places.{Shape, group_of, tag_at}
use Rattle.bk_base.specs.Tables.{put}
use Rattle.bk_base.specs.declared.coh.Coh.{Coh}
use Rattle.bk_base.specs.declared.coh.Coh.TheVariants.{I}
use Rattle.bk_isa.specs.declared.form.Form.{Form}
use Rattle.bk_isa.specs.declared.form.Form.TheVariants.{Add, Sub, And, Or, Xor, Shl, Shr, Addi, Not, Neg, Mov, Movi, Mova, Movs, Movw, Movk, Sf, Cf, Nf, Movf, Andf, Orf, Rdw, Gad, Wde, Wds, Fin, Wfq, Popq, Defer, Inv, Stwb, Memwb}
use Rattle.bk_isa.specs.declared.operand.TheConstants.{WHOSE_OWN, WHOSE_OWNER, WITH_MARK, WITH_OWNER}
use Rattle.bk_msg.specs.declared.row.Row.{Row}
use Rattle.bk_msg.specs.declared.row.Row.TheVariants as rows
use Rattle.bk_msg.specs.Networks.{address_of}
use Rattle.bk_dir.specs.declared.entry.Entry.{Entry}
use Rattle.bk_dir.specs.declared.entry.Summary.{Summary}
use Rattle.bk_dir.specs.Contents.{Contents, with_entry, with_state, with_pending}
use Rattle.bk_dir.specs.Summaries.{holds}
use Rattle.bk_engine.specs.declared.heads.TheConstants.{HEAD_REQUEST, HEAD_BLOCK}
use Rattle.bk_engine.specs.declared.parts.TheConstants.{NOT_READ, ROW_READ, SUMMED_UP}
use Rattle.bk_engine.specs.declared.parts.Choice.{Choice}
use Rattle.bk_engine.specs.declared.parts.Core.{Core}
use Rattle.bk_engine.specs.declared.parts.Head.{Head}
use Rattle.bk_engine.specs.declared.parts.Held.{Held}
use Rattle.bk_engine.specs.Engine.{EngineState}
use Rattle.bk_engine.specs.Heads.{head_number, request_of}
use Rattle.bk_engine.specs.Reads.{register, flag, summary_for, is_branch_taken, target}
use Rattle.bk_engine.specs.Sends.{is_invalidated, sends}

-- REGISTERS, modulo 2^64

abbrev pub with_register : Core → ℕ → ℕ → Core
with_register core a value = record core { registers = slice_set core.registers a value }

abbrev pub after_arithmetic : Core → Form → Core
after_arithmetic core (Add a b c) = with_register core a ((register core b + register core c) % 2 ^ 64)
after_arithmetic core (Sub a b c) = with_register core a ((register core b + (2 ^ 64 - register core c)) % 2 ^ 64)
after_arithmetic core (And a b c) = with_register core a (bit_and (register core b) (register core c))
after_arithmetic core (Or a b c) = with_register core a (bit_or (register core b) (register core c))
after_arithmetic core (Xor a b c) = with_register core a (bit_xor (register core b) (register core c))
after_arithmetic core (Shl a b imm) = with_register core a (register core b * 2 ^ imm % 2 ^ 64)
after_arithmetic core (Shr a b imm) = with_register core a (register core b / 2 ^ imm)
after_arithmetic core (Addi a b imm) = with_register core a ((register core b + imm) % 2 ^ 64)
after_arithmetic core f = core

-- `movk` reads the acks
abbrev pub after_move : Core → Form → Core
after_move core (Not a b) = with_register core a (2 ^ 64 - 1 - register core b)
after_move core (Neg a b) = with_register core a ((2 ^ 64 - register core b) % 2 ^ 64)
after_move core (Mov a b) = with_register core a (register core b)
after_move core (Movi a imm) = with_register core a imm
after_move core (Movk a) = with_register core a core.acks
after_move core f = after_arithmetic core f

-- `mova`, `movs` and `movw` read the request's address, source and way
abbrev pub after_held_read : Core → Held → Form → Core
after_held_read core held (Mova a) = with_register core a held.addr
after_held_read core held (Movs a) = with_register core a held.source
after_held_read core held (Movw a) = with_register core a held.way
after_held_read core held f = core

abbrev pub after_request_read : Core → Option Held → Form → Core
after_request_read core None f = core
after_request_read core (Some held) f = after_held_read core held f

-- FLAGS

abbrev pub with_flag : Core → ℕ → Bool → Core
with_flag core a value = record core { flags = slice_set core.flags a value }

abbrev pub after_flag : Core → Form → Core
after_flag core (Sf a) = with_flag core a true
after_flag core (Cf a) = with_flag core a false
after_flag core (Nf a) = with_flag core a (not (flag core a))
after_flag core (Movf a b) = with_flag core a (flag core b)
after_flag core (Andf a b) = with_flag core a (flag core a && flag core b)
after_flag core (Orf a b) = with_flag core a (flag core a || flag core b)
after_flag core f = after_move core f

-- QUEUES

-- a request that is popped becomes the held one; an answer is counted or kept
abbrev pub after_take : Core → Option Held → Row → Core
after_take core (Some held) m = record core { held = Some held }
after_take core None (rows.InvAck _ _ _) = record core { acks = core.acks - 1 }
after_take core None (rows.Wb _ _ addr words) = record core { dirty = Some (record { addr = addr; words = words }) }
after_take core None (rows.Block _ _ _ words) = record core { got = Some words }
after_take core None m = core

abbrev pub after_pop : Core → Option Head → Core
after_pop core None = core
after_pop core (Some head) = after_take (record core { head = None }) (request_of head.choice.source head.message) head.message

abbrev pub after_wait : Core → Choice → Option Row → Core
after_wait core choice None = core
after_wait core choice (Some message) = record core { head = Some (record { choice = choice; message = message }) }

-- THE REQUEST

-- `inv` counts the invalidations that are sent, modulo 2^64
abbrev pub after_service : Core → ℕ → Form → Core
after_service core sent Rdw = record core { summ = ROW_READ }
after_service core sent Gad = record core { summ = SUMMED_UP }
after_service core sent Fin = record core { held = None; summ = NOT_READ; got = None }
after_service core sent (Inv _) = record core { acks = (core.acks + sent) % 2 ^ 64 }
after_service core sent Memwb = record core { dirty = None }
after_service core sent (Mova a) = after_request_read core core.held (Mova a)
after_service core sent (Movs a) = after_request_read core core.held (Movs a)
after_service core sent (Movw a) = after_request_read core core.held (Movw a)
after_service core sent f = after_flag core f

-- the engine but for its place, where the instruction sends so many messages
abbrev pub core_but_place : Core → ℕ → Form → Choice → Option Row → Core
core_but_place core sent (Wfq _) choice message = after_wait core choice message
core_but_place core sent (Popq _) choice message = after_pop core core.head
core_but_place core sent Defer choice message = record core { head = None }
core_but_place core sent f choice message = after_service core sent f

-- a branch that is taken goes to its target, else the next place comes
abbrev pub next_place : Shape → EngineState → Form → ℕ
next_place k engine f = if is_branch_taken k engine f then target f else engine.core.place + 1

abbrev pub core_after : Shape → EngineState → Form → Choice → Option Row → Core
core_after k engine f choice message =
    record (core_but_place engine.core (length (sends k engine f)) f choice message) { place = next_place k engine f }

-- THE DIRECTORY

-- in I, where it holds the block
abbrev pub wiped_entry : ℕ → Entry → Entry
wiped_entry tag entry = if holds entry tag then record entry { state = I } else entry

-- the same at each way of the configuration
abbrev pub wiped_ways : Shape → ℕ → (ℕ → Entry) → ℕ → Entry
wiped_ways k tag entries w = if nat_lt w k.ways then wiped_entry tag (entries w) else entries w

-- each entry of the block of a cache that is sent an Inv
abbrev pub with_invalid_block : Shape → Contents → Held → Bool → Summary → Contents
with_invalid_block k d held with_owner summary = record d {
  entries = λ c. if is_invalidated with_owner summary c
      then put (d.entries c) (group_of k held.addr) (wiped_ways k (tag_at k held.addr) (d.entries c (group_of k held.addr)))
      else d.entries c;
}

abbrev pub with_state_at : Contents → ℕ → Option (ℕ × ℕ) → Coh → Contents
with_state_at d set None state = d
with_state_at d set (Some at) state = with_state d at.0 set at.1 state

-- the requester's own entry, the owner's, or the victim
abbrev pub with_named_state : Shape → Contents → Held → ℕ → Coh → Contents
with_named_state k d held who state =
    if who == WHOSE_OWN then with_state d held.source (group_of k held.addr) (summary_for k d held).own_way state
    else if who == WHOSE_OWNER then with_state_at d (group_of k held.addr) (summary_for k d held).owner state
    else with_state d held.source (group_of k held.addr) held.way state

abbrev pub directory_for : Shape → Contents → Held → Form → Contents
directory_for k d held (Wde state) =
    with_entry d held.source (group_of k held.addr) held.way (record { tag = tag_at k held.addr; state = state })
directory_for k d held (Wds who state) = with_named_state k d held who state
directory_for k d held (Inv a) = with_invalid_block k d held (a == WITH_OWNER) (summary_for k d held)
directory_for k d held (Stwb who state) = with_named_state k d held who state
directory_for k d held f = d

abbrev pub directory_for_held : Shape → Contents → Option Held → Form → Contents
directory_for_held k d None f = d
directory_for_held k d (Some held) f = directory_for k d held f

-- `popq wp`: a request that is popped sets its group's pending bit, an answer of a cache, whose values stand between, clears it, a Block
-- leaves it
abbrev pub with_message_mark : Shape → Contents → ℕ → Row → Contents
with_message_mark k d kind m =
    if kind == HEAD_REQUEST then with_pending d (group_of k (address_of m)) true
    else if nat_lt HEAD_REQUEST kind && nat_lt kind HEAD_BLOCK then with_pending d (group_of k (address_of m)) false
    else d

abbrev pub with_head_mark : Shape → Contents → Option Head → Contents
with_head_mark k d None = d
with_head_mark k d (Some head) = with_message_mark k d (head_number head.message) head.message

abbrev pub directory_after : Shape → EngineState → Form → Contents
directory_after k engine (Popq wp) = if wp == WITH_MARK then with_head_mark k engine.directory engine.core.head else engine.directory
directory_after k engine f = directory_for_held k engine.directory engine.core.held f

-- WHAT IS KEPT of the directory once it was summed up

-- whether the owner's entries are wiped
abbrev pub wipes_owner : Bool → Summary → Option (ℕ × ℕ) → Bool
wipes_owner with_owner summary None = false
wipes_owner with_owner summary (Some at) = is_invalidated with_owner summary at.0

-- after invalidations no other cache has an entry S of the block; where the owner's are wiped, nothing is kept
abbrev pub unshared : Bool → Summary → Option Summary
unshared with_owner summary = if wipes_owner with_owner summary summary.owner then None else Some (record summary { others = 0 })

-- HOW THE INVALIDATED ENTRIES ARE WIPED, one way and one cache after the other

-- the entries of a block of a cache, at each way of the configuration
abbrev pub with_wiped_ways : Shape → Contents → ℕ → ℕ → ℕ → Contents
with_wiped_ways k d c set tag = record d { entries = put d.entries c (put (d.entries c) set (wiped_ways k tag (d.entries c set))) }

-- the same at the ways below n alone
abbrev pub wiped_ways_below : ℕ → ℕ → (ℕ → Entry) → ℕ → Entry
wiped_ways_below n tag entries w = if nat_lt w n then wiped_entry tag (entries w) else entries w

abbrev pub with_wiped_ways_below : ℕ → Contents → ℕ → ℕ → ℕ → Contents
with_wiped_ways_below n d c set tag =
    record d { entries = put d.entries c (put (d.entries c) set (wiped_ways_below n tag (d.entries c set))) }

-- the entries of a block, of each cache below n that is chosen
abbrev pub with_wiped_caches_below : Shape → ℕ → (ℕ → Bool) → Contents → ℕ → ℕ → Contents
with_wiped_caches_below k n chosen d set tag =
    record d { entries = λ c. if nat_lt c n && chosen c then put (d.entries c) set (wiped_ways k tag (d.entries c set)) else d.entries c }
