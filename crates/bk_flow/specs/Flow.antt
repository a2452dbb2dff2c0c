-- What an instruction leaves of the sets at its place, and the edges to the next place and to its target.
use Rattle.std.specs.Prelude.{ℕ, ◌-◌, nat_lt, ◌==◌, Bool, true, false, ◌&&◌, ◌||◌, not, bit_and, bit_or, if◌then◌else◌, Option, Some, None}
use Rattle.bk_base.specs.declared.coh.Coh.{Coh}
use Rattle.bk_base.specs.declared.coh.Coh.TheVariants.{I, S, E, F, M, O}
use Rattle.bk_isa.specs.declared.form.Form.{Form}
use Rattle.bk_isa.specs.declared.form.Form.TheVariants.{Bi, Beq, Bne, Blt, Bge, Bk, Sf, Cf, Nf, Movf, Andf, Orf, Rdw, Gad, Wde, Wds, Fin, Wfq, Popq, Defer, Inv, Stwb, Blk, Wake, Tr, Ucblk, Ucdone, Done, Memrd, Memwb, Memww}
use Rattle.bk_know.specs.declared.sets.Sets.{Sets}
use Rattle.bk_know.specs.Sets.{field, sets_by, union, any_empty, idle_base, held_base}
use Rattle.bk_isa.specs.declared.operand.TheConstants.{CLASS_RESPONSES, CLASS_MEMORY, CLASS_REQUESTS, WITH_OWNER, WHOSE_OWN, WHOSE_OWNER}
use Rattle.bk_know.specs.declared.values.TheConstants.{STAGE_IDLE, STAGE_BLOCKED, STAGE_HELD, STAGE_CLOSING, STAGE_IDLE_HELD_CLOSING, HEAD_NONE, HEAD_REQUEST, HEAD_INV_ACK, HEAD_COH_ACK, HEAD_WB, HEAD_NULL_WB, HEAD_BLOCK, HEAD_WB_NULL_WB, GP_FREE, GP_ANY, KIND_RD, KIND_WR, SUMM_ROW, SUMM_SUM, OWN_I, OWN_S, OWN_E, OWN_F, OWN_M, OWN_O, OWN_I_S_F_O, OWNER_NONE, OTHERS_NO, OTHERS_YES, VICTIM_LIGHT, ACKS_SOME, ACKS_ANY, WB_IDLE, WB_ASKED, WB_DIRTY, MEM_ASKED, MEM_GOT, MEM_WRITTEN, DREQ_PAID, DREQ_S, DREQ_E, DREQ_F, DREQ_M, DREQ_O, DOWN_PAID, DOWN_I, DOWN_S, DOWN_F, DOWN_O, FLAG_CLEAR, FLAG_SET}
use Rattle.bk_know.specs.declared.fields.TheConstants.{FIELD_HEAD, FIELD_GP, FIELD_KIND, FIELD_OWN, FIELD_OWNER, FIELD_OTHERS, FIELD_VICTIM, FIELD_ACKS, FIELD_F0, FIELD_F1, FIELD_F2}

-- ---- sets of values

-- the field may have one of the values
abbrev pub may : ℕ → ℕ → Bool
may set values = not (bit_and set values == 0)

-- the field has none of the values
abbrev pub lacks : ℕ → ℕ → Bool
lacks set values = bit_and set values == 0

-- these values where the test holds, else no value
abbrev pub when : Bool → ℕ → ℕ
when test values = if test then values else 0

-- a state alone, in the field `own`
abbrev pub only_state : Coh → ℕ
only_state I = OWN_I
only_state S = OWN_S
only_state E = OWN_E
only_state F = OWN_F
only_state M = OWN_M
only_state O = OWN_O

-- a state alone, in the field `dreq`; I is no debt of the requester's, so it has no value there, and no mask has the empty set
abbrev pub only_debt : Coh → ℕ
only_debt I = 0
only_debt S = DREQ_S
only_debt E = DREQ_E
only_debt F = DREQ_F
only_debt M = DREQ_M
only_debt O = DREQ_O

-- a state alone, in the field `down`; E and M are no debts of the owner's
abbrev pub only_down : Coh → ℕ
only_down I = DOWN_I
only_down S = DOWN_S
only_down F = DOWN_F
only_down O = DOWN_O
only_down E = 0
only_down M = 0

abbrev pub is_shared : Coh → Bool
is_shared S = true
is_shared _ = false

-- ---- flags

abbrev pub flag : Sets → ℕ → ℕ
flag sets a = if a == 0 then sets.f0 else if a == 1 then sets.f1 else if a == 2 then sets.f2 else sets.f3

-- other values for a flag
abbrev pub with_flag : Sets → ℕ → ℕ → Sets
with_flag sets a v = record sets {
  f0 = if a == 0 then v else sets.f0;
  f1 = if a == 1 then v else sets.f1;
  f2 = if a == 2 then v else sets.f2;
  f3 = if nat_lt a 3 then sets.f3 else v;
}

-- the results that `not`, `and` and `or` may have, of flags that may have these values
abbrev pub set_not : ℕ → ℕ
set_not a = bit_or (when (may a FLAG_SET) FLAG_CLEAR) (when (may a FLAG_CLEAR) FLAG_SET)

abbrev pub set_and : ℕ → ℕ → ℕ
set_and a b = bit_or (when (may a FLAG_CLEAR || may b FLAG_CLEAR) FLAG_CLEAR) (when (may a FLAG_SET && may b FLAG_SET) FLAG_SET)

abbrev pub set_or : ℕ → ℕ → ℕ
set_or a b = bit_or (when (may a FLAG_CLEAR && may b FLAG_CLEAR) FLAG_CLEAR) (when (may a FLAG_SET || may b FLAG_SET) FLAG_SET)

-- ---- masks

-- the number of a field that `bk` tests, other than f3
abbrev pub is_before_f3 : ℕ → Bool
is_before_f3 number =
    (number == FIELD_HEAD) || (number == FIELD_GP) || (number == FIELD_KIND) || (number == FIELD_OWN) || (number == FIELD_OWNER)
    || (number == FIELD_OTHERS)
    || (number == FIELD_VICTIM) || (number == FIELD_ACKS) || (number == FIELD_F0) || (number == FIELD_F1) || (number == FIELD_F2)

-- another set for the field of a number, of those that `bk` tests
abbrev pub with_field : Sets → ℕ → ℕ → Sets
with_field sets number v = record sets {
  head = if number == FIELD_HEAD then v else sets.head;
  gp = if number == FIELD_GP then v else sets.gp;
  kind = if number == FIELD_KIND then v else sets.kind;
  own = if number == FIELD_OWN then v else sets.own;
  owner = if number == FIELD_OWNER then v else sets.owner;
  others = if number == FIELD_OTHERS then v else sets.others;
  victim = if number == FIELD_VICTIM then v else sets.victim;
  acks = if number == FIELD_ACKS then v else sets.acks;
  f0 = if number == FIELD_F0 then v else sets.f0;
  f1 = if number == FIELD_F1 then v else sets.f1;
  f2 = if number == FIELD_F2 then v else sets.f2;
  f3 = if is_before_f3 number then sets.f3 else v;
}

-- no request is held: the idle mask, with the flags of sets
abbrev pub idle_with : Sets → Sets
idle_with sets = record idle_base { f0 = sets.f0; f1 = sets.f1; f2 = sets.f2; f3 = sets.f3 }

-- a request is held of which nothing is known: the held mask, with the flags of sets
abbrev pub held_with : Sets → Sets
held_with sets = record held_base { f0 = sets.f0; f1 = sets.f1; f2 = sets.f2; f3 = sets.f3 }

-- no value for any field: the union of no masks
abbrev pub nothing : Sets
nothing = sets_by (λ f. 0)

-- what enters place 0 at the start: idle, and each flag is 0
abbrev pub start : Sets
start = record idle_base { f0 = FLAG_CLEAR; f1 = FLAG_CLEAR; f2 = FLAG_CLEAR; f3 = FLAG_CLEAR }

-- ---- messages that come

-- the heads that a wait for these classes may find: a response is a CohAck, also an InvAck where acknowledgements may be owed, also a
-- Wb or NullWb where a write-back may have been asked for; from memory comes a block, where one may have been asked for
abbrev pub heads : ℕ → Sets → ℕ
heads a sets =
    let all = bit_or (when (may a CLASS_REQUESTS) HEAD_REQUEST) (when (may a CLASS_RESPONSES) HEAD_COH_ACK) in
    let all = bit_or all (when (may a CLASS_RESPONSES && may sets.acks ACKS_SOME) HEAD_INV_ACK) in
    let all = bit_or all (when (may a CLASS_RESPONSES && may sets.wb WB_ASKED) HEAD_WB_NULL_WB) in
    bit_or all (when (may a CLASS_MEMORY && may sets.mem MEM_ASKED) HEAD_BLOCK)

-- `wfq`: a head of one of the classes; the group of a request may be free or pending
abbrev pub wait : ℕ → Sets → Sets
wait a sets = record sets { head = heads a sets; gp = if may a CLASS_REQUESTS then GP_ANY else GP_FREE }

abbrev pub empty_head : Sets → Sets
empty_head sets = record sets { head = HEAD_NONE; gp = GP_FREE }

-- a settled group wakes an engine that is blocked
abbrev pub awake : ℕ → ℕ
awake stage = bit_or (bit_and stage STAGE_IDLE_HELD_CLOSING) (when (may stage STAGE_BLOCKED) STAGE_IDLE)

-- sets, and wider too where the test holds
abbrev pub add : Bool → Sets → Sets → Sets
add test sets wider = if test then union sets wider else sets

-- `popq`: a mask for each kind of message that the head may be, and their union
abbrev pub pop : Sets → Sets
pop sets =
    let all = add (may sets.head HEAD_REQUEST) nothing (held_with sets) in
    let all = add (may sets.head HEAD_INV_ACK) all (empty_head (record sets { acks = ACKS_ANY })) in
    let all = add (may sets.head HEAD_COH_ACK) all (empty_head (record sets { stage = awake sets.stage })) in
    let all = add (may sets.head HEAD_WB) all (empty_head (record sets { wb = WB_DIRTY })) in
    let all = add (may sets.head HEAD_NULL_WB) all (empty_head (record sets { wb = WB_IDLE })) in
    add (may sets.head HEAD_BLOCK) all (empty_head (record sets { mem = MEM_GOT }))

-- `defer`: the request stays in its channel, and the engine is blocked
abbrev pub block_head : Sets → Sets
block_head sets = record (empty_head sets) { stage = STAGE_BLOCKED }

-- ---- invalidations

-- an invalidation goes out for certain: others have a copy, or there is an owner and it is asked too
abbrev pub sent_some : ℕ → Sets → Bool
sent_some a sets = (sets.others == OTHERS_YES) || ((a == WITH_OWNER) && lacks sets.owner OWNER_NONE)

-- none goes out
abbrev pub sent_none : ℕ → Sets → Bool
sent_none a sets = (sets.others == OTHERS_NO) && (not (a == WITH_OWNER) || (sets.owner == OWNER_NONE))

abbrev pub acks_after : ℕ → Sets → ℕ
acks_after a sets = if sent_some a sets then ACKS_SOME else if sent_none a sets then sets.acks else bit_or sets.acks ACKS_SOME

-- `inv`: no other cache has a shared copy any more, and with `o` there is no owner; others and owner as they were decide on acks
abbrev pub invalidate : ℕ → Sets → Sets
invalidate a sets = record sets { acks = acks_after a sets; others = OTHERS_NO; owner = if a == WITH_OWNER then OWNER_NONE else sets.owner }

-- ---- the directory and its debts

-- `stwb`: a write-back was asked of the requester's own copy, of the owner or of the victim
abbrev pub flush : ℕ → Coh → Sets → Sets
flush a state sets =
    if a == WHOSE_OWN then record sets { own = only_state state; wb = WB_ASKED }
    else if a == WHOSE_OWNER
    then record sets { owner = OWNER_NONE; wb = WB_ASKED; others = if is_shared state then OTHERS_YES else sets.others }
    else record sets { victim = VICTIM_LIGHT; wb = WB_ASKED }

-- the requester's entry is given its state
abbrev pub pay_requester : Coh → Sets → Sets
pay_requester state sets = record sets { dreq = DREQ_PAID; own = only_state state }

-- `wds`: the requester's own entry or the owner's is given its state
abbrev pub pay : ℕ → Coh → Sets → Sets
pay a state sets = if a == WHOSE_OWN then pay_requester state sets else record sets { down = DOWN_PAID }

abbrev pub close : Sets → Sets
close sets = record sets { stage = STAGE_CLOSING }

-- the grant is sent, and the requester's entry must be given the state
abbrev pub owe : ℕ → Sets → Sets
owe debt sets = record (close sets) { dreq = debt }

-- ---- what an instruction leaves where it doesn't branch: a table in five parts

-- messages to memory
abbrev pub left_memory : Form → Sets → Sets
left_memory Memrd sets = record sets { mem = MEM_ASKED }
left_memory Memwb sets = record sets { wb = WB_IDLE }
left_memory Memww sets = record sets { mem = MEM_WRITTEN }
left_memory f sets = sets

-- messages to caches
abbrev pub left_message : Form → Sets → Sets
left_message (Stwb a b) sets = flush a b sets
left_message (Blk a) sets = owe (only_debt a) sets
left_message Wake sets = owe DREQ_M sets
left_message (Tr a b) sets = record (owe (only_debt b) sets) { down = only_down a }
left_message Ucblk sets = close sets
left_message Ucdone sets = close sets
left_message Done sets = close sets
left_message f sets = left_memory f sets

-- messages that come, and invalidations
abbrev pub left_queue : Form → Sets → Sets
left_queue (Wfq a) sets = wait a sets
left_queue (Popq a) sets = pop sets
left_queue Defer sets = block_head sets
left_queue (Inv a) sets = invalidate a sets
left_queue f sets = left_message f sets

-- the directory
abbrev pub left_directory : Form → Sets → Sets
left_directory Rdw sets = record sets { summ = SUMM_ROW }
left_directory Gad sets = record sets { summ = SUMM_SUM }
left_directory (Wde a) sets = pay_requester a sets
left_directory (Wds a b) sets = pay a b sets
left_directory Fin sets = idle_with sets
left_directory f sets = left_queue f sets

-- flags
abbrev pub left : Form → Sets → Sets
left (Sf a) sets = with_flag sets a FLAG_SET
left (Cf a) sets = with_flag sets a FLAG_CLEAR
left (Nf a) sets = with_flag sets a (set_not (flag sets a))
left (Movf a b) sets = with_flag sets a (flag sets b)
left (Andf a b) sets = with_flag sets a (set_and (flag sets a) (flag sets b))
left (Orf a b) sets = with_flag sets a (set_or (flag sets a) (flag sets b))
left f sets = left_directory f sets

-- ---- edges

-- a cache that reads finds no copy of its own, and one that writes none that it may write
abbrev pub own_of_kind : Sets → ℕ
own_of_kind sets = if sets.kind == KIND_RD then bit_and sets.own OWN_I else if sets.kind == KIND_WR then bit_and sets.own OWN_I_S_F_O
    else sets.own

-- so a branch on the kind of the held request narrows `own` too; in Closing it may have been given its state
abbrev pub cut_own : ℕ → Sets → Sets
cut_own number sets = record sets { own = if (number == FIELD_KIND) && (sets.stage == STAGE_HELD) then own_of_kind sets else sets.own }

-- an edge whose mask has an empty field doesn't exist
abbrev pub existing : Sets → Option Sets
existing sets = if any_empty sets then None else Some sets

-- `bk` where it branches: the field keeps only these values
abbrev pub keep_values : Sets → ℕ → ℕ → Sets
keep_values sets number values = cut_own number (with_field sets number (bit_and (field sets number) values))

-- `bk` where it doesn't: the field loses these values
abbrev pub lose_values : Sets → ℕ → ℕ → Sets
lose_values sets number values = cut_own number (with_field sets number (bit_and (field sets number) (255 - values)))

-- the edge to the next place
abbrev pub fall : Form → Sets → Option Sets
fall (Bi to) sets = None
fall (Bk a b to) sets = existing (lose_values sets a b)
fall f sets = existing (left f sets)

-- the place that an instruction may branch to
abbrev pub target : Form → Option ℕ
target (Bi to) = Some to
target (Beq a b to) = Some to
target (Bne a b to) = Some to
target (Blt a b to) = Some to
target (Bge a b to) = Some to
target (Bk a b to) = Some to
target _ = None

-- the edge to that place
abbrev pub jump : Form → Sets → Option Sets
jump (Bk a b to) sets = existing (keep_values sets a b)
jump f sets = existing sets
