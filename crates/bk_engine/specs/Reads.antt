-- What the engine reads: the directory for the held request, registers and flags, and the fields that `bk` asks for.
use Rattle.std.specs.Prelude.{ℕ, ◌-◌, Bool, true, false, not, ◌||◌, ◌==◌, nat_lt, if◌then◌else◌, Option, Some, None, is_some, slice_index, slice_index_or}
use Rattle.bk_base.specs.Places.{Shape, group_of}
use Rattle.bk_base.specs.States.{is_readable}
use Rattle.bk_base.specs.declared.coh.Coh.{Coh}
use Rattle.bk_base.specs.declared.coh.Coh.TheVariants.{I, S, E, F, M, O}
use Rattle.bk_msg.specs.Networks.{address_of}
use Rattle.bk_dir.specs.declared.entry.Summary.{Summary}
use Rattle.bk_dir.specs.Contents.{Contents}
use Rattle.bk_isa.specs.declared.operand.TheConstants.{FIELD_HEAD, FIELD_GP, FIELD_KIND, FIELD_OWN, FIELD_OWNER, FIELD_OTHERS, FIELD_VICTIM, FIELD_ACKS, FIELD_F0}
use Rattle.bk_isa.specs.declared.form.Form.{Form}
use Rattle.bk_isa.specs.declared.form.Form.TheVariants.{Bi, Beq, Bne, Blt, Bge, Bk, Wds, Inv, Stwb, Tr}
use Rattle.bk_engine.specs.declared.parts.Core.{Core}
use Rattle.bk_engine.specs.declared.parts.Head.{Head}
use Rattle.bk_engine.specs.declared.parts.Held.{Held}
use Rattle.bk_engine.specs.Engine.{EngineState}
use Rattle.bk_engine.specs.Heads.{head_value, kind_number, has_value}
pub use Rattle.bk_engine.specs.Summed.{query_of, summary_for}

-- THE DIRECTORY, as it is at the moment, for the held request: `summary_for`

-- a flush takes the block out of E, M and O: such a victim is heavy
abbrev pub is_heavy : Coh → Bool
is_heavy I = false
is_heavy S = false
is_heavy E = true
is_heavy F = false
is_heavy M = true
is_heavy O = true

-- the entries that an instruction may name: the requester's own, the owner's, and the victim
abbrev pub has_own : Shape → Contents → Option Held → Bool
has_own k d None = false
has_own k d (Some held) = is_readable (summary_for k d held).own

abbrev pub has_owner : Shape → Contents → Option Held → Bool
has_owner k d None = false
has_owner k d (Some held) = is_some (summary_for k d held).owner

abbrev pub has_victim : Shape → Contents → Option Held → Bool
has_victim k d None = false
has_victim k d (Some held) = is_readable (summary_for k d held).victim

-- REGISTERS AND FLAGS

abbrev pub register : Core → ℕ → ℕ
register core a = slice_index core.registers a

abbrev pub flag : Core → ℕ → Bool
flag core a = slice_index_or core.flags a false

-- THE FIELDS OF `bk`: the value of each, as a number

abbrev pub number_of : Bool → ℕ
number_of b = if b then 1 else 0

-- gp: whether the head's group is pending
abbrev pub gp_value : Shape → Contents → Option Head → ℕ
gp_value k d None = 0
gp_value k d (Some head) = number_of (d.pending (group_of k (address_of head.message)))

-- kind: the request's
abbrev pub kind_value : Option Held → ℕ
kind_value None = 0
kind_value (Some held) = kind_number held.kind

-- own, in the order I, S, E, F, M, O
abbrev pub own_number : Coh → ℕ
own_number I = 0
own_number S = 1
own_number E = 2
own_number F = 3
own_number M = 4
own_number O = 5

-- owner, in the order none, E, F, M, O
abbrev pub owner_number : Coh → ℕ
owner_number I = 0
owner_number S = 0
owner_number E = 1
owner_number F = 2
owner_number M = 3
owner_number O = 4

-- the fields that a summary tells
abbrev pub is_of_summary : ℕ → Bool
is_of_summary field = field == FIELD_OWN || field == FIELD_OWNER || field == FIELD_OTHERS || field == FIELD_VICTIM

-- whether an instruction looks at what the directory says for the request
abbrev pub looks : Form → Bool
looks (Bk field _ _) = is_of_summary field
looks (Wds _ _) = true
looks (Inv _) = true
looks (Stwb _ _) = true
looks (Tr _ _) = true
looks f = false

-- others is no or yes; victim is light or heavy
abbrev pub summary_value : Summary → ℕ → ℕ
summary_value summary field =
    if field == FIELD_OWN then own_number summary.own
    else if field == FIELD_OWNER then owner_number summary.owner_state
    else if field == FIELD_OTHERS then number_of (nat_lt 0 summary.others)
    else number_of (is_heavy summary.victim)

abbrev pub held_value : Shape → Contents → Option Held → ℕ → ℕ
held_value k d None field = 0
held_value k d (Some held) field = summary_value (summary_for k d held) field

-- the head's is that of its message; acks say whether some are to come; flags stand from FIELD_F0 on
abbrev pub field_value : Shape → EngineState → ℕ → ℕ
field_value k engine field =
    if field == FIELD_HEAD then head_value engine.core.head
    else if field == FIELD_GP then gp_value k engine.directory engine.core.head
    else if field == FIELD_KIND then kind_value engine.core.held
    else if field == FIELD_ACKS then number_of (nat_lt 0 engine.core.acks)
    else if nat_lt field FIELD_F0 then held_value k engine.directory engine.core.held field
    else number_of (flag engine.core (field - FIELD_F0))

-- BRANCHES

-- whether a branch is taken
abbrev pub is_branch_taken : Shape → EngineState → Form → Bool
is_branch_taken k engine (Bi _) = true
is_branch_taken k engine (Beq a b _) = register engine.core a == register engine.core b
is_branch_taken k engine (Bne a b _) = not (register engine.core a == register engine.core b)
is_branch_taken k engine (Blt a b _) = nat_lt (register engine.core a) (register engine.core b)
is_branch_taken k engine (Bge a b _) = not (nat_lt (register engine.core a) (register engine.core b))
is_branch_taken k engine (Bk field set _) = has_value set (field_value k engine field)
is_branch_taken k engine f = false

-- the branches on registers alone
abbrev pub compares : Core → Form → Bool
compares core (Bi _) = true
compares core (Beq a b _) = register core a == register core b
compares core (Bne a b _) = not (register core a == register core b)
compares core (Blt a b _) = nat_lt (register core a) (register core b)
compares core (Bge a b _) = not (nat_lt (register core a) (register core b))
compares core f = false

-- where it goes
abbrev pub target : Form → ℕ
target (Bi to) = to
target (Beq _ _ to) = to
target (Bne _ _ to) = to
target (Blt _ _ to) = to
target (Bge _ _ to) = to
target (Bk _ _ to) = to
target f = 0
