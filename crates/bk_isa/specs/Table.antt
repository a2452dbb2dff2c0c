-- The table of operations: for each opcode what the fields of its word may be, and the instruction that they make.
use Rattle.std.specs.Prelude.{ℕ, ◌+◌, ◌/◌, ◌%◌, ◌^◌, ◌==◌, nat_lt, nat_le, Bool, ◌&&◌, Option, Some, None, List, [], ◌∷◌, map, if◌then◌else◌, unwrap_or}
use Rattle.bk_base.specs.declared.coh.Coh.{Coh}
use Rattle.bk_base.specs.declared.coh.Coh.TheVariants.{I, S, E, F, M, O}
use Rattle.bk_base.specs.States.{code_of, state_of_code}
use Rattle.bk_isa.specs.declared.fault.WordFault.{WordFault}
use Rattle.bk_isa.specs.declared.fault.WordFault.TheVariants.{Opcode, Field, Reserved}
use Rattle.bk_isa.specs.declared.fields.Fields.{Fields}
use Rattle.bk_isa.specs.declared.form.Form.{Form}
use Rattle.bk_isa.specs.declared.form.Form.TheVariants.{Nop, Add, Sub, And, Or, Xor, Shl, Shr, Addi, Not, Neg, Mov, Movi, Mova, Movs, Movw, Movk, Bi, Beq, Bne, Blt, Bge, Bk, Sf, Cf, Nf, Movf, Andf, Orf, Rdw, Gad, Wde, Wds, Fin, Wfq, Popq, Defer, Inv, Stwb, Blk, Wake, Tr, Ucblk, Ucdone, Done, Memrd, Memwb, Memww}
use Rattle.bk_isa.specs.declared.opcode.TheConstants.{NOP, ADD, SUB, AND, OR, XOR, SHL, SHR, ADDI, NOT, NEG, MOV, MOVI, MOVA, MOVS, MOVW, MOVK, BI, BEQ, BNE, BLT, BGE, BK, SF, CF, NF, MOVF, ANDF, ORF, RDW, GAD, WDE, WDS, FIN, WFQ, POPQ, DEFER, INV, STWB, BLK, WAKE, TR, UCBLK, UCDONE, DONE, MEMRD, MEMWB, MEMWW}
use Rattle.bk_isa.specs.declared.operand.TheConstants.{WHOSE_OWN, WHOSE_OWNER, WHOSE_VICTIM, CLASS_RESPONSES, CLASS_MEMORY, CLASS_REQUESTS, FIELD_HEAD, FIELD_GP, FIELD_KIND, FIELD_OWN, FIELD_OWNER, FIELD_OTHERS, FIELD_VICTIM, FIELD_ACKS, FIELD_F0, FIELD_F1, FIELD_F2, FIELD_F3}
use Rattle.bk_isa.specs.declared.table.Allowed.{Allowed}
use Rattle.bk_isa.specs.declared.table.Allowed.TheVariants.{Zero, Range, OneOf}
use Rattle.bk_isa.specs.declared.table.FieldRanges.{FieldRanges}

abbrev pub admits : Allowed → ℕ → Bool
admits Zero v = v == 0
admits (Range from to) v = nat_le from v && nat_lt v to
admits (OneOf values) v = nat_lt v 32 && (values / 2 ^ v % 2 == 1)

-- the fault of the field of a number: it is reserved where it is no operand
abbrev pub fault_at : Allowed → ℕ → WordFault
fault_at Zero n = Reserved n
fault_at (Range from to) n = Field n
fault_at (OneOf values) n = Field n

-- the first field that isn't admitted
abbrev pub first_fault : FieldRanges → Fields → Option WordFault
first_fault r p =
    if admits r.a p.a
    then (if admits r.b p.b
    then (if admits r.c p.c
    then (if admits r.imm p.imm then None else Some (fault_at r.imm 4))
    else Some (fault_at r.c 3))
    else Some (fault_at r.b 2))
    else Some (fault_at r.a 1)

-- ---- what operands may be

-- a set of numbers, one bit each
abbrev pub bits : List ℕ → ℕ
bits [] = 0
bits (n ∷ ns) = 2 ^ n + bits ns

-- a code of one of these states
abbrev pub states : List Coh → Allowed
states ss = OneOf (bits (map code_of ss))

-- a register
abbrev pub register : Allowed
register = Range 0 8

-- a flag
abbrev pub flag : Allowed
flag = Range 0 4

-- by how many bits a register is shifted
abbrev pub shift : Allowed
shift = Range 0 64

-- each number of 32 bits
abbrev pub any_number : Allowed
any_number = Range 0 (2 ^ 32)

-- a place that a branch goes to
abbrev pub target : Allowed
target = Range 0 256

-- no or yes: of `popq` whether it marks the group, of `inv` whether it goes to the owner too
abbrev pub choice : Allowed
choice = Range 0 2

-- the requester's own entry or the owner's
abbrev pub whose : Allowed
whose = Range WHOSE_OWN (WHOSE_OWNER + 1)

-- the requester's own entry, the owner's or the victim
abbrev pub holder : Allowed
holder = Range WHOSE_OWN (WHOSE_VICTIM + 1)

-- at least one class of messages: their numbers are added
abbrev pub classes : Allowed
classes = Range 1 (CLASS_RESPONSES + CLASS_MEMORY + CLASS_REQUESTS + 1)

-- the know fields that `bk` tests
abbrev pub tested : Allowed
tested = OneOf (bits (FIELD_HEAD ∷ FIELD_GP ∷ FIELD_KIND ∷ FIELD_OWN ∷ FIELD_OWNER ∷ FIELD_OTHERS
    ∷ FIELD_VICTIM ∷ FIELD_ACKS ∷ FIELD_F0 ∷ FIELD_F1 ∷ FIELD_F2 ∷ FIELD_F3 ∷ []))

-- each state
abbrev pub all_states : Allowed
all_states = states (I ∷ S ∷ E ∷ F ∷ M ∷ O ∷ [])

-- each state but I
abbrev pub valid_states : Allowed
valid_states = states (S ∷ E ∷ F ∷ M ∷ O ∷ [])

-- the states that a write-back may leave
abbrev pub clean_states : Allowed
clean_states = states (I ∷ S ∷ [])

-- the states in which the directory may grant a block
abbrev pub granted_states : Allowed
granted_states = states (S ∷ E ∷ F ∷ M ∷ [])

-- the states that a transfer may leave with the owner
abbrev pub left_states : Allowed
left_states = states (I ∷ S ∷ F ∷ O ∷ [])

-- the states in which a transfer may hand over a block
abbrev pub received_states : Allowed
received_states = states (S ∷ F ∷ M ∷ O ∷ [])

-- two to the number of values of a know field that `bk` tests: 7 of the head, 5 of the kind and of the owner, 6 of own, 2 of each other
abbrev pub set_limit : ℕ → ℕ
set_limit field =
    if field == FIELD_HEAD then 2 ^ 7
    else if field == FIELD_KIND then 2 ^ 5
    else if field == FIELD_OWNER then 2 ^ 5
    else if field == FIELD_OWN then 2 ^ 6
    else 2 ^ 2

-- a set of values of a know field, not empty
abbrev pub value_set : ℕ → Allowed
value_set field = Range 1 (set_limit field)

-- ---- the table

-- the state with a code, I off the table
abbrev pub state : ℕ → Coh
state code = unwrap_or (state_of_code code) I

-- what an opcode stands for: what the fields of its word may be, and the instruction that they make
pub record Meaning : Type 0 where
  pub ranges : FieldRanges
  pub form : Fields → Form

abbrev pub meaning : Allowed → Allowed → Allowed → Allowed → (Fields → Form) → Option Meaning
meaning a b c imm form = Some (record { ranges = record { a = a; b = b; c = c; imm = imm }; form = form })

-- What an opcode stands for, or none: what a, b, c and imm may be, in this order, and the form. What the set b of `bk` may be
-- depends on its field a.
abbrev pub meaning_of : ℕ → ℕ → Option Meaning
meaning_of op a =
    if op == NOP then meaning Zero Zero Zero Zero (λ p. Nop)
    else if op == ADD then meaning register register register Zero (λ p. Add p.a p.b p.c)
    else if op == SUB then meaning register register register Zero (λ p. Sub p.a p.b p.c)
    else if op == AND then meaning register register register Zero (λ p. And p.a p.b p.c)
    else if op == OR then meaning register register register Zero (λ p. Or p.a p.b p.c)
    else if op == XOR then meaning register register register Zero (λ p. Xor p.a p.b p.c)
    else if op == SHL then meaning register register Zero shift (λ p. Shl p.a p.b p.imm)
    else if op == SHR then meaning register register Zero shift (λ p. Shr p.a p.b p.imm)
    else if op == ADDI then meaning register register Zero any_number (λ p. Addi p.a p.b p.imm)
    else if op == NOT then meaning register register Zero Zero (λ p. Not p.a p.b)
    else if op == NEG then meaning register register Zero Zero (λ p. Neg p.a p.b)
    else if op == MOV then meaning register register Zero Zero (λ p. Mov p.a p.b)
    else if op == MOVI then meaning register Zero Zero any_number (λ p. Movi p.a p.imm)
    else if op == MOVA then meaning register Zero Zero Zero (λ p. Mova p.a)
    else if op == MOVS then meaning register Zero Zero Zero (λ p. Movs p.a)
    else if op == MOVW then meaning register Zero Zero Zero (λ p. Movw p.a)
    else if op == MOVK then meaning register Zero Zero Zero (λ p. Movk p.a)
    else if op == BI then meaning Zero Zero Zero target (λ p. Bi p.imm)
    else if op == BEQ then meaning register register Zero target (λ p. Beq p.a p.b p.imm)
    else if op == BNE then meaning register register Zero target (λ p. Bne p.a p.b p.imm)
    else if op == BLT then meaning register register Zero target (λ p. Blt p.a p.b p.imm)
    else if op == BGE then meaning register register Zero target (λ p. Bge p.a p.b p.imm)
    else if op == BK then meaning tested (value_set a) Zero target (λ p. Bk p.a p.b p.imm)
    else if op == SF then meaning flag Zero Zero Zero (λ p. Sf p.a)
    else if op == CF then meaning flag Zero Zero Zero (λ p. Cf p.a)
    else if op == NF then meaning flag Zero Zero Zero (λ p. Nf p.a)
    else if op == MOVF then meaning flag flag Zero Zero (λ p. Movf p.a p.b)
    else if op == ANDF then meaning flag flag Zero Zero (λ p. Andf p.a p.b)
    else if op == ORF then meaning flag flag Zero Zero (λ p. Orf p.a p.b)
    else if op == RDW then meaning Zero Zero Zero Zero (λ p. Rdw)
    else if op == GAD then meaning Zero Zero Zero Zero (λ p. Gad)
    else if op == WDE then meaning valid_states Zero Zero Zero (λ p. Wde (state p.a))
    else if op == WDS then meaning whose all_states Zero Zero (λ p. Wds p.a (state p.b))
    else if op == FIN then meaning Zero Zero Zero Zero (λ p. Fin)
    else if op == WFQ then meaning classes Zero Zero Zero (λ p. Wfq p.a)
    else if op == POPQ then meaning choice Zero Zero Zero (λ p. Popq p.a)
    else if op == DEFER then meaning Zero Zero Zero Zero (λ p. Defer)
    else if op == INV then meaning choice Zero Zero Zero (λ p. Inv p.a)
    else if op == STWB then meaning holder clean_states Zero Zero (λ p. Stwb p.a (state p.b))
    else if op == BLK then meaning granted_states Zero Zero Zero (λ p. Blk (state p.a))
    else if op == WAKE then meaning Zero Zero Zero Zero (λ p. Wake)
    else if op == TR then meaning left_states received_states Zero Zero (λ p. Tr (state p.a) (state p.b))
    else if op == UCBLK then meaning Zero Zero Zero Zero (λ p. Ucblk)
    else if op == UCDONE then meaning Zero Zero Zero Zero (λ p. Ucdone)
    else if op == DONE then meaning Zero Zero Zero Zero (λ p. Done)
    else if op == MEMRD then meaning Zero Zero Zero Zero (λ p. Memrd)
    else if op == MEMWB then meaning Zero Zero Zero Zero (λ p. Memwb)
    else if op == MEMWW then meaning Zero Zero Zero Zero (λ p. Memww)
    else None

-- ---- what is read from it

abbrev pub ranges_in : Option Meaning → Option FieldRanges
ranges_in None = None
ranges_in (Some m) = Some m.ranges

-- what the fields of an operation's word may be
abbrev pub ranges_of : ℕ → ℕ → Option FieldRanges
ranges_of op a = ranges_in (meaning_of op a)

-- the first fault, where there is such an operation
abbrev pub fault_by : Fields → Option FieldRanges → Option WordFault
fault_by p None = Some Opcode
fault_by p (Some r) = first_fault r p

-- the first field that no instruction has, or none
abbrev pub fault_in : Fields → Option WordFault
fault_in p = fault_by p (ranges_of p.op p.a)
