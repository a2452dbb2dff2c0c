-- The table of operations: how each is written.
use Rattle.std.specs.Prelude.{ℕ, List, [], ◌∷◌, Option, Some, None, codes, if◌then◌else◌}
use Rattle.std.specs.Str.{bytes_eq}
use Rattle.bk_isa.specs.declared.opcode.TheConstants.{NOP, ADD, SUB, AND, OR, XOR, SHL, SHR, ADDI, NOT, NEG, MOV, MOVI, MOVA, MOVS, MOVW, MOVK, BI, BEQ, BNE, BLT, BGE, BK, SF, CF, NF, MOVF, ANDF, ORF, RDW, GAD, WDE, WDS, FIN, WFQ, POPQ, DEFER, INV, STWB, BLK, WAKE, TR, UCBLK, UCDONE, DONE, MEMRD, MEMWB, MEMWW}
use Rattle.bk_asm.specs.declared.names.Names.TheVariants as names
use Rattle.bk_asm.specs.declared.operation.Operation.{Operation}
use Rattle.bk_asm.specs.declared.operation.Operation.TheVariants as operations
use Rattle.bk_asm.specs.declared.slots.Slot.{Slot}
use Rattle.bk_asm.specs.declared.slots.Slot.TheVariants as slots
use Rattle.bk_asm.specs.declared.slots.Last.{Last}
use Rattle.bk_asm.specs.declared.slots.Last.TheVariants as lasts
use Rattle.bk_asm.specs.declared.slots.Slots.{Slots}

abbrev pub operands : Slot → Slot → Slot → Last → Slots
operands a b c last = record { a = a; b = b; c = c; last = last }

-- the operands of an operation, in the order in which they are written
abbrev pub slots_of : Operation → Slots
slots_of operations.Nop = operands slots.Nothing slots.Nothing slots.Nothing lasts.Nothing
slots_of operations.Add = operands (slots.Name names.Register) (slots.Name names.Register) (slots.Name names.Register) lasts.Nothing
slots_of operations.Sub = operands (slots.Name names.Register) (slots.Name names.Register) (slots.Name names.Register) lasts.Nothing
slots_of operations.And = operands (slots.Name names.Register) (slots.Name names.Register) (slots.Name names.Register) lasts.Nothing
slots_of operations.Or = operands (slots.Name names.Register) (slots.Name names.Register) (slots.Name names.Register) lasts.Nothing
slots_of operations.Xor = operands (slots.Name names.Register) (slots.Name names.Register) (slots.Name names.Register) lasts.Nothing
slots_of operations.Shl = operands (slots.Name names.Register) (slots.Name names.Register) slots.Nothing lasts.Shift
slots_of operations.Shr = operands (slots.Name names.Register) (slots.Name names.Register) slots.Nothing lasts.Shift
slots_of operations.Addi = operands (slots.Name names.Register) (slots.Name names.Register) slots.Nothing lasts.Number
slots_of operations.Not = operands (slots.Name names.Register) (slots.Name names.Register) slots.Nothing lasts.Nothing
slots_of operations.Neg = operands (slots.Name names.Register) (slots.Name names.Register) slots.Nothing lasts.Nothing
slots_of operations.Mov = operands (slots.Name names.Register) (slots.Name names.Register) slots.Nothing lasts.Nothing
slots_of operations.Movi = operands (slots.Name names.Register) slots.Nothing slots.Nothing lasts.Number
slots_of operations.Mova = operands (slots.Name names.Register) slots.Nothing slots.Nothing lasts.Nothing
slots_of operations.Movs = operands (slots.Name names.Register) slots.Nothing slots.Nothing lasts.Nothing
slots_of operations.Movw = operands (slots.Name names.Register) slots.Nothing slots.Nothing lasts.Nothing
slots_of operations.Movk = operands (slots.Name names.Register) slots.Nothing slots.Nothing lasts.Nothing
slots_of operations.Bi = operands slots.Nothing slots.Nothing slots.Nothing lasts.Target
slots_of operations.Beq = operands (slots.Name names.Register) (slots.Name names.Register) slots.Nothing lasts.Target
slots_of operations.Bne = operands (slots.Name names.Register) (slots.Name names.Register) slots.Nothing lasts.Target
slots_of operations.Blt = operands (slots.Name names.Register) (slots.Name names.Register) slots.Nothing lasts.Target
slots_of operations.Bge = operands (slots.Name names.Register) (slots.Name names.Register) slots.Nothing lasts.Target
slots_of operations.Bk = operands (slots.Name names.Tested) slots.Values slots.Nothing lasts.Target
slots_of operations.Sf = operands (slots.Name names.Flag) slots.Nothing slots.Nothing lasts.Nothing
slots_of operations.Cf = operands (slots.Name names.Flag) slots.Nothing slots.Nothing lasts.Nothing
slots_of operations.Nf = operands (slots.Name names.Flag) slots.Nothing slots.Nothing lasts.Nothing
slots_of operations.Movf = operands (slots.Name names.Flag) (slots.Name names.Flag) slots.Nothing lasts.Nothing
slots_of operations.Andf = operands (slots.Name names.Flag) (slots.Name names.Flag) slots.Nothing lasts.Nothing
slots_of operations.Orf = operands (slots.Name names.Flag) (slots.Name names.Flag) slots.Nothing lasts.Nothing
slots_of operations.Rdw = operands slots.Nothing slots.Nothing slots.Nothing lasts.Nothing
slots_of operations.Gad = operands slots.Nothing slots.Nothing slots.Nothing lasts.Nothing
slots_of operations.Wde = operands (slots.Name names.Valid) slots.Nothing slots.Nothing lasts.Nothing
slots_of operations.Wds = operands (slots.Name names.Whose) (slots.Name names.State) slots.Nothing lasts.Nothing
slots_of operations.Fin = operands slots.Nothing slots.Nothing slots.Nothing lasts.Nothing
slots_of operations.Wfq = operands slots.Classes slots.Nothing slots.Nothing lasts.Nothing
slots_of operations.Popq = operands (slots.Perhaps names.Pending) slots.Nothing slots.Nothing lasts.Nothing
slots_of operations.Defer = operands slots.Nothing slots.Nothing slots.Nothing lasts.Nothing
slots_of operations.Inv = operands (slots.Perhaps names.Owner) slots.Nothing slots.Nothing lasts.Nothing
slots_of operations.Stwb = operands (slots.Name names.Holder) (slots.Name names.Clean) slots.Nothing lasts.Nothing
slots_of operations.Blk = operands (slots.Name names.Granted) slots.Nothing slots.Nothing lasts.Nothing
slots_of operations.Wake = operands slots.Nothing slots.Nothing slots.Nothing lasts.Nothing
slots_of operations.Tr = operands (slots.Name names.Left) (slots.Name names.Received) slots.Nothing lasts.Nothing
slots_of operations.Ucblk = operands slots.Nothing slots.Nothing slots.Nothing lasts.Nothing
slots_of operations.Ucdone = operands slots.Nothing slots.Nothing slots.Nothing lasts.Nothing
slots_of operations.Done = operands slots.Nothing slots.Nothing slots.Nothing lasts.Nothing
slots_of operations.Memrd = operands slots.Nothing slots.Nothing slots.Nothing lasts.Nothing
slots_of operations.Memwb = operands slots.Nothing slots.Nothing slots.Nothing lasts.Nothing
slots_of operations.Memww = operands slots.Nothing slots.Nothing slots.Nothing lasts.Nothing

-- the top byte of its word
abbrev pub opcode : Operation → ℕ
opcode operations.Nop = NOP
opcode operations.Add = ADD
opcode operations.Sub = SUB
opcode operations.And = AND
opcode operations.Or = OR
opcode operations.Xor = XOR
opcode operations.Shl = SHL
opcode operations.Shr = SHR
opcode operations.Addi = ADDI
opcode operations.Not = NOT
opcode operations.Neg = NEG
opcode operations.Mov = MOV
opcode operations.Movi = MOVI
opcode operations.Mova = MOVA
opcode operations.Movs = MOVS
opcode operations.Movw = MOVW
opcode operations.Movk = MOVK
opcode operations.Bi = BI
opcode operations.Beq = BEQ
opcode operations.Bne = BNE
opcode operations.Blt = BLT
opcode operations.Bge = BGE
opcode operations.Bk = BK
opcode operations.Sf = SF
opcode operations.Cf = CF
opcode operations.Nf = NF
opcode operations.Movf = MOVF
opcode operations.Andf = ANDF
opcode operations.Orf = ORF
opcode operations.Rdw = RDW
opcode operations.Gad = GAD
opcode operations.Wde = WDE
opcode operations.Wds = WDS
opcode operations.Fin = FIN
opcode operations.Wfq = WFQ
opcode operations.Popq = POPQ
opcode operations.Defer = DEFER
opcode operations.Inv = INV
opcode operations.Stwb = STWB
opcode operations.Blk = BLK
opcode operations.Wake = WAKE
opcode operations.Tr = TR
opcode operations.Ucblk = UCBLK
opcode operations.Ucdone = UCDONE
opcode operations.Done = DONE
opcode operations.Memrd = MEMRD
opcode operations.Memwb = MEMWB
opcode operations.Memww = MEMWW

-- the operations with their mnemonics
abbrev pub mnemonics : List (List ℕ × Operation)
mnemonics =
    (codes "nop", operations.Nop) ∷
    (codes "add", operations.Add) ∷
    (codes "sub", operations.Sub) ∷
    (codes "and", operations.And) ∷
    (codes "or", operations.Or) ∷
    (codes "xor", operations.Xor) ∷
    (codes "shl", operations.Shl) ∷
    (codes "shr", operations.Shr) ∷
    (codes "addi", operations.Addi) ∷
    (codes "not", operations.Not) ∷
    (codes "neg", operations.Neg) ∷
    (codes "mov", operations.Mov) ∷
    (codes "movi", operations.Movi) ∷
    (codes "mova", operations.Mova) ∷
    (codes "movs", operations.Movs) ∷
    (codes "movw", operations.Movw) ∷
    (codes "movk", operations.Movk) ∷
    (codes "bi", operations.Bi) ∷
    (codes "beq", operations.Beq) ∷
    (codes "bne", operations.Bne) ∷
    (codes "blt", operations.Blt) ∷
    (codes "bge", operations.Bge) ∷
    (codes "bk", operations.Bk) ∷
    (codes "sf", operations.Sf) ∷
    (codes "cf", operations.Cf) ∷
    (codes "nf", operations.Nf) ∷
    (codes "movf", operations.Movf) ∷
    (codes "andf", operations.Andf) ∷
    (codes "orf", operations.Orf) ∷
    (codes "rdw", operations.Rdw) ∷
    (codes "gad", operations.Gad) ∷
    (codes "wde", operations.Wde) ∷
    (codes "wds", operations.Wds) ∷
    (codes "fin", operations.Fin) ∷
    (codes "wfq", operations.Wfq) ∷
    (codes "popq", operations.Popq) ∷
    (codes "defer", operations.Defer) ∷
    (codes "inv", operations.Inv) ∷
    []

-- the operations of `pushq`, with the word behind that
abbrev pub pushed : List (List ℕ × Operation)
pushed =
    (codes "stwb", operations.Stwb) ∷
    (codes "blk", operations.Blk) ∷
    (codes "wake", operations.Wake) ∷
    (codes "tr", operations.Tr) ∷
    (codes "ucblk", operations.Ucblk) ∷
    (codes "ucdone", operations.Ucdone) ∷
    (codes "done", operations.Done) ∷
    (codes "memrd", operations.Memrd) ∷
    (codes "memwb", operations.Memwb) ∷
    (codes "memww", operations.Memww) ∷
    []

-- the operation of a word
abbrev pub operation_named : List (List ℕ × Operation) → List ℕ → Option Operation
operation_named [] word = None
operation_named (o ∷ more) word = if bytes_eq o.0 word then Some o.1 else operation_named more word
