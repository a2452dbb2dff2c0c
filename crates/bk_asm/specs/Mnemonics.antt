-- The mnemonics of operations, and the operation of a form.
use Rattle.std.specs.Prelude.{ℕ, List, codes}
use Rattle.bk_isa.specs.declared.form.Form.{Form}
use Rattle.bk_isa.specs.declared.form.Form.TheVariants as forms
use Rattle.bk_asm.specs.declared.operation.Operation.{Operation}
use Rattle.bk_asm.specs.declared.operation.Operation.TheVariants as operations

-- what is written for an operation, before its operands
abbrev pub mnemonic : Operation → List ℕ
mnemonic operations.Nop = codes "nop"
mnemonic operations.Add = codes "add"
mnemonic operations.Sub = codes "sub"
mnemonic operations.And = codes "and"
mnemonic operations.Or = codes "or"
mnemonic operations.Xor = codes "xor"
mnemonic operations.Shl = codes "shl"
mnemonic operations.Shr = codes "shr"
mnemonic operations.Addi = codes "addi"
mnemonic operations.Not = codes "not"
mnemonic operations.Neg = codes "neg"
mnemonic operations.Mov = codes "mov"
mnemonic operations.Movi = codes "movi"
mnemonic operations.Mova = codes "mova"
mnemonic operations.Movs = codes "movs"
mnemonic operations.Movw = codes "movw"
mnemonic operations.Movk = codes "movk"
mnemonic operations.Bi = codes "bi"
mnemonic operations.Beq = codes "beq"
mnemonic operations.Bne = codes "bne"
mnemonic operations.Blt = codes "blt"
mnemonic operations.Bge = codes "bge"
mnemonic operations.Bk = codes "bk"
mnemonic operations.Sf = codes "sf"
mnemonic operations.Cf = codes "cf"
mnemonic operations.Nf = codes "nf"
mnemonic operations.Movf = codes "movf"
mnemonic operations.Andf = codes "andf"
mnemonic operations.Orf = codes "orf"
mnemonic operations.Rdw = codes "rdw"
mnemonic operations.Gad = codes "gad"
mnemonic operations.Wde = codes "wde"
mnemonic operations.Wds = codes "wds"
mnemonic operations.Fin = codes "fin"
mnemonic operations.Wfq = codes "wfq"
mnemonic operations.Popq = codes "popq"
mnemonic operations.Defer = codes "defer"
mnemonic operations.Inv = codes "inv"
mnemonic operations.Stwb = codes "pushq stwb"
mnemonic operations.Blk = codes "pushq blk"
mnemonic operations.Wake = codes "pushq wake"
mnemonic operations.Tr = codes "pushq tr"
mnemonic operations.Ucblk = codes "pushq ucblk"
mnemonic operations.Ucdone = codes "pushq ucdone"
mnemonic operations.Done = codes "pushq done"
mnemonic operations.Memrd = codes "pushq memrd"
mnemonic operations.Memwb = codes "pushq memwb"
mnemonic operations.Memww = codes "pushq memww"

-- the operation of a form
abbrev pub operation_of : Form → Operation
operation_of forms.Nop = operations.Nop
operation_of (forms.Add a b c) = operations.Add
operation_of (forms.Sub a b c) = operations.Sub
operation_of (forms.And a b c) = operations.And
operation_of (forms.Or a b c) = operations.Or
operation_of (forms.Xor a b c) = operations.Xor
operation_of (forms.Shl a b imm) = operations.Shl
operation_of (forms.Shr a b imm) = operations.Shr
operation_of (forms.Addi a b imm) = operations.Addi
operation_of (forms.Not a b) = operations.Not
operation_of (forms.Neg a b) = operations.Neg
operation_of (forms.Mov a b) = operations.Mov
operation_of (forms.Movi a imm) = operations.Movi
operation_of (forms.Mova a) = operations.Mova
operation_of (forms.Movs a) = operations.Movs
operation_of (forms.Movw a) = operations.Movw
operation_of (forms.Movk a) = operations.Movk
operation_of (forms.Bi imm) = operations.Bi
operation_of (forms.Beq a b imm) = operations.Beq
operation_of (forms.Bne a b imm) = operations.Bne
operation_of (forms.Blt a b imm) = operations.Blt
operation_of (forms.Bge a b imm) = operations.Bge
operation_of (forms.Bk a b imm) = operations.Bk
operation_of (forms.Sf a) = operations.Sf
operation_of (forms.Cf a) = operations.Cf
operation_of (forms.Nf a) = operations.Nf
operation_of (forms.Movf a b) = operations.Movf
operation_of (forms.Andf a b) = operations.Andf
operation_of (forms.Orf a b) = operations.Orf
operation_of forms.Rdw = operations.Rdw
operation_of forms.Gad = operations.Gad
operation_of (forms.Wde a) = operations.Wde
operation_of (forms.Wds a b) = operations.Wds
operation_of forms.Fin = operations.Fin
operation_of (forms.Wfq a) = operations.Wfq
operation_of (forms.Popq a) = operations.Popq
operation_of forms.Defer = operations.Defer
operation_of (forms.Inv a) = operations.Inv
operation_of (forms.Stwb a b) = operations.Stwb
operation_of (forms.Blk a) = operations.Blk
operation_of forms.Wake = operations.Wake
operation_of (forms.Tr a b) = operations.Tr
operation_of forms.Ucblk = operations.Ucblk
operation_of forms.Ucdone = operations.Ucdone
operation_of forms.Done = operations.Done
operation_of forms.Memrd = operations.Memrd
operation_of forms.Memwb = operations.Memwb
operation_of forms.Memww = operations.Memww
