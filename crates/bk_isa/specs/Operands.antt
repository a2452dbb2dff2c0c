-- The ranges of the operands that are numbers, form by form. They follow from `IsInRange`, and spare its users the table.
use Rattle.std.specs.Prelude.{◌<◌}
use Rattle.bk_isa.specs.declared.form.Form.{Form}
use Rattle.bk_isa.specs.declared.form.Form.TheVariants.{Add, Sub, And, Or, Xor, Shl, Shr, Addi, Not, Neg, Mov, Movi, Mova, Movs, Movw, Movk, Bi, Beq, Bne, Blt, Bge, Bk, Sf, Cf, Nf, Movf, Andf, Orf, Wds, Wfq, Popq, Inv, Stwb}
use Rattle.bk_isa.specs.Table.{set_limit}

-- Registers, flags, places and choices are in their ranges, a shift is by less than 64, and `wfq` and `bk` name something.
abbrev pub Operands : Form → Type 0
Operands (Add a b c) = (a < 8) × (b < 8) × (c < 8)
Operands (Sub a b c) = (a < 8) × (b < 8) × (c < 8)
Operands (And a b c) = (a < 8) × (b < 8) × (c < 8)
Operands (Or a b c) = (a < 8) × (b < 8) × (c < 8)
Operands (Xor a b c) = (a < 8) × (b < 8) × (c < 8)
Operands (Shl a b imm) = (a < 8) × (b < 8) × (imm < 64)
Operands (Shr a b imm) = (a < 8) × (b < 8) × (imm < 64)
Operands (Addi a b imm) = (a < 8) × (b < 8)
Operands (Not a b) = (a < 8) × (b < 8)
Operands (Neg a b) = (a < 8) × (b < 8)
Operands (Mov a b) = (a < 8) × (b < 8)
Operands (Movi a imm) = a < 8
Operands (Mova a) = a < 8
Operands (Movs a) = a < 8
Operands (Movw a) = a < 8
Operands (Movk a) = a < 8
Operands (Bi imm) = imm < 256
Operands (Beq a b imm) = (a < 8) × (b < 8) × (imm < 256)
Operands (Bne a b imm) = (a < 8) × (b < 8) × (imm < 256)
Operands (Blt a b imm) = (a < 8) × (b < 8) × (imm < 256)
Operands (Bge a b imm) = (a < 8) × (b < 8) × (imm < 256)
Operands (Bk a b imm) = (0 < b) × (b < set_limit a) × (imm < 256)
Operands (Sf a) = a < 4
Operands (Cf a) = a < 4
Operands (Nf a) = a < 4
Operands (Movf a b) = (a < 4) × (b < 4)
Operands (Andf a b) = (a < 4) × (b < 4)
Operands (Orf a b) = (a < 4) × (b < 4)
Operands (Wds a b) = a < 2
Operands (Wfq a) = (0 < a) × (a < 8)
Operands (Popq a) = a < 2
Operands (Inv a) = a < 2
Operands (Stwb a b) = a < 3
Operands _ = Unit {0}
