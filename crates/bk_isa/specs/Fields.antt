-- The fields of an instruction word.
use Rattle.std.specs.Prelude.{ℕ, ◌+◌, ◌*◌, ◌/◌, ◌%◌, ◌^◌, ◌<◌, Option, Some, None}
use Rattle.bk_base.specs.States.{code_of}
use Rattle.bk_isa.specs.declared.form.Form.{Form}
use Rattle.bk_isa.specs.declared.form.Form.TheVariants.{Nop, Add, Sub, And, Or, Xor, Shl, Shr, Addi, Not, Neg, Mov, Movi, Mova, Movs, Movw, Movk, Bi, Beq, Bne, Blt, Bge, Bk, Sf, Cf, Nf, Movf, Andf, Orf, Rdw, Gad, Wde, Wds, Fin, Wfq, Popq, Defer, Inv, Stwb, Blk, Wake, Tr, Ucblk, Ucdone, Done, Memrd, Memwb, Memww}
use Rattle.bk_isa.specs.declared.opcode.TheConstants.{NOP, ADD, SUB, AND, OR, XOR, SHL, SHR, ADDI, NOT, NEG, MOV, MOVI, MOVA, MOVS, MOVW, MOVK, BI, BEQ, BNE, BLT, BGE, BK, SF, CF, NF, MOVF, ANDF, ORF, RDW, GAD, WDE, WDS, FIN, WFQ, POPQ, DEFER, INV, STWB, BLK, WAKE, TR, UCBLK, UCDONE, DONE, MEMRD, MEMWB, MEMWW}
use Rattle.bk_isa.specs.declared.fields.Fields.{Fields}
use Rattle.bk_isa.specs.Table.{Meaning, meaning_of}

abbrev pub fields_with : ℕ → ℕ → ℕ → ℕ → ℕ → Fields
fields_with op a b c imm = record { op = op; a = a; b = b; c = c; imm = imm }

-- the fields of a form's word, its operands by their names and 0 elsewhere
abbrev pub fields_of : Form → Fields
fields_of Nop = fields_with NOP 0 0 0 0
fields_of (Add a b c) = fields_with ADD a b c 0
fields_of (Sub a b c) = fields_with SUB a b c 0
fields_of (And a b c) = fields_with AND a b c 0
fields_of (Or a b c) = fields_with OR a b c 0
fields_of (Xor a b c) = fields_with XOR a b c 0
fields_of (Shl a b imm) = fields_with SHL a b 0 imm
fields_of (Shr a b imm) = fields_with SHR a b 0 imm
fields_of (Addi a b imm) = fields_with ADDI a b 0 imm
fields_of (Not a b) = fields_with NOT a b 0 0
fields_of (Neg a b) = fields_with NEG a b 0 0
fields_of (Mov a b) = fields_with MOV a b 0 0
fields_of (Movi a imm) = fields_with MOVI a 0 0 imm
fields_of (Mova a) = fields_with MOVA a 0 0 0
fields_of (Movs a) = fields_with MOVS a 0 0 0
fields_of (Movw a) = fields_with MOVW a 0 0 0
fields_of (Movk a) = fields_with MOVK a 0 0 0
fields_of (Bi imm) = fields_with BI 0 0 0 imm
fields_of (Beq a b imm) = fields_with BEQ a b 0 imm
fields_of (Bne a b imm) = fields_with BNE a b 0 imm
fields_of (Blt a b imm) = fields_with BLT a b 0 imm
fields_of (Bge a b imm) = fields_with BGE a b 0 imm
fields_of (Bk a b imm) = fields_with BK a b 0 imm
fields_of (Sf a) = fields_with SF a 0 0 0
fields_of (Cf a) = fields_with CF a 0 0 0
fields_of (Nf a) = fields_with NF a 0 0 0
fields_of (Movf a b) = fields_with MOVF a b 0 0
fields_of (Andf a b) = fields_with ANDF a b 0 0
fields_of (Orf a b) = fields_with ORF a b 0 0
fields_of Rdw = fields_with RDW 0 0 0 0
fields_of Gad = fields_with GAD 0 0 0 0
fields_of (Wde a) = fields_with WDE (code_of a) 0 0 0
fields_of (Wds a b) = fields_with WDS a (code_of b) 0 0
fields_of Fin = fields_with FIN 0 0 0 0
fields_of (Wfq a) = fields_with WFQ a 0 0 0
fields_of (Popq a) = fields_with POPQ a 0 0 0
fields_of Defer = fields_with DEFER 0 0 0 0
fields_of (Inv a) = fields_with INV a 0 0 0
fields_of (Stwb a b) = fields_with STWB a (code_of b) 0 0
fields_of (Blk a) = fields_with BLK (code_of a) 0 0 0
fields_of Wake = fields_with WAKE 0 0 0 0
fields_of (Tr a b) = fields_with TR (code_of a) (code_of b) 0 0
fields_of Ucblk = fields_with UCBLK 0 0 0 0
fields_of Ucdone = fields_with UCDONE 0 0 0 0
fields_of Done = fields_with DONE 0 0 0 0
fields_of Memrd = fields_with MEMRD 0 0 0 0
fields_of Memwb = fields_with MEMWB 0 0 0 0
fields_of Memww = fields_with MEMWW 0 0 0 0

abbrev pub form_by : Option Meaning → Fields → Form
form_by None p = Nop
form_by (Some m) p = m.form p

-- the form of an operation with these operands, `nop` where there is no such operation
abbrev pub form_of : Fields → Form
form_of p = form_by (meaning_of p.op p.a) p

-- the word with these fields, and the fields of a word: four bytes and 32 bits, from the top
abbrev pub pack : Fields → ℕ
pack p = p.op * 2 ^ 56 + p.a * 2 ^ 48 + p.b * 2 ^ 40 + p.c * 2 ^ 32 + p.imm

abbrev pub unpack : ℕ → Fields
unpack word = fields_with (word / 2 ^ 56) (word / 2 ^ 48 % 256) (word / 2 ^ 40 % 256) (word / 2 ^ 32 % 256) (word % 2 ^ 32)

-- each field is as wide as the word has room for
pub record AreWide (p : Fields) : Type 0 where
  pub op : p.op < 256
  pub a : p.a < 256
  pub b : p.b < 256
  pub c : p.c < 256
  pub imm : p.imm < 2 ^ 32
