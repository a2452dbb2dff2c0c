-- A word of each of the 48 instructions, its opcode from the table in docs/ENGINE.md: both ways by computing.
use Rattle.std.proofs.Common.{◌≡◌, ℕ, Ok, refl}
use Rattle.bk_base.specs.declared.coh.Coh.TheVariants.{S, E, F, M, O}
use Rattle.bk_isa.specs.declared.form.Form.{Form}
use Rattle.bk_isa.specs.declared.form.Form.TheVariants.{Nop, Add, Sub, And, Or, Xor, Shl, Shr, Addi, Not, Neg, Mov, Movi, Mova, Movs, Movw, Movk, Bi, Beq, Bne, Blt, Bge, Bk, Sf, Cf, Nf, Movf, Andf, Orf, Rdw, Gad, Wde, Wds, Fin, Wfq, Popq, Defer, Inv, Stwb, Blk, Wake, Tr, Ucblk, Ucdone, Done, Memrd, Memwb, Memww}
use Rattle.bk_isa.specs.Words.{encode, decode}

abbrev Spells : Form → ℕ → Type 0
Spells f word = (encode f ≡ word) × (decode word ≡ Ok f)

record Instructions : Type 0 where
  is_nop : Spells Nop 0x0000000000000000
  is_add : Spells (Add 1 2 7) 0x0101020700000000
  is_sub : Spells (Sub 3 2 5) 0x0203020500000000
  is_and : Spells (And 3 2 5) 0x0303020500000000
  is_or : Spells (Or 3 2 5) 0x0403020500000000
  is_xor : Spells (Xor 3 2 5) 0x0503020500000000
  is_shl : Spells (Shl 1 2 0x3f) 0x060102000000003f
  is_shr : Spells (Shr 7 0 1) 0x0707000000000001
  is_addi : Spells (Addi 1 2 0xffffffff) 0x08010200ffffffff
  is_not : Spells (Not 3 2) 0x0903020000000000
  is_neg : Spells (Neg 3 2) 0x0a03020000000000
  is_mov : Spells (Mov 3 2) 0x0b03020000000000
  is_movi : Spells (Movi 6 0x80000001) 0x0c06000080000001
  is_mova : Spells (Mova 3) 0x0d03000000000000
  is_movs : Spells (Movs 3) 0x0e03000000000000
  is_movw : Spells (Movw 3) 0x0f03000000000000
  is_movk : Spells (Movk 3) 0x1003000000000000
  is_bi : Spells (Bi 0xff) 0x20000000000000ff
  is_beq : Spells (Beq 3 2 0x1f) 0x210302000000001f
  is_bne : Spells (Bne 3 2 0x1f) 0x220302000000001f
  is_blt : Spells (Blt 3 2 0x1f) 0x230302000000001f
  is_bge : Spells (Bge 3 2 0x1f) 0x240302000000001f
  is_bk : Spells (Bk 2 0x41 0xf0) 0x25024100000000f0
  is_sf : Spells (Sf 3) 0x3003000000000000
  is_cf : Spells (Cf 3) 0x3103000000000000
  is_nf : Spells (Nf 3) 0x3203000000000000
  is_movf : Spells (Movf 3 2) 0x3303020000000000
  is_andf : Spells (Andf 3 2) 0x3403020000000000
  is_orf : Spells (Orf 3 2) 0x3503020000000000
  is_rdw : Spells Rdw 0x4000000000000000
  is_gad : Spells Gad 0x4100000000000000
  is_wde : Spells (Wde M) 0x4206000000000000
  is_wds : Spells (Wds 1 O) 0x4301070000000000
  is_fin : Spells Fin 0x4400000000000000
  is_wfq : Spells (Wfq 5) 0x5005000000000000
  is_popq : Spells (Popq 1) 0x5101000000000000
  is_defer : Spells Defer 0x5200000000000000
  is_inv : Spells (Inv 1) 0x5301000000000000
  is_stwb : Spells (Stwb 2 S) 0x6002010000000000
  is_blk : Spells (Blk E) 0x6102000000000000
  is_wake : Spells Wake 0x6200000000000000
  is_tr : Spells (Tr F M) 0x6303060000000000
  is_ucblk : Spells Ucblk 0x6400000000000000
  is_ucdone : Spells Ucdone 0x6500000000000000
  is_done : Spells Done 0x6600000000000000
  is_memrd : Spells Memrd 0x6700000000000000
  is_memwb : Spells Memwb 0x6800000000000000
  is_memww : Spells Memww 0x6900000000000000

-- each by computing both sides
instructions : Instructions
instructions = record {
  is_nop = (refl, refl);
  is_add = (refl, refl);
  is_sub = (refl, refl);
  is_and = (refl, refl);
  is_or = (refl, refl);
  is_xor = (refl, refl);
  is_shl = (refl, refl);
  is_shr = (refl, refl);
  is_addi = (refl, refl);
  is_not = (refl, refl);
  is_neg = (refl, refl);
  is_mov = (refl, refl);
  is_movi = (refl, refl);
  is_mova = (refl, refl);
  is_movs = (refl, refl);
  is_movw = (refl, refl);
  is_movk = (refl, refl);
  is_bi = (refl, refl);
  is_beq = (refl, refl);
  is_bne = (refl, refl);
  is_blt = (refl, refl);
  is_bge = (refl, refl);
  is_bk = (refl, refl);
  is_sf = (refl, refl);
  is_cf = (refl, refl);
  is_nf = (refl, refl);
  is_movf = (refl, refl);
  is_andf = (refl, refl);
  is_orf = (refl, refl);
  is_rdw = (refl, refl);
  is_gad = (refl, refl);
  is_wde = (refl, refl);
  is_wds = (refl, refl);
  is_fin = (refl, refl);
  is_wfq = (refl, refl);
  is_popq = (refl, refl);
  is_defer = (refl, refl);
  is_inv = (refl, refl);
  is_stwb = (refl, refl);
  is_blk = (refl, refl);
  is_wake = (refl, refl);
  is_tr = (refl, refl);
  is_ucblk = (refl, refl);
  is_ucdone = (refl, refl);
  is_done = (refl, refl);
  is_memrd = (refl, refl);
  is_memwb = (refl, refl);
  is_memww = (refl, refl);
}
