-- The ranges that the table gives operands.
use Rattle.bk_isa.specs.declared.form.Form.{Form}
use Rattle.bk_isa.specs.declared.form.Form.TheVariants.{Add, Sub, And, Or, Xor, Shl, Shr, Addi, Not, Neg, Mov, Movi, Mova, Movs, Movw, Movk, Bi, Beq, Bne, Blt, Bge, Bk, Sf, Cf, Nf, Movf, Andf, Orf, Wds, Wfq, Popq, Inv, Stwb}
use Rattle.bk_isa.specs.declared.table.Allowed.TheVariants.{Zero}
use Rattle.bk_isa.specs.Fields.{fields_of}
use Rattle.bk_isa.specs.Table.{register, flag, shift, any_number, target, choice, whose, holder, classes, tested, all_states, clean_states, set_limit, value_set}
use Rattle.bk_isa.specs.Words.{IsInRange}
use Rattle.bk_isa.specs.Operands.{Operands}
use Rattle.bk_isa.proofs.Admitted.{AdmitsAll-from_none, below, above}

-- The ranges of a form are read off the table by computing, and a range that admits a number bounds it.
pub operands : (f : Form) → IsInRange f → Operands f
operands (Add a b c) h = let p = AdmitsAll-from_none (record { a = register; b = register; c = register; imm = Zero })
    (fields_of (Add a b c)) h.admitted in (below 0 8 a p.a, below 0 8 b p.b, below 0 8 c p.c)
operands (Sub a b c) h = let p = AdmitsAll-from_none (record { a = register; b = register; c = register; imm = Zero })
    (fields_of (Sub a b c)) h.admitted in (below 0 8 a p.a, below 0 8 b p.b, below 0 8 c p.c)
operands (And a b c) h = let p = AdmitsAll-from_none (record { a = register; b = register; c = register; imm = Zero })
    (fields_of (And a b c)) h.admitted in (below 0 8 a p.a, below 0 8 b p.b, below 0 8 c p.c)
operands (Or a b c) h = let p = AdmitsAll-from_none (record { a = register; b = register; c = register; imm = Zero }) (fields_of (Or a b c))
    h.admitted in (below 0 8 a p.a, below 0 8 b p.b, below 0 8 c p.c)
operands (Xor a b c) h = let p = AdmitsAll-from_none (record { a = register; b = register; c = register; imm = Zero })
    (fields_of (Xor a b c)) h.admitted in (below 0 8 a p.a, below 0 8 b p.b, below 0 8 c p.c)
operands (Shl a b imm) h = let p = AdmitsAll-from_none (record { a = register; b = register; c = Zero; imm = shift })
    (fields_of (Shl a b imm)) h.admitted in (below 0 8 a p.a, below 0 8 b p.b, below 0 64 imm p.imm)
operands (Shr a b imm) h = let p = AdmitsAll-from_none (record { a = register; b = register; c = Zero; imm = shift })
    (fields_of (Shr a b imm)) h.admitted in (below 0 8 a p.a, below 0 8 b p.b, below 0 64 imm p.imm)
operands (Addi a b imm) h = let p = AdmitsAll-from_none (record { a = register; b = register; c = Zero; imm = any_number })
    (fields_of (Addi a b imm)) h.admitted in (below 0 8 a p.a, below 0 8 b p.b)
operands (Not a b) h = let p = AdmitsAll-from_none (record { a = register; b = register; c = Zero; imm = Zero }) (fields_of (Not a b))
    h.admitted in (below 0 8 a p.a, below 0 8 b p.b)
operands (Neg a b) h = let p = AdmitsAll-from_none (record { a = register; b = register; c = Zero; imm = Zero }) (fields_of (Neg a b))
    h.admitted in (below 0 8 a p.a, below 0 8 b p.b)
operands (Mov a b) h = let p = AdmitsAll-from_none (record { a = register; b = register; c = Zero; imm = Zero }) (fields_of (Mov a b))
    h.admitted in (below 0 8 a p.a, below 0 8 b p.b)
operands (Movi a imm) h = let p = AdmitsAll-from_none (record { a = register; b = Zero; c = Zero; imm = any_number })
    (fields_of (Movi a imm)) h.admitted in below 0 8 a p.a
operands (Mova a) h = let p = AdmitsAll-from_none (record { a = register; b = Zero; c = Zero; imm = Zero }) (fields_of (Mova a)) h.admitted
    in below 0 8 a p.a
operands (Movs a) h = let p = AdmitsAll-from_none (record { a = register; b = Zero; c = Zero; imm = Zero }) (fields_of (Movs a)) h.admitted
    in below 0 8 a p.a
operands (Movw a) h = let p = AdmitsAll-from_none (record { a = register; b = Zero; c = Zero; imm = Zero }) (fields_of (Movw a)) h.admitted
    in below 0 8 a p.a
operands (Movk a) h = let p = AdmitsAll-from_none (record { a = register; b = Zero; c = Zero; imm = Zero }) (fields_of (Movk a)) h.admitted
    in below 0 8 a p.a
operands (Bi imm) h = let p = AdmitsAll-from_none (record { a = Zero; b = Zero; c = Zero; imm = target }) (fields_of (Bi imm)) h.admitted
    in below 0 256 imm p.imm
operands (Beq a b imm) h = let p = AdmitsAll-from_none (record { a = register; b = register; c = Zero; imm = target })
    (fields_of (Beq a b imm)) h.admitted in (below 0 8 a p.a, below 0 8 b p.b, below 0 256 imm p.imm)
operands (Bne a b imm) h = let p = AdmitsAll-from_none (record { a = register; b = register; c = Zero; imm = target })
    (fields_of (Bne a b imm)) h.admitted in (below 0 8 a p.a, below 0 8 b p.b, below 0 256 imm p.imm)
operands (Blt a b imm) h = let p = AdmitsAll-from_none (record { a = register; b = register; c = Zero; imm = target })
    (fields_of (Blt a b imm)) h.admitted in (below 0 8 a p.a, below 0 8 b p.b, below 0 256 imm p.imm)
operands (Bge a b imm) h = let p = AdmitsAll-from_none (record { a = register; b = register; c = Zero; imm = target })
    (fields_of (Bge a b imm)) h.admitted in (below 0 8 a p.a, below 0 8 b p.b, below 0 256 imm p.imm)
operands (Bk a b imm) h = let p = AdmitsAll-from_none (record { a = tested; b = (value_set a); c = Zero; imm = target })
    (fields_of (Bk a b imm)) h.admitted in (above 1 (set_limit a) b p.b, below 1 (set_limit a) b p.b, below 0 256 imm p.imm)
operands (Sf a) h = let p = AdmitsAll-from_none (record { a = flag; b = Zero; c = Zero; imm = Zero }) (fields_of (Sf a)) h.admitted
    in below 0 4 a p.a
operands (Cf a) h = let p = AdmitsAll-from_none (record { a = flag; b = Zero; c = Zero; imm = Zero }) (fields_of (Cf a)) h.admitted
    in below 0 4 a p.a
operands (Nf a) h = let p = AdmitsAll-from_none (record { a = flag; b = Zero; c = Zero; imm = Zero }) (fields_of (Nf a)) h.admitted
    in below 0 4 a p.a
operands (Movf a b) h = let p = AdmitsAll-from_none (record { a = flag; b = flag; c = Zero; imm = Zero }) (fields_of (Movf a b)) h.admitted
    in (below 0 4 a p.a, below 0 4 b p.b)
operands (Andf a b) h = let p = AdmitsAll-from_none (record { a = flag; b = flag; c = Zero; imm = Zero }) (fields_of (Andf a b)) h.admitted
    in (below 0 4 a p.a, below 0 4 b p.b)
operands (Orf a b) h = let p = AdmitsAll-from_none (record { a = flag; b = flag; c = Zero; imm = Zero }) (fields_of (Orf a b)) h.admitted
    in (below 0 4 a p.a, below 0 4 b p.b)
operands (Wds a b) h = let p = AdmitsAll-from_none (record { a = whose; b = all_states; c = Zero; imm = Zero }) (fields_of (Wds a b))
    h.admitted in below 0 2 a p.a
operands (Wfq a) h = let p = AdmitsAll-from_none (record { a = classes; b = Zero; c = Zero; imm = Zero }) (fields_of (Wfq a)) h.admitted
    in (above 1 8 a p.a, below 1 8 a p.a)
operands (Popq a) h = let p = AdmitsAll-from_none (record { a = choice; b = Zero; c = Zero; imm = Zero }) (fields_of (Popq a)) h.admitted
    in below 0 2 a p.a
operands (Inv a) h = let p = AdmitsAll-from_none (record { a = choice; b = Zero; c = Zero; imm = Zero }) (fields_of (Inv a)) h.admitted
    in below 0 2 a p.a
operands (Stwb a b) h = let p = AdmitsAll-from_none (record { a = holder; b = clean_states; c = Zero; imm = Zero }) (fields_of (Stwb a b))
    h.admitted in below 0 3 a p.a
operands _ h = tt
