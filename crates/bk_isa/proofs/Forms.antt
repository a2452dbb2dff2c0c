-- A form is made again of its fields, and the fields that the table admits are those of a form.
use Rattle.std.proofs.Common.{◌≡◌, Option, Some, None, refl, sym, ap, subst, ◌∙◌}
use Rattle.bk_isa.specs.declared.fields.Fields.{Fields}
use Rattle.bk_isa.specs.declared.form.Form.{Form}
use Rattle.bk_isa.specs.declared.form.Form.TheVariants.{Nop, Add, Sub, And, Or, Xor, Shl, Shr, Addi, Not, Neg, Mov, Movi, Mova, Movs, Movw, Movk, Bi, Beq, Bne, Blt, Bge, Bk, Sf, Cf, Nf, Movf, Andf, Orf, Rdw, Gad, Wde, Wds, Fin, Wfq, Popq, Defer, Inv, Stwb, Blk, Wake, Tr, Ucblk, Ucdone, Done, Memrd, Memwb, Memww}
use Rattle.bk_isa.specs.declared.table.FieldRanges.{FieldRanges}
use Rattle.bk_isa.specs.Fields.{fields_of, form_of, AreWide}
use Rattle.bk_isa.specs.Table.{ranges_of, fault_by, fault_in}
use Rattle.bk_isa.specs.Words.{IsInRange}
use Rattle.bk_isa.proofs.Admitted.{AdmitsAll-from_none}
use Rattle.bk_isa.proofs.Operations.{round_trips}
use Rattle.bk_isa.proofs.States.{state-code_of}

-- by computing, form by form; a state comes back from its code
pub form_of-fields_of : (f : Form) → form_of (fields_of f) ≡ f
form_of-fields_of Nop = refl
form_of-fields_of (Add a b c) = refl
form_of-fields_of (Sub a b c) = refl
form_of-fields_of (And a b c) = refl
form_of-fields_of (Or a b c) = refl
form_of-fields_of (Xor a b c) = refl
form_of-fields_of (Shl a b imm) = refl
form_of-fields_of (Shr a b imm) = refl
form_of-fields_of (Addi a b imm) = refl
form_of-fields_of (Not a b) = refl
form_of-fields_of (Neg a b) = refl
form_of-fields_of (Mov a b) = refl
form_of-fields_of (Movi a imm) = refl
form_of-fields_of (Mova a) = refl
form_of-fields_of (Movs a) = refl
form_of-fields_of (Movw a) = refl
form_of-fields_of (Movk a) = refl
form_of-fields_of (Bi imm) = refl
form_of-fields_of (Beq a b imm) = refl
form_of-fields_of (Bne a b imm) = refl
form_of-fields_of (Blt a b imm) = refl
form_of-fields_of (Bge a b imm) = refl
form_of-fields_of (Bk a b imm) = refl
form_of-fields_of (Sf a) = refl
form_of-fields_of (Cf a) = refl
form_of-fields_of (Nf a) = refl
form_of-fields_of (Movf a b) = refl
form_of-fields_of (Andf a b) = refl
form_of-fields_of (Orf a b) = refl
form_of-fields_of Rdw = refl
form_of-fields_of Gad = refl
form_of-fields_of (Wde a) = rw (state-code_of a) refl
form_of-fields_of (Wds a b) = rw (state-code_of b) refl
form_of-fields_of Fin = refl
form_of-fields_of (Wfq a) = refl
form_of-fields_of (Popq a) = refl
form_of-fields_of Defer = refl
form_of-fields_of (Inv a) = refl
form_of-fields_of (Stwb a b) = rw (state-code_of b) refl
form_of-fields_of (Blk a) = rw (state-code_of a) refl
form_of-fields_of Wake = refl
form_of-fields_of (Tr a b) = rw (state-code_of a, state-code_of b) refl
form_of-fields_of Ucblk = refl
form_of-fields_of Ucdone = refl
form_of-fields_of Done = refl
form_of-fields_of Memrd = refl
form_of-fields_of Memwb = refl
form_of-fields_of Memww = refl

by_ranges : (p : Fields) (o : Option FieldRanges) → ranges_of p.op p.a ≡ o → fault_by p o ≡ None → fields_of (form_of p) ≡ p
by_ranges p None q e = absurd cc
by_ranges p (Some r) q e = round_trips p.op p refl r q (AdmitsAll-from_none r p e)

pub fields_of-form_of : (p : Fields) → fault_in p ≡ None → fields_of (form_of p) ≡ p
fields_of-form_of p e = by_ranges p (ranges_of p.op p.a) refl e

-- what is made of fields without a fault is in range
pub form_in_range : (p : Fields) → AreWide p → fault_in p ≡ None → IsInRange (form_of p)
form_in_range p wide e =
    let back = fields_of-form_of p e in
    record { wide = subst (λ (q : Fields). AreWide q) (sym back) wide; admitted = ap (λ (q : Fields). fault_in q) back ∙ e }
