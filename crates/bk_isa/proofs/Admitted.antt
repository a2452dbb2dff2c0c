-- Where there is no fault, the ranges admit each field.
use Rattle.std.proofs.Common.{◌≡◌, ℕ, ◌<◌, ◌≤◌, Bool, true, false, cond, Some, None, refl}
use Rattle.std.proofs.lemmas.Bool.{and_parts, ltb-true, leb-true}
use Rattle.bk_isa.specs.declared.fault.WordFault.{WordFault}
use Rattle.bk_isa.specs.declared.fields.Fields.{Fields}
use Rattle.bk_isa.specs.declared.table.Allowed.TheVariants.{Range}
use Rattle.bk_isa.specs.declared.table.FieldRanges.{FieldRanges}
use Rattle.bk_isa.specs.Table.{admits, fault_at, first_fault}

pub record AdmitsAll (r : FieldRanges) (p : Fields) : Type 0 where
  pub a : admits r.a p.a ≡ true
  pub b : admits r.b p.b ≡ true
  pub c : admits r.c p.c ≡ true
  pub imm : admits r.imm p.imm ≡ true

all_true : (a b test d : Bool) (x y z w : WordFault)
    → cond a (cond b (cond test (cond d None (Some x)) (Some y)) (Some z)) (Some w) ≡ None
    → (a ≡ true) × (b ≡ true) × (test ≡ true) × (d ≡ true)
all_true true true true true x y z w e = (refl, refl, refl, refl)
all_true true true true false x y z w e = absurd cc
all_true true true false d x y z w e = absurd cc
all_true true false test d x y z w e = absurd cc
all_true false b test d x y z w e = absurd cc

pub AdmitsAll-from_none : (r : FieldRanges) (p : Fields) → first_fault r p ≡ None → AdmitsAll r p
AdmitsAll-from_none r p e =
    let h = all_true (admits r.a p.a) (admits r.b p.b) (admits r.c p.c) (admits r.imm p.imm) (fault_at r.imm 4) (fault_at r.c 3)
    (fault_at r.b 2) (fault_at r.a 1) e in
    record { a = h.0; b = h.1; c = h.2; imm = h.3 }

-- the two ends of a range
pub below : (from to v : ℕ) → admits (Range from to) v ≡ true → v < to
below from to v h = ltb-true v to (and_parts _ _ h).1

pub above : (from to v : ℕ) → admits (Range from to) v ≡ true → from ≤ v
above from to v h = leb-true from v (and_parts _ _ h).0
