-- The operands of an instruction are in the ranges of its slots.
use Rattle.std.proofs.Common.{◌≡◌, ℕ, ◌<◌, Bool, true, false, not, ◌||◌, ◌==◌, Some, None, refl, sym, ap, ◌∙◌, arith}
use Rattle.std.proofs.lemmas.Bool.Decides.{nat_tests}
use Rattle.bk_isa.specs.declared.form.Form.{Form}
use Rattle.bk_isa.specs.declared.form.Form.TheVariants as forms
use Rattle.bk_isa.specs.declared.fields.Fields.{Fields}
use Rattle.bk_isa.specs.declared.table.Allowed.{Allowed}
use Rattle.bk_isa.specs.declared.table.FieldRanges.{FieldRanges}
use Rattle.bk_isa.specs.Fields.{fields_of}
use Rattle.bk_isa.specs.Table.{admits, fault_by, ranges_of, value_set, target}
use Rattle.bk_isa.specs.Words.{IsInRange}
use Rattle.bk_isa.proofs.Admitted.{AdmitsAll-from_none}
use Rattle.bk_asm.specs.Operations.{slots_of, opcode}
use Rattle.bk_asm.specs.Mnemonics.{operation_of}
use Rattle.bk_asm.specs.Ranges.{is_value, slot_ok, last_ok}
use Rattle.bk_asm.specs.declared.names.Names.{Names}
use Rattle.bk_asm.specs.declared.names.Names.TheVariants as names
use Rattle.bk_asm.specs.declared.operation.Operation.{Operation}
use Rattle.bk_asm.specs.declared.operation.Operation.TheVariants as operations
use Rattle.bk_asm.specs.declared.slots.Slot.{Slot}
use Rattle.bk_asm.specs.declared.slots.Slot.TheVariants as slots
use Rattle.bk_asm.specs.declared.slots.Last.{Last}
use Rattle.bk_asm.specs.declared.slots.Last.TheVariants as lasts
use Rattle.bk_asm.proofs.InRange.{allowed, allowed_slot, allowed_last, row, the_row}
use Rattle.bk_asm.proofs.Computed.{each_below, at_below}

-- each operand is one of its slot
pub record Fits (o : Operation) (p : Fields) : Type 0 where
  pub a : slot_ok (slots_of o).a 0 p.a ≡ true
  pub b : slot_ok (slots_of o).b p.a p.b ≡ true
  pub c : slot_ok (slots_of o).c p.a p.c ≡ true
  pub last : last_ok (slots_of o).last p.imm ≡ true

-- a number of a name is below 32
bounded : (sort : Names) (n : ℕ) → admits (allowed sort) n ≡ true → n < 32
bounded names.Register n e = grind (arith, nat_tests, e)
bounded names.Flag n e = grind (arith, nat_tests, e)
bounded names.State n e = grind (arith, nat_tests, e)
bounded names.Valid n e = grind (arith, nat_tests, e)
bounded names.Clean n e = grind (arith, nat_tests, e)
bounded names.Granted n e = grind (arith, nat_tests, e)
bounded names.Left n e = grind (arith, nat_tests, e)
bounded names.Received n e = grind (arith, nat_tests, e)
bounded names.Whose n e = grind (arith, nat_tests, e)
bounded names.Holder n e = grind (arith, nat_tests, e)
bounded names.Pending n e = grind (arith, nat_tests, e)
bounded names.Owner n e = grind (arith, nat_tests, e)
bounded names.Tested n e = grind (arith, nat_tests, e)
bounded names.Field n e = grind (arith, nat_tests, e)

-- what the table of words admits for a name is the number of one
abbrev is_exact : Names → Bool
is_exact sort = each_below (λ n. not (admits (allowed sort) n) || is_value sort n) 32

-- the same for each slot; where a name may be missing, 0 is admitted too
abbrev is_slot : Slot → Bool
is_slot slots.Nothing = true
is_slot (slots.Name sort) = is_exact sort
is_slot (slots.Perhaps sort) = each_below (λ n. not (admits (allowed sort) n) || (n == 0 || is_value sort n)) 32
is_slot slots.Classes = true
is_slot slots.Values = true

-- what follows from a test that passes
modus : (a b : Bool) → not a || b ≡ true → a ≡ true → b ≡ true
modus true b e f = e
modus false b e f = absurd cc

-- what the table of words admits is an operand of the slot
slot_from : (slot : Slot) (number n : ℕ) → is_slot slot ≡ true → admits (allowed_slot slot number) n ≡ true
    → slot_ok slot number n ≡ true
slot_from slots.Nothing number n z e = e
slot_from (slots.Name sort) number n z e =
    modus (admits (allowed sort) n) (is_value sort n)
    (at_below (λ n. not (admits (allowed sort) n) || is_value sort n) 32 n z (bounded sort n e)) e
slot_from (slots.Perhaps sort) number n z e =
    modus (admits (allowed sort) n) (n == 0 || is_value sort n)
    (at_below (λ n. not (admits (allowed sort) n) || (n == 0 || is_value sort n)) 32 n z (bounded sort n e)) e
slot_from slots.Classes number n z e = grind (arith, nat_tests, e)
slot_from slots.Values number n z e = grind (arith, nat_tests, e)

-- what the table of words admits is a last operand
last_from : (last : Last) (n : ℕ) → admits (allowed_last last) n ≡ true → last_ok last n ≡ true
last_from lasts.Nothing n e = e
last_from lasts.Shift n e = grind (arith, nat_tests, e)
last_from lasts.Number n e = grind (arith, nat_tests, e)
last_from lasts.Target n e = grind (arith, nat_tests, e)

-- the slots of each operation are such slots
are_slots : (o : Operation) → (is_slot (slots_of o).a ≡ true) × (is_slot (slots_of o).b ≡ true) × (is_slot (slots_of o).c ≡ true)
are_slots operations.Nop = (refl, refl, refl)
are_slots operations.Add = (refl, refl, refl)
are_slots operations.Sub = (refl, refl, refl)
are_slots operations.And = (refl, refl, refl)
are_slots operations.Or = (refl, refl, refl)
are_slots operations.Xor = (refl, refl, refl)
are_slots operations.Shl = (refl, refl, refl)
are_slots operations.Shr = (refl, refl, refl)
are_slots operations.Addi = (refl, refl, refl)
are_slots operations.Not = (refl, refl, refl)
are_slots operations.Neg = (refl, refl, refl)
are_slots operations.Mov = (refl, refl, refl)
are_slots operations.Movi = (refl, refl, refl)
are_slots operations.Mova = (refl, refl, refl)
are_slots operations.Movs = (refl, refl, refl)
are_slots operations.Movw = (refl, refl, refl)
are_slots operations.Movk = (refl, refl, refl)
are_slots operations.Bi = (refl, refl, refl)
are_slots operations.Beq = (refl, refl, refl)
are_slots operations.Bne = (refl, refl, refl)
are_slots operations.Blt = (refl, refl, refl)
are_slots operations.Bge = (refl, refl, refl)
are_slots operations.Bk = (refl, refl, refl)
are_slots operations.Sf = (refl, refl, refl)
are_slots operations.Cf = (refl, refl, refl)
are_slots operations.Nf = (refl, refl, refl)
are_slots operations.Movf = (refl, refl, refl)
are_slots operations.Andf = (refl, refl, refl)
are_slots operations.Orf = (refl, refl, refl)
are_slots operations.Rdw = (refl, refl, refl)
are_slots operations.Gad = (refl, refl, refl)
are_slots operations.Wde = (refl, refl, refl)
are_slots operations.Wds = (refl, refl, refl)
are_slots operations.Fin = (refl, refl, refl)
are_slots operations.Wfq = (refl, refl, refl)
are_slots operations.Popq = (refl, refl, refl)
are_slots operations.Defer = (refl, refl, refl)
are_slots operations.Inv = (refl, refl, refl)
are_slots operations.Stwb = (refl, refl, refl)
are_slots operations.Blk = (refl, refl, refl)
are_slots operations.Wake = (refl, refl, refl)
are_slots operations.Tr = (refl, refl, refl)
are_slots operations.Ucblk = (refl, refl, refl)
are_slots operations.Ucdone = (refl, refl, refl)
are_slots operations.Done = (refl, refl, refl)
are_slots operations.Memrd = (refl, refl, refl)
are_slots operations.Memwb = (refl, refl, refl)
are_slots operations.Memww = (refl, refl, refl)

-- the first field of an operation's row in the table of words
abbrev HasFirst : Operation → ℕ → Type 0
HasFirst o a = (b : Allowed) × (c : Allowed) × (imm : Allowed)
    × (ranges_of (opcode o) a ≡ Some (row (allowed_slot (slots_of o).a 0) b c imm))

-- the row whose fields are those of the slots
abbrev slots_row : Operation → ℕ → FieldRanges
slots_row o a = row (allowed_slot (slots_of o).a 0) (allowed_slot (slots_of o).b a) (allowed_slot (slots_of o).c a)
    (allowed_last (slots_of o).last)

-- its first field is then the first slot
by_slots : (o : Operation) (a : ℕ) → ranges_of (opcode o) a ≡ Some (slots_row o a) → HasFirst o a
by_slots o a e = (allowed_slot (slots_of o).b a, allowed_slot (slots_of o).c a, allowed_last (slots_of o).last, e)

-- so it is of each operation; the values of `bk` depend on its field
first_of_row : (o : Operation) (a : ℕ) → HasFirst o a
first_of_row operations.Nop a = by_slots operations.Nop a refl
first_of_row operations.Add a = by_slots operations.Add a refl
first_of_row operations.Sub a = by_slots operations.Sub a refl
first_of_row operations.And a = by_slots operations.And a refl
first_of_row operations.Or a = by_slots operations.Or a refl
first_of_row operations.Xor a = by_slots operations.Xor a refl
first_of_row operations.Shl a = by_slots operations.Shl a refl
first_of_row operations.Shr a = by_slots operations.Shr a refl
first_of_row operations.Addi a = by_slots operations.Addi a refl
first_of_row operations.Not a = by_slots operations.Not a refl
first_of_row operations.Neg a = by_slots operations.Neg a refl
first_of_row operations.Mov a = by_slots operations.Mov a refl
first_of_row operations.Movi a = by_slots operations.Movi a refl
first_of_row operations.Mova a = by_slots operations.Mova a refl
first_of_row operations.Movs a = by_slots operations.Movs a refl
first_of_row operations.Movw a = by_slots operations.Movw a refl
first_of_row operations.Movk a = by_slots operations.Movk a refl
first_of_row operations.Bi a = by_slots operations.Bi a refl
first_of_row operations.Beq a = by_slots operations.Beq a refl
first_of_row operations.Bne a = by_slots operations.Bne a refl
first_of_row operations.Blt a = by_slots operations.Blt a refl
first_of_row operations.Bge a = by_slots operations.Bge a refl
first_of_row operations.Bk a = (value_set a, allowed_slot slots.Nothing a, target, refl)
first_of_row operations.Sf a = by_slots operations.Sf a refl
first_of_row operations.Cf a = by_slots operations.Cf a refl
first_of_row operations.Nf a = by_slots operations.Nf a refl
first_of_row operations.Movf a = by_slots operations.Movf a refl
first_of_row operations.Andf a = by_slots operations.Andf a refl
first_of_row operations.Orf a = by_slots operations.Orf a refl
first_of_row operations.Rdw a = by_slots operations.Rdw a refl
first_of_row operations.Gad a = by_slots operations.Gad a refl
first_of_row operations.Wde a = by_slots operations.Wde a refl
first_of_row operations.Wds a = by_slots operations.Wds a refl
first_of_row operations.Fin a = by_slots operations.Fin a refl
first_of_row operations.Wfq a = by_slots operations.Wfq a refl
first_of_row operations.Popq a = by_slots operations.Popq a refl
first_of_row operations.Defer a = by_slots operations.Defer a refl
first_of_row operations.Inv a = by_slots operations.Inv a refl
first_of_row operations.Stwb a = by_slots operations.Stwb a refl
first_of_row operations.Blk a = by_slots operations.Blk a refl
first_of_row operations.Wake a = by_slots operations.Wake a refl
first_of_row operations.Tr a = by_slots operations.Tr a refl
first_of_row operations.Ucblk a = by_slots operations.Ucblk a refl
first_of_row operations.Ucdone a = by_slots operations.Ucdone a refl
first_of_row operations.Done a = by_slots operations.Done a refl
first_of_row operations.Memrd a = by_slots operations.Memrd a refl
first_of_row operations.Memwb a = by_slots operations.Memwb a refl
first_of_row operations.Memww a = by_slots operations.Memww a refl

-- the operation of a form has the code that the form's word has
pub code_is : (f : Form) → (fields_of f).op ≡ opcode (operation_of f)
code_is forms.Nop = refl
code_is (forms.Add a b c) = refl
code_is (forms.Sub a b c) = refl
code_is (forms.And a b c) = refl
code_is (forms.Or a b c) = refl
code_is (forms.Xor a b c) = refl
code_is (forms.Shl a b imm) = refl
code_is (forms.Shr a b imm) = refl
code_is (forms.Addi a b imm) = refl
code_is (forms.Not a b) = refl
code_is (forms.Neg a b) = refl
code_is (forms.Mov a b) = refl
code_is (forms.Movi a imm) = refl
code_is (forms.Mova a) = refl
code_is (forms.Movs a) = refl
code_is (forms.Movw a) = refl
code_is (forms.Movk a) = refl
code_is (forms.Bi imm) = refl
code_is (forms.Beq a b imm) = refl
code_is (forms.Bne a b imm) = refl
code_is (forms.Blt a b imm) = refl
code_is (forms.Bge a b imm) = refl
code_is (forms.Bk a b imm) = refl
code_is (forms.Sf a) = refl
code_is (forms.Cf a) = refl
code_is (forms.Nf a) = refl
code_is (forms.Movf a b) = refl
code_is (forms.Andf a b) = refl
code_is (forms.Orf a b) = refl
code_is forms.Rdw = refl
code_is forms.Gad = refl
code_is (forms.Wde a) = refl
code_is (forms.Wds a b) = refl
code_is forms.Fin = refl
code_is (forms.Wfq a) = refl
code_is (forms.Popq a) = refl
code_is forms.Defer = refl
code_is (forms.Inv a) = refl
code_is (forms.Stwb a b) = refl
code_is (forms.Blk a) = refl
code_is forms.Wake = refl
code_is (forms.Tr a b) = refl
code_is forms.Ucblk = refl
code_is forms.Ucdone = refl
code_is forms.Done = refl
code_is forms.Memrd = refl
code_is forms.Memwb = refl
code_is forms.Memww = refl

-- fields without a fault fit the operation
fits_by : (o : Operation) (p : Fields) → fault_by p (ranges_of (opcode o) p.a) ≡ None → Fits o p
fits_by o p e =
    let s = are_slots o in
    let r = first_of_row o p.a in
    let one = AdmitsAll-from_none (row (allowed_slot (slots_of o).a 0) r.0 r.1 r.2) p (sym (ap (fault_by p) r.3) ∙ e) in
    let a = slot_from (slots_of o).a 0 p.a s.0 one.a in
    let all = AdmitsAll-from_none (slots_row o p.a) p (sym (ap (fault_by p) (the_row o p.a a)) ∙ e) in
    record {
      a = a;
      b = slot_from (slots_of o).b p.a p.b s.1 all.b;
      c = slot_from (slots_of o).c p.a p.c s.2 all.c;
      last = last_from (slots_of o).last p.imm all.imm;
    }

-- an instruction's operands fit its operation
pub fits : (f : Form) → IsInRange f → Fits (operation_of f) (fields_of f)
fits f h = fits_by (operation_of f) (fields_of f) (ap (λ op. fault_by (fields_of f) (ranges_of op (fields_of f).a)) (sym (code_is f))
    ∙ h.admitted)
