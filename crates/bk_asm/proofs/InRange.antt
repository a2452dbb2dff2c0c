-- The operands that a text may have are those of the table of instruction words.
use Rattle.std.proofs.Common.{◌≡◌, ℕ, Bool, true, ◌||◌, ◌==◌, Some, None, Result, Ok, refl, sym, ap, ◌∙◌, inl, inr, arith}
use Rattle.std.proofs.lemmas.Bool.Decides.{nat_tests}
use Rattle.std.proofs.lemmas.Bool.{eqb-true}
use Rattle.bk_isa.specs.declared.table.Allowed.{Allowed}
use Rattle.bk_isa.specs.declared.table.Allowed.TheVariants.{Zero, Range}
use Rattle.bk_isa.specs.declared.table.FieldRanges.{FieldRanges}
use Rattle.bk_isa.specs.declared.form.Form.{Form}
use Rattle.bk_isa.specs.declared.fields.Fields.{Fields}
use Rattle.bk_isa.specs.Fields.{fields_with, fields_of, pack, AreWide}
use Rattle.bk_isa.specs.Table.{admits, first_fault, fault_by, fault_in, ranges_of, register, flag, shift, any_number, target, choice, whose, holder, classes, tested, all_states, valid_states, clean_states, granted_states, left_states, received_states, set_limit}
use Rattle.bk_isa.specs.declared.fault.WordFault.{WordFault}
use Rattle.bk_isa.specs.Words.{IsInRange, encode}
use Rattle.bk_isa.proofs.Forms.{fields_of-form_of}
use Rattle.bk_text.proofs.LineWords.{tested as test_of}
use Rattle.bk_asm.specs.Names.{names_of}
use Rattle.bk_asm.specs.Operations.{slots_of, opcode}
use Rattle.bk_asm.specs.Programs.{Statement, form_with}
use Rattle.bk_asm.specs.Ranges.{is_value, slot_ok, last_ok, limit_of, IsReady}
use Rattle.bk_asm.specs.declared.names.Names.{Names}
use Rattle.bk_asm.specs.declared.names.Names.TheVariants as names
use Rattle.bk_asm.specs.declared.operation.Operation.{Operation}
use Rattle.bk_asm.specs.declared.operation.Operation.TheVariants as operations
use Rattle.bk_asm.specs.declared.slots.Slot.{Slot}
use Rattle.bk_asm.specs.declared.slots.Slot.TheVariants as slots
use Rattle.bk_asm.specs.declared.slots.Last.{Last}
use Rattle.bk_asm.specs.declared.slots.Last.TheVariants as lasts
use Rattle.bk_asm.proofs.Named.{value_holds, all_values}

-- what the table of words allows where a name of a sort stands
abbrev pub allowed : Names → Allowed
allowed names.Register = register
allowed names.Flag = flag
allowed names.State = all_states
allowed names.Valid = valid_states
allowed names.Clean = clean_states
allowed names.Granted = granted_states
allowed names.Left = left_states
allowed names.Received = received_states
allowed names.Whose = whose
allowed names.Holder = holder
allowed names.Pending = choice
allowed names.Owner = choice
allowed names.Tested = tested
allowed names.Field = Range 0 19

by_names : (sort : Names) (a : Allowed) (n : ℕ) → all_values (λ v. admits a v) (names_of sort) ≡ true → is_value sort n ≡ true
    → admits a n ≡ true
by_names sort a n all is = value_holds (λ v. admits a v) (names_of sort) n all is

admitted : (sort : Names) (n : ℕ) → is_value sort n ≡ true → admits (allowed sort) n ≡ true
admitted names.Register n is = by_names names.Register register n refl is
admitted names.Flag n is = by_names names.Flag flag n refl is
admitted names.State n is = by_names names.State all_states n refl is
admitted names.Valid n is = by_names names.Valid valid_states n refl is
admitted names.Clean n is = by_names names.Clean clean_states n refl is
admitted names.Granted n is = by_names names.Granted granted_states n refl is
admitted names.Left n is = by_names names.Left left_states n refl is
admitted names.Received n is = by_names names.Received received_states n refl is
admitted names.Whose n is = by_names names.Whose whose n refl is
admitted names.Holder n is = by_names names.Holder holder n refl is
admitted names.Pending n is = by_names names.Pending choice n refl is
admitted names.Owner n is = by_names names.Owner choice n refl is
admitted names.Tested n is = by_names names.Tested tested n refl is
admitted names.Field n is = by_names names.Field (Range 0 19) n refl is

abbrev pub allowed_slot : Slot → ℕ → Allowed
allowed_slot slots.Nothing number = Zero
allowed_slot (slots.Name sort) number = allowed sort
allowed_slot (slots.Perhaps sort) number = allowed sort
allowed_slot slots.Classes number = classes
allowed_slot slots.Values number = Range 1 (limit_of number)

abbrev pub allowed_last : Last → Allowed
allowed_last lasts.Nothing = Zero
allowed_last lasts.Shift = shift
allowed_last lasts.Number = any_number
allowed_last lasts.Target = target

-- of the sorts of which a name may be missing
abbrev zero_too : Names → Bool
zero_too sort = admits (allowed sort) 0

perhaps : (sort : Names) (n : ℕ) → zero_too sort ≡ true → n == 0 || is_value sort n ≡ true → admits (allowed sort) n ≡ true
perhaps sort n zero e = elim (test_of (n == 0)) [
  | inl is ↦ ap (admits (allowed sort)) (eqb-true n 0 is) ∙ zero
  | inr not ↦ admitted sort n (sym (ap (λ t. t || is_value sort n) not) ∙ e)
]

abbrev zero_ok : Slot → Bool
zero_ok (slots.Perhaps sort) = zero_too sort
zero_ok _ = true

slot_admits : (slot : Slot) (number n : ℕ) → zero_ok slot ≡ true → slot_ok slot number n ≡ true
    → admits (allowed_slot slot number) n ≡ true
slot_admits slots.Nothing number n z e = e
slot_admits (slots.Name sort) number n z e = admitted sort n e
slot_admits (slots.Perhaps sort) number n z e = perhaps sort n z e
slot_admits slots.Classes number n z e = grind (arith, nat_tests, e)
slot_admits slots.Values number n z e = grind (arith, nat_tests, e)

last_admits : (last : Last) (n : ℕ) → last_ok last n ≡ true → admits (allowed_last last) n ≡ true
last_admits lasts.Nothing n e = e
last_admits lasts.Shift n e = grind (arith, nat_tests, e)
last_admits lasts.Number n e = grind (arith, nat_tests, e)
last_admits lasts.Target n e = grind (arith, nat_tests, e)

abbrev pub row : Allowed → Allowed → Allowed → Allowed → FieldRanges
row a b c imm = record { a = a; b = b; c = c; imm = imm }

-- no fault, where each field is admitted
none : (r : FieldRanges) (p : Fields) → admits r.a p.a ≡ true → admits r.b p.b ≡ true → admits r.c p.c ≡ true
    → admits r.imm p.imm ≡ true
    → first_fault r p ≡ None
none r p a b c i = rw (a, b, c, i) refl

-- the row of an operation in the table of words
abbrev row_is : Operation → ℕ → Type 0
row_is o a = ranges_of (opcode o) a
    ≡ Some (row (allowed_slot (slots_of o).a 0) (allowed_slot (slots_of o).b a) (allowed_slot (slots_of o).c a)
    (allowed_last (slots_of o).last))

limits : (a : ℕ) → is_value names.Tested a ≡ true → set_limit a ≡ limit_of a
limits a is = eqb-true (set_limit a) (limit_of a) (value_holds (λ v. set_limit v == limit_of v) (names_of names.Tested) a refl is)

bk_row : (a : ℕ) → is_value names.Tested a ≡ true → row_is operations.Bk a
bk_row a is = ap (λ n. Some (row tested (Range 1 n) Zero target)) (limits a is)

-- what is said of an operation's first operand, so far as its row depends on it
abbrev first_ok : Operation → ℕ → Type 0
first_ok o a = slot_ok (slots_of o).a 0 a ≡ true

-- Each of the 48 rows computes to what the operation's operands say. Only that of `bk` turns on the first operand, the field: the limit
-- of the field's set is the same in both tables (`limits`).
pub the_row : (o : Operation) (a : ℕ) → first_ok o a → row_is o a
the_row operations.Nop a is = refl
the_row operations.Add a is = refl
the_row operations.Sub a is = refl
the_row operations.And a is = refl
the_row operations.Or a is = refl
the_row operations.Xor a is = refl
the_row operations.Shl a is = refl
the_row operations.Shr a is = refl
the_row operations.Addi a is = refl
the_row operations.Not a is = refl
the_row operations.Neg a is = refl
the_row operations.Mov a is = refl
the_row operations.Movi a is = refl
the_row operations.Mova a is = refl
the_row operations.Movs a is = refl
the_row operations.Movw a is = refl
the_row operations.Movk a is = refl
the_row operations.Bi a is = refl
the_row operations.Beq a is = refl
the_row operations.Bne a is = refl
the_row operations.Blt a is = refl
the_row operations.Bge a is = refl
the_row operations.Bk a is = bk_row a is
the_row operations.Sf a is = refl
the_row operations.Cf a is = refl
the_row operations.Nf a is = refl
the_row operations.Movf a is = refl
the_row operations.Andf a is = refl
the_row operations.Orf a is = refl
the_row operations.Rdw a is = refl
the_row operations.Gad a is = refl
the_row operations.Wde a is = refl
the_row operations.Wds a is = refl
the_row operations.Fin a is = refl
the_row operations.Wfq a is = refl
the_row operations.Popq a is = refl
the_row operations.Defer a is = refl
the_row operations.Inv a is = refl
the_row operations.Stwb a is = refl
the_row operations.Blk a is = refl
the_row operations.Wake a is = refl
the_row operations.Tr a is = refl
the_row operations.Ucblk a is = refl
the_row operations.Ucdone a is = refl
the_row operations.Done a is = refl
the_row operations.Memrd a is = refl
the_row operations.Memwb a is = refl
the_row operations.Memww a is = refl

-- Only `popq` and `inv` have a name that may be missing (`wp` and `o`), and their rows admit the 0 that stands for it. Each operation
-- is computed.
zeros : (o : Operation) → (zero_ok (slots_of o).a ≡ true) × (zero_ok (slots_of o).b ≡ true) × (zero_ok (slots_of o).c ≡ true)
zeros operations.Nop = (refl, refl, refl)
zeros operations.Add = (refl, refl, refl)
zeros operations.Sub = (refl, refl, refl)
zeros operations.And = (refl, refl, refl)
zeros operations.Or = (refl, refl, refl)
zeros operations.Xor = (refl, refl, refl)
zeros operations.Shl = (refl, refl, refl)
zeros operations.Shr = (refl, refl, refl)
zeros operations.Addi = (refl, refl, refl)
zeros operations.Not = (refl, refl, refl)
zeros operations.Neg = (refl, refl, refl)
zeros operations.Mov = (refl, refl, refl)
zeros operations.Movi = (refl, refl, refl)
zeros operations.Mova = (refl, refl, refl)
zeros operations.Movs = (refl, refl, refl)
zeros operations.Movw = (refl, refl, refl)
zeros operations.Movk = (refl, refl, refl)
zeros operations.Bi = (refl, refl, refl)
zeros operations.Beq = (refl, refl, refl)
zeros operations.Bne = (refl, refl, refl)
zeros operations.Blt = (refl, refl, refl)
zeros operations.Bge = (refl, refl, refl)
zeros operations.Bk = (refl, refl, refl)
zeros operations.Sf = (refl, refl, refl)
zeros operations.Cf = (refl, refl, refl)
zeros operations.Nf = (refl, refl, refl)
zeros operations.Movf = (refl, refl, refl)
zeros operations.Andf = (refl, refl, refl)
zeros operations.Orf = (refl, refl, refl)
zeros operations.Rdw = (refl, refl, refl)
zeros operations.Gad = (refl, refl, refl)
zeros operations.Wde = (refl, refl, refl)
zeros operations.Wds = (refl, refl, refl)
zeros operations.Fin = (refl, refl, refl)
zeros operations.Wfq = (refl, refl, refl)
zeros operations.Popq = (refl, refl, refl)
zeros operations.Defer = (refl, refl, refl)
zeros operations.Inv = (refl, refl, refl)
zeros operations.Stwb = (refl, refl, refl)
zeros operations.Blk = (refl, refl, refl)
zeros operations.Wake = (refl, refl, refl)
zeros operations.Tr = (refl, refl, refl)
zeros operations.Ucblk = (refl, refl, refl)
zeros operations.Ucdone = (refl, refl, refl)
zeros operations.Done = (refl, refl, refl)
zeros operations.Memrd = (refl, refl, refl)
zeros operations.Memwb = (refl, refl, refl)
zeros operations.Memww = (refl, refl, refl)

pub no_fault : (statement : Statement) (imm : ℕ) → IsReady statement → last_ok (slots_of statement.operation).last imm ≡ true
    → fault_in (fields_with (opcode statement.operation) statement.a statement.b statement.c imm) ≡ None
no_fault statement imm h l =
    let o = statement.operation in
    let z = zeros o in
    let r = row (allowed_slot (slots_of o).a 0) (allowed_slot (slots_of o).b statement.a) (allowed_slot (slots_of o).c statement.a)
    (allowed_last (slots_of o).last) in
    let p = fields_with (opcode o) statement.a statement.b statement.c imm in
    ap (fault_by p) (the_row o statement.a h.a)
    ∙ none r p (slot_admits (slots_of o).a 0 statement.a z.0 h.a) (slot_admits (slots_of o).b statement.a statement.b z.1 h.b)
    (slot_admits (slots_of o).c statement.a statement.c z.2 h.c) (last_admits (slots_of o).last imm l)

pub in_range : (statement : Statement) (imm : ℕ) → IsReady statement → last_ok (slots_of statement.operation).last imm ≡ true
    → AreWide (fields_with (opcode statement.operation) statement.a statement.b statement.c imm)
    → (IsInRange (form_with statement imm))
    × (fields_of (form_with statement imm) ≡ fields_with (opcode statement.operation) statement.a statement.b statement.c imm)
in_range statement imm h l wide =
    let free = no_fault statement imm h l in
    let same = fields_of-form_of (fields_with (opcode statement.operation) statement.a statement.b statement.c imm) free in
    (record { wide = rw same wide; admitted = rw same free }, same)

-- the word is read as the form
pub reads : (statement : Statement) (imm word : ℕ) (r : Result Form WordFault) → IsReady statement
    → last_ok (slots_of statement.operation).last imm ≡ true
    → AreWide (fields_with (opcode statement.operation) statement.a statement.b statement.c imm)
    → word ≡ pack (fields_with (opcode statement.operation) statement.a statement.b statement.c imm)
    → ((f : Form) → IsInRange f → encode f ≡ word → r ≡ Ok f) → r ≡ Ok (form_with statement imm)
reads statement imm word r h l wide is only =
    let e = in_range statement imm h l wide in
    only (form_with statement imm) e.0 (ap (λ (p : Fields). pack p) e.1 ∙ sym is)
