-- The operands of an instruction are read as they are written.
use Rattle.std.proofs.Common.{◌≡◌, ℕ, ◌+◌, ◌<◌, ◌≤◌, ◌^◌, Bool, true, false, not, ◌||◌, ◌==◌, cond, Option, Some, None, Result, Ok, List, [], ◌∷◌, ◌++◌, length, refl, sym, ap, subst, ◌∙◌, inl, inr, arith}
use Rattle.std.specs.Prelude.{codes, nat_lt, option_and_then, if◌then◌else◌}
use Rattle.std.specs.List.{list_all}
use Rattle.std.specs.Fmt.{decimal}
use Rattle.std.proofs.lemmas.Bool.{eqb-true, and_parts, and_from}
use Rattle.std.proofs.lemmas.Bool.Decides.{nat_tests}
use Rattle.std.proofs.lemmas.Fmt.{decimal_is_IsNumeral}
use Rattle.std.proofs.lemmas.List.{append-nil}
use Rattle.bk_isa.specs.declared.form.Form.{Form}
use Rattle.bk_isa.specs.declared.fields.Fields.{Fields}
use Rattle.bk_isa.specs.Fields.{fields_of}
use Rattle.bk_text.specs.Texts.{is_digit, is_nonempty}
use Rattle.bk_text.specs.LineWords.{Marked, LineWords}
use Rattle.bk_text.proofs.LineWords.{tested}
use Rattle.bk_text.proofs.Numerals.{all_digits, nonempty, decimal_again}
use Rattle.bk_text.specs.Faults.{◌>>=◌, or_wrong}
use Rattle.bk_asm.specs.Faults.{At}
use Rattle.bk_asm.specs.declared.fault.Kind.{Kind}
use Rattle.bk_asm.specs.declared.fault.Kind.TheVariants as kinds
use Rattle.bk_asm.specs.declared.names.Names.TheVariants as names
use Rattle.bk_asm.specs.declared.names.Names.{Names}
use Rattle.bk_asm.specs.declared.operation.Operation.{Operation}
use Rattle.bk_asm.specs.declared.operation.Operation.TheVariants as operations
use Rattle.bk_asm.specs.declared.slots.Slot.{Slot}
use Rattle.bk_asm.specs.declared.slots.Slot.TheVariants as slots
use Rattle.bk_asm.specs.declared.slots.Last.{Last}
use Rattle.bk_asm.specs.declared.slots.Last.TheVariants as lasts
use Rattle.bk_asm.specs.Names.{named, joined, class_names, value_names, names_of}
use Rattle.bk_asm.specs.Operations.{slots_of}
use Rattle.bk_asm.specs.Mnemonics.{operation_of}
use Rattle.bk_asm.specs.Programs.{Use, Statement}
use Rattle.bk_asm.specs.Ranges.{is_value, slot_ok, last_ok, limit_of}
use Rattle.bk_asm.specs.Reading.{field, slot_at, number_below, number_at, target_at, last_at, is_label}
use Rattle.bk_asm.specs.Writing.{name_of, set_text, slot_text, label_text, last_text}
use Rattle.bk_asm.proofs.Sentences.{is_plain, is_word, spaced, marked, marks, past, row}
use Rattle.bk_asm.proofs.Computed.{name_again, classes_again, values_again, label_again}

-- ---- the words of an instruction

-- the word of an operand a, b or c, if one is written
abbrev pub slot_words : Slot → ℕ → ℕ → List (List ℕ)
slot_words slots.Nothing number n = []
slot_words (slots.Name sort) number n = name_of (names_of sort) n ∷ []
slot_words (slots.Perhaps sort) number n = if n == 0 then [] else name_of (names_of sort) n ∷ []
slot_words slots.Classes number n = set_text class_names true (codes ",") n ∷ []
slot_words slots.Values number n = set_text (value_names number) true (codes ",") n ∷ []

-- the word of the last operand
abbrev pub last_words : Last → ℕ → List (List ℕ)
last_words lasts.Nothing n = []
last_words lasts.Shift n = decimal n ∷ []
last_words lasts.Number n = decimal n ∷ []
last_words lasts.Target n = label_text n ∷ []

-- the words of operands
abbrev pub operand_words : Operation → Fields → List (List ℕ)
operand_words o p = slot_words (slots_of o).a 0 p.a
    ++ (slot_words (slots_of o).b p.a p.b ++ (slot_words (slots_of o).c p.a p.c ++ last_words (slots_of o).last p.imm))

-- the words of a mnemonic
abbrev pub mnemonic_words : Operation → List (List ℕ)
mnemonic_words operations.Nop = codes "nop" ∷ []
mnemonic_words operations.Add = codes "add" ∷ []
mnemonic_words operations.Sub = codes "sub" ∷ []
mnemonic_words operations.And = codes "and" ∷ []
mnemonic_words operations.Or = codes "or" ∷ []
mnemonic_words operations.Xor = codes "xor" ∷ []
mnemonic_words operations.Shl = codes "shl" ∷ []
mnemonic_words operations.Shr = codes "shr" ∷ []
mnemonic_words operations.Addi = codes "addi" ∷ []
mnemonic_words operations.Not = codes "not" ∷ []
mnemonic_words operations.Neg = codes "neg" ∷ []
mnemonic_words operations.Mov = codes "mov" ∷ []
mnemonic_words operations.Movi = codes "movi" ∷ []
mnemonic_words operations.Mova = codes "mova" ∷ []
mnemonic_words operations.Movs = codes "movs" ∷ []
mnemonic_words operations.Movw = codes "movw" ∷ []
mnemonic_words operations.Movk = codes "movk" ∷ []
mnemonic_words operations.Bi = codes "bi" ∷ []
mnemonic_words operations.Beq = codes "beq" ∷ []
mnemonic_words operations.Bne = codes "bne" ∷ []
mnemonic_words operations.Blt = codes "blt" ∷ []
mnemonic_words operations.Bge = codes "bge" ∷ []
mnemonic_words operations.Bk = codes "bk" ∷ []
mnemonic_words operations.Sf = codes "sf" ∷ []
mnemonic_words operations.Cf = codes "cf" ∷ []
mnemonic_words operations.Nf = codes "nf" ∷ []
mnemonic_words operations.Movf = codes "movf" ∷ []
mnemonic_words operations.Andf = codes "andf" ∷ []
mnemonic_words operations.Orf = codes "orf" ∷ []
mnemonic_words operations.Rdw = codes "rdw" ∷ []
mnemonic_words operations.Gad = codes "gad" ∷ []
mnemonic_words operations.Wde = codes "wde" ∷ []
mnemonic_words operations.Wds = codes "wds" ∷ []
mnemonic_words operations.Fin = codes "fin" ∷ []
mnemonic_words operations.Wfq = codes "wfq" ∷ []
mnemonic_words operations.Popq = codes "popq" ∷ []
mnemonic_words operations.Defer = codes "defer" ∷ []
mnemonic_words operations.Inv = codes "inv" ∷ []
mnemonic_words operations.Stwb = codes "pushq" ∷ codes "stwb" ∷ []
mnemonic_words operations.Blk = codes "pushq" ∷ codes "blk" ∷ []
mnemonic_words operations.Wake = codes "pushq" ∷ codes "wake" ∷ []
mnemonic_words operations.Tr = codes "pushq" ∷ codes "tr" ∷ []
mnemonic_words operations.Ucblk = codes "pushq" ∷ codes "ucblk" ∷ []
mnemonic_words operations.Ucdone = codes "pushq" ∷ codes "ucdone" ∷ []
mnemonic_words operations.Done = codes "pushq" ∷ codes "done" ∷ []
mnemonic_words operations.Memrd = codes "pushq" ∷ codes "memrd" ∷ []
mnemonic_words operations.Memwb = codes "pushq" ∷ codes "memwb" ∷ []
mnemonic_words operations.Memww = codes "pushq" ∷ codes "memww" ∷ []

-- the words of an instruction
abbrev pub form_words : Form → List (List ℕ)
form_words f = mnemonic_words (operation_of f) ++ operand_words (operation_of f) (fields_of f)

-- ---- what is read

-- the last operand as a line gives it: the place of a label isn't known there
abbrev pub imm_of : Last → ℕ → ℕ
imm_of lasts.Nothing n = n
imm_of lasts.Shift n = n
imm_of lasts.Number n = n
imm_of lasts.Target n = 0

-- the use of a label
abbrev pub use_of : Last → ℕ → ℕ → ℕ → Option Use
use_of lasts.Nothing line column n = None
use_of lasts.Shift line column n = None
use_of lasts.Number line column n = None
use_of lasts.Target line column n = Some (record { line = line; column = column; name = label_text n })

-- the instruction that a line gives, whose last operand stands in a column
abbrev pub statement_of : ℕ → ℕ → Operation → Fields → Statement
statement_of line column o p =
    record {
      operation = o;
      a = p.a;
      b = p.b;
      c = p.c;
      imm = imm_of (slots_of o).last p.imm;
      target = use_of (slots_of o).last line column p.imm;
    }

-- ---- numbers

-- a digit is a byte of a word
digit_is_plain : (b : ℕ) → is_digit 10 b ≡ true → is_plain b ≡ true
digit_is_plain b e = grind (arith, nat_tests)

-- digits are bytes of a word
digits_plain : (ds : List ℕ) → list_all (is_digit 10) ds ≡ true → list_all is_plain ds ≡ true
digits_plain [] e = refl
digits_plain (d ∷ ds) e =
    let t = and_parts (is_digit 10 d) (list_all (is_digit 10) ds) e in
    and_from (is_plain d) (list_all is_plain ds) (digit_is_plain d t.0) (digits_plain ds t.1)

-- a number in decimal digits is a word
pub decimal_word : (n : ℕ) → n < 2 ^ 64 → is_word (decimal n) ≡ true
decimal_word n small =
    let d = decimal_is_IsNumeral n small in
    and_from (is_nonempty (decimal n)) (list_all is_plain (decimal n)) (nonempty (decimal n) d.0.0)
    (digits_plain (decimal n) (all_digits 10 (decimal n) d.0.1))

-- a number below a limit is read from its decimal digits
below_again : (limit n : ℕ) → n < limit → limit ≤ 2 ^ 32 → number_below limit (decimal n) ≡ Some n
unfolding number_below
below_again limit n small low =
    let is : cond (nat_lt n limit) (Some n) None ≡ Some n = grind (arith, nat_tests) in
    ap (option_and_then (λ m. cond (nat_lt m limit) (Some m) None)) (decimal_again n (omega arith)) ∙ is

-- ---- operands

-- a word that is read as something
pub field_read : {X : Type 0} (absent kind : Kind) (read : List ℕ → Option X) (c end : ℕ) (word : List ℕ) (ws : List Marked) (x : X)
    → read word ≡ Some x
    → field absent kind read (row (marked c word ∷ ws) end) ≡ Ok (x, row ws end)
unfolding field
field_read absent kind read c end w ws x e = rw e refl

-- what is asked of the field on which the values of `bk` depend
abbrev pub FieldOk : Slot → ℕ → Type 0
FieldOk slots.Nothing number = Unit {0}
FieldOk (slots.Name sort) number = Unit {0}
FieldOk (slots.Perhaps sort) number = Unit {0}
FieldOk slots.Classes number = Unit {0}
FieldOk slots.Values number = is_value names.Tested number ≡ true

-- whether an operand may be missing
abbrev pub is_perhaps : Slot → Bool
is_perhaps slots.Nothing = false
is_perhaps (slots.Name sort) = false
is_perhaps (slots.Perhaps sort) = true
is_perhaps slots.Classes = false
is_perhaps slots.Values = false

-- the words are words, and are read as this number
pub record IsSlot (slot : Slot) (number n c end : ℕ) (more : List (List ℕ)) : Type 0 where
  pub words : list_all is_word (slot_words slot number n) ≡ true
  pub read : slot_at slot number (row (marks c (slot_words slot number n ++ more)) end)
      ≡ Ok (n, row (marks (past c (slot_words slot number n)) more) end)
  pub text : slot_text slot number n ≡ spaced (slot_words slot number n)

-- a word with a blank before it
spaced_one : (word : List ℕ) → codes " " ++ word ≡ spaced (word ∷ [])
spaced_one word = ap (λ l. 32 ∷ l) (sym (append-nil word))

-- a word alone
one_word : (word : List ℕ) → is_word word ≡ true → list_all is_word (word ∷ []) ≡ true
one_word word e = and_from (is_word word) true e refl

-- an operand that may be missing, and is
none_written : (sort : Names) (number n c end : ℕ) (more : List (List ℕ)) → n ≡ 0 → more ≡ []
    → IsSlot (slots.Perhaps sort) number n c end more
none_written sort number n c end more z none =
    subst (λ (j : ℕ). IsSlot (slots.Perhaps sort) number j c end more) (sym z)
    (subst (λ (ws : List (List ℕ)). IsSlot (slots.Perhaps sort) number 0 c end ws) (sym none)
    (record { words = refl; read = refl; text = refl }))

-- an operand that may be missing, and is not
one_written : (sort : Names) (number n c end : ℕ) (more : List (List ℕ)) → (n == 0) ≡ false → is_value sort n ≡ true
    → IsSlot (slots.Perhaps sort) number n c end more
one_written sort number n c end more not h =
    let w = name_of (names_of sort) n in
    let t = name_again sort n h in
    let e : slot_words (slots.Perhaps sort) number n ≡ w ∷ [] = ap (λ b. cond b [] (w ∷ [])) not in
    record {
      words = ap (list_all is_word) e ∙ one_word w t.0;
      read = ap (λ ws. slot_at (slots.Perhaps sort) number (row (marks c (ws ++ more)) end)) e
          ∙ field_read kinds.Operand kinds.Operand (named (names_of sort)) c end w (marks (c + (length w + 1)) more) n t.1
          ∙ ap (λ ws. Ok (n, row (marks (past c ws) more) end)) (sym e);
      text = ap (λ b. cond b [] (codes " " ++ w)) not ∙ spaced_one w ∙ ap spaced (sym e);
    }

-- each operand a, b or c
pub slot_read : (slot : Slot) (number n c end : ℕ) (more : List (List ℕ)) → slot_ok slot number n ≡ true → FieldOk slot number
    → (is_perhaps slot ≡ true → more ≡ [])
    → IsSlot slot number n c end more
slot_read slots.Nothing number n c end more e g h =
    let z = eqb-true n 0 e in
    record { words = refl; read = ap (λ k. Ok (k, row (marks c more) end)) (sym z); text = refl }
slot_read (slots.Name sort) number n c end more e g h =
    let w = name_of (names_of sort) n in
    let t = name_again sort n e in
    record {
      words = one_word w t.0;
      read = field_read kinds.Operand kinds.Operand (named (names_of sort)) c end w (marks (c + (length w + 1)) more) n t.1;
      text = spaced_one w;
    }
slot_read (slots.Perhaps sort) number n c end more e g h =
    elim (tested (n == 0)) [
      | inl is ↦ none_written sort number n c end more (eqb-true n 0 is) (h refl)
      | inr not ↦ one_written sort number n c end more not (sym (ap (λ b. b || is_value sort n) not) ∙ e)
    ]
slot_read slots.Classes number n c end more e g h =
    let w = set_text class_names true (codes ",") n in
    let b = and_parts (nat_lt 0 n) (nat_lt n 8) e in
    let t = classes_again n (grind (arith, nat_tests, b.0)) (grind (arith, nat_tests, b.1)) in
    record {
      words = one_word w t.0;
      read = field_read kinds.Operand kinds.Operand (joined class_names 44) c end w (marks (c + (length w + 1)) more) n t.1;
      text = spaced_one w;
    }
slot_read slots.Values number n c end more e g h =
    let w = set_text (value_names number) true (codes ",") n in
    let b = and_parts (nat_lt 0 n) (nat_lt n (limit_of number)) e in
    let t = values_again number n g (grind (arith, nat_tests, b.0)) (grind (arith, nat_tests, b.1)) in
    record {
      words = one_word w t.0;
      read = field_read kinds.Operand kinds.Operand (joined (value_names number) 44) c end w (marks (c + (length w + 1)) more) n t.1;
      text = spaced_one w;
    }

-- the last operand: its words are words, and are read as it
pub record IsLast (last : Last) (line n c end : ℕ) : Type 0 where
  pub words : list_all is_word (last_words last n) ≡ true
  pub read : last_at last line (row (marks c (last_words last n)) end) ≡ Ok ((imm_of last n, use_of last line c n), row [] end)
  pub text : last_text last n ≡ spaced (last_words last n)

-- a number as the last operand
number_read : (limit n c end : ℕ) → n < limit → limit ≤ 2 ^ 32
    → number_at limit (row (marked c (decimal n) ∷ []) end) ≡ Ok ((n, None), row [] end)
unfolding number_at
number_read limit n c end lt small =
    ap (λ (r : Result (ℕ × LineWords) At). r >>= λ n. Ok ((n.0, None), n.1))
    (field_read kinds.Operand kinds.Number (number_below limit) c end (decimal n) [] n (below_again limit n lt small))

-- a label as the last operand
target_read : (line n c end : ℕ) → is_label (label_text n) ≡ true
    → target_at line (row (marked c (label_text n) ∷ []) end)
    ≡ Ok ((0, Some (record { line = line; column = c; name = label_text n })), row [] end)
unfolding target_at
target_read line n c end e =
    ap (λ b. or_wrong kinds.Byte (marked c (label_text n)) kinds.Operand (cond b (Some (label_text n)) None) >>=
    λ name. Ok ((0, Some (record { line = line; column = c; name = name })), row [] end)) e

-- each last operand
pub last_read : (last : Last) (line n c end : ℕ) → last_ok last n ≡ true → IsLast last line n c end
last_read lasts.Nothing line n c end e = let z = eqb-true n 0 e
    in record { words = refl; read = ap (λ k. Ok ((k, None), row [] end)) (sym z); text = refl }
last_read lasts.Shift line n c end e =
    let lt : n < 64 = grind (arith, nat_tests, e) in
    record {
      words = one_word (decimal n) (decimal_word n (omega arith));
      read = number_read 64 n c end lt (omega arith);
      text = spaced_one (decimal n);
    }
last_read lasts.Number line n c end e =
    let lt : n < 2 ^ 32 = grind (arith, nat_tests, e) in
    record {
      words = one_word (decimal n) (decimal_word n (omega arith));
      read = number_read (2 ^ 32) n c end lt (omega arith);
      text = spaced_one (decimal n);
    }
last_read lasts.Target line n c end e =
    let l = label_again n (grind (arith, nat_tests, e)) in
    record { words = one_word (label_text n) l.word; read = target_read line n c end l.label; text = spaced_one (label_text n) }
