-- The line of an instruction is read as that instruction.
use Rattle.std.proofs.Common.{◌≡◌, ℕ, ◌+◌, Bool, true, false, Option, Some, None, Result, Ok, List, [], ◌∷◌, ◌++◌, length, refl, sym, ap, ◌∙◌, append_assoc}
use Rattle.std.specs.List.{list_all}
use Rattle.bk_isa.specs.declared.form.Form.{Form}
use Rattle.bk_isa.specs.declared.fields.Fields.{Fields}
use Rattle.bk_isa.specs.Fields.{fields_of}
use Rattle.bk_isa.specs.Words.{IsInRange}
use Rattle.bk_text.specs.LineWords.{LineWords}
use Rattle.bk_text.specs.Faults.{◌>>=◌}
use Rattle.bk_asm.specs.Faults.{At}
use Rattle.bk_asm.specs.declared.operation.Operation.{Operation}
use Rattle.bk_asm.specs.declared.operation.Operation.TheVariants as operations
use Rattle.bk_asm.specs.Names.{Naming}
use Rattle.bk_asm.specs.Operations.{slots_of}
use Rattle.bk_asm.specs.Mnemonics.{mnemonic, operation_of}
use Rattle.bk_asm.specs.Programs.{Use, Statement}
use Rattle.bk_asm.specs.Ranges.{slot_ok}
use Rattle.bk_asm.specs.Reading.{field, slot_at, last_at, operands_at, mnemonic_at, parts, content_at, labelled_at, line_at, row_at}
use Rattle.bk_asm.specs.Writing.{slot_text, last_text, form_text, form_line}
use Rattle.bk_asm.proofs.Sentences.{is_word, spaced, marks, past, row, spaced_append, words_append, row_words}
use Rattle.bk_asm.proofs.Fitting.{Fits, fits}
use Rattle.bk_asm.proofs.OperandsAgain.{slot_words, last_words, operand_words, mnemonic_words, form_words, imm_of, use_of, statement_of, FieldOk, is_perhaps, slot_read, last_read}

-- ---- operations

-- which operand may be missing, and on which the values of `bk` depend
record IsOrderly (o : Operation) (p : Fields) : Type 0 where
  a : FieldOk (slots_of o).a 0
  b : slot_ok (slots_of o).a 0 p.a ≡ true → FieldOk (slots_of o).b p.a
  c : FieldOk (slots_of o).c p.a
  none_behind : is_perhaps (slots_of o).a ≡ true
      → slot_words (slots_of o).b p.a p.b ++ (slot_words (slots_of o).c p.a p.c ++ last_words (slots_of o).last p.imm) ≡ []
  not_b : is_perhaps (slots_of o).b ≡ false
  not_c : is_perhaps (slots_of o).c ≡ false

-- so it is of each operation
orderly : (o : Operation) (p : Fields) → IsOrderly o p
orderly operations.Nop p = record { a = tt; b = (λ e. tt); c = tt; none_behind = (λ e. absurd cc); not_b = refl; not_c = refl }
orderly operations.Add p = record { a = tt; b = (λ e. tt); c = tt; none_behind = (λ e. absurd cc); not_b = refl; not_c = refl }
orderly operations.Sub p = record { a = tt; b = (λ e. tt); c = tt; none_behind = (λ e. absurd cc); not_b = refl; not_c = refl }
orderly operations.And p = record { a = tt; b = (λ e. tt); c = tt; none_behind = (λ e. absurd cc); not_b = refl; not_c = refl }
orderly operations.Or p = record { a = tt; b = (λ e. tt); c = tt; none_behind = (λ e. absurd cc); not_b = refl; not_c = refl }
orderly operations.Xor p = record { a = tt; b = (λ e. tt); c = tt; none_behind = (λ e. absurd cc); not_b = refl; not_c = refl }
orderly operations.Shl p = record { a = tt; b = (λ e. tt); c = tt; none_behind = (λ e. absurd cc); not_b = refl; not_c = refl }
orderly operations.Shr p = record { a = tt; b = (λ e. tt); c = tt; none_behind = (λ e. absurd cc); not_b = refl; not_c = refl }
orderly operations.Addi p = record { a = tt; b = (λ e. tt); c = tt; none_behind = (λ e. absurd cc); not_b = refl; not_c = refl }
orderly operations.Not p = record { a = tt; b = (λ e. tt); c = tt; none_behind = (λ e. absurd cc); not_b = refl; not_c = refl }
orderly operations.Neg p = record { a = tt; b = (λ e. tt); c = tt; none_behind = (λ e. absurd cc); not_b = refl; not_c = refl }
orderly operations.Mov p = record { a = tt; b = (λ e. tt); c = tt; none_behind = (λ e. absurd cc); not_b = refl; not_c = refl }
orderly operations.Movi p = record { a = tt; b = (λ e. tt); c = tt; none_behind = (λ e. absurd cc); not_b = refl; not_c = refl }
orderly operations.Mova p = record { a = tt; b = (λ e. tt); c = tt; none_behind = (λ e. absurd cc); not_b = refl; not_c = refl }
orderly operations.Movs p = record { a = tt; b = (λ e. tt); c = tt; none_behind = (λ e. absurd cc); not_b = refl; not_c = refl }
orderly operations.Movw p = record { a = tt; b = (λ e. tt); c = tt; none_behind = (λ e. absurd cc); not_b = refl; not_c = refl }
orderly operations.Movk p = record { a = tt; b = (λ e. tt); c = tt; none_behind = (λ e. absurd cc); not_b = refl; not_c = refl }
orderly operations.Bi p = record { a = tt; b = (λ e. tt); c = tt; none_behind = (λ e. absurd cc); not_b = refl; not_c = refl }
orderly operations.Beq p = record { a = tt; b = (λ e. tt); c = tt; none_behind = (λ e. absurd cc); not_b = refl; not_c = refl }
orderly operations.Bne p = record { a = tt; b = (λ e. tt); c = tt; none_behind = (λ e. absurd cc); not_b = refl; not_c = refl }
orderly operations.Blt p = record { a = tt; b = (λ e. tt); c = tt; none_behind = (λ e. absurd cc); not_b = refl; not_c = refl }
orderly operations.Bge p = record { a = tt; b = (λ e. tt); c = tt; none_behind = (λ e. absurd cc); not_b = refl; not_c = refl }
orderly operations.Bk p = record { a = tt; b = (λ e. e); c = tt; none_behind = (λ e. absurd cc); not_b = refl; not_c = refl }
orderly operations.Sf p = record { a = tt; b = (λ e. tt); c = tt; none_behind = (λ e. absurd cc); not_b = refl; not_c = refl }
orderly operations.Cf p = record { a = tt; b = (λ e. tt); c = tt; none_behind = (λ e. absurd cc); not_b = refl; not_c = refl }
orderly operations.Nf p = record { a = tt; b = (λ e. tt); c = tt; none_behind = (λ e. absurd cc); not_b = refl; not_c = refl }
orderly operations.Movf p = record { a = tt; b = (λ e. tt); c = tt; none_behind = (λ e. absurd cc); not_b = refl; not_c = refl }
orderly operations.Andf p = record { a = tt; b = (λ e. tt); c = tt; none_behind = (λ e. absurd cc); not_b = refl; not_c = refl }
orderly operations.Orf p = record { a = tt; b = (λ e. tt); c = tt; none_behind = (λ e. absurd cc); not_b = refl; not_c = refl }
orderly operations.Rdw p = record { a = tt; b = (λ e. tt); c = tt; none_behind = (λ e. absurd cc); not_b = refl; not_c = refl }
orderly operations.Gad p = record { a = tt; b = (λ e. tt); c = tt; none_behind = (λ e. absurd cc); not_b = refl; not_c = refl }
orderly operations.Wde p = record { a = tt; b = (λ e. tt); c = tt; none_behind = (λ e. absurd cc); not_b = refl; not_c = refl }
orderly operations.Wds p = record { a = tt; b = (λ e. tt); c = tt; none_behind = (λ e. absurd cc); not_b = refl; not_c = refl }
orderly operations.Fin p = record { a = tt; b = (λ e. tt); c = tt; none_behind = (λ e. absurd cc); not_b = refl; not_c = refl }
orderly operations.Wfq p = record { a = tt; b = (λ e. tt); c = tt; none_behind = (λ e. absurd cc); not_b = refl; not_c = refl }
orderly operations.Popq p = record { a = tt; b = (λ e. tt); c = tt; none_behind = (λ e. refl); not_b = refl; not_c = refl }
orderly operations.Defer p = record { a = tt; b = (λ e. tt); c = tt; none_behind = (λ e. absurd cc); not_b = refl; not_c = refl }
orderly operations.Inv p = record { a = tt; b = (λ e. tt); c = tt; none_behind = (λ e. refl); not_b = refl; not_c = refl }
orderly operations.Stwb p = record { a = tt; b = (λ e. tt); c = tt; none_behind = (λ e. absurd cc); not_b = refl; not_c = refl }
orderly operations.Blk p = record { a = tt; b = (λ e. tt); c = tt; none_behind = (λ e. absurd cc); not_b = refl; not_c = refl }
orderly operations.Wake p = record { a = tt; b = (λ e. tt); c = tt; none_behind = (λ e. absurd cc); not_b = refl; not_c = refl }
orderly operations.Tr p = record { a = tt; b = (λ e. tt); c = tt; none_behind = (λ e. absurd cc); not_b = refl; not_c = refl }
orderly operations.Ucblk p = record { a = tt; b = (λ e. tt); c = tt; none_behind = (λ e. absurd cc); not_b = refl; not_c = refl }
orderly operations.Ucdone p = record { a = tt; b = (λ e. tt); c = tt; none_behind = (λ e. absurd cc); not_b = refl; not_c = refl }
orderly operations.Done p = record { a = tt; b = (λ e. tt); c = tt; none_behind = (λ e. absurd cc); not_b = refl; not_c = refl }
orderly operations.Memrd p = record { a = tt; b = (λ e. tt); c = tt; none_behind = (λ e. absurd cc); not_b = refl; not_c = refl }
orderly operations.Memwb p = record { a = tt; b = (λ e. tt); c = tt; none_behind = (λ e. absurd cc); not_b = refl; not_c = refl }
orderly operations.Memww p = record { a = tt; b = (λ e. tt); c = tt; none_behind = (λ e. absurd cc); not_b = refl; not_c = refl }

-- nothing is owed where no operand may be missing
never : (b : Bool) (ws : List (List ℕ)) → b ≡ false → b ≡ true → ws ≡ []
never true ws e f = absurd cc
never false ws e f = absurd cc

-- the operands of an operation, by what each is read as
operands_by : (line : ℕ) (o : Operation) (r0 r1 r2 r3 : LineWords) (a b c imm : ℕ) (u : Option Use)
    → slot_at (slots_of o).a 0 r0 ≡ Ok (a, r1) → slot_at (slots_of o).b a r1 ≡ Ok (b, r2)
    → slot_at (slots_of o).c a r2 ≡ Ok (c, r3) → (end : ℕ)
    → last_at (slots_of o).last line r3 ≡ Ok ((imm, u), row [] end)
    → operands_at line o r0 ≡ Ok (record { operation = o; a = a; b = b; c = c; imm = imm; target = u })
unfolding operands_at
operands_by line o r0 r1 r2 r3 a b c imm u ea eb ec end el = rw (ea, eb, ec, el) refl

-- the column of the last operand
abbrev pub last_column : ℕ → Operation → Fields → ℕ
last_column c o p = past (past (past c (slot_words (slots_of o).a 0 p.a)) (slot_words (slots_of o).b p.a p.b))
    (slot_words (slots_of o).c p.a p.c)

-- the operands of an operation: their words are words, and are read as they
record AreOperands (line c end : ℕ) (o : Operation) (p : Fields) : Type 0 where
  words : list_all is_word (operand_words o p) ≡ true
  read : operands_at line o (row (marks c (operand_words o p)) end) ≡ Ok (statement_of line (last_column c o p) o p)
  text : slot_text (slots_of o).a 0 p.a ++ slot_text (slots_of o).b p.a p.b ++ slot_text (slots_of o).c p.a p.c
      ++ last_text (slots_of o).last p.imm
      ≡ spaced (operand_words o p)

-- the text of four lists of words
texts_append : (a b c d : List (List ℕ)) → spaced a ++ spaced b ++ spaced c ++ spaced d ≡ spaced (a ++ (b ++ (c ++ d)))
texts_append a b c d = simp (spaced_append, append_assoc)

-- the same by what each is written as
four_texts : (a b c d : List (List ℕ)) (bytes y z word : List ℕ) → bytes ≡ spaced a → y ≡ spaced b → z ≡ spaced c
    → word ≡ spaced d
    → bytes ++ y ++ z ++ word ≡ spaced (a ++ (b ++ (c ++ d)))
four_texts a b c d bytes y z word ea eb ec ed = rw (ea, eb, ec, ed) (texts_append a b c d)

-- operands that fit are read again
operands_read : (line c end : ℕ) (o : Operation) (p : Fields) → Fits o p → AreOperands line c end o p
operands_read line c end o p h =
    let k = orderly o p in
    let wa = slot_words (slots_of o).a 0 p.a in
    let wb = slot_words (slots_of o).b p.a p.b in
    let wc = slot_words (slots_of o).c p.a p.c in
    let wl = last_words (slots_of o).last p.imm in
    let ca = past c wa in
    let cb = past ca wb in
    let cc' = past cb wc in
    let a = slot_read (slots_of o).a 0 p.a c end (wb ++ (wc ++ wl)) h.a k.a k.none_behind in
    let b = slot_read (slots_of o).b p.a p.b ca end (wc ++ wl) h.b (k.b h.a) (never (is_perhaps (slots_of o).b) (wc ++ wl) k.not_b) in
    let d = slot_read (slots_of o).c p.a p.c cb end wl h.c k.c (never (is_perhaps (slots_of o).c) wl k.not_c) in
    let l = last_read (slots_of o).last line p.imm cc' end h.last in
    record {
      words = words_append wa (wb ++ (wc ++ wl)) a.words (words_append wb (wc ++ wl) b.words (words_append wc wl d.words l.words));
      read = operands_by line o (row (marks c (operand_words o p)) end)
          (row (marks ca (wb ++ (wc ++ wl))) end) (row (marks cb (wc ++ wl)) end) (row (marks cc' wl) end)
          p.a p.b p.c (imm_of (slots_of o).last p.imm) (use_of (slots_of o).last line cc' p.imm) a.read b.read d.read end l.read;
      text = four_texts wa wb wc wl (slot_text (slots_of o).a 0 p.a) (slot_text (slots_of o).b p.a p.b) (slot_text (slots_of o).c p.a p.c)
          (last_text (slots_of o).last p.imm)
          a.text b.text d.text l.text;
    }

-- ---- mnemonics

-- a mnemonic is words, and is read as its operation
record IsMnemonic (o : Operation) : Type 0 where
  text : 32 ∷ mnemonic o ≡ spaced (mnemonic_words o)
  words : list_all is_word (mnemonic_words o) ≡ true

-- each mnemonic is so
mnemonic_good : (o : Operation) → IsMnemonic o
mnemonic_good operations.Nop = record { text = refl; words = refl }
mnemonic_good operations.Add = record { text = refl; words = refl }
mnemonic_good operations.Sub = record { text = refl; words = refl }
mnemonic_good operations.And = record { text = refl; words = refl }
mnemonic_good operations.Or = record { text = refl; words = refl }
mnemonic_good operations.Xor = record { text = refl; words = refl }
mnemonic_good operations.Shl = record { text = refl; words = refl }
mnemonic_good operations.Shr = record { text = refl; words = refl }
mnemonic_good operations.Addi = record { text = refl; words = refl }
mnemonic_good operations.Not = record { text = refl; words = refl }
mnemonic_good operations.Neg = record { text = refl; words = refl }
mnemonic_good operations.Mov = record { text = refl; words = refl }
mnemonic_good operations.Movi = record { text = refl; words = refl }
mnemonic_good operations.Mova = record { text = refl; words = refl }
mnemonic_good operations.Movs = record { text = refl; words = refl }
mnemonic_good operations.Movw = record { text = refl; words = refl }
mnemonic_good operations.Movk = record { text = refl; words = refl }
mnemonic_good operations.Bi = record { text = refl; words = refl }
mnemonic_good operations.Beq = record { text = refl; words = refl }
mnemonic_good operations.Bne = record { text = refl; words = refl }
mnemonic_good operations.Blt = record { text = refl; words = refl }
mnemonic_good operations.Bge = record { text = refl; words = refl }
mnemonic_good operations.Bk = record { text = refl; words = refl }
mnemonic_good operations.Sf = record { text = refl; words = refl }
mnemonic_good operations.Cf = record { text = refl; words = refl }
mnemonic_good operations.Nf = record { text = refl; words = refl }
mnemonic_good operations.Movf = record { text = refl; words = refl }
mnemonic_good operations.Andf = record { text = refl; words = refl }
mnemonic_good operations.Orf = record { text = refl; words = refl }
mnemonic_good operations.Rdw = record { text = refl; words = refl }
mnemonic_good operations.Gad = record { text = refl; words = refl }
mnemonic_good operations.Wde = record { text = refl; words = refl }
mnemonic_good operations.Wds = record { text = refl; words = refl }
mnemonic_good operations.Fin = record { text = refl; words = refl }
mnemonic_good operations.Wfq = record { text = refl; words = refl }
mnemonic_good operations.Popq = record { text = refl; words = refl }
mnemonic_good operations.Defer = record { text = refl; words = refl }
mnemonic_good operations.Inv = record { text = refl; words = refl }
mnemonic_good operations.Stwb = record { text = refl; words = refl }
mnemonic_good operations.Blk = record { text = refl; words = refl }
mnemonic_good operations.Wake = record { text = refl; words = refl }
mnemonic_good operations.Tr = record { text = refl; words = refl }
mnemonic_good operations.Ucblk = record { text = refl; words = refl }
mnemonic_good operations.Ucdone = record { text = refl; words = refl }
mnemonic_good operations.Done = record { text = refl; words = refl }
mnemonic_good operations.Memrd = record { text = refl; words = refl }
mnemonic_good operations.Memwb = record { text = refl; words = refl }
mnemonic_good operations.Memww = record { text = refl; words = refl }

-- an instruction's line, by what its operands are
-- The mnemonic is a known word, or two for a `pushq`, so the reader computes on each of the 48: the word is no label and not `know`,
-- the table of mnemonics has it, and the operands are left to be read.
mnemonic_read : (o : Operation) (labels : List Naming) (begun known : Bool) (line end : ℕ) (ws : List (List ℕ))
    → line_at labels begun false known line (row (marks 3 (mnemonic_words o ++ ws)) end) (marks 3 (mnemonic_words o ++ ws))
    ≡ (operands_at line o (row (marks (past 3 (mnemonic_words o)) ws) end) >>= λ statement. Ok (parts None (Some statement)))
unfolding line_at labelled_at content_at mnemonic_at field
mnemonic_read operations.Nop labels begun known line end ws = refl
mnemonic_read operations.Add labels begun known line end ws = refl
mnemonic_read operations.Sub labels begun known line end ws = refl
mnemonic_read operations.And labels begun known line end ws = refl
mnemonic_read operations.Or labels begun known line end ws = refl
mnemonic_read operations.Xor labels begun known line end ws = refl
mnemonic_read operations.Shl labels begun known line end ws = refl
mnemonic_read operations.Shr labels begun known line end ws = refl
mnemonic_read operations.Addi labels begun known line end ws = refl
mnemonic_read operations.Not labels begun known line end ws = refl
mnemonic_read operations.Neg labels begun known line end ws = refl
mnemonic_read operations.Mov labels begun known line end ws = refl
mnemonic_read operations.Movi labels begun known line end ws = refl
mnemonic_read operations.Mova labels begun known line end ws = refl
mnemonic_read operations.Movs labels begun known line end ws = refl
mnemonic_read operations.Movw labels begun known line end ws = refl
mnemonic_read operations.Movk labels begun known line end ws = refl
mnemonic_read operations.Bi labels begun known line end ws = refl
mnemonic_read operations.Beq labels begun known line end ws = refl
mnemonic_read operations.Bne labels begun known line end ws = refl
mnemonic_read operations.Blt labels begun known line end ws = refl
mnemonic_read operations.Bge labels begun known line end ws = refl
mnemonic_read operations.Bk labels begun known line end ws = refl
mnemonic_read operations.Sf labels begun known line end ws = refl
mnemonic_read operations.Cf labels begun known line end ws = refl
mnemonic_read operations.Nf labels begun known line end ws = refl
mnemonic_read operations.Movf labels begun known line end ws = refl
mnemonic_read operations.Andf labels begun known line end ws = refl
mnemonic_read operations.Orf labels begun known line end ws = refl
mnemonic_read operations.Rdw labels begun known line end ws = refl
mnemonic_read operations.Gad labels begun known line end ws = refl
mnemonic_read operations.Wde labels begun known line end ws = refl
mnemonic_read operations.Wds labels begun known line end ws = refl
mnemonic_read operations.Fin labels begun known line end ws = refl
mnemonic_read operations.Wfq labels begun known line end ws = refl
mnemonic_read operations.Popq labels begun known line end ws = refl
mnemonic_read operations.Defer labels begun known line end ws = refl
mnemonic_read operations.Inv labels begun known line end ws = refl
mnemonic_read operations.Stwb labels begun known line end ws = refl
mnemonic_read operations.Blk labels begun known line end ws = refl
mnemonic_read operations.Wake labels begun known line end ws = refl
mnemonic_read operations.Tr labels begun known line end ws = refl
mnemonic_read operations.Ucblk labels begun known line end ws = refl
mnemonic_read operations.Ucdone labels begun known line end ws = refl
mnemonic_read operations.Done labels begun known line end ws = refl
mnemonic_read operations.Memrd labels begun known line end ws = refl
mnemonic_read operations.Memwb labels begun known line end ws = refl
mnemonic_read operations.Memww labels begun known line end ws = refl

-- the text of an instruction's line, without its end
abbrev pub form_bytes : Form → List ℕ
form_bytes f = 32 ∷ spaced (form_words f)

-- a mnemonic and its operands, by their text
front_of : (h a b bytes d : List ℕ) → h ++ a ++ b ++ bytes ++ d ≡ h ++ (a ++ b ++ bytes ++ d)
front_of h a b bytes d = simp append_assoc

-- the words of an instruction are words
pub form_is_words : (f : Form) → IsInRange f → list_all is_word (form_words f) ≡ true
form_is_words f h =
    let o = operation_of f in
    words_append (mnemonic_words o) (operand_words o (fields_of f)) (mnemonic_good o).words
    (operands_read 0 0 0 o (fields_of f) (fits f h)).words

-- the text of an instruction is its words
form_spaced : (f : Form) → IsInRange f → 32 ∷ form_text f ≡ spaced (form_words f)
form_spaced f h =
    let o = operation_of f in
    let p = fields_of f in
    front_of (32 ∷ mnemonic o) (slot_text (slots_of o).a 0 p.a) (slot_text (slots_of o).b p.a p.b) (slot_text (slots_of o).c p.a p.c)
    (last_text (slots_of o).last p.imm)
    ∙ ap (λ l. (32 ∷ mnemonic o) ++ l) (operands_read 0 0 0 o p (fits f h)).text
    ∙ ap (λ l. l ++ spaced (operand_words o p)) (mnemonic_good o).text
    ∙ sym (spaced_append (mnemonic_words o) (operand_words o p))

-- the line of an instruction is its words, and LF
pub form_bytes_are : (f : Form) → IsInRange f → form_line f ≡ form_bytes f ++ 10 ∷ []
unfolding form_line
form_bytes_are f h = ap (λ l. (32 ∷ l) ++ 10 ∷ []) (form_spaced f h)

-- an instruction is read from its line
pub form_read : (f : Form) (labels : List Naming) (begun known : Bool) (line : ℕ) → IsInRange f
    → (column : ℕ) × (line_at labels begun false known line (row_at (form_bytes f)) (row_at (form_bytes f)).words
    ≡ Ok (parts None (Some (statement_of line column (operation_of f) (fields_of f)))))
form_read f labels begun known line h =
    let o = operation_of f in
    let p = fields_of f in
    let c = past 3 (mnemonic_words o) in
    let end = length (form_bytes f) + 1 in
    let r = operands_read line c end o p (fits f h) in (
      last_column c o p,
      ap (λ (r : LineWords). line_at labels begun false known line r r.words) (row_words (form_words f) (form_is_words f h))
          ∙ mnemonic_read o labels begun known line end (operand_words o p)
          ∙ ap (λ (r : Result Statement At). r >>= λ statement. Ok (parts None (Some statement))) r.read,
    )
