-- An instruction that is read is the one that its words spell.
use Rattle.std.proofs.Common.{◌≡◌, ℕ, ◌<◌, ◌^◌, Bool, true, false, cond, ◌&&◌, nat_lt, Option, Some, None, Result, Ok, Err}
use Rattle.std.proofs.Common.{List, [], ◌∷◌, ◌++◌, map, append-nil, refl, sym, ap, subst, ◌∙◌, inl, inr, arith}
use Rattle.std.specs.Prelude.{codes, is_some}
use Rattle.std.specs.List.{Contains, list_all}
use Rattle.std.specs.Str.{bytes_eq}
use Rattle.std.proofs.lemmas.Bool.{and_parts}
use Rattle.std.proofs.lemmas.Bool.Decides.{nat_tests}
use Rattle.std.proofs.lemmas.Slice.Eq.{bytes_eq-Decides}
use Rattle.bk_isa.specs.declared.form.Form.{Form}
use Rattle.bk_isa.specs.declared.fields.Fields.{Fields}
use Rattle.bk_isa.specs.Fields.{fields_of, fields_with, form_of}
use Rattle.bk_isa.proofs.Forms.{fields_of-form_of}
use Rattle.bk_text.specs.Texts.{number_of, words_of}
use Rattle.bk_text.specs.LineWords.{Marked, LineWords}
use Rattle.bk_text.proofs.Laws.{bytes_of}
use Rattle.bk_text.proofs.LineWords.{tested}
use Rattle.bk_text.specs.Faults.{at, or_wrong, fault_behind, unless, ◌>>=◌}
use Rattle.bk_asm.specs.declared.fault.Kind.TheVariants as kinds
use Rattle.bk_asm.specs.declared.operation.Operation.{Operation}
use Rattle.bk_asm.specs.declared.operation.Operation.TheVariants as operations
use Rattle.bk_asm.specs.declared.slots.Last.{Last}
use Rattle.bk_asm.specs.declared.slots.Last.TheVariants as lasts
use Rattle.bk_asm.specs.Names.{Naming}
use Rattle.bk_asm.specs.Operations.{slots_of, opcode, mnemonics, pushed, operation_named}
use Rattle.bk_asm.specs.Mnemonics.{mnemonic, operation_of}
use Rattle.bk_asm.specs.Programs.{Use, Statement, form_with}
use Rattle.bk_asm.specs.Ranges.{slot_ok, last_ok, is_target, IsReady}
use Rattle.bk_asm.specs.Reading.{operand, slot_at, last_at, done, comment_mark, operands_at}
use Rattle.bk_asm.specs.Reading.{mnemonic_at, place_of, on_line, defined_at, use_at, form_at}
use Rattle.bk_asm.specs.Spelled.{SpellsOperand, SpellsLast, SpellsForm}
use Rattle.bk_asm.proofs.InRange.{no_fault}
use Rattle.bk_asm.proofs.SpelledWords.{bound, ok_is, some_is, right_is, field_next, words_in, operand_next, operand_good, SpellsEnd, last_next}

-- ---- mnemonics

abbrev same_words : List (List ℕ) → List (List ℕ) → Bool
same_words [] [] = true
same_words (x ∷ xs) (y ∷ ys) = bytes_eq x y && same_words xs ys
same_words xs ys = false

same_is : (xs ys : List (List ℕ)) → same_words xs ys ≡ true → xs ≡ ys
same_is [] [] e = refl
same_is (x ∷ xs) (y ∷ ys) e =
    let t = and_parts (bytes_eq x y) (same_words xs ys) e in
    ap (λ w. w ∷ xs) ((bytes_eq-Decides x y).0 t.0) ∙ ap (λ ws. y ∷ ws) (same_is xs ys t.1)
same_is [] (y ∷ ys) e = absurd cc
same_is (x ∷ xs) [] e = absurd cc

-- what holds of each entry of a table holds of the one that a word has
operation_in : (p : List ℕ → Operation → Bool) (table : List (List ℕ × Operation)) (word : List ℕ) (o : Operation)
    → list_all (λ m. p m.0 m.1) table ≡ true → operation_named table word ≡ Some o → p word o ≡ true
operation_in p [] word o all e = absurd cc
operation_in p (m ∷ more) word o all e =
    let t = and_parts (p m.0 m.1) (list_all (λ m. p m.0 m.1) more) all in
    elim (tested (bytes_eq m.0 word)) [
      | inl is ↦
          let same : m.1 ≡ o = some_is m.1 o (sym (ap (λ t. cond t (Some m.1) (operation_named more word)) is) ∙ e) in
          subst (λ (text : List ℕ). p text o ≡ true) ((bytes_eq-Decides m.0 word).0 is)
          (subst (λ (o : Operation). p m.0 o ≡ true) same t.0)
      | inr differs ↦ operation_in p more word o t.1 (sym (ap (λ t. cond t (Some m.1) (operation_named more word)) differs) ∙ e)
    ]

-- the words of a mnemonic: one word of the table, or `pushq` and one of its own table
abbrev is_alone : List ℕ → Operation → Bool
is_alone word o = same_words (words_of comment_mark (mnemonic o)) (word ∷ [])

abbrev is_pushed : List ℕ → Operation → Bool
is_pushed word o = same_words (words_of comment_mark (mnemonic o)) (codes "pushq" ∷ word ∷ [])

all_alone : list_all (λ (m : List ℕ × Operation). is_alone m.0 m.1) mnemonics ≡ true
all_alone = refl

all_pushed : list_all (λ (m : List ℕ × Operation). is_pushed m.0 m.1) pushed ≡ true
all_pushed = refl

-- a mnemonic's words stand first, and the image isn't full
abbrev pub HasMnemonic : Bool → Marked → LineWords → Operation × LineWords → Type 0
HasMnemonic full marked row y = (marked.word ∷ words_in row ≡ words_of comment_mark (mnemonic y.0) ++ words_in y.1) × (full ≡ false)

failed : {A E : Type 0} (P : Type 0) (x : E) (y : A) (r : Result A E) → r ≡ Err x → r ≡ Ok y → P
failed P x y r e f = absurd cc

-- Behind `pushq` the next word is looked up in the table of pushed operations, and each other word in that of all others.
-- In both tables each entry is the mnemonic of its operation.
mnemonic_by : (b full : Bool) (marked : Marked) (row : LineWords) (y : Operation × LineWords)
    → bytes_eq marked.word (codes "pushq") ≡ b
    → cond b (cond full (Err (at marked.column kinds.TooMany)) (operand (operation_named pushed) row))
    (or_wrong kinds.Byte marked kinds.Mnemonic (operation_named mnemonics marked.word)
    >>= λ operation. cond full (Err (at marked.column kinds.TooMany)) (Ok (operation, row))) ≡ Ok y
    → HasMnemonic full marked row y
mnemonic_by true true marked row y is e = absurd cc
mnemonic_by true false marked row y is e =
    let n = field_next kinds.Operand kinds.Operand (operation_named pushed) row y e in
    let head = same_is (words_of comment_mark (mnemonic y.0)) (codes "pushq" ∷ n.0.word ∷ [])
    (operation_in is_pushed pushed n.0.word y.0 all_pushed n.2) in (
      ap (λ x. x ∷ words_in row) ((bytes_eq-Decides marked.word (codes "pushq")).0 is)
          ∙ ap (λ ws. codes "pushq" ∷ map bytes_of ws) n.1
          ∙ ap (λ ws. ws ++ words_in y.1) (sym head),
      refl,
    )
mnemonic_by false true marked row y is e =
    let one = bound (or_wrong kinds.Byte marked kinds.Mnemonic (operation_named mnemonics marked.word))
    (λ operation. Err (at marked.column kinds.TooMany)) y e in
    failed (HasMnemonic true marked row y) (at marked.column kinds.TooMany) y (Err (at marked.column kinds.TooMany)) refl one.2
mnemonic_by false false marked row y is e =
    let one = bound (or_wrong kinds.Byte marked kinds.Mnemonic (operation_named mnemonics marked.word))
    (λ operation. Ok (operation, row)) y e in
    let same = ok_is (one.0, row) y one.2 in
    let found = right_is marked kinds.Mnemonic (operation_named mnemonics marked.word) one.0 one.1 in
    let head = same_is (words_of comment_mark (mnemonic one.0)) (marked.word ∷ [])
    (operation_in is_alone mnemonics marked.word one.0 all_alone found) in (
      ap (λ ws. ws ++ words_in row) (sym head) ∙ ap
          (λ (y : Operation × LineWords). words_of comment_mark (mnemonic y.0) ++ words_in y.1) same,
      refl,
    )

pub mnemonic_next : (full : Bool) (marked : Marked) (row : LineWords) (y : Operation × LineWords) → mnemonic_at full marked row ≡ Ok y
    → HasMnemonic full marked row y
unfolding mnemonic_at
mnemonic_next full w row y e = mnemonic_by (bytes_eq w.word (codes "pushq")) full w row y refl e

-- ---- a statement

-- an instruction whose target is still a label
pub record SpellsStatement (line : List (List ℕ)) (statement : Statement) : Type 0 where
  pub first : List (List ℕ)
  pub second : List (List ℕ)
  pub third : List (List ℕ)
  pub rest : List (List ℕ)
  pub words : line ≡ words_of comment_mark (mnemonic statement.operation) ++ (first ++ (second ++ (third ++ rest)))
  pub a : SpellsOperand (slots_of statement.operation).a 0 first statement.a
  pub b : SpellsOperand (slots_of statement.operation).b statement.a second statement.b
  pub c : SpellsOperand (slots_of statement.operation).c statement.a third statement.c
  pub imm : SpellsEnd (slots_of statement.operation).last rest statement.imm statement.target
  pub a_good : slot_ok (slots_of statement.operation).a 0 statement.a ≡ true
  pub b_good : slot_ok (slots_of statement.operation).b statement.a statement.b ≡ true
  pub c_good : slot_ok (slots_of statement.operation).c statement.a statement.c ≡ true

-- nothing is left of a line that is read to its end
pub done_is : {X : Type 0} (ws : List Marked) (bad : Option ℕ) (x y : X)
    → unless (fault_behind kinds.Byte kinds.Extra ws bad) x ≡ Ok y
    → (map bytes_of ws ≡ []) × (x ≡ y)
done_is [] None x y e = (refl, ok_is x y e)
done_is [] (Some column) x y e = absurd cc
done_is (w ∷ ws) bad x y e = absurd cc

abbrev stated : Operation → ℕ → ℕ → ℕ → ℕ × Option Use → Statement
stated o a b c last = record { operation = o; a = a; b = b; c = c; imm = last.0; target = last.1 }

behind : (all head some more : List (List ℕ)) → all ≡ head ++ some → some ≡ more → all ≡ head ++ more
behind all head some more e f = e ∙ ap (λ t. head ++ t) f

-- words in front of words, four times, with nothing behind them
four_follow : (all one more two left three few four none : List (List ℕ)) → all ≡ one ++ more → more ≡ two ++ left
    → left ≡ three ++ few
    → few ≡ four ++ none
    → none ≡ [] → all ≡ one ++ (two ++ (three ++ four))
four_follow all one more two left three few four none a b c d e =
    a ∙ ap (λ t. one ++ t) (b ∙ ap (λ t. two ++ t) (c ∙ ap (λ t. three ++ t) (d ∙ ap (λ t. four ++ t) e ∙ append-nil four)))

-- Each of the four readers takes the words of its operand from the front of those that are left, and none is left at last.
-- So the line is the mnemonic's words and those of the operands, one behind the other.
pub operands_next : (line : ℕ) (o : Operation) (row : LineWords) (ws : List (List ℕ)) (statement : Statement)
    → ws ≡ words_of comment_mark (mnemonic o) ++ words_in row
    → operands_at line o row ≡ Ok statement → SpellsStatement ws statement
unfolding operands_at
operands_next line o row ws statement head e =
    let a = bound (slot_at (slots_of o).a 0 row)
    (λ a. slot_at (slots_of o).b a.0 a.1 >>= λ b. slot_at (slots_of o).c a.0 b.1 >>= λ c. last_at (slots_of o).last line c.1
    >>= λ last. done last.1 (stated o a.0 b.0 c.0 last.0)) statement e in
    let b = bound (slot_at (slots_of o).b a.0.0 a.0.1)
    (λ b. slot_at (slots_of o).c a.0.0 b.1 >>= λ c. last_at (slots_of o).last line c.1
    >>= λ last. done last.1 (stated o a.0.0 b.0 c.0 last.0)) statement a.2 in
    let c = bound (slot_at (slots_of o).c a.0.0 b.0.1)
    (λ c. last_at (slots_of o).last line c.1 >>= λ last. done last.1 (stated o a.0.0 b.0.0 c.0 last.0)) statement b.2 in
    let last = bound (last_at (slots_of o).last line c.0.1) (λ last. done last.1 (stated o a.0.0 b.0.0 c.0.0 last.0)) statement c.2 in
    let end = done_is last.0.1.words last.0.1.bad (stated o a.0.0 b.0.0 c.0.0 last.0.0) statement last.2 in
    let one = operand_next (slots_of o).a 0 row a.0 a.1 in
    let two = operand_next (slots_of o).b a.0.0 a.0.1 b.0 b.1 in
    let three = operand_next (slots_of o).c a.0.0 b.0.1 c.0 c.1 in
    let four = last_next (slots_of o).last line c.0.1 last.0 last.1 in
    let words = four_follow (words_in row) one.0 (words_in a.0.1) two.0 (words_in b.0.1) three.0 (words_in c.0.1) four.0 (words_in last.0.1)
    one.1 two.1 three.1 four.1 end.0 in
    let spelled : SpellsStatement ws (stated o a.0.0 b.0.0 c.0.0 last.0.0) = record {
      first = one.0;
      second = two.0;
      third = three.0;
      rest = four.0;
      words = behind ws (words_of comment_mark (mnemonic o)) (words_in row) (one.0 ++ (two.0 ++ (three.0 ++ four.0))) head words;
      a = one.2;
      b = two.2;
      c = three.2;
      imm = four.2;
      a_good = operand_good (slots_of o).a 0 row a.0 a.1;
      b_good = operand_good (slots_of o).b a.0.0 a.0.1 b.0 b.1;
      c_good = operand_good (slots_of o).c a.0.0 b.0.1 c.0 c.1;
    } in
    subst (λ (statement : Statement). SpellsStatement ws statement) end.1 spelled

-- ---- its form

-- the last operand of a form: the place of the target, where there is one
abbrev pub GoesTo : List Naming → Option Use → ℕ → ℕ → Type 0
GoesTo labels None imm n = n ≡ imm
GoesTo labels (Some u) imm n = place_of labels u.name ≡ Some n

defined : (u : Use) (o : Option ℕ) (n : ℕ) → on_line u.line (defined_at u.column o) ≡ Ok n → o ≡ Some n
defined u None n e = absurd cc
defined u (Some m) n e = ap Some (ok_is m n e)

form_goes_by : (labels : List Naming) (statement : Statement) (target : Option Use) (form : Form)
    → form_at labels statement target ≡ Ok form
    → (n : ℕ) × (form ≡ form_with statement n) × GoesTo labels target statement.imm n
form_goes_by labels statement None form e = (statement.imm, sym (ok_is (form_with statement statement.imm) form e), refl)
form_goes_by labels statement (Some u) form e =
    let one = bound (use_at labels u) (λ place. Ok (form_with statement place)) form e in
    (one.0, sym (ok_is (form_with statement one.0) form one.2), defined u (place_of labels u.name) one.0 one.1)

pub form_goes : (labels : List Naming) (statement : Statement) (form : Form) → form_at labels statement statement.target ≡ Ok form
    → (n : ℕ) × (form ≡ form_with statement n) × GoesTo labels statement.target statement.imm n
form_goes labels statement form e = form_goes_by labels statement statement.target form e

-- what labels of the text a target may be
abbrev pub AreAmong : List Naming → List Naming → Type 0
AreAmong found labels = (name : List ℕ) (n : ℕ) → place_of found name ≡ Some n → Contains labels (name, n) × (n < 256)

number_good : (limit n : ℕ) → n < limit → nat_lt n limit ≡ true
number_good limit n lt = grind (arith, nat_tests)

-- the last operand, with the place of its label
record HasLast (labels : List Naming) (last : Last) (words : List (List ℕ)) (target : Option Use) (n : ℕ) : Type 0 where
  spelled : SpellsLast labels last words n
  good : last_ok last n ≡ true
  goes : is_some target ≡ is_target last

-- By the kind of the last operand: a number is the one that its word reads as, and a label's place is found among the labels that the
-- text gives.
last_spelled : (found labels : List Naming) (last : Last) (words : List (List ℕ)) (imm : ℕ) (target : Option Use) (n : ℕ)
    → AreAmong found labels
    → SpellsEnd last words imm target → GoesTo found target imm n → HasLast labels last words target n
last_spelled found labels lasts.Nothing [] imm target n among h goes =
    let same : n ≡ imm = subst (λ (t : Option Use). GoesTo found t imm n) h.1 goes in
    let z : n ≡ 0 = same ∙ h.0 in
    record { spelled = z; good = grind (arith, nat_tests, z); goes = ap is_some h.1 }
last_spelled found labels lasts.Shift (word ∷ []) imm target n among h goes =
    let same : n ≡ imm = subst (λ (t : Option Use). GoesTo found t imm n) h.1 goes in
    let both = subst (λ (n : ℕ). (number_of word ≡ Some n) × (n < 64)) (sym same) h.0 in
    record { spelled = both; good = number_good 64 n both.1; goes = ap is_some h.1 }
last_spelled found labels lasts.Number (word ∷ []) imm target n among h goes =
    let same : n ≡ imm = subst (λ (t : Option Use). GoesTo found t imm n) h.1 goes in
    let both = subst (λ (n : ℕ). (number_of word ≡ Some n) × (n < 2 ^ 32)) (sym same) h.0 in
    record { spelled = both; good = number_good (2 ^ 32) n both.1; goes = ap is_some h.1 }
last_spelled found labels lasts.Target (word ∷ []) imm target n among h goes =
    let place : place_of found h.0.name ≡ Some n = subst (λ (t : Option Use). GoesTo found t imm n) h.1 goes in
    let is = among h.0.name n place in
    record {
      spelled = subst (λ (text : List ℕ). Contains labels (text, n)) h.2 is.0;
      good = number_good 256 n is.1;
      goes = ap is_some h.1;
    }
last_spelled found labels lasts.Nothing (text ∷ words) imm target n among h goes = absurd h
last_spelled found labels lasts.Shift [] imm target n among h goes = absurd h
last_spelled found labels lasts.Shift (text ∷ v ∷ words) imm target n among h goes = absurd h
last_spelled found labels lasts.Number [] imm target n among h goes = absurd h
last_spelled found labels lasts.Number (text ∷ v ∷ words) imm target n among h goes = absurd h
last_spelled found labels lasts.Target [] imm target n among h goes = absurd h
last_spelled found labels lasts.Target (text ∷ v ∷ words) imm target n among h goes = absurd h

-- the form of an operation is one of that operation
operation_is : (o : Operation) (a b c imm : ℕ) → operation_of (form_of (fields_with (opcode o) a b c imm)) ≡ o
operation_is operations.Nop a b c imm = refl
operation_is operations.Add a b c imm = refl
operation_is operations.Sub a b c imm = refl
operation_is operations.And a b c imm = refl
operation_is operations.Or a b c imm = refl
operation_is operations.Xor a b c imm = refl
operation_is operations.Shl a b c imm = refl
operation_is operations.Shr a b c imm = refl
operation_is operations.Addi a b c imm = refl
operation_is operations.Not a b c imm = refl
operation_is operations.Neg a b c imm = refl
operation_is operations.Mov a b c imm = refl
operation_is operations.Movi a b c imm = refl
operation_is operations.Mova a b c imm = refl
operation_is operations.Movs a b c imm = refl
operation_is operations.Movw a b c imm = refl
operation_is operations.Movk a b c imm = refl
operation_is operations.Bi a b c imm = refl
operation_is operations.Beq a b c imm = refl
operation_is operations.Bne a b c imm = refl
operation_is operations.Blt a b c imm = refl
operation_is operations.Bge a b c imm = refl
operation_is operations.Bk a b c imm = refl
operation_is operations.Sf a b c imm = refl
operation_is operations.Cf a b c imm = refl
operation_is operations.Nf a b c imm = refl
operation_is operations.Movf a b c imm = refl
operation_is operations.Andf a b c imm = refl
operation_is operations.Orf a b c imm = refl
operation_is operations.Rdw a b c imm = refl
operation_is operations.Gad a b c imm = refl
operation_is operations.Wde a b c imm = refl
operation_is operations.Wds a b c imm = refl
operation_is operations.Fin a b c imm = refl
operation_is operations.Wfq a b c imm = refl
operation_is operations.Popq a b c imm = refl
operation_is operations.Defer a b c imm = refl
operation_is operations.Inv a b c imm = refl
operation_is operations.Stwb a b c imm = refl
operation_is operations.Blk a b c imm = refl
operation_is operations.Wake a b c imm = refl
operation_is operations.Tr a b c imm = refl
operation_is operations.Ucblk a b c imm = refl
operation_is operations.Ucdone a b c imm = refl
operation_is operations.Done a b c imm = refl
operation_is operations.Memrd a b c imm = refl
operation_is operations.Memwb a b c imm = refl
operation_is operations.Memww a b c imm = refl

-- a form with the operation and the operands that are spelled
form_by : (labels : List Naming) (words : List (List ℕ)) (form : Form) (o : Operation) (p : Fields) → operation_of form ≡ o
    → fields_of form ≡ p
    → (first second third rest : List (List ℕ)) → words ≡ words_of comment_mark (mnemonic o)
    ++ (first ++ (second ++ (third ++ rest)))
    → SpellsOperand (slots_of o).a 0 first p.a → SpellsOperand (slots_of o).b p.a second p.b
    → SpellsOperand (slots_of o).c p.a third p.c
    → SpellsLast labels (slots_of o).last rest p.imm → SpellsForm labels words form
form_by labels words form o p is same first second third rest h a b c imm = record {
  first = first;
  second = second;
  third = third;
  rest = rest;
  words = rw is h;
  a = rw (is, same) a;
  b = rw (is, same) b;
  c = rw (is, same) c;
  imm = rw (is, same) imm;
}

-- An instruction whose label is resolved. Its operands are in their ranges, so the form of its fields has these fields again.
pub form_spelled : (found labels : List Naming) (words : List (List ℕ)) (statement : Statement) (form : Form) → AreAmong found labels
    → SpellsStatement words statement
    → form_at found statement statement.target ≡ Ok form → SpellsForm labels words form
form_spelled found labels words statement form among h e =
    let g = form_goes found statement form e in
    let last = last_spelled found labels (slots_of statement.operation).last h.rest statement.imm statement.target g.0 among h.imm g.2 in
    let t : Statement = record {
      operation = statement.operation;
      a = statement.a;
      b = statement.b;
      c = statement.c;
      imm = g.0;
      target = statement.target;
    } in
    let ready : IsReady t = record { a = h.a_good; b = h.b_good; c = h.c_good; last = last.good; target = last.goes } in
    let p = fields_with (opcode statement.operation) statement.a statement.b statement.c g.0 in
    let same = fields_of-form_of p (no_fault t g.0 ready last.good) in
    subst (λ (f : Form). SpellsForm labels words f) (sym g.1)
    (form_by labels words (form_with statement g.0) statement.operation p
    (operation_is statement.operation statement.a statement.b statement.c g.0) same
    h.first h.second h.third h.rest h.words h.a h.b h.c last.spelled)
