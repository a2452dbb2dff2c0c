-- What the readers of words answer is what the words spell: sets, operands, instructions.
use Rattle.std.proofs.Common.{◌≡◌, ◌≢◌, ◌⊎◌, ℕ, zero, suc, ◌<◌, ◌^◌, ◌==◌, Bool, true, false, cond, ◌&&◌, ◌||◌, nat_lt, max, Option, Some, None}
use Rattle.std.proofs.Common.{Result, Ok, Err, List, [], ◌∷◌, ◌++◌, length, map, refl, sym, ap, subst, ◌∙◌, inl, inr, mod-lt, arith}
use Rattle.std.specs.Prelude.{slice_index_or, bit_or}
use Rattle.std.specs.List.{AllZip, Contains, slice_split}
use Rattle.std.specs.Int.{bit_at}
use Rattle.std.specs.Str.{bytes_eq}
use Rattle.std.proofs.lemmas.Bool.{eqb-true}
use Rattle.std.proofs.lemmas.Bool.Decides.{nat_tests}
use Rattle.std.proofs.lemmas.Nat.Bits.{bit_at_or, bit_at-pow_same, bit_at-pow_other, bit_at-zero}
use Rattle.std.proofs.lemmas.Option.{option_and_then_some}
use Rattle.std.proofs.lemmas.Slice.Eq.{bytes_eq-Decides}
use Rattle.bk_text.specs.Texts.{is_nonempty, number_of}
use Rattle.bk_text.specs.LineWords.{Marked, LineWords}
use Rattle.bk_text.proofs.Laws.{bytes_of}
use Rattle.bk_text.proofs.LineWords.{tested}
use Rattle.bk_text.specs.Faults.{◌>>=◌, or_wrong, word_in}
use Rattle.bk_asm.specs.declared.fault.Kind.{Kind}
use Rattle.bk_asm.specs.declared.fault.Kind.TheVariants as kinds
use Rattle.bk_asm.specs.declared.names.Names.{Names}
use Rattle.bk_asm.specs.declared.slots.Slot.{Slot}
use Rattle.bk_asm.specs.declared.slots.Slot.TheVariants as slots
use Rattle.bk_asm.specs.declared.slots.Last.{Last}
use Rattle.bk_asm.specs.declared.slots.Last.TheVariants as lasts
use Rattle.bk_asm.specs.Names.{Naming, named, set_with, joined, all_below, class_names, value_names, names_of}
use Rattle.bk_asm.specs.Programs.{Use}
use Rattle.bk_asm.specs.Ranges.{is_value, slot_ok, limit_of}
use Rattle.bk_asm.specs.Reading.{field, operand, slot_at, number_below, number_at, target_of, target_at}
use Rattle.bk_asm.specs.Reading.{last_at, is_label}
use Rattle.bk_asm.specs.Spelled.{SpellsSet, SpellsOperand, Has}
use Rattle.bk_asm.proofs.Named.{named_has, joined_some, joined_below}

-- ---- answers

-- what a step that succeeded began with
pub bound : {E A B : Type 0} (r : Result A E) (f : A → Result B E) (y : B) → (r >>= f) ≡ Ok y
    → (x : A) × (r ≡ Ok x) × (f x ≡ Ok y)
bound (Ok x) f y e = (x, refl, e)
bound (Err b) f y e = absurd cc

abbrev Same : {A E : Type 0} → Result A E → Result A E → Type 0
Same r s = r ≡ s

-- the value of an answer
pub ok_is : {A E : Type 0} (x y : A) → Same {E = E} (Ok x) (Ok y) → x ≡ y
ok_is x y e = cc

pub some_is : {A : Type 0} (x y : A) → Some x ≡ Some y → x ≡ y
some_is x y e = cc

-- a test that was passed
pub if_true : {A : Type 0} (b : Bool) (x y : A) → cond b (Some x) None ≡ Some y → (b ≡ true) × (x ≡ y)
if_true true x y e = (refl, cc)
if_true false x y e = absurd cc

-- the value of a word
pub right_is : {X : Type 0} (marked : Marked) (kind : Kind) (o : Option X) (x : X) → or_wrong kinds.Byte marked kind o ≡ Ok x
    → o ≡ Some x
right_is marked kind (Some y) x e = ap Some (ok_is y x e)
right_is marked kind None x e = absurd cc

-- ---- elements

pub first : {X : Type 0} (x : X) (xs : List X) (y : X) → x ≡ y → Contains (x ∷ xs) y
first x xs y e = (0, omega arith, e)

pub later : {X : Type 0} (x : X) (xs : List X) (y : X) → Contains xs y → Contains (x ∷ xs) y
later x xs y h = let lt = h.1 in (suc h.0, omega arith, h.2)

either_at : {X : Type 0} (x : X) (xs : List X) (y : X) (number : ℕ) (h : Contains (x ∷ xs) y) → h.0 ≡ number
    → (x ≡ y) ⊎ Contains xs y
either_at x xs y zero h e = inl (subst (λ (number : ℕ). slice_index_or (x ∷ xs) number y ≡ y) e h.2)
either_at x xs y (suc number) h e =
    let lt = h.1 in
    inr (number, omega arith, subst (λ (number : ℕ). slice_index_or (x ∷ xs) number y ≡ y) e h.2)

pub either : {X : Type 0} (x : X) (xs : List X) (y : X) → Contains (x ∷ xs) y → (x ≡ y) ⊎ Contains xs y
either x xs y h = either_at x xs y h.0 h refl

pub none : {X : Type 0} (P : Type 0) (x : X) → Contains [] x → P
none P x h = let lt = h.1 in absurd (omega arith)

-- ---- names and sets

-- what a table has for a word is in the table
pub named_in : (names : List Naming) (word : List ℕ) (n : ℕ) → named names word ≡ Some n → Contains names (word, n)
named_in [] word n e = absurd cc
named_in (name ∷ more) word n e = elim (tested (bytes_eq name.0 word)) [
  | inl is ↦
      let value : name.1 ≡ n = some_is name.1 n (sym (ap (λ t. cond t (Some name.1) (named more word)) is) ∙ e) in
      first name more (word, n) (ap (λ w. (w, name.1)) ((bytes_eq-Decides name.0 word).0 is) ∙ ap (λ v. (word, v)) value)
  | inr differs ↦ later name more (word, n) (named_in more word n (sym (ap (λ t. cond t (Some name.1) (named more word)) differs) ∙ e))
]

two : (set v : ℕ) → bit_at set v < 2
two set v = mod-lt _ (omega arith)

most : (a b : ℕ) → max a b ≡ 1 → (a ≡ 1) ⊎ (b ≡ 1)
most a b e = elim (tested (a == 1)) [
  | inl is ↦ inl (eqb-true a 1 is)
  | inr differs ↦ inr (grind (arith, nat_tests, differs, e))
]

least : (a b : ℕ) → a < 2 → b < 2 → (a ≡ 1) ⊎ (b ≡ 1) → max a b ≡ 1
least a b p q (inl e) = omega arith
least a b p q (inr e) = omega arith

-- a set with one more value has that value, those that it had, and no others
pub has_own : (set number : ℕ) → Has (bit_or set (2 ^ number)) number
has_own set number = bit_at_or set (2 ^ number) number
    ∙ least (bit_at set number) (bit_at (2 ^ number) number) (two set number) (two (2 ^ number) number) (inr (bit_at-pow_same number))

pub has_kept : (set number v : ℕ) → Has set v → Has (bit_or set (2 ^ number)) v
has_kept set number v h =
    bit_at_or set (2 ^ number) v ∙ least (bit_at set v) (bit_at (2 ^ number) v) (two set v) (two (2 ^ number) v) (inl h)

only_own : (number v : ℕ) → bit_at (2 ^ number) v ≡ 1 → number ≡ v
only_own number v e = elim (tested (v == number)) [
  | inl is ↦ sym (eqb-true v number is)
  | inr differs ↦
      let other : v ≢ number = grind (arith, nat_tests, differs) in
      let z = bit_at-pow_other number v other in
      absurd (omega (arith, sym z ∙ e))
]

has_cases : (set number v : ℕ) → Has (bit_or set (2 ^ number)) v → Has set v ⊎ (number ≡ v)
has_cases set number v h = elim (most (bit_at set v) (bit_at (2 ^ number) v) (sym (bit_at_or set (2 ^ number) v) ∙ h)) [
  | inl old ↦ inl old
  | inr new ↦ inr (only_own number v new)
]

-- the values of words, and the set that they make of another
record Joined (names : List Naming) (set : ℕ) (words : List (List ℕ)) (all : ℕ) : Type 0 where
  values : List ℕ
  named : AllZip (λ name value. Contains names (name, value)) words values
  each : (v : ℕ) → Contains values v → Has all v
  only : (v : ℕ) → Has all v → Has set v ⊎ Contains values v
  kept : (v : ℕ) → Has set v → Has all v

-- each word adds the bit of its value to the set, and no other bit
joins : (names : List Naming) (set : ℕ) (words : List (List ℕ)) (all : ℕ) → set_with names set words ≡ Some all
    → Joined names set words all
joins names set [] all e =
    let same : set ≡ all = some_is set all e in
    record {
      values = [];
      named = tt;
      each = λ v h. none (Has all v) v h;
      only = λ v h. inl (subst (λ x. Has x v) (sym same) h);
      kept = λ v h. subst (λ x. Has x v) same h;
    }
joins names set (word ∷ words) all e =
    option_and_then_some (λ value. set_with names (bit_or set (2 ^ value)) words) (named names word) all e
    (λ k found rest.
    let more = joins names (bit_or set (2 ^ k)) words all rest in
    record {
      values = k ∷ more.values;
      named = (named_in names word k found, more.named);
      each = λ v h. elim (either k more.values v h) [
        | inl is ↦ more.kept v (subst (λ x. Has (bit_or set (2 ^ k)) x) is (has_own set k))
        | inr is ↦ more.each v is
      ];
      only = λ v h. elim (more.only v h) [
        | inl old ↦ elim (has_cases set k v old) [
          | inl is ↦ inl is
          | inr is ↦ inr (first k more.values v is)
        ]
        | inr is ↦ inr (later k more.values v is)
      ];
      kept = λ v h. more.kept v (has_kept set k v h);
    })

nothing_in_zero : (v : ℕ) → Has 0 v → ⊥
nothing_in_zero v h = absurd (omega (arith, sym (bit_at-zero v) ∙ h))

-- names with separators between them spell the set that they are read as
pub set_spelled : (names : List Naming) (separator : ℕ) (word : List ℕ) (set : ℕ) → joined names separator word ≡ Some set
    → SpellsSet names separator word set
set_spelled names separator word set e =
    let j = joins names 0 (slice_split (λ b. b == separator) word) set e in
    record {
      values = j.values;
      named = j.named;
      each = j.each;
      only = λ v h. elim (j.only v h) [
        | inl old ↦ absurd (nothing_in_zero v old)
        | inr is ↦ is
      ];
    }

-- ---- operands

-- the words of what is left of a line
abbrev pub words_in : LineWords → List (List ℕ)
words_in row = map bytes_of row.words

word_next : (kind : Kind) (row : LineWords) (ws : List Marked) (y : Marked × LineWords) → word_in kinds.Byte kind row ws ≡ Ok y
    → ws ≡ y.0 ∷ y.1.words
word_next kind row [] y e = absurd cc
word_next kind row (w ∷ ws) y e = ap (λ (y : Marked × LineWords). y.0 ∷ y.1.words) (ok_is (w, record row { words = ws }) y e)

-- a word that was read stands first
pub field_next : {X : Type 0} (absent kind : Kind) (read : List ℕ → Option X) (row : LineWords) (y : X × LineWords)
    → field absent kind read row ≡ Ok y
    → (marked : Marked) × (row.words ≡ marked ∷ y.1.words) × (read marked.word ≡ Some y.0)
unfolding field
field_next {X} absent kind read row y e =
    let one = bound (word_in kinds.Byte absent row row.words)
    (λ word. or_wrong kinds.Byte word.0 kind (read word.0.word) >>= λ x. Ok (x, word.1)) y e in
    let two = bound (or_wrong kinds.Byte one.0.0 kind (read one.0.0.word)) (λ x. Ok (x, one.0.1)) y one.2 in
    let same = ok_is (two.0, one.0.1) y two.2 in (
      one.0.0,
      word_next absent row row.words one.0 one.1 ∙ ap (λ (y : X × LineWords). one.0.0 ∷ y.1.words) same,
      right_is one.0.0 kind (read one.0.0.word) two.0 two.1 ∙ ap (λ (y : X × LineWords). Some y.0) same,
    )

-- the words of an operand, and the number that they spell
abbrev pub HasOperand : Slot → ℕ → LineWords → ℕ × LineWords → Type 0
HasOperand slot number row y = (ws : List (List ℕ)) × (words_in row ≡ ws ++ words_in y.1) × SpellsOperand slot number ws y.0

perhaps_next : (sort : Names) (number : ℕ) (row : LineWords) (y : ℕ × LineWords) (b : Bool)
    → cond b (operand (named (names_of sort)) row) (Ok (0, row)) ≡ Ok y → HasOperand (slots.Perhaps sort) number row y
perhaps_next sort number row y true e =
    let n = field_next kinds.Operand kinds.Operand (named (names_of sort)) row y e in
    (n.0.word ∷ [], ap (λ ws. map bytes_of ws) n.1, named_in (names_of sort) n.0.word y.0 n.2)
perhaps_next sort number row y false e =
    let same = ok_is (0, row) y e in
    ([], ap (λ (y : ℕ × LineWords). words_in y.1) same, sym (ap (λ (y : ℕ × LineWords). y.0) same))

-- each operand a, b or c
pub operand_next : (slot : Slot) (number : ℕ) (row : LineWords) (y : ℕ × LineWords) → slot_at slot number row ≡ Ok y
    → HasOperand slot number row y
operand_next slots.Nothing number row y e =
    let same = ok_is (0, row) y e in
    ([], ap (λ (y : ℕ × LineWords). words_in y.1) same, sym (ap (λ (y : ℕ × LineWords). y.0) same))
operand_next (slots.Name sort) number row y e =
    let n = field_next kinds.Operand kinds.Operand (named (names_of sort)) row y e in
    (n.0.word ∷ [], ap (λ ws. map bytes_of ws) n.1, named_in (names_of sort) n.0.word y.0 n.2)
operand_next (slots.Perhaps sort) number row y e = perhaps_next sort number row y (is_nonempty row.words) e
operand_next slots.Classes number row y e =
    let n = field_next kinds.Operand kinds.Operand (joined class_names 44) row y e in
    (n.0.word ∷ [], ap (λ ws. map bytes_of ws) n.1, set_spelled class_names 44 n.0.word y.0 n.2)
operand_next slots.Values number row y e =
    let n = field_next kinds.Operand kinds.Operand (joined (value_names number) 44) row y e in
    (n.0.word ∷ [], ap (λ ws. map bytes_of ws) n.1, set_spelled (value_names number) 44 n.0.word y.0 n.2)

-- ---- operands in their ranges

abbrev is_table : List Naming → Bool
is_table names = all_below (length names) names

choose : (b : Bool) (x y : List Naming) → is_table x ≡ true → is_table y ≡ true → is_table (cond b x y) ≡ true
choose true x y p q = p
choose false x y p q = q

-- each value's number is below the count of the field's values
values_below : (number : ℕ) → is_table (value_names number) ≡ true
values_below number =
    choose (number == 1) _ _ refl
    (choose (number == 2) _ _ refl (choose (number == 3) _ _ refl (choose (number == 4) _ _ refl (choose (number == 5) _ _ refl (
    choose (number == 6) _ _ refl
    (choose (number == 7) _ _ refl (choose (number == 8) _ _ refl (choose (number == 9) _ _ refl (choose (number == 10) _ _ refl (
    choose (number == 11) _ _ refl
    (choose (number == 12) _ _ refl (choose (number == 13) _ _ refl (choose (number == 14) _ _ refl refl)))))))))))))

within : (limit n : ℕ) → 0 < n → n < limit → nat_lt 0 n && nat_lt n limit ≡ true
within limit n some few = grind (arith, nat_tests)

or_true : (a b : Bool) → b ≡ true → a || b ≡ true
or_true true b e = refl
or_true false b e = e

perhaps_good : (sort : Names) (row : LineWords) (y : ℕ × LineWords) (b : Bool)
    → cond b (operand (named (names_of sort)) row) (Ok (0, row)) ≡ Ok y → (y.0 == 0) || is_value sort y.0 ≡ true
perhaps_good sort row y true e =
    let n = field_next kinds.Operand kinds.Operand (named (names_of sort)) row y e in
    or_true (y.0 == 0) (is_value sort y.0) (named_has (names_of sort) n.0.word y.0 n.2)
perhaps_good sort row y false e =
    ap (λ (y : ℕ × LineWords). (y.0 == 0) || is_value sort y.0) (sym (ok_is (0, row) y e))

-- an operand that is read is one of its slot
pub operand_good : (slot : Slot) (number : ℕ) (row : LineWords) (y : ℕ × LineWords) → slot_at slot number row ≡ Ok y
    → slot_ok slot number y.0 ≡ true
operand_good slots.Nothing number row y e = ap (λ (y : ℕ × LineWords). y.0 == 0) (sym (ok_is (0, row) y e))
operand_good (slots.Name sort) number row y e =
    let n = field_next kinds.Operand kinds.Operand (named (names_of sort)) row y e in
    named_has (names_of sort) n.0.word y.0 n.2
operand_good (slots.Perhaps sort) number row y e = perhaps_good sort row y (is_nonempty row.words) e
operand_good slots.Classes number row y e =
    let n = field_next kinds.Operand kinds.Operand (joined class_names 44) row y e in
    within 8 y.0 (joined_some class_names 44 n.0.word y.0 n.2) (joined_below 3 class_names 44 n.0.word y.0 refl n.2)
operand_good slots.Values number row y e =
    let n = field_next kinds.Operand kinds.Operand (joined (value_names number) 44) row y e in
    within (limit_of number) y.0 (joined_some (value_names number) 44 n.0.word y.0 n.2)
    (joined_below (length (value_names number)) (value_names number) 44 n.0.word y.0 (values_below number) n.2)

-- ---- last operands

-- the word of a last operand: a label's place isn't known yet
abbrev pub SpellsEnd : Last → List (List ℕ) → ℕ → Option Use → Type 0
SpellsEnd lasts.Nothing [] n target = (n ≡ 0) × (target ≡ None)
SpellsEnd lasts.Shift (word ∷ []) n target = ((number_of word ≡ Some n) × (n < 64)) × (target ≡ None)
SpellsEnd lasts.Number (word ∷ []) n target = ((number_of word ≡ Some n) × (n < 2 ^ 32)) × (target ≡ None)
SpellsEnd lasts.Target (word ∷ []) n target = (u : Use) × (target ≡ Some u) × (u.name ≡ word)
SpellsEnd last words n target = ⊥

abbrev pub Read : Type 0
Read = (ℕ × Option Use) × LineWords

below_limit : (limit : ℕ) (word : List ℕ) (n : ℕ) → number_below limit word ≡ Some n → (number_of word ≡ Some n)
    × (n < limit)
unfolding number_below
below_limit limit word n e =
    option_and_then_some (λ n. cond (nat_lt n limit) (Some n) None) (number_of word) n e
    (λ m found is.
    let t = if_true (nat_lt m limit) m n is in
    let lt : m < limit = grind (arith, nat_tests, t.0) in
    (found ∙ ap Some t.1, subst (λ x. x < limit) t.1 lt))

number_next : (limit : ℕ) (row : LineWords) (y : Read) → number_at limit row ≡ Ok y
    → (marked : Marked) × (row.words ≡ marked ∷ y.1.words) × ((number_of marked.word ≡ Some y.0.0) × (y.0.0 < limit))
    × (y.0.1 ≡ None)
unfolding number_at
number_next limit row y e =
    let one = bound (field kinds.Operand kinds.Number (number_below limit) row) (λ n. Ok ((n.0, None), n.1)) y e in
    let same = ok_is ((one.0.0, None), one.0.1) y one.2 in
    let n = field_next kinds.Operand kinds.Number (number_below limit) row one.0 one.1 in
    let b = below_limit limit n.0.word one.0.0 n.2 in (
      n.0,
      n.1 ∙ ap (λ (y : Read). n.0 ∷ y.1.words) same,
      subst (λ (y : Read). (number_of n.0.word ≡ Some y.0.0) × (y.0.0 < limit)) same b,
      sym (ap (λ (y : Read). y.0.1) same),
    )

target_next : (line : ℕ) (row : LineWords) (y : Read) → target_at line row ≡ Ok y
    → (marked : Marked) × (row.words ≡ marked ∷ y.1.words) × (u : Use) × (y.0.1 ≡ Some u) × (u.name ≡ marked.word)
unfolding target_at
target_next line row y e =
    let one = bound (word_in kinds.Byte kinds.Operand row row.words)
    (λ word. or_wrong kinds.Byte word.0 kinds.Operand (target_of word.0.word) >>=
    λ name. Ok ((0, Some (record { line = line; column = word.0.column; name = name })), word.1)) y e in
    let two = bound (or_wrong kinds.Byte one.0.0 kinds.Operand (target_of one.0.0.word))
    (λ name. Ok ((0, Some (record { line = line; column = one.0.0.column; name = name })), one.0.1)) y one.2 in
    let u : Use = record { line = line; column = one.0.0.column; name = two.0 } in
    let same = ok_is ((0, Some u), one.0.1) y two.2 in
    let name = if_true (is_label one.0.0.word) one.0.0.word two.0 (right_is one.0.0 kinds.Operand (target_of one.0.0.word) two.0 two.1) in (
      one.0.0,
      word_next kinds.Operand row row.words one.0 one.1 ∙ ap (λ (y : Read). one.0.0 ∷ y.1.words) same,
      u,
      sym (ap (λ (y : Read). y.0.1) same),
      sym name.1,
    )

-- each last operand
pub last_next : (last : Last) (line : ℕ) (row : LineWords) (y : Read) → last_at last line row ≡ Ok y
    → (ws : List (List ℕ)) × (words_in row ≡ ws ++ words_in y.1) × SpellsEnd last ws y.0.0 y.0.1
last_next lasts.Nothing line row y e =
    let same = ok_is ((0, None), row) y e in
    ([], ap (λ (y : Read). words_in y.1) same, (sym (ap (λ (y : Read). y.0.0) same), sym (ap (λ (y : Read). y.0.1) same)))
last_next lasts.Shift line row y e = let n = number_next 64 row y e in (n.0.word ∷ [], ap (λ ws. map bytes_of ws) n.1, (n.2, n.3))
last_next lasts.Number line row y e = let n = number_next (2 ^ 32) row y e in (n.0.word ∷ [], ap (λ ws. map bytes_of ws) n.1, (n.2, n.3))
last_next lasts.Target line row y e = let n = target_next line row y e
    in (n.0.word ∷ [], ap (λ ws. map bytes_of ws) n.1, (n.2, n.3, n.4))
