-- The words of a line are what its blanks separate, and which bytes they have.
use Rattle.std.proofs.Common.{◌≡◌, ℕ, ◌+◌, ◌<◌, Bool, true, false, not, ◌&&◌, cond, List, [], ◌∷◌, length, map, take, drop, refl, sym, ap, ◌∙◌, nat_lt, ◌==◌, ◌⊎◌, inl, inr, arith}
use Rattle.std.specs.List.{slice_split, onto_first, filter, list_all, position_or_len}
use Rattle.std.specs.Prelude.{Option, Some, None, is_none, position}
use Rattle.std.specs.Option.{option_map}
use Rattle.std.proofs.lemmas.Bool.Decides.{nat_tests}
use Rattle.std.proofs.lemmas.List.{take-append-drop}
use Rattle.std.proofs.lemmas.List.Folds.{list_all-append}
use Rattle.bk_text.specs.Texts.{is_nonempty, is_text_byte, is_blank, before_comment, comment_of, words_of}
use Rattle.bk_text.specs.LineWords.{Marked, LineWords, words_from, onto_words, ends_word, bad_from, whole_line}
use Rattle.bk_text.proofs.LineWords.{words_from-blank, words_from-byte, words_from-nothing, tested}

abbrev pub bytes_of : Marked → List ℕ
bytes_of marked = marked.word

-- the parts between blanks, of which the first is empty where a word ends before the bytes
first_part : (rest : List ℕ) → (first : List ℕ) × (others : List (List ℕ)) × (slice_split is_blank rest ≡ first ∷ others)
    × (is_nonempty first ≡ not (ends_word rest))
first_part [] = ([], [], refl, refl)
first_part (b ∷ rest) = elim (tested (is_blank b)) [
  | inl e ↦ (
    [],
    slice_split is_blank rest,
    ap (λ t. cond t ([] ∷ slice_split is_blank rest) (onto_first b (slice_split is_blank rest))) e,
    ap not (sym e),
  )
  | inr e ↦
      let p = first_part rest in (
        b ∷ p.0,
        p.1,
        ap (λ t. cond t ([] ∷ slice_split is_blank rest) (onto_first b (slice_split is_blank rest))) e ∙ ap (onto_first b) p.2,
        ap not (sym e),
      )
]

onto_one : (column b : ℕ) (ends : Bool) (first : List ℕ) (others : List (List ℕ)) (words : List Marked)
    → is_nonempty first ≡ not ends
    → filter is_nonempty (first ∷ others) ≡ map bytes_of words → filter is_nonempty (onto_first b (first ∷ others))
    ≡ map bytes_of (onto_words column b ends words)
onto_one column b true [] others words s e = ap (λ ws. (b ∷ []) ∷ ws) e
onto_one column b true (c ∷ first) others words s e = absurd cc
onto_one column b false [] others words s e = absurd cc
onto_one column b false (c ∷ first) others [] s e = absurd cc
onto_one column b false (c ∷ first) others (w ∷ words) s e =
    let head : c ∷ first ≡ w.word = cc in
    let tail : filter is_nonempty others ≡ map bytes_of words = cc in
    ap (λ word. (b ∷ word) ∷ filter is_nonempty others) head ∙ ap (λ ws. (b ∷ w.word) ∷ ws) tail

-- the words are the parts between blanks that aren't empty
pub words_are_parts : (column : ℕ) (bytes : List ℕ) → filter is_nonempty (slice_split is_blank bytes)
    ≡ map bytes_of (words_from column bytes)
words_are_parts column [] = sym (ap (map bytes_of) (words_from-nothing column))
words_are_parts column (b ∷ rest) = elim (tested (is_blank b)) [
  | inl e ↦ ap (λ t. filter is_nonempty (cond t ([] ∷ slice_split is_blank rest) (onto_first b (slice_split is_blank rest)))) e
      ∙ words_are_parts (column + 1) rest ∙ sym (ap (map bytes_of) (words_from-blank column b rest e))
  | inr e ↦
      let p = first_part rest in
      ap (λ t. filter is_nonempty (cond t ([] ∷ slice_split is_blank rest) (onto_first b (slice_split is_blank rest)))) e
      ∙ ap (λ parts. filter is_nonempty (onto_first b parts)) p.2
      ∙ onto_one column b (ends_word rest) p.0 p.1 (words_from (column + 1) rest) p.3 (ap (filter is_nonempty) (sym p.2)
      ∙ words_are_parts (column + 1) rest)
      ∙ sym (ap (map bytes_of) (words_from-byte column b rest e))
]

abbrev pub is_text_word : Marked → Bool
is_text_word marked = list_all is_text_byte marked.word

and_assoc : (a b test : Bool) → (a && b) && test ≡ (a && (b && test))
and_assoc true b test = refl
and_assoc false b test = refl

and_true : (a : Bool) → a && true ≡ a
and_true true = refl
and_true false = refl

blank_is_text : (b : ℕ) → is_blank b ≡ true → is_text_byte b ≡ true
blank_is_text b e = grind (arith, nat_tests)

text_onto : (column b : ℕ) (ends : Bool) (words : List Marked)
    → list_all is_text_word (onto_words column b ends words) ≡ (is_text_byte b && list_all is_text_word words)
text_onto column b true words = ap (λ t. t && list_all is_text_word words) (and_true (is_text_byte b))
text_onto column b false [] = ap (λ t. t && true) (and_true (is_text_byte b))
text_onto column b false (w ∷ words) = and_assoc (is_text_byte b) (list_all is_text_byte w.word) (list_all is_text_word words)

-- the bytes are those of a text exactly where those of the words are
pub text_in_words : (column : ℕ) (bytes : List ℕ) → list_all is_text_byte bytes ≡ list_all is_text_word (words_from column bytes)
text_in_words column [] = sym (ap (list_all is_text_word) (words_from-nothing column))
text_in_words column (b ∷ rest) = elim (tested (is_blank b)) [
  | inl e ↦ ap (λ t. t && list_all is_text_byte rest) (blank_is_text b e) ∙ text_in_words (column + 1) rest
      ∙ sym (ap (list_all is_text_word) (words_from-blank column b rest e))
  | inr e ↦ ap (λ t. is_text_byte b && t) (text_in_words (column + 1) rest)
      ∙ sym (text_onto column b (ends_word rest) (words_from (column + 1) rest))
      ∙ sym (ap (list_all is_text_word) (words_from-byte column b rest e))
]

none_at : (n l : ℕ) (b : Bool) → ((b ≡ true) × (n ≡ l)) ⊎ ((b ≡ false) × (n < l))
    → is_none (cond (nat_lt n l) (Some n) None) ≡ b
none_at n l b h = grind (arith, nat_tests)

-- how far the first bytes of a text go
first_bad_at : (bytes : List ℕ)
    → ((list_all is_text_byte bytes ≡ true) × (position_or_len (λ b. not (is_text_byte b)) bytes ≡ length bytes))
    ⊎ ((list_all is_text_byte bytes ≡ false) × (position_or_len (λ b. not (is_text_byte b)) bytes < length bytes))
first_bad_at [] = inl (refl, refl)
first_bad_at (b ∷ rest) = elim (tested (is_text_byte b)) [
  | inl e ↦ elim (first_bad_at rest) [
    | inl h ↦ inl (
      ap (λ t. t && list_all is_text_byte rest) e ∙ h.0,
      ap (λ t. cond (not (not t)) (1 + position_or_len (λ b. not (is_text_byte b)) rest) 0) e ∙ omega (arith, h.1),
    )
    | inr h ↦ inr (ap (λ t. t && list_all is_text_byte rest) e ∙ h.0, rw e (omega (arith, h.1)))
  ]
  | inr e ↦ inr (ap (λ t. t && list_all is_text_byte rest) e, rw e (omega arith))
]

same_none : {X Y : Type 0} (f : X → Y) (o : Option X) → is_none (option_map f o) ≡ is_none o
same_none f None = refl
same_none f (Some x) = refl

pub text_in_comment : (column : ℕ) (bytes : List ℕ) → is_none (bad_from column bytes) ≡ list_all is_text_byte bytes
text_in_comment column bytes =
    same_none (λ i. column + i) (position (λ b. not (is_text_byte b)) bytes)
    ∙ none_at (position_or_len (λ b. not (is_text_byte b)) bytes) (length bytes) (list_all is_text_byte bytes) (first_bad_at bytes)

-- what a line's words and comment say of its bytes
abbrev pub is_text_line : LineWords → Bool
is_text_line line = list_all is_text_word line.words && is_none line.bad

pub text_in_line : (mark : ℕ) (line : List ℕ) → list_all is_text_byte line ≡ is_text_line (whole_line mark line)
text_in_line mark line =
    let n = position_or_len (λ b. b == mark) line in
    ap (list_all is_text_byte) (sym (take-append-drop n line)) ∙ list_all-append is_text_byte (take n line) (drop n line)
    ∙ ap (λ t. t && list_all is_text_byte (drop n line)) (text_in_words 1 (before_comment mark line))
    ∙ ap (λ t. list_all is_text_word (words_from 1 (before_comment mark line)) && t)
    (sym (text_in_comment (length (before_comment mark line) + 1) (comment_of mark line)))

-- the words of a line, without their columns
pub words_in_line : (mark : ℕ) (line : List ℕ) → words_of mark line ≡ map bytes_of (whole_line mark line).words
words_in_line mark line = words_are_parts 1 (before_comment mark line)
