-- The words of what is left of a line, one after another.
use Rattle.std.proofs.Common.{◌≡◌, ℕ, suc, ◌+◌, ◌<◌, ◌⊎◌, inl, inr, Bool, true, false, not, cond, List, [], ◌∷◌, length, take, drop, refl, sym, ap, ◌∙◌, add-zero, arith}
use Rattle.std.specs.List.{position_or_len}
use Rattle.std.proofs.lemmas.List.{nil_from_length}
use Rattle.bk_text.specs.Texts.{is_blank}
use Rattle.bk_text.specs.LineWords.{Marked, words_from, onto_words, ends_word}

abbrev pub blanks_before : List ℕ → ℕ
blanks_before bytes = position_or_len (λ b. not (is_blank b)) bytes

abbrev pub word_before : List ℕ → ℕ
word_before bytes = position_or_len is_blank bytes

blanks_before-more : (b : ℕ) (rest : List ℕ) → is_blank b ≡ true → blanks_before (b ∷ rest) ≡ suc (blanks_before rest)
blanks_before-more b rest e = ap (λ t. cond (not (not t)) (1 + blanks_before rest) 0) e ∙ omega arith

blanks_before-none : (b : ℕ) (rest : List ℕ) → is_blank b ≡ false → blanks_before (b ∷ rest) ≡ 0
blanks_before-none b rest e = ap (λ t. cond (not (not t)) (1 + blanks_before rest) 0) e

word_before-more : (b : ℕ) (rest : List ℕ) → is_blank b ≡ false → word_before (b ∷ rest) ≡ suc (word_before rest)
word_before-more b rest e = ap (λ t. cond (not t) (1 + word_before rest) 0) e ∙ omega arith

word_before-none : (b : ℕ) (rest : List ℕ) → is_blank b ≡ true → word_before (b ∷ rest) ≡ 0
word_before-none b rest e = ap (λ t. cond (not t) (1 + word_before rest) 0) e

pub words_from-blank : (column b : ℕ) (rest : List ℕ) → is_blank b ≡ true
    → words_from column (b ∷ rest) ≡ words_from (column + 1) rest
unfolding words_from
words_from-blank column b rest e =
    ap (λ t. cond t (words_from (column + 1) rest) (onto_words column b (ends_word rest) (words_from (column + 1) rest))) e

pub words_from-byte : (column b : ℕ) (rest : List ℕ) → is_blank b ≡ false
    → words_from column (b ∷ rest) ≡ onto_words column b (ends_word rest) (words_from (column + 1) rest)
unfolding words_from
words_from-byte column b rest e =
    ap (λ t. cond t (words_from (column + 1) rest) (onto_words column b (ends_word rest) (words_from (column + 1) rest))) e

pub words_from-nothing : (column : ℕ) → words_from column [] ≡ []
unfolding words_from
words_from-nothing column = refl

-- a test, and how it went
pub tested : (b : Bool) → ((b ≡ true) ⊎ (b ≡ false))
tested true = inl refl
tested false = inr refl

one_more : (column n number b : ℕ) (rest : List ℕ) → n ≡ suc number
    → words_from ((column + 1) + number) (drop number rest) ≡ words_from (column + n) (drop n (b ∷ rest))
one_more column n number b rest e = rw e (ap (λ k. words_from k (drop number rest)) (omega arith))

none_more : (column n : ℕ) (bytes : List ℕ) → n ≡ 0 → words_from column bytes ≡ words_from (column + n) (drop n bytes)
none_more column n bytes e = rw e (ap (λ k. words_from k bytes) (omega arith))

-- blanks before words change no word
pub skip_blanks : (column : ℕ) (bytes : List ℕ) → words_from column bytes
    ≡ words_from (column + blanks_before bytes) (drop (blanks_before bytes) bytes)
skip_blanks column [] = none_more column 0 [] refl
skip_blanks column (b ∷ rest) = elim (tested (is_blank b)) [
  | inl e ↦ words_from-blank column b rest e ∙ skip_blanks (column + 1) rest
      ∙ one_more column (blanks_before (b ∷ rest)) (blanks_before rest) b rest (blanks_before-more b rest e)
  | inr e ↦ none_more column (blanks_before (b ∷ rest)) (b ∷ rest) (blanks_before-none b rest e)
]

abbrev marked : ℕ → List ℕ → Marked
marked column word = record { column = column; word = word }

word_grows : (column n number b : ℕ) (rest : List ℕ) → n ≡ suc number
    → marked column (b ∷ take number rest) ∷ words_from ((column + 1) + number) (drop number rest)
    ≡ marked column (take n (b ∷ rest)) ∷ words_from (column + n) (drop n (b ∷ rest))
word_grows column n number b rest e =
    rw e (ap (λ k. marked column (b ∷ take number rest) ∷ words_from k (drop number rest)) (omega arith))

-- a word that ends at once
word_ends : (column b : ℕ) (rest : List ℕ) → is_blank b ≡ false → ends_word rest ≡ true → word_before rest ≡ 0
    → words_from column (b ∷ rest)
    ≡ marked column (take (word_before (b ∷ rest)) (b ∷ rest)) ∷ words_from (column + word_before (b ∷ rest))
    (drop (word_before (b ∷ rest)) (b ∷ rest))
word_ends column b rest e ends none =
    words_from-byte column b rest e ∙ ap (λ t. onto_words column b t (words_from (column + 1) rest)) ends
    ∙ ap (λ k. marked column (b ∷ []) ∷ words_from k rest) (sym (add-zero (column + 1)))
    ∙ word_grows column (word_before (b ∷ rest)) 0 b rest (word_before-more b rest e ∙ ap suc none)

-- the first word, and those behind it
pub first_word : (column b : ℕ) (rest : List ℕ) → is_blank b ≡ false → words_from column (b ∷ rest)
    ≡ marked column (take (word_before (b ∷ rest)) (b ∷ rest)) ∷ words_from (column + word_before (b ∷ rest))
    (drop (word_before (b ∷ rest)) (b ∷ rest))
first_word column b [] e = word_ends column b [] e refl refl
first_word column b (d ∷ more) e = elim (tested (is_blank d)) [
  | inl blank ↦ word_ends column b (d ∷ more) e blank (word_before-none d more blank)
  | inr byte ↦ words_from-byte column b (d ∷ more) e ∙ ap (λ t. onto_words column b t (words_from (column + 1) (d ∷ more))) byte
      ∙ ap (onto_words column b false) (first_word (column + 1) d more byte)
      ∙ word_grows column (word_before (b ∷ d ∷ more)) (word_before (d ∷ more)) b (d ∷ more) (word_before-more b (d ∷ more) e)
]

-- what follows the blanks begins with none
pub byte_first : (bytes : List ℕ) (b : ℕ) (rest : List ℕ) → drop (blanks_before bytes) bytes ≡ b ∷ rest → is_blank b ≡ false
byte_first [] b rest e = absurd cc
byte_first (a ∷ more) b rest e = elim (tested (is_blank a)) [
  | inl blank ↦ byte_first more b rest (sym (ap (λ n. drop n (a ∷ more)) (blanks_before-more a more blank)) ∙ e)
  | inr byte ↦
      let same : a ∷ more ≡ b ∷ rest = sym (ap (λ n. drop n (a ∷ more)) (blanks_before-none a more byte)) ∙ e in
      let head : a ≡ b = cc in
      ap is_blank (sym head) ∙ byte
]

-- the first word of what is left, and what is left behind it
pub cut : (column : ℕ) (bytes : List ℕ) (b : ℕ) (front : List ℕ) → drop (blanks_before bytes) bytes ≡ b ∷ front
    → words_from column bytes
    ≡ marked (column + blanks_before bytes) (take (word_before (b ∷ front)) (b ∷ front))
    ∷ words_from ((column + blanks_before bytes) + word_before (b ∷ front)) (drop (word_before (b ∷ front)) (b ∷ front))
cut column bytes b front e = skip_blanks column bytes ∙ ap (words_from (column + blanks_before bytes)) e
    ∙ first_word (column + blanks_before bytes) b front (byte_first bytes b front e)

pub cut_nothing : (column : ℕ) (bytes : List ℕ) → length (drop (blanks_before bytes) bytes) ≡ 0 → words_from column bytes ≡ []
cut_nothing column bytes e = skip_blanks column bytes
    ∙ ap (words_from (column + blanks_before bytes)) (nil_from_length (drop (blanks_before bytes) bytes) e)
    ∙ words_from-nothing (column + blanks_before bytes)

same_cut : (column : ℕ) (whole : List Marked) (number n m' n' : ℕ) (word word' behind behind' : List ℕ) → m' ≡ number → n' ≡ n
    → word' ≡ word → behind' ≡ behind
    → whole ≡ marked (column + number) word ∷ words_from ((column + number) + n) behind
    → whole ≡ marked (column + m') word' ∷ words_from ((column + m') + n') behind'
same_cut column whole number n m' n' word word' behind behind' a b c d e = cc

-- the same for the parts that a cut gives
pub cut_parts : (column : ℕ) (bytes front blanks word behind : List ℕ) → length blanks ≡ blanks_before bytes
    → front ≡ drop (blanks_before bytes) bytes → 0 < length front
    → length word ≡ word_before front → word ≡ take (word_before front) front → behind ≡ drop (word_before front) front
    → words_from column bytes ≡ marked (column + length blanks) word ∷ words_from ((column + length blanks) + length word) behind
cut_parts column bytes [] blanks word behind m f some n w d = absurd (omega arith)
cut_parts column bytes (b ∷ front) blanks word behind m f some n w d =
    same_cut column (words_from column bytes) (blanks_before bytes) (word_before (b ∷ front)) (length blanks) (length word)
    (take (word_before (b ∷ front)) (b ∷ front)) word (drop (word_before (b ∷ front)) (b ∷ front)) behind m n w d
    (cut column bytes b front (sym f))
