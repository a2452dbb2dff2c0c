-- Each word stands at its column.
use Rattle.std.proofs.Common.{◌≡◌, ℕ, suc, ◌+◌, ◌-◌, inl, inr, Bool, true, false, List, [], ◌∷◌, length, take, drop, refl, sym, ap, subst, ◌∙◌, arith}
use Rattle.std.specs.List.{AllByRecursion}
use Rattle.bk_text.specs.Texts.{is_blank}
use Rattle.bk_text.specs.LineWords.{Marked, words_from, onto_words, ends_word, StandsIn}
use Rattle.bk_text.proofs.LineWords.{words_from-blank, words_from-byte, words_from-nothing, first_word, tested}

one_before : (column b : ℕ) (rest : List ℕ) (marked : Marked) → StandsIn (column + 1) rest marked
    → StandsIn column (b ∷ rest) marked
one_before column b rest marked h =
    let n : marked.column - column ≡ suc (marked.column - (column + 1)) = omega (arith, h.behind) in
    record { behind = omega (arith, h.behind); slice = ap (λ k. take (length marked.word) (drop k (b ∷ rest))) n ∙ h.slice }

all_before : (column b : ℕ) (rest : List ℕ) (words : List Marked) → AllByRecursion (StandsIn (column + 1) rest) words
    → AllByRecursion (StandsIn column (b ∷ rest)) words
all_before column b rest [] h = tt
all_before column b rest (w ∷ words) h = (one_before column b rest w h.0, all_before column b rest words h.1)

alone : (column b : ℕ) (rest : List ℕ) → StandsIn column (b ∷ rest) (record { column = column; word = b ∷ [] })
alone column b rest =
    let n : column - column ≡ 0 = omega arith in
    record { behind = omega arith; slice = ap (λ k. take 1 (drop k (b ∷ rest))) n }

grown : (column b : ℕ) (rest : List ℕ) (marked : Marked) → marked.column ≡ column + 1 → StandsIn (column + 1) rest marked
    → StandsIn column (b ∷ rest) (record { column = column; word = b ∷ marked.word })
grown column b rest marked is h =
    let n : column - column ≡ 0 = omega arith in
    let m : marked.column - (column + 1) ≡ 0 = omega arith in
    record {
      behind = omega arith;
      slice = ap (λ k. take (suc (length marked.word)) (drop k (b ∷ rest))) n
          ∙ ap (λ word. b ∷ word) (sym (ap (λ k. take (length marked.word) (drop k rest)) m) ∙ h.slice);
    }

-- whether the first word, if there is one, begins in a column
abbrev BeginsAt : ℕ → List Marked → Type 0
BeginsAt column [] = ⊥
BeginsAt column (w ∷ words) = w.column ≡ column

begins_at : (column : ℕ) (rest : List ℕ) → ends_word rest ≡ false → BeginsAt column (words_from column rest)
begins_at column [] e = absurd cc
begins_at column (b ∷ rest) e = subst (λ (words : List Marked). BeginsAt column words) (sym (first_word column b rest e)) refl

onto_stand : (column b : ℕ) (rest : List ℕ) (ends : Bool) (words : List Marked) → (ends ≡ false → BeginsAt (column + 1) words)
    → AllByRecursion (StandsIn (column + 1) rest) words
    → AllByRecursion (StandsIn column (b ∷ rest)) (onto_words column b ends words)
onto_stand column b rest true words begins h = (alone column b rest, all_before column b rest words h)
onto_stand column b rest false [] begins h = (alone column b rest, tt)
onto_stand column b rest false (w ∷ words) begins h = (grown column b rest w (begins refl) h.0, all_before column b rest words h.1)

pub words_stand : (column : ℕ) (bytes : List ℕ) → AllByRecursion (StandsIn column bytes) (words_from column bytes)
words_stand column [] = subst (λ (words : List Marked). AllByRecursion (StandsIn column []) words) (sym (words_from-nothing column)) tt
words_stand column (b ∷ rest) = elim (tested (is_blank b)) [
  | inl e ↦ subst (λ (words : List Marked). AllByRecursion (StandsIn column (b ∷ rest)) words) (sym (words_from-blank column b rest e))
      (all_before column b rest (words_from (column + 1) rest) (words_stand (column + 1) rest))
  | inr e ↦ subst (λ (words : List Marked). AllByRecursion (StandsIn column (b ∷ rest)) words) (sym (words_from-byte column b rest e))
      (onto_stand column b rest (ends_word rest) (words_from (column + 1) rest) (λ ends. begins_at (column + 1) rest ends)
      (words_stand (column + 1) rest))
]
