-- The words of a line, each with the column of its first byte. Columns count bytes from 1.
use Rattle.std.specs.Prelude.{◌≡◌, ℕ, ◌+◌, ◌-◌, ◌≤◌, take, drop, Bool, true, false, not, List, [], ◌∷◌, length, Option, position, if◌then◌else◌}
use Rattle.std.specs.Option.{option_map}
use Rattle.bk_text.specs.Texts.{is_text_byte, is_blank, before_comment, comment_of}

-- a word, and the column of its first byte
pub record Marked : Type 0 where
  pub column : ℕ
  pub word : List ℕ

-- whether a word that stands before these bytes ends there
abbrev pub ends_word : List ℕ → Bool
ends_word [] = true
ends_word (b ∷ rest) = is_blank b

-- The words with one more byte before them. The byte is a word where a word ends behind it, else it belongs to the first word.
abbrev pub onto_words : ℕ → ℕ → Bool → List Marked → List Marked
onto_words column b false (first ∷ words) = record { column = column; word = b ∷ first.word } ∷ words
onto_words column b ends words = record { column = column; word = b ∷ [] } ∷ words

-- the words of a line from a column on: the longest runs of bytes that are no blanks
unfoldable pub words_from : ℕ → List ℕ → List Marked
words_from column [] = []
words_from column (b ∷ rest) =
    if is_blank b then words_from (column + 1) rest
    else onto_words column b (ends_word rest) (words_from (column + 1) rest)

-- the column of the first byte that is none of a text, where the bytes begin in a column
abbrev pub bad_from : ℕ → List ℕ → Option ℕ
bad_from column bytes = option_map (λ i. column + i) (position (λ b. not (is_text_byte b)) bytes)

-- what is left of a line: its words before the comment, where its comment has a byte that is none of a text, and the column
-- after its last byte, the comment's bytes included
pub record LineWords : Type 0 where
  pub words : List Marked
  pub bad : Option ℕ
  pub end : ℕ

-- a whole line, whose comment is begun by a mark
abbrev pub whole_line : ℕ → List ℕ → LineWords
whole_line mark line = record {
  words = words_from 1 (before_comment mark line);
  bad = bad_from (length (before_comment mark line) + 1) (comment_of mark line);
  end = length line + 1;
}

-- a word's bytes are those of the line from its column on, where the line begins in a column
pub record StandsIn (column : ℕ) (bytes : List ℕ) (marked : Marked) : Type 0 where
  pub behind : column ≤ marked.column
  pub slice : take (length marked.word) (drop (marked.column - column) bytes) ≡ marked.word
