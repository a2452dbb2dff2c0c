-- The words and the line ends of a text, in order.
use Rattle.std.specs.Prelude.{ℕ, ◌+◌, ◌-◌, List, [], ◌∷◌, ◌++◌, length, map, Bool, true, false, ◌==◌}
use Rattle.std.specs.List.{slice_split}
use Rattle.std.specs.Str.Lines.{strip_carriage_return}
use Rattle.bk_text.specs.LineWords.{Marked, words_from}
use Rattle.bk_text.specs.declared.lines.Word.{Word}
use Rattle.bk_text.specs.declared.lines.Word.TheVariants as items

-- a word of a line, whose first byte stands at a place of the text
abbrev pub item : ℕ → ℕ → Marked → Word
item line start marked = items.Word line marked.column (start + (marked.column - 1)) (start + (marked.column - 1) + length marked.word)

-- the words of a line
abbrev pub line_items : ℕ → ℕ → List Marked → List Word
line_items line start words = map (item line start) words

-- The pieces of a text between its LFs, from a line and a place on. LF ends each piece but the last, and a carriage return before it
-- belongs to that end.
unfoldable pub items_of_pieces : ℕ → ℕ → List (List ℕ) → List Word
items_of_pieces line start [] = []
items_of_pieces line start (last ∷ []) = line_items line start (words_from 1 last)
items_of_pieces line start (piece ∷ next ∷ more) =
    line_items line start (words_from 1 (strip_carriage_return piece)) ++ items.LineEnd line
    ∷ items_of_pieces (line + 1) (start + (length piece + 1)) (next ∷ more)

-- the words and line ends of a text, whose first line and place have these numbers
abbrev pub items_of : ℕ → ℕ → List ℕ → List Word
items_of line start text = items_of_pieces line start (slice_split (λ b. b == 10) text)

-- what follows a line: its end and the text behind that where LF ends it, else nothing
abbrev pub items_after : ℕ → ℕ → Bool → List ℕ → List Word
items_after line next true text = items.LineEnd line ∷ items_of (line + 1) next text
items_after line next false text = []

-- the first of what is left
abbrev pub next_item : List Word → Word
next_item [] = items.End
next_item (next ∷ left) = next
