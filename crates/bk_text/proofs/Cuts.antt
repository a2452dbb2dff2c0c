-- The lines of a text, one after another.
use Rattle.std.proofs.Common.{◌≡◌, ℕ, Bool, not, cond, ltb, ◌+◌, ◌++◌, ◌<◌, ◌==◌, List, [], ◌∷◌, length, refl, ap, ◌∙◌, arith}
use Rattle.std.specs.Prelude.{Option, Some, None, unwrap_or}
use Rattle.std.specs.List.{slice_split, position_or_len, before_first, after_first}
use Rattle.std.specs.Str.Lines.{lines, lines_of_parts, strip_carriage_return}
use Rattle.std.proofs.lemmas.Bool.Decides.{nat_tests}
use Rattle.std.proofs.lemmas.List.Splits.{slice_split_first, slice_split_none, length-slice_split}
use Rattle.std.proofs.lemmas.List.Folds.{length-prefix_len}
use Rattle.std.proofs.lemmas.List.Sums.{fails_before_first, prefix_len-le-length}
use Rattle.bk_text.specs.LineWords.{words_from}
use Rattle.bk_text.specs.Items.{line_items, items_of_pieces, items_of}
use Rattle.bk_text.specs.declared.lines.Word.TheVariants as items

pub lines_of_parts-cons : (bytes : List ℕ) (parts : List (List ℕ)) → 0 < length parts
    → lines_of_parts (bytes ∷ parts) ≡ strip_carriage_return bytes ∷ lines_of_parts parts
lines_of_parts-cons bytes [] h = absurd (omega arith)
lines_of_parts-cons bytes (y ∷ more) h = refl

lines_of_parts-last : (bytes : List ℕ) → 0 < length bytes → lines_of_parts (bytes ∷ []) ≡ bytes ∷ []
lines_of_parts-last [] h = absurd (omega arith)
lines_of_parts-last (b ∷ bs) h = grind (arith, nat_tests)

-- a line that LF ends
pub lines-first : (bytes : List ℕ) → position_or_len (λ b. b == 10) bytes < length bytes
    → lines bytes ≡ strip_carriage_return (before_first (λ b. b == 10) bytes) ∷ lines (after_first (λ b. b == 10) bytes)
lines-first bytes h = ap lines_of_parts (slice_split_first (λ b. b == 10) bytes 0 h)
    ∙ lines_of_parts-cons (before_first (λ b. b == 10) bytes) (slice_split (λ b. b == 10) (after_first (λ b. b == 10) bytes))
    (omega (arith, length-slice_split (λ b. b == 10) (after_first (λ b. b == 10) bytes)))

-- the last line, which ends with the text
pub lines-last : (bytes : List ℕ) → position_or_len (λ b. b == 10) bytes ≡ length bytes → 0 < length bytes
    → lines bytes ≡ bytes ∷ []
lines-last bytes e h =
    ap lines_of_parts (slice_split_none (λ b. b == 10) bytes (λ k d l. fails_before_first (λ b. b == 10) bytes k d (omega arith)))
    ∙ lines_of_parts-last bytes h

-- what `position` gives, or the length
pub index-from_position : (p : ℕ → Bool) (bytes : List ℕ) (found : Option ℕ)
    → found ≡ cond (ltb (position_or_len p bytes) (length bytes)) (Some (position_or_len p bytes)) None
    → unwrap_or found (length bytes) ≡ position_or_len p bytes
index-from_position p bytes found e = let within = prefix_len-le-length (λ b. not (p b)) bytes in rw e (grind (arith, nat_tests))

-- the same for the words and line ends

items_of_pieces-cons : (line start : ℕ) (bytes : List ℕ) (pieces : List (List ℕ)) → 0 < length pieces
    → items_of_pieces line start (bytes ∷ pieces)
    ≡ line_items line start (words_from 1 (strip_carriage_return bytes)) ++ items.LineEnd line
    ∷ items_of_pieces (line + 1) (start + (length bytes + 1)) pieces
unfolding items_of_pieces
items_of_pieces-cons line start x [] h = absurd (omega arith)
items_of_pieces-cons line start x (y ∷ more) h = refl

items_of_pieces-last : (line start : ℕ) (bytes : List ℕ) → items_of_pieces line start (bytes ∷ [])
    ≡ line_items line start (words_from 1 bytes)
unfolding items_of_pieces
items_of_pieces-last line start x = refl

pub items-last : (line start : ℕ) (text : List ℕ) → position_or_len (λ b. b == 10) text ≡ length text
    → items_of line start text ≡ line_items line start (words_from 1 text)
items-last line start text e = ap (items_of_pieces line start)
    (slice_split_none (λ b. b == 10) text (λ k d l. fails_before_first (λ b. b == 10) text k d (omega arith)))
    ∙ items_of_pieces-last line start text

pub items-first : (line start : ℕ) (text : List ℕ) → position_or_len (λ b. b == 10) text < length text → items_of line start text
    ≡ line_items line start (words_from 1 (strip_carriage_return (before_first (λ b. b == 10) text)))
    ++ items.LineEnd line ∷ items_of (line + 1) (start + (position_or_len (λ b. b == 10) text + 1)) (after_first (λ b. b == 10) text)
items-first line start text h =
    let behind = slice_split (λ b. b == 10) (after_first (λ b. b == 10) text) in
    let some : 0 < length behind = omega (arith, length-slice_split (λ b. b == 10) (after_first (λ b. b == 10) text)) in
    let len : length (before_first (λ b. b == 10) text) ≡ position_or_len (λ b. b == 10) text =
    length-prefix_len (λ b. not (b == 10)) text in
    ap (items_of_pieces line start) (slice_split_first (λ b. b == 10) text 0 h)
    ∙ items_of_pieces-cons line start (before_first (λ b. b == 10) text) behind some
    ∙ ap (λ n. line_items line start (words_from 1 (strip_carriage_return (before_first (λ b. b == 10) text)))
    ++ items.LineEnd line ∷ items_of_pieces (line + 1) (start + (n + 1)) behind) len
