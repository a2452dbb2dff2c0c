-- The lines of a canonical text, and their words.
use Rattle.std.proofs.Common.{◌≡◌, ℕ, ◌+◌, Bool, true, false, not, ◌&&◌, ◌||◌, List, [], ◌∷◌, ◌++◌, length, refl, sym, ap, ◌∙◌, append_assoc, arith}
use Rattle.std.specs.Prelude.{None, nat_le, nat_lt, ◌==◌}
use Rattle.std.specs.List.{list_all, position_or_len}
use Rattle.std.specs.Str.Lines.{lines}
use Rattle.std.proofs.lemmas.Bool.{and_parts, and_from}
use Rattle.std.proofs.lemmas.Bool.Decides.{nat_tests}
use Rattle.std.proofs.lemmas.List.{take_all, drop_all, append-nil}
use Rattle.bk_text.specs.Texts.{is_blank, is_nonempty, before_comment, comment_of}
use Rattle.bk_text.specs.LineWords.{Marked, LineWords, words_from, onto_words, ends_word, bad_from, whole_line}
use Rattle.bk_text.proofs.LineWords.{words_from-blank, words_from-byte, words_from-nothing}
use Rattle.bk_text.proofs.Joined as texts
use Rattle.bk_text.proofs.Joined.{implied, all_append, position_none}
use Rattle.bk_asm.specs.Reading.{row_at}

-- a byte of a word: printable, neither a blank nor the mark of a comment
abbrev pub is_plain : ℕ → Bool
is_plain b = nat_lt 32 b && nat_le b 126 && not (b == 59)

-- a byte of a line
abbrev pub is_quiet : ℕ → Bool
is_quiet b = is_plain b || b == 32

-- a word of a canonical text
abbrev pub is_word : List ℕ → Bool
is_word word = is_nonempty word && list_all is_plain word

-- words with a blank before each
abbrev pub spaced : List (List ℕ) → List ℕ
spaced [] = []
spaced (w ∷ ws) = 32 ∷ (w ++ spaced ws)

-- a word in a column
abbrev pub marked : ℕ → List ℕ → Marked
marked column word = record { column = column; word = word }

-- words with their columns, where one blank separates them
abbrev pub marks : ℕ → List (List ℕ) → List Marked
marks c [] = []
marks c (w ∷ ws) = marked c w ∷ marks (c + (length w + 1)) ws

-- the column behind words and the blank that follows each
abbrev pub past : ℕ → List (List ℕ) → ℕ
past c [] = c
past c (w ∷ ws) = past (c + (length w + 1)) ws

-- a byte of a word may stand in a line
plain_is_quiet : (b : ℕ) → is_plain b ≡ true → is_quiet b ≡ true
plain_is_quiet b e = ap (λ t. t || b == 32) e

-- a byte of a word is no blank
plain_no_blank : (b : ℕ) → is_plain b ≡ true → is_blank b ≡ false
plain_no_blank b e = grind (arith, nat_tests)

-- a byte of a line is no line feed
quiet_no_feed : (b : ℕ) → is_quiet b ≡ true → not (b == 10) ≡ true
quiet_no_feed b e = grind (arith, nat_tests)

-- a byte of a line begins no comment
quiet_no_mark : (b : ℕ) → is_quiet b ≡ true → not (b == 59) ≡ true
quiet_no_mark b e = grind (arith, nat_tests)

-- a byte of a line is no carriage return
quiet_no_return : (b : ℕ) → is_quiet b ≡ true → (b == 13) ≡ false
quiet_no_return b e = grind (arith, nat_tests)

-- ---- the words of a line

-- a word, and what follows it
word_first : (c : ℕ) (word rest : List ℕ) → is_nonempty word ≡ true → list_all is_plain word ≡ true → ends_word rest ≡ true
    → words_from c (word ++ rest) ≡ marked c word ∷ words_from (c + length word) rest
word_first c [] rest some plain ends = absurd cc
word_first c (b ∷ []) rest some plain ends =
    words_from-byte c b rest (plain_no_blank b (and_parts (is_plain b) true plain).0)
    ∙ ap (λ t. onto_words c b t (words_from (c + 1) rest)) ends
word_first c (b ∷ d ∷ word) rest some plain ends =
    let t = and_parts (is_plain b) (list_all is_plain (d ∷ word)) plain in
    let no : is_blank d ≡ false = plain_no_blank d (and_parts (is_plain d) (list_all is_plain word) t.1).0 in
    let column : (c + 1) + length (d ∷ word) ≡ c + length (b ∷ d ∷ word) = omega arith in
    words_from-byte c b (d ∷ (word ++ rest)) (plain_no_blank b t.0)
    ∙ ap (λ t. onto_words c b t (words_from (c + 1) (d ∷ (word ++ rest)))) no
    ∙ ap (onto_words c b false) (word_first (c + 1) (d ∷ word) rest refl t.1 ends)
    ∙ ap (λ k. marked c (b ∷ d ∷ word) ∷ words_from k rest) column

-- a word ends where spaced words follow
spaced_ends : (ws : List (List ℕ)) → ends_word (spaced ws) ≡ true
spaced_ends [] = refl
spaced_ends (w ∷ ws) = refl

-- words with a blank before each
pub spaced_words : (c : ℕ) (ws : List (List ℕ)) → list_all is_word ws ≡ true → words_from c (spaced ws) ≡ marks (c + 1) ws
spaced_words c [] e = words_from-nothing c
spaced_words c (w ∷ ws) e =
    let t = and_parts (is_word w) (list_all is_word ws) e in
    let s = and_parts (is_nonempty w) (list_all is_plain w) t.0 in
    let column : ((c + 1) + length w) + 1 ≡ (c + 1) + (length w + 1) = omega arith in
    words_from-blank c 32 (w ++ spaced ws) refl ∙ word_first (c + 1) w (spaced ws) s.0 s.1 (spaced_ends ws)
    ∙ ap (λ l. marked (c + 1) w ∷ l) (spaced_words ((c + 1) + length w) ws t.1 ∙ ap (λ k. marks k ws) column)

-- a word alone
pub word_alone : (c : ℕ) (word : List ℕ) → is_word word ≡ true → words_from c word ≡ marked c word ∷ []
word_alone c word e =
    let s = and_parts (is_nonempty word) (list_all is_plain word) e in
    ap (words_from c) (sym (append-nil word)) ∙ word_first c word [] s.0 s.1 refl
    ∙ ap (λ l. marked c word ∷ l) (words_from-nothing (c + length word))

-- the text of two lists of words
pub spaced_append : (xs ys : List (List ℕ)) → spaced (xs ++ ys) ≡ spaced xs ++ spaced ys
spaced_append [] ys = refl
spaced_append (x ∷ xs) ys = ap (λ l. 32 ∷ (x ++ l)) (spaced_append xs ys)
    ∙ ap (λ l. 32 ∷ l) (sym (append_assoc x (spaced xs) (spaced ys)))

-- two lists of words, with their columns
pub marks_append : (c : ℕ) (xs ys : List (List ℕ)) → marks c (xs ++ ys) ≡ marks c xs ++ marks (past c xs) ys
marks_append c [] ys = refl
marks_append c (x ∷ xs) ys = ap (λ l. marked c x ∷ l) (marks_append (c + (length x + 1)) xs ys)

-- two lists of words are words
pub words_append : (xs ys : List (List ℕ)) → list_all is_word xs ≡ true → list_all is_word ys ≡ true
    → list_all is_word (xs ++ ys) ≡ true
words_append [] ys a b = b
words_append (x ∷ xs) ys a b =
    let t = and_parts (is_word x) (list_all is_word xs) a in
    and_from (is_word x) (list_all is_word (xs ++ ys)) t.0 (words_append xs ys t.1 b)

-- the bytes of a word may stand in a line
pub word_quiet : (word : List ℕ) → is_word word ≡ true → list_all is_quiet word ≡ true
word_quiet word e = implied is_plain is_quiet plain_is_quiet word (and_parts (is_nonempty word) (list_all is_plain word) e).1

-- the bytes of words with blanks may stand in a line
pub spaced_quiet : (ws : List (List ℕ)) → list_all is_word ws ≡ true → list_all is_quiet (spaced ws) ≡ true
spaced_quiet [] e = refl
spaced_quiet (w ∷ ws) e =
    let t = and_parts (is_word w) (list_all is_word ws) e in
    all_append is_quiet w (spaced ws) (word_quiet w t.0) (spaced_quiet ws t.1)

-- three texts, and what follows
pub place_append : (a b bytes rest : List ℕ) → (a ++ b ++ bytes) ++ rest ≡ a ++ (b ++ (bytes ++ rest))
place_append a b bytes rest = simp append_assoc

-- ---- lines

-- what is left of a line without a comment
abbrev pub row : List Marked → ℕ → LineWords
row words end = record { words = words; bad = None; end = end }

-- a line by its parts before and behind the mark of a comment
row_by : (line before comment : List ℕ) → before_comment 59 line ≡ before → comment_of 59 line ≡ comment
    → whole_line 59 line ≡ record { words = words_from 1 before; bad = bad_from (length before + 1) comment; end = length line + 1 }
row_by line before comment b c =
    ap (λ x. record { words = words_from 1 x; bad = bad_from (length x + 1) (comment_of 59 line); end = length line + 1 }) b
    ∙ ap (λ x. record { words = words_from 1 before; bad = bad_from (length before + 1) x; end = length line + 1 }) c

-- a line without a comment
pub row_is : (line : List ℕ) → list_all is_quiet line ≡ true → row_at line ≡ row (words_from 1 line) (length line + 1)
row_is line e =
    let none = position_none (λ b. b == 59) line (implied is_quiet (λ b. not (b == 59)) quiet_no_mark line e) in
    let before : before_comment 59 line ≡ line = take_all (position_or_len (λ b. b == 59) line) line (omega (arith, none)) in
    let comment : comment_of 59 line ≡ [] = drop_all (position_or_len (λ b. b == 59) line) line (omega (arith, none)) in
    row_by line line [] before comment

-- a line of words that begins with two blanks
pub row_words : (ws : List (List ℕ)) → list_all is_word ws ≡ true
    → row_at (32 ∷ spaced ws) ≡ row (marks 3 ws) (length (32 ∷ spaced ws) + 1)
row_words ws e =
    row_is (32 ∷ spaced ws) (spaced_quiet ws e)
    ∙ ap (λ l. row l (length (32 ∷ spaced ws) + 1)) (words_from-blank 1 32 (spaced ws) refl ∙ spaced_words 2 ws e)

-- a line of words that begins with no blank
pub bare_row : (word : List ℕ) (ws : List (List ℕ)) → list_all is_word (word ∷ ws) ≡ true
    → (row_at (word ++ spaced ws) ≡ row (marked 1 word ∷ marks (length word + 2) ws) (length (word ++ spaced ws) + 1))
    × (list_all is_quiet (word ++ spaced ws) ≡ true)
bare_row word ws e =
    let t = and_parts (is_word word) (list_all is_word ws) e in
    let s = and_parts (is_nonempty word) (list_all is_plain word) t.0 in
    let quiet = all_append is_quiet word (spaced ws) (word_quiet word t.0) (spaced_quiet ws t.1) in
    let column : (1 + length word) + 1 ≡ length word + 2 = omega arith in (
      row_is (word ++ spaced ws) quiet
          ∙ ap (λ l. row l (length (word ++ spaced ws) + 1)) (word_first 1 word (spaced ws) s.0 s.1 (spaced_ends ws)
          ∙ ap (λ l. marked 1 word ∷ l) (spaced_words (1 + length word) ws t.1 ∙ ap (λ k. marks k ws) column)),
      quiet,
    )

-- a line that LF ends
pub line_again : (bytes rest : List ℕ) → list_all is_quiet bytes ≡ true
    → lines ((bytes ++ 10 ∷ []) ++ rest) ≡ bytes ∷ lines rest
line_again bytes rest e = texts.line_again is_quiet quiet_no_feed quiet_no_return bytes rest e
