-- What is wrong in a text, and where. The kinds of fault are those of a grammar. Of these, `byte` says that a byte is none of a text, and
-- `extra` that a word follows a whole line. A line's readers answer a value and what is left of the line.
use Rattle.std.specs.Prelude.{◌≡◌, ℕ, Bool, false, not, List, [], ◌∷◌, Option, Some, None, Result, Ok, Err, if◌then◌else◌}
use Rattle.bk_text.specs.Texts.{is_text_byte}
use Rattle.bk_text.specs.LineWords.{Marked, LineWords}
use Rattle.bk_text.specs.declared.fault.At.{At}

infixl 10 ◌>>=◌
abbrev pub ◌>>=◌ : {E A B : Type 0} → Result A E → (A → Result B E) → Result B E
(Ok x) >>= f = f x
(Err e) >>= f = Err e

abbrev pub at : {K : Type 0} → ℕ → K → At K
at column kind = record { column = column; kind = kind }

-- ---- words

-- whether a word's first byte is none of a text
abbrev pub begins_badly : List ℕ → Bool
begins_badly [] = false
begins_badly (b ∷ word) = not (is_text_byte b)

-- A word that isn't what it should be: the fault stands at its first byte.
abbrev pub wrong : {K : Type 0} → K → Marked → K → At K
wrong byte marked kind = at marked.column (if begins_badly marked.word then byte else kind)

-- Where a word is missing: after the line's last byte, unless a byte of the comment is none of a text.
abbrev pub missing_at : {K : Type 0} → K → Option ℕ → ℕ → K → At K
missing_at byte (Some column) end kind = at column byte
missing_at byte None end kind = at end kind

abbrev pub missing : {K : Type 0} → K → LineWords → K → At K
missing byte left kind = missing_at byte left.bad left.end kind

abbrev pub or_wrong : {K X : Type 0} → K → Marked → K → Option X → Result X (At K)
or_wrong byte marked kind (Some x) = Ok x
or_wrong byte marked kind None = Err (wrong byte marked kind)

-- the next word
abbrev pub word_in : {K : Type 0} → K → K → LineWords → List Marked → Result (Marked × LineWords) (At K)
word_in byte kind left [] = Err (missing byte left kind)
word_in byte kind left (w ∷ words) = Ok (w, record left { words = words })

-- the next word, as it is read: a kind of fault where it is missing, and one where it doesn't read
abbrev pub next_field : {K X : Type 0} → K → K → K → (List ℕ → Option X) → LineWords → Result (X × LineWords) (At K)
next_field byte absent kind read left = do
  word ← word_in byte absent left left.words
  x ← or_wrong byte word.0 kind (read word.0.word)
  Ok (x, word.1)

-- what is wrong behind the last word: a further word, or a byte of the comment that is none of a text
abbrev pub fault_behind : {K : Type 0} → K → K → List Marked → Option ℕ → Option (At K)
fault_behind byte extra (w ∷ words) bad = Some (wrong byte w extra)
fault_behind byte extra [] (Some column) = Some (at column byte)
fault_behind byte extra [] None = None

abbrev pub unless : {X E : Type 0} → Option E → X → Result X E
unless (Some e) x = Err e
unless None x = Ok x

-- ---- texts

-- the line and column of a fault, and the number of its kind
pub record Bad : Type 0 where
  pub line : ℕ
  pub column : ℕ
  pub kind : ℕ

abbrev pub bad : {K : Type 0} → (K → ℕ) → ℕ → At K → Bad
bad code line fault = record { line = line; column = fault.column; kind = code fault.kind }

abbrev pub on_line : {K X : Type 0} → (K → ℕ) → ℕ → Result X (At K) → Result X Bad
on_line code line (Ok x) = Ok x
on_line code line (Err fault) = Err (bad code line fault)

-- ---- what the code's readers give

-- of what is left of a line: the value, seen by view, and what is left then
abbrev pub Steps : {K X Y : Type 0} → (X → Y) → Result X (At K) → LineWords → Result (Y × LineWords) (At K) → Type 0
Steps view (Ok x) left read = read ≡ Ok (view x, left)
Steps view (Err e) left read = read ≡ Err e

-- of a whole line: the value, seen by view
abbrev pub LineGives : {K X Y : Type 0} → (X → Y) → Result X (At K) → Result Y (At K) → Type 0
LineGives view (Ok x) read = read ≡ Ok (view x)
LineGives view (Err e) read = read ≡ Err e
