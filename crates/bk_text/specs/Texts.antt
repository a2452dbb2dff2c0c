-- Texts of lines, words and numbers, as lists of bytes.
use Rattle.std.specs.Prelude.{ℕ, ◌^◌, Bool, true, false, ◌&&◌, ◌||◌, List, [], ◌∷◌, length, map, drop, Option, Some, None, nat_lt, nat_le, ◌==◌, if◌then◌else◌}
use Rattle.std.specs.Char.{digit_value}
use Rattle.std.specs.List.{slice_split, before_first, position_or_len, filter, list_all}
use Rattle.std.specs.Str.Lines.{lines}
use Rattle.std.specs.Str.Parse.{digits_value}

-- a tab or printable ASCII
abbrev pub is_text_byte : ℕ → Bool
is_text_byte b = b == 9 || (nat_le 32 b && nat_le b 126)

-- each byte of each line is one of a text
abbrev pub is_text : List ℕ → Bool
is_text bytes = list_all (λ line. list_all is_text_byte line) (lines bytes)

-- a space or a tab
abbrev pub is_blank : ℕ → Bool
is_blank b = b == 32 || b == 9

-- what stands before the first byte that begins a comment
abbrev pub before_comment : ℕ → List ℕ → List ℕ
before_comment mark line = before_first (λ b. b == mark) line

-- a line's comment, from the byte that begins it on
abbrev pub comment_of : ℕ → List ℕ → List ℕ
comment_of mark line = drop (position_or_len (λ b. b == mark) line) line

abbrev pub is_nonempty : {X : Type 0} → List X → Bool
is_nonempty [] = false
is_nonempty (x ∷ xs) = true

-- the words of a line, up to its comment
abbrev pub words_of : ℕ → List ℕ → List (List ℕ)
words_of mark line = filter is_nonempty (slice_split is_blank (before_comment mark line))

-- the words of each line that has some
abbrev pub words_by_line : ℕ → List ℕ → List (List (List ℕ))
words_by_line mark bytes = filter is_nonempty (map (words_of mark) (lines bytes))

abbrev pub is_digit : ℕ → ℕ → Bool
is_digit radix b = nat_lt (digit_value b) radix

-- the number of 1 to `most` digits, if it is below 2^64
unfoldable pub digits_number : ℕ → ℕ → List ℕ → Option ℕ
digits_number radix most digits =
    if nat_le 1 (length digits) && nat_le (length digits) most && list_all (is_digit radix) digits
    && nat_lt (digits_value radix digits) (2 ^ 64)
    then Some (digits_value radix digits)
    else None

-- 1 to 20 decimal digits, or `0x` and 1 to 16 hexadecimal ones
abbrev pub number_of : List ℕ → Option ℕ
number_of (a ∷ b ∷ digits) = if a == 48 && b == 120 then digits_number 16 16 digits else digits_number 10 20 (a ∷ b ∷ digits)
number_of digits = digits_number 10 20 digits
