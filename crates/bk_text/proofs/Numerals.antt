-- Numbers that are written are read again.
use Rattle.std.proofs.Common.{◌≡◌, ℕ, zero, suc, ◌+◌, ◌*◌, ◌/◌, ◌%◌, ◌^◌, ◌<◌, ◌≤◌, inl, inr, Bool, true, false}
use Rattle.std.proofs.Common.{◌&&◌, cond, List, [], ◌∷◌, ◌++◌, length, ap, refl, ◌∙◌, arith}
use Rattle.std.specs.Prelude.{Some, codes, ◌==◌}
use Rattle.std.specs.List.{list_all}
use Rattle.std.specs.Fmt.{decimal, digits, digits_onto, digit_glyph}
use Rattle.std.specs.Str.Parse.{AllDigits}
use Rattle.std.proofs.lemmas.Bool.{and_parts, and_from}
use Rattle.std.proofs.lemmas.Bool.Decides.{nat_tests}
use Rattle.std.proofs.Math.Nat.{pow-suc}
use Rattle.std.proofs.lemmas.Fmt.{decimal_is_IsNumeral, digits_is_IsNumeral, length-decimal-le}
use Rattle.bk_text.specs.Texts.{is_digit, is_nonempty, digits_number, number_of}
use Rattle.bk_text.proofs.Digits.{some_number}
use Rattle.bk_text.proofs.LineWords.{tested}

-- the digits of a numeral are digits
pub all_digits : (radix : ℕ) (ds : List ℕ) → AllDigits radix ds → list_all (is_digit radix) ds ≡ true
all_digits radix [] h = refl
all_digits radix (d ∷ ds) h =
    and_from (is_digit radix d) (list_all (is_digit radix) ds) (grind (arith, nat_tests, h.0)) (all_digits radix ds h.1)

-- bytes that are some
pub nonempty : (ds : List ℕ) → 0 < length ds → is_nonempty ds ≡ true
nonempty [] h = absurd (omega arith)
nonempty (d ∷ ds) h = refl

-- a numeral without `x` is no hexadecimal number
no_x : (b : ℕ) → is_digit 10 b ≡ true → (b == 120) ≡ false
no_x b e = grind (arith, nat_tests)

and_false : (a : Bool) → a && false ≡ false
and_false true = refl
and_false false = refl

-- a numeral of digits is a decimal number
decimal_number : (ds : List ℕ) → list_all (is_digit 10) ds ≡ true → number_of ds ≡ digits_number 10 20 ds
decimal_number [] e = refl
decimal_number (a ∷ []) e = refl
decimal_number (a ∷ b ∷ ds) e =
    let p = and_parts (is_digit 10 a) (is_digit 10 b && list_all (is_digit 10) ds) e in
    let q = and_parts (is_digit 10 b) (list_all (is_digit 10) ds) p.1 in
    ap (λ t. cond ((a == 48) && t) (digits_number 16 16 ds) (digits_number 10 20 (a ∷ b ∷ ds))) (no_x b q.0)
    ∙ ap (λ t. cond t (digits_number 16 16 ds) (digits_number 10 20 (a ∷ b ∷ ds))) (and_false (a == 48))

-- a number in decimal digits is read as that number
pub decimal_again : (n : ℕ) → n < 2 ^ 64 → number_of (decimal n) ≡ Some n
decimal_again n small =
    let d = decimal_is_IsNumeral n small in
    let all = all_digits 10 (decimal n) d.0.1 in
    let short : length (decimal n) ≤ 20 = length-decimal-le 20 n (omega arith) (omega arith) small in
    decimal_number (decimal n) all ∙ some_number 10 20 (decimal n) d.0.0 short all (omega (arith, d.1)) ∙ ap Some d.1

next_small : (number n : ℕ) → n < 16 ^ (suc (suc number)) → n / 16 < 16 ^ (suc number)
next_small number n small =
    let more : 16 ^ suc (suc number) ≡ 16 ^ suc number * 16 = pow-suc 16 (suc number) in
    omega (arith, more)

more_digits : (number i n : ℕ) (acc : List ℕ) → n < 16 ^ (suc i) → 0 < n / 16
    → ((j : ℕ) → n / 16 < 16 ^ (suc j) → length (digits_onto number 16 false (n / 16) acc) ≤ suc j + length acc)
    → length (digits_onto number 16 false (n / 16) acc) + 1 ≤ suc i + length acc
more_digits number zero n acc small some h = absurd (omega arith)
more_digits number (suc i) n acc small some h = omega (arith, h i (next_small i n small))

-- a number below 16^(i + 1) has at most i + 1 digits
hex_length : (number i n : ℕ) (acc : List ℕ) → n < 16 ^ (suc i) → length (digits_onto number 16 false n acc) ≤ suc i + length acc
hex_length zero i n acc small = omega arith
hex_length (suc number) i n acc small = elim (tested (n / 16 == 0)) [
  | inl e ↦ rw e (omega arith)
  | inr e ↦
      let some : 0 < n / 16 = grind (arith, nat_tests, e) in
      let with_digit = digit_glyph false (n % 16) ∷ acc in
      rw e (omega (arith, more_digits number i n with_digit small some (λ j less. hex_length number j (n / 16) with_digit less)))
]

hexadecimal_short : (n : ℕ) → n < 2 ^ 64 → length (digits 16 false n) ≤ 16
unfolding digits
hexadecimal_short n small = omega (arith, hex_length 64 15 n [] (omega arith))

-- a number in hexadecimal digits is read as that number
pub hexadecimal_again : (n : ℕ) → n < 2 ^ 64 → number_of (codes "0x" ++ digits 16 false n) ≡ Some n
hexadecimal_again n small =
    let d = digits_is_IsNumeral 16 false (omega arith) (omega arith) n (omega arith) in
    let all = all_digits 16 (digits 16 false n) d.0.1 in
    some_number 16 16 (digits 16 false n) d.0.0 (hexadecimal_short n small) all (omega (arith, d.1)) ∙ ap Some d.1
