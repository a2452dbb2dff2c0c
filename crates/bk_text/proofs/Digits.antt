-- When a word of digits has a number.
use Rattle.std.proofs.Common.{◌≡◌, ℕ, ◌+◌, ◌*◌, ◌^◌, ◌<◌, ◌≤◌, true, false, List, length, get_or, take, arith}
use Rattle.std.specs.Prelude.{Some, None}
use Rattle.std.specs.List.{list_all}
use Rattle.std.specs.Char.{digit_value}
use Rattle.std.specs.Str.Parse.{digits_value}
use Rattle.std.proofs.lemmas.Int.Digits.{digits_value_more}
use Rattle.std.proofs.lemmas.Str.Parse.{digits_value-take-le}
use Rattle.std.proofs.lemmas.Bool.Decides.{nat_tests}
use Rattle.bk_text.specs.Texts.{digits_number, is_digit}

pub none_if_empty : (radix most : ℕ) (digits : List ℕ) → length digits ≡ 0 → digits_number radix most digits ≡ None
unfolding digits_number
none_if_empty radix most digits h = grind (arith, nat_tests)

pub none_if_long : (radix most : ℕ) (digits : List ℕ) → most < length digits → digits_number radix most digits ≡ None
unfolding digits_number
none_if_long radix most digits h = grind (arith, nat_tests)

pub none_if_no_digit : (radix most : ℕ) (digits : List ℕ) → list_all (is_digit radix) digits ≡ false
    → digits_number radix most digits ≡ None
unfolding digits_number
none_if_no_digit radix most digits h = grind (arith, nat_tests)

pub none_if_large : (radix most : ℕ) (digits : List ℕ) → 2 ^ 64 ≤ digits_value radix digits
    → digits_number radix most digits ≡ None
unfolding digits_number
none_if_large radix most digits h = grind (arith, nat_tests)

pub some_number : (radix most : ℕ) (digits : List ℕ) → 0 < length digits → length digits ≤ most
    → list_all (is_digit radix) digits ≡ true
    → digits_value radix digits < 2 ^ 64 → digits_number radix most digits ≡ Some (digits_value radix digits)
unfolding digits_number
some_number radix most digits h k a s = grind (arith, nat_tests)

-- the digits up to one of them are too large already
pub none_if_large_at : (radix most : ℕ) (digits : List ℕ) (i value : ℕ) → 2 ≤ radix → i < length digits
    → value ≡ digits_value radix (take i digits) → 2 ^ 64 ≤ value * radix + digit_value (get_or digits i 0)
    → digits_number radix most digits ≡ None
none_if_large_at radix most digits i value two within e large =
    let more : digits_value radix (take (i + 1) digits) ≡ value * radix + digit_value (get_or digits i 0) =
    rw e (digits_value_more radix digits i within) in
    none_if_large radix most digits (omega (arith, digits_value-take-le radix digits (i + 1) (omega arith)))
