-- How many digits a number has.
use Rattle.std.proofs.Common.{◌≡◌, ℕ, ◌+◌, ◌/◌, ◌%◌, ◌^◌, ◌<◌, ◌≤◌, [], ◌∷◌, length, ap, ◌∙◌, arith, length-append}
use Rattle.std.specs.Fmt.{decimal}
use Rattle.std.proofs.lemmas.Fmt.{decimal_digit, decimal_step, length-decimal-le}

pub length-digit : (n : ℕ) → n < 10 → length (decimal n) ≡ 1
length-digit n small = ap length (decimal_digit n small)

pub length-step : (n : ℕ) → 10 ≤ n → n < 2 ^ 64 → length (decimal n) ≡ length (decimal (n / 10)) + 1
length-step n large fits = ap length (decimal_step n large fits) ∙ length-append (decimal (n / 10)) ((48 + n % 10) ∷ [])

pub length-small : (n : ℕ) → n < 2 ^ 8 → length (decimal n) ≤ 3
length-small n small = length-decimal-le 3 n (omega arith) (omega arith) (omega arith)

pub length-number : (n : ℕ) → n < 2 ^ 64 → length (decimal n) ≤ 20
length-number n fits = length-decimal-le 20 n (omega arith) (omega arith) fits
