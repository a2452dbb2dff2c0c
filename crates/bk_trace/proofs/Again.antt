-- Numbers that are written are read again, as addresses, places and counts.
use Rattle.std.proofs.Common.{◌≡◌, ℕ, ◌<◌, ◌≤◌, Bool, true, cond, ap, ◌∙◌, arith}
use Rattle.std.specs.Prelude.{Some, None, option_and_then, nat_lt}
use Rattle.std.specs.Fmt.{decimal}
use Rattle.std.proofs.lemmas.Bool.Decides.{nat_tests}
use Rattle.bk_base.specs.Places.{IsAddr, addr_of}
use Rattle.bk_text.proofs.Numerals.{decimal_again, hexadecimal_again}
use Rattle.bk_trace.specs.Grammar.{number_below, count_of, address_of}
use Rattle.bk_trace.specs.Spelling.{hexadecimal}

pub address_again : (n : ℕ) → IsAddr n → address_of (hexadecimal n) ≡ Some n
unfolding address_of
address_again n h =
    let is : addr_of n ≡ Some n = grind (arith, nat_tests, h.below, h.aligned) in
    ap (option_and_then addr_of) (hexadecimal_again n (omega (arith, h.below))) ∙ is

pub below_again : (limit n : ℕ) → n < limit → limit ≤ 256 → number_below limit (decimal n) ≡ Some n
unfolding number_below
below_again limit n small low =
    let is : cond (nat_lt n limit) (Some n) None ≡ Some n = grind (arith, nat_tests) in
    ap (option_and_then (λ m. cond (nat_lt m limit) (Some m) None)) (decimal_again n (omega arith)) ∙ is

pub count_again : (test : ℕ → Bool) (n : ℕ) → n < 65 → test n ≡ true → count_of test (decimal n) ≡ Some n
unfolding count_of
count_again test n small e =
    ap (option_and_then (λ m. cond (test m) (Some m) None)) (below_again 65 n small (omega arith)) ∙ ap (λ t. cond t (Some n) None) e
