-- A bit for each number below a count that passes a test.
use Rattle.std.proofs.Common.{◌≡◌, inl, inr, ℕ, zero, suc, ◌+◌, ◌-◌, ◌*◌, ◌/◌, ◌%◌, ◌^◌, ◌<◌, Bool, true, false, ap, sym, ◌∙◌, subst, arith, lit<}
use Rattle.std.specs.Prelude.{◌==◌, if◌then◌else◌}
use Rattle.std.proofs.Math.Nat.{pow-suc, two-pow-succ, add-mul-div_right, add-mul-mod_self_right}
use Rattle.std.proofs.lemmas.Nat.{pow_pos, pow-add, div-mul-add}
use Rattle.std.proofs.lemmas.Bool.{cases_eq, cases_Bool}
use Rattle.bk_dir.specs.Summaries.{bits_below, has_bit}

-- no bit stands at the count or above it
pub bits-small : (n : ℕ) (test : ℕ → Bool) → bits_below n test < 2 ^ n
bits-small zero test = lit< tt
bits-small (suc n) test =
    let less = bits-small n test in
    let double = two-pow-succ n in
    elim (cases_Bool (test n)) [ inl e ↦ rw e (omega arith) | inr e ↦ rw e (omega arith) ]

-- the bit that is added above a number
top-bit : (b n : ℕ) (test : Bool) → b < 2 ^ n → has_bit (b + (if test then 2 ^ n else 0)) n ≡ test
top-bit b n true l =
    let e : b + 2 ^ n ≡ 1 * 2 ^ n + b = omega arith in
    ap (λ x. x / 2 ^ n % 2 == 1) e ∙ ap (λ x. x % 2 == 1) (div-mul-add 1 (2 ^ n) b l)
top-bit b n false l =
    let e : b + 0 ≡ 0 * 2 ^ n + b = omega arith in
    ap (λ x. x / 2 ^ n % 2 == 1) e ∙ ap (λ x. x % 2 == 1) (div-mul-add 0 (2 ^ n) b l)

-- it leaves the bits below it
low-bit : (b c n : ℕ) (test : Bool) → has_bit (b + (if test then 2 ^ (suc n + c) else 0)) c ≡ has_bit b c
low-bit b c n true =
    let e : b + 2 ^ (suc n + c) ≡ b + (2 ^ n * 2) * 2 ^ c =
    ap (λ x. b + x) (pow-add 2 (suc n) c ∙ ap (λ x. x * 2 ^ c) (pow-suc 2 n)) in
    ap (λ x. x / 2 ^ c % 2 == 1) e ∙ ap (λ x. x % 2 == 1) (add-mul-div_right b (2 ^ n * 2) (pow_pos c))
    ∙ ap (λ x. x == 1) (add-mul-mod_self_right (b / 2 ^ c) (2 ^ n) 2)
low-bit b c n false =
    let e : b + 0 ≡ b = omega arith in
    ap (λ x. x / 2 ^ c % 2 == 1) e

-- the bit of a number below the count says whether it passes
pub bits-say : (n : ℕ) (test : ℕ → Bool) (c : ℕ) → c < n → has_bit (bits_below n test) c ≡ test c
bits-say zero test c l = absurd (omega arith)
bits-say (suc n) test c l =
    elim (cases_eq c n) [
      | inl same ↦ subst (λ k. has_bit (bits_below (suc n) test) k ≡ test k) (sym same)
          (top-bit (bits_below n test) n (test n) (bits-small n test))
      | inr differ ↦
          let e : n ≡ suc (n - suc c) + c = omega arith in
          ap (λ k. has_bit (bits_below n test + (if test n then 2 ^ k else 0)) c) e
          ∙ low-bit (bits_below n test) c (n - suc c) (test n) ∙ bits-say n test c (omega arith)
    ]
