-- The word of the ages: one digit more is written, and the others stay.
use Rattle.std.proofs.Common.{◌≡◌, ◌≢◌, ℕ, suc, ◌+◌, ◌-◌, ◌*◌, ◌/◌, ◌%◌, ◌^◌, ◌<◌, ◌≤◌, ◌==◌, if◌then◌else◌, ◌∷◌, sym, ap, ◌∙◌, inl, inr, arith}
use Rattle.std.specs.Int.Bits.{bit_or}
use Rattle.std.proofs.Math.Nat.{zero-div}
use Rattle.std.proofs.lemmas.Bool.{cases_eq, cases_lt}
use Rattle.std.proofs.lemmas.Bool.Decides.{nat_tests}
use Rattle.std.proofs.lemmas.Nat.{or_comm, or_mod, or_shr, pow-add, shl-shr, shl_whole, shr-shr}
use Rattle.bk_lce.specs.Lists.{digits, times}
use Rattle.bk_lce.specs.Policies.{age_in}
use Rattle.bk_lce.proofs.Moved.{found_age}
use Rattle.bk_lce.proofs.Packed.{digits-split, digits_around}
use Rattle.bk_lce.proofs.Recent.{times-append}

-- ---- a digit that is put at its place stands there, and nowhere else

same_digit : (i w : ℕ) → i < 8 → i * 2 ^ (3 * w) / 2 ^ (3 * w) % 8 ≡ i
same_digit i w l = let e = shl-shr i (3 * w) in rw e (omega arith)

regroup : (i u v : ℕ) → i * (u * (8 * v)) ≡ 8 * (i * v) * u
regroup i u v = omega arith

many : (q : ℕ) → (8 * q) % 8 ≡ 0
many q = omega arith

-- below it
lower_digit : (i w e : ℕ) → i * 2 ^ (3 * (w + suc e)) / 2 ^ (3 * w) % 8 ≡ 0
lower_digit i w e =
    let far : 3 * (w + suc e) ≡ 3 * w + (3 + 3 * e) = omega arith in
    let unit : 2 ^ (3 * (w + suc e)) ≡ 2 ^ (3 * w) * (8 * 2 ^ (3 * e)) =
    ap (λ n. 2 ^ n) far ∙ pow-add 2 (3 * w) (3 + 3 * e) ∙ ap (λ n. 2 ^ (3 * w) * n) (pow-add 2 3 (3 * e)) in
    ap (λ u. i * u / 2 ^ (3 * w) % 8) unit ∙ ap (λ n. n / 2 ^ (3 * w) % 8) (regroup i (2 ^ (3 * w)) (2 ^ (3 * e)))
    ∙ ap (λ n. n % 8) (shl-shr (8 * (i * 2 ^ (3 * e))) (3 * w)) ∙ many (i * 2 ^ (3 * e))

-- above it
upper_digit : (i d e : ℕ) → i < 8 → i * 2 ^ (3 * d) / 2 ^ (3 * (d + suc e)) % 8 ≡ 0
upper_digit i d e l =
    let far : 3 * (d + suc e) ≡ 3 * d + (3 + 3 * e) = omega arith in
    let none : i / 8 ≡ 0 = omega arith in
    ap (λ n. i * 2 ^ (3 * d) / 2 ^ n % 8) far
    ∙ ap (λ n. n % 8) (sym (shr-shr (i * 2 ^ (3 * d)) (3 * d) (3 + 3 * e)))
    ∙ ap (λ n. n / 2 ^ (3 + 3 * e) % 8) (shl-shr i (3 * d))
    ∙ ap (λ n. n % 8) (sym (shr-shr i 3 (3 * e)) ∙ ap (λ n. n / 2 ^ (3 * e)) none ∙ zero-div (2 ^ (3 * e)))

other_digit : (i d w : ℕ) → i < 8 → d ≢ w → i * 2 ^ (3 * d) / 2 ^ (3 * w) % 8 ≡ 0
other_digit i d w l n =
    elim (cases_lt w d) [
      | inl k ↦ let e : d ≡ w + suc (d - w - 1) = omega arith in
          ap (λ j. i * 2 ^ (3 * j) / 2 ^ (3 * w) % 8) e ∙ lower_digit i w (d - w - 1)
      | inr k ↦ let e : w ≡ d + suc (w - d - 1) = omega arith in
          ap (λ j. i * 2 ^ (3 * d) / 2 ^ (3 * j) % 8) e ∙ upper_digit i d (w - d - 1) l
    ]

-- of a word that has it besides
digit_or : (a b w : ℕ) → bit_or a b / 2 ^ (3 * w) % 8 ≡ bit_or (a / 2 ^ (3 * w) % 8) (b / 2 ^ (3 * w) % 8)
digit_or a b w = ap (λ n. n % 8) (or_shr a b (3 * w)) ∙ or_mod (a / 2 ^ (3 * w)) (b / 2 ^ (3 * w)) 3

digit_kept : (a i d w : ℕ) → i < 8 → d ≢ w → bit_or a (i * 2 ^ (3 * d)) / 2 ^ (3 * w) % 8 ≡ a / 2 ^ (3 * w) % 8
digit_kept a i d w l n =
    digit_or a (i * 2 ^ (3 * d)) w ∙ ap (λ b. bit_or (a / 2 ^ (3 * w) % 8) b) (other_digit i d w l n)
    ∙ or_comm (a / 2 ^ (3 * w) % 8) 0

digit_new : (a i w : ℕ) → i < 8 → a / 2 ^ (3 * w) % 8 ≡ 0 → bit_or a (i * 2 ^ (3 * w)) / 2 ^ (3 * w) % 8 ≡ i
digit_new a i w l e =
    digit_or a (i * 2 ^ (3 * w)) w ∙ ap (λ b. bit_or (a / 2 ^ (3 * w) % 8) b) (same_digit i w l)
    ∙ ap (λ b. bit_or b i) e

-- ---- the ages of the ways at the first i places of n, and 0 for each other

abbrev pub age_seen : ℕ → ℕ → ℕ → ℕ → ℕ
age_seen n i x w = if times w (digits i x) == 0 then 0 else age_in (digits n x) w

pub ages_none : (n word w : ℕ) → 0 / 2 ^ (3 * w) % 8 ≡ age_seen n 0 word w
unfolding digits times
ages_none n word w = ap (λ n. n % 8) (zero-div (2 ^ (3 * w)))

times-more : (i word w : ℕ) → times w (digits (i + 1) word) ≡ times w (digits i word) + (if word / 2 ^ (3 * i) % 8 == w then 1 else 0)
unfolding digits times
times-more i word w =
    let parts = times-append w (digits i word) (digits 1 (word / 2 ^ (3 * i))) in
    ap (times w) (digits-split i 1 word) ∙ parts ∙ ap (λ n. times w (digits i word) + n) (omega arith)

first_time : (n i word w : ℕ) → i < n → times w (digits n word) ≡ 1 → word / 2 ^ (3 * i) % 8 ≡ w
    → times w (digits i word) ≡ 0
unfolding times
first_time n i word w l h e =
    let parts = times-append w (digits i word) (word / 2 ^ (3 * i) % 8 ∷ digits (n - i - 1) (word / 2 ^ (3 * i) / 8)) in
    let all = ap (times w) (digits_around n i word l) ∙ parts in
    grind (arith, nat_tests, all, h, e)

pub ages_more : (n i word a w : ℕ) → i < n → n ≤ 8 → times w (digits n word) ≡ 1 → a / 2 ^ (3 * w) % 8 ≡ age_seen n i word w
    → bit_or a (i * 2 ^ (3 * (word / 2 ^ (3 * i) % 8))) / 2 ^ (3 * w) % 8 ≡ age_seen n (i + 1) word w
ages_more n i word a w l k h e =
    let more = times-more i word w in
    elim (cases_eq (word / 2 ^ (3 * i) % 8) w) [
      | inl same ↦
          let first = first_time n i word w l h same in
          let age = found_age n i w word l first same in
          let was : a / 2 ^ (3 * w) % 8 ≡ 0 = e ∙ grind (arith, nat_tests, first) in
          let now : bit_or a (i * 2 ^ (3 * w)) / 2 ^ (3 * w) % 8 ≡ i = digit_new a i w (omega arith) was in
          ap (λ d. bit_or a (i * 2 ^ (3 * d)) / 2 ^ (3 * w) % 8) same ∙ now ∙ age
          ∙ grind (arith, nat_tests, more, first, same)
      | inr other ↦
          digit_kept a i (word / 2 ^ (3 * i) % 8) w (omega arith) other ∙ e ∙ grind (arith, nat_tests, more, other)
    ]

-- the digit of a place, as it is computed
pub digit_is : (i d : ℕ) → i < 8 → i * 2 ^ (3 * (d % 8)) % 4294967296 ≡ i * 2 ^ (3 * (d % 8))
digit_is i d l = shl_whole i 3 (3 * (d % 8)) 32 l (omega arith)
