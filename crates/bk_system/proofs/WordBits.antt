-- The bits of a word of 64: one set or cleared, and the first that is set.
use Rattle.std.proofs.Common.{◌≡◌, ℕ, ◌+◌, ◌-◌, ◌*◌, ◌/◌, ◌%◌, ◌^◌, ◌<◌, ◌≤◌, ap, sym, ◌∙◌, inl, inr, arith}
use Rattle.std.specs.Prelude.{bit_and, bit_or}
use Rattle.std.specs.Int.{bit_at, bit_not, w64, trailing_zeros}
use Rattle.std.proofs.lemmas.Bool.{cases_eq}
use Rattle.std.proofs.lemmas.Nat.{div-add-mod', mod_below, pow_pos}
use Rattle.std.proofs.Math.Nat.{div-le_self}
use Rattle.std.proofs.lemmas.Nat.Bits.{bit_at_set_same, bit_at_set_other, bit_at_clear_same, bit_at_clear_other, bit_at-trailing_zeros, bit_at_cat_high, bit_at_above, bit_at-zero}
use Rattle.bk_base.specs.Tables.{put}
use Rattle.bk_system.specs.Bits.{IsFirstBit}
use Rattle.bk_system.proofs.Queues.{put_at, put_other}

pub bit-set : (n place : ℕ) → place < 64 → (c : ℕ) → bit_at (bit_or n (1 * 2 ^ place % 2 ^ 64)) c ≡ put (bit_at n) place 1 c
bit-set n place l c =
    elim (cases_eq c place) [
      | inl same ↦
          ap (bit_at (bit_or n (1 * 2 ^ place % 2 ^ 64))) same ∙ bit_at_set_same w64 n place l
          ∙ sym (ap (put (bit_at n) place 1) same ∙ put_at (bit_at n) place 1)
      | inr differ ↦ bit_at_set_other w64 n place l c differ ∙ sym (put_other (bit_at n) place 1 c differ)
    ]

pub bit-cleared : (n place : ℕ) → place < 64 → (c : ℕ) → c < 64
    → bit_at (bit_and n (bit_not w64 (1 * 2 ^ place % 2 ^ 64))) c ≡ put (bit_at n) place 0 c
bit-cleared n place l c lc =
    elim (cases_eq c place) [
      | inl same ↦
          ap (bit_at (bit_and n (bit_not w64 (1 * 2 ^ place % 2 ^ 64)))) same ∙ bit_at_clear_same w64 n place l
          ∙ sym (ap (put (bit_at n) place 0) same ∙ put_at (bit_at n) place 0)
      | inr differ ↦ bit_at_clear_other w64 n place l c lc differ ∙ sym (put_other (bit_at n) place 0 c differ)
    ]

-- the bits of a number that was shifted to the right
bit-shifted : (n place i : ℕ) → bit_at n (place + i) ≡ bit_at (n / 2 ^ place) i
bit-shifted n place i =
    let back : place + i - place ≡ i = omega arith in
    ap (λ (x : ℕ). bit_at x (place + i)) (sym (div-add-mod' n (2 ^ place)))
    ∙ bit_at_cat_high (n / 2 ^ place) place (n % 2 ^ place) (place + i) (mod_below n (2 ^ place) (pow_pos place)) (omega arith)
    ∙ ap (bit_at (n / 2 ^ place)) back

-- the bits from one place on
bit-from : (n place c : ℕ) → place ≤ c → bit_at n c ≡ bit_at (n / 2 ^ place) (c - place)
bit-from n place c l = let is : c ≡ place + (c - place) = omega arith in ap (bit_at n) is ∙ bit-shifted n place (c - place)

-- none is set where the shift leaves 0
pub bits-none : (n place : ℕ) → n / 2 ^ place ≡ 0 → (c : ℕ) → place ≤ c → bit_at n c ≡ 0
bits-none n place e c l = bit-from n place c l ∙ ap (λ (x : ℕ). bit_at x (c - place)) e ∙ bit_at-zero (c - place)

-- no bit of a word is set from 64 on
pub bits-past : (n place : ℕ) → n < 2 ^ 64 → 64 ≤ place → (c : ℕ) → place ≤ c → bit_at n c ≡ 0
bits-past n place l past c le = bit_at_above n 64 c l (omega arith)

below : (c b : ℕ) → b ≡ 1 → (64 ≤ c → b ≡ 0) → c < 64
below c b e h = grind arith

pub bits-first : (n place : ℕ) → n < 2 ^ 64 → 0 < n / 2 ^ place → IsFirstBit n place (place + trailing_zeros w64 (n / 2 ^ place))
bits-first n place l some =
    let zeros : ℕ = trailing_zeros w64 (n / 2 ^ place) in
    let shorter = div-le_self n (2 ^ place) in
    let least = bit_at-trailing_zeros w64 (n / 2 ^ place) some (omega arith) in
    let is_set : bit_at n (place + zeros) ≡ 1 = bit-shifted n place zeros ∙ least.1 in
    record {
      low = omega arith;
      within = below (place + zeros) _ is_set (bit_at_above n 64 (place + zeros) l);
      is_set = is_set;
      before = λ d from lower. bit-from n place d from ∙ least.2 (d - place) (omega arith);
    }
