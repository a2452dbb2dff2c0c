-- The digits of a word in base 8: how they are cut at a place, and how a word is made of others.
use Rattle.std.proofs.Common.{◌≡◌, ℕ, zero, suc, ◌+◌, ◌-◌, ◌*◌, ◌/◌, ◌%◌, ◌^◌, ◌<◌, ◌∷◌, ◌++◌, length, refl, sym, ap, ◌∙◌, arith}
use Rattle.std.proofs.Math.Nat.{div-one}
use Rattle.std.proofs.lemmas.Nat.{pow-add, shr-shr}
use Rattle.bk_lce.specs.CacheState.{packed}
use Rattle.bk_lce.specs.Lists.{digits}

-- one digit more
pub unit_more : (i : ℕ) → 2 ^ (3 * suc i) ≡ 8 * 2 ^ (3 * i)
unit_more i = let e : 3 * suc i ≡ 3 + 3 * i = omega arith in ap (λ n. 2 ^ n) e ∙ pow-add 2 3 (3 * i)

pub rest_more : (word i : ℕ) → word / 2 ^ (3 * i) / 8 ≡ word / 2 ^ (3 * (i + 1))
rest_more word i = let e : 3 * i + 3 ≡ 3 * (i + 1) = omega arith in shr-shr word (3 * i) 3 ∙ ap (λ n. word / 2 ^ n) e

rest_first : (word i : ℕ) → word / 8 / 2 ^ (3 * i) ≡ word / 2 ^ (3 * suc i)
rest_first word i = let e : 3 + 3 * i ≡ 3 * suc i = omega arith in shr-shr word 3 (3 * i) ∙ ap (λ n. word / 2 ^ n) e

pub length-digits : (n word : ℕ) → length (digits n word) ≡ n
unfolding digits
length-digits zero word = refl
length-digits (suc n) word = ap suc (length-digits n (word / 8))

-- the first i digits, and those of the rest
pub digits-split : (i rest word : ℕ) → digits (i + rest) word ≡ digits i word ++ digits rest (word / 2 ^ (3 * i))
unfolding digits
digits-split zero rest word =
    let none : 0 + rest ≡ rest = omega arith in
    let all : word / 2 ^ (3 * 0) ≡ word = div-one word in
    ap (λ n. digits n word) none ∙ ap (λ y. digits rest y) (sym all)
digits-split (suc i) rest word =
    let e : suc i + rest ≡ suc (i + rest) = omega arith in
    ap (λ n. digits n word) e
    ∙ ap (λ xs. word % 8 ∷ xs) (digits-split i rest (word / 8) ∙ ap (λ y. digits i (word / 8) ++ digits rest y) (rest_first word i))

-- what is added above the first i digits doesn't change them
above : (a q y : ℕ) → y ≡ a + 8 * q → (y % 8 ≡ a % 8) × (y / 8 ≡ a / 8 + q)
above a q y e = (omega arith, omega arith)

pub digits-low : (i a b : ℕ) → digits i (a + 2 ^ (3 * i) * b) ≡ digits i a
unfolding digits
digits-low zero a b = refl
digits-low (suc i) a b =
    let e : a + 2 ^ (3 * suc i) * b ≡ a + 8 * (2 ^ (3 * i) * b) = rw (unit_more i) (omega arith) in
    let cut = above a (2 ^ (3 * i) * b) (a + 2 ^ (3 * suc i) * b) e in
    ap (λ n. n ∷ digits i ((a + 2 ^ (3 * suc i) * b) / 8)) cut.0
    ∙ ap (λ xs. a % 8 ∷ xs) (ap (λ y. digits i y) cut.1 ∙ digits-low i (a / 8) b)

-- a word is made of its digits
whole : (word r : ℕ) → r ≡ word / 8 → word % 8 + 8 * r ≡ word
whole word r e = omega arith

below_next : (word u : ℕ) → word < 8 * u → word / 8 < u
below_next word u l = omega arith

pub packed-digits : (n word : ℕ) → word < 2 ^ (3 * n) → packed (digits n word) ≡ word
unfolding digits
packed-digits zero word l = omega arith
packed-digits (suc n) word l =
    let below : word < 8 * 2 ^ (3 * n) = rw (unit_more n) at l in
    whole word (packed (digits n (word / 8))) (packed-digits n (word / 8) (below_next word (2 ^ (3 * n)) below))

-- the digits around place i
pub digits_around : (n i word : ℕ) → i < n
    → digits n word ≡ digits i word ++ (word / 2 ^ (3 * i) % 8 ∷ digits (n - i - 1) (word / 2 ^ (3 * i) / 8))
unfolding digits
digits_around n i word l =
    let e : n ≡ i + suc (n - i - 1) = omega arith in
    ap (λ m. digits m word) e ∙ digits-split i (suc (n - i - 1)) word
