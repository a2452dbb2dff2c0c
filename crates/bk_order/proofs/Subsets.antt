-- Sets of values as numbers: their order.
use Rattle.std.proofs.Common.{◌≡◌, ℕ, ◌/◌, ◌^◌, ◌==◌, Bool, true, false, not, refl, sym, ap, ◌∙◌, arith}
use Rattle.std.specs.Prelude.{bit_and, bit_or}
use Rattle.std.proofs.lemmas.Bool.{eqb-true, eqb-false, eq-eqb, ne_eqb}
use Rattle.std.proofs.lemmas.Bool.Decides.{nat_tests}
use Rattle.std.proofs.lemmas.Nat.{pow_pos, and_assoc, and_comm, and_or_self, or_comm, or_shr}
use Rattle.std.proofs.lemmas.Nat.Bits.{and_pow, bit_at-lt}
use lib.Bits.{and_step, or_step, and_self, and_zero_r, and_zero_l, or_zero_l}
use lib.Arith.{bin_ind}
use Rattle.bk_know.specs.Sets.{subset, only}
use Rattle.bk_flow.specs.Flow.{may, lacks}

-- as an equation, and back
pub same : (a b : ℕ) → subset a b ≡ true → bit_and a b ≡ a
same a b e = eqb-true (bit_and a b) a e

pub from_same : (a b : ℕ) → bit_and a b ≡ a → subset a b ≡ true
from_same a b e = eq-eqb (bit_and a b) a e

pub itself : (a : ℕ) → subset a a ≡ true
itself a = from_same a a (and_self a)

pub empty : (b : ℕ) → subset 0 b ≡ true
empty b = from_same 0 b (and_zero_l b)

pub chain : (a b c : ℕ) → subset a b ≡ true → subset b c ≡ true → subset a c ≡ true
chain a b c p q =
    let ab = same a b p in
    let bc = same b c q in
    from_same a c (ap (λ x. bit_and x c) (sym ab) ∙ (and_assoc c a b ∙ (ap (bit_and a) bc ∙ ab)))

-- a subset lacks what the set lacks, and a set may have what a subset may have
pub lacks-down : (a b c : ℕ) → subset a b ≡ true → lacks b c ≡ true → lacks a c ≡ true
lacks-down a b c p q =
    let ab = same a b p in
    eq-eqb (bit_and a c) 0 (ap (λ x. bit_and x c) (sym ab)
    ∙ (and_assoc c a b ∙ (ap (bit_and a) (eqb-true (bit_and b c) 0 q) ∙ and_zero_r a)))

may-up-by : (b y : Bool) → (y ≡ true → b ≡ true) → not b ≡ true → not y ≡ true
may-up-by true y h e = absurd (cc)
may-up-by false true h e = absurd (let g = h refl in cc)
may-up-by false false h e = refl

pub may-up : (a b c : ℕ) → subset a b ≡ true → may a c ≡ true → may b c ≡ true
may-up a b c p e = may-up-by (lacks a c) (lacks b c) (lacks-down a b c p) e

-- a subset of a set of one value, that isn't empty, is that set
pub one-down : (number a b : ℕ) → subset a b ≡ true → (a == 0) ≡ false → (b == only number) ≡ true
    → (a == only number) ≡ true
one-down number a b p some one =
    let ab = same a b p in
    let c = eqb-true b (2 ^ number) one in
    let at = sym (and_pow a number) ∙ (ap (bit_and a) (sym c) ∙ ab) in
    let l = bit_at-lt a number in
    eq-eqb a (2 ^ number) (grind (arith, nat_tests, at, l, eqb-false a 0 some))

-- `&` is the greatest set below both
pub and-left : (a b : ℕ) → subset (bit_and a b) a ≡ true
and-left a b = from_same (bit_and a b) a (and_assoc a a b
    ∙ (ap (bit_and a) (and_comm b a) ∙ (sym (and_assoc b a a) ∙ ap (λ x. bit_and x b) (and_self a))))

pub and-right : (a b : ℕ) → subset (bit_and a b) b ≡ true
and-right a b = from_same (bit_and a b) b (and_assoc b a b ∙ ap (bit_and a) (and_self b))

pub and-both : (n a b : ℕ) → subset n a ≡ true → subset n b ≡ true → subset n (bit_and a b) ≡ true
and-both n a b p q = from_same n (bit_and a b) (sym (and_assoc b n a) ∙ (ap (λ y. bit_and y b) (same n a p) ∙ same n b q))

pub and-up : (a b c : ℕ) → subset a b ≡ true → subset (bit_and a c) (bit_and b c) ≡ true
and-up a b c p = and-both (bit_and a c) b c (chain (bit_and a c) a b (and-left a c) p) (and-right a c)

-- `|` is the least set above both
pub or-left : (a b : ℕ) → subset a (bit_or a b) ≡ true
or-left a b = from_same a (bit_or a b) (and_comm a (bit_or a b) ∙ (ap (λ x. bit_and x a) (or_comm a b) ∙ and_or_self a b))

pub or-right : (a b : ℕ) → subset b (bit_or a b) ≡ true
or-right a b = from_same b (bit_or a b) (and_comm b (bit_or a b) ∙ and_or_self b a)

or-least : (c a b : ℕ) → bit_and a c ≡ a → bit_and b c ≡ b → bit_and (bit_or a b) c ≡ bit_or a b
or-least =
    bin_ind (λ (c : ℕ). (a b : ℕ) → bit_and a c ≡ a → bit_and b c ≡ b → bit_and (bit_or a b) c ≡ bit_or a b)
    (λ a b p q. let x : a ≡ 0 = sym p ∙ and_zero_r a in let y : b ≡ 0 = sym q ∙ and_zero_r b in
    and_zero_r (bit_or a b) ∙ sym (ap (λ z. bit_or z b) x ∙ (or_zero_l b ∙ y)))
    (λ c ih a b p q.
    let sa = and_step a c in
    let sb = and_step b c in
    let ha : bit_and (a / 2) (c / 2) ≡ a / 2 = omega (arith, sa, p) in
    let hb : bit_and (b / 2) (c / 2) ≡ b / 2 = omega (arith, sb, q) in
    let h = ap (λ x. bit_and x (c / 2)) (or_shr a b 1) ∙ ih (a / 2) (b / 2) ha hb in
    omega (arith, and_step (bit_or a b) c, or_step a b, or_shr a b 1, h, sa, sb, p, q))

pub or-both : (a b c : ℕ) → subset a c ≡ true → subset b c ≡ true → subset (bit_or a b) c ≡ true
or-both a b c p q = from_same (bit_or a b) c (or-least c a b (same a c p) (same b c q))

pub or-up : (a b c d : ℕ) → subset a c ≡ true → subset b d ≡ true → subset (bit_or a b) (bit_or c d) ≡ true
or-up a b c d p q = or-both a b (bit_or c d) (chain a c (bit_or c d) p (or-left c d)) (chain b d (bit_or c d) q (or-right c d))

-- a set above one that isn't empty isn't empty
pub some-up : (a b : ℕ) → subset a b ≡ true → (a == 0) ≡ false → (b == 0) ≡ false
some-up a b p some = ne_eqb b 0 (λ z. eqb-false a 0 some (sym (same a b p) ∙ (ap (bit_and a) z ∙ and_zero_r a)))

pub only-some : (v : ℕ) → (only v == 0) ≡ false
only-some v = let p = pow_pos v in grind (arith, nat_tests, p)
