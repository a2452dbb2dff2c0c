-- The fields of a number: way w has bits 37 * w to 37 * w + 36.
use Rattle.std.proofs.Common.{◌≡◌, ◌≢◌, inl, inr, ℕ, zero, suc, ◌+◌, ◌-◌, ◌*◌, ◌/◌, ◌%◌, ◌^◌, ◌<◌, ◌≤◌, cond, eqb, refl, ap, sym, ◌∙◌, subst, arith, add-zero}
use Rattle.std.specs.Prelude.{IsTrue}
use Rattle.std.proofs.lemmas.Nat.{pow_pos, pow-add, shr-shr, shr_split, mod-pow-add, field_of as cut_of, div-mul-add, mod-mul-add, mod_below, div-add-mod'}
use Rattle.std.proofs.lemmas.Bool.{cases_eq, cases_lt, eq-eqb, ne_eqb}
use Rattle.std.proofs.Math.Nat.{add-mul-mod_self_right, mul_assoc}
use Rattle.std.proofs.Math.Nat.{zero-div, mod-one, add_comm, mod-eq_of_lt, div-le_self}
use Rattle.std.proofs.lemmas.Bool.Decides.{nat_tests}
use Rattle.bk_base.specs.Places.{Shape, InProfile, is_set_count, tag_limit}
use Rattle.bk_base.specs.States.{code_of}
use Rattle.bk_base.specs.declared.coh.Coh.{Coh}
use Rattle.bk_base.specs.declared.coh.Coh.TheVariants.{I, S, E, F, M, O}
use Rattle.bk_dir.specs.declared.entry.Entry.{Entry}
use Rattle.bk_dir.specs.Segments.{field_at, field_of, state_in, entry_in, number_below, IsField}

-- a number is what is above a field, the field, and what is below it
parts : (n w : ℕ) → n ≡ (n / 2 ^ (37 * w) / 2 ^ 37 * 2 ^ 37 + field_at n w) * 2 ^ (37 * w) + n % 2 ^ (37 * w)
parts n w =
    sym (ap (λ x. x * 2 ^ (37 * w) + n % 2 ^ (37 * w)) (shr_split (n / 2 ^ (37 * w)) 37) ∙ shr_split n (37 * w))

-- what a field is written to is the field alone
new-parts : (n n' field w : ℕ) → n' + field_at n w * 2 ^ (37 * w) ≡ n + field * 2 ^ (37 * w)
    → n' ≡ (n / 2 ^ (37 * w) / 2 ^ 37 * 2 ^ 37 + field) * 2 ^ (37 * w) + n % 2 ^ (37 * w)
new-parts n n' field w e = let p = parts n w in omega (arith, p, e)

-- the field that was written
field-same : (n n' field w : ℕ) → n' + field_at n w * 2 ^ (37 * w) ≡ n + field * 2 ^ (37 * w) → field < 2 ^ 37
    → field_at n' w ≡ field
field-same n n' field w e l =
    let p = 2 ^ (37 * w) in
    let high = n / p / 2 ^ 37 in
    ap (λ x. x / p % 2 ^ 37) (new-parts n n' field w e)
    ∙ ap (λ x. x % 2 ^ 37) (div-mul-add (high * 2 ^ 37 + field) p (n % p) (mod_below n p (pow_pos (37 * w))))
    ∙ mod-mul-add high (2 ^ 37) field l

-- a field above it
above-it : (n above w : ℕ) → above < 2 ^ 37 → ((n / 2 ^ (37 * w) / 2 ^ 37 * 2 ^ 37 + above) * 2 ^ (37 * w) + n % 2 ^
    (37 * w)) / 2 ^ (37 * w) / 2 ^ 37
    ≡ n / 2 ^ (37 * w) / 2 ^ 37
above-it n above w l =
    let p = 2 ^ (37 * w) in
    let high = n / p / 2 ^ 37 in
    ap (λ y. y / 2 ^ 37) (div-mul-add (high * 2 ^ 37 + above) p (n % p) (mod_below n p (pow_pos (37 * w))))
    ∙ div-mul-add high (2 ^ 37) above l

field-above : (n n' field w d : ℕ) → n' + field_at n w * 2 ^ (37 * w) ≡ n + field * 2 ^ (37 * w) → field < 2 ^ 37
    → field_at n' (w + 1 + d) ≡ field_at n (w + 1 + d)
field-above n n' field w d e l =
    let same : n' / 2 ^ (37 * w) / 2 ^ 37 ≡ n / 2 ^ (37 * w) / 2 ^ 37 =
    ap (λ x. x / 2 ^ (37 * w) / 2 ^ 37) (new-parts n n' field w e) ∙ above-it n field w l in
    let k : 37 * (w + 1 + d) ≡ 37 * w + 37 + 37 * d = omega arith in
    let cut = λ (x : ℕ). ap (λ i. x / 2 ^ i % 2 ^ 37) k ∙ ap (λ y. y % 2 ^ 37) (sym (shr-shr x (37 * w + 37) (37 * d)))
    ∙ ap (λ y. y / 2 ^ (37 * d) % 2 ^ 37) (sym (shr-shr x (37 * w) 37)) in
    cut n' ∙ ap (λ y. y / 2 ^ (37 * d) % 2 ^ 37) same ∙ sym (cut n)

-- a field below it
low-part : (above a v d : ℕ) → (above * 2 ^ (37 * (v + 1 + d)) + a) % 2 ^ (37 + 37 * v) ≡ a % 2 ^ (37 + 37 * v)
low-part above a v d =
    let k : 37 * (v + 1 + d) ≡ 37 * d + (37 + 37 * v) = omega arith in
    let q = 2 ^ (37 + 37 * v) in
    let e : above * 2 ^ (37 * (v + 1 + d)) ≡ above * 2 ^ (37 * d) * q =
    ap (λ i. above * 2 ^ i) k ∙ ap (λ y. above * y) (pow-add 2 (37 * d) (37 + 37 * v)) ∙ sym (mul_assoc above (2 ^ (37 * d)) q) in
    let turned : above * 2 ^ (37 * (v + 1 + d)) + a ≡ a + above * 2 ^ (37 * d) * q = omega (arith, e) in
    ap (λ y. y % q) turned ∙ add-mul-mod_self_right a (above * 2 ^ (37 * d)) q

field-below : (n n' field v d : ℕ)
    → n' + field_at n (v + 1 + d) * 2 ^ (37 * (v + 1 + d)) ≡ n + field * 2 ^ (37 * (v + 1 + d))
    → field_at n' v ≡ field_at n v
field-below n n' field v d e =
    let w = v + 1 + d in
    let q = 2 ^ (37 + 37 * v) in
    let high = n / 2 ^ (37 * w) / 2 ^ 37 in
    let old = ap (λ x. x % q) (parts n w) ∙ low-part (high * 2 ^ 37 + field_at n w) (n % 2 ^ (37 * w)) v d in
    let new = ap (λ x. x % q) (new-parts n n' field w e) ∙ low-part (high * 2 ^ 37 + field) (n % 2 ^ (37 * w)) v d in
    let cut = λ (x : ℕ). cut_of x 37 (37 * v) in
    sym (cut n') ∙ ap (λ y. y / 2 ^ (37 * v)) (new ∙ sym old) ∙ cut n

field-other : (n n' field w v : ℕ) → n' + field_at n w * 2 ^ (37 * w) ≡ n + field * 2 ^ (37 * w) → field < 2 ^ 37 → v ≢ w
    → field_at n' v ≡ field_at n v
field-other n n' field w v e l differ =
    elim (cases_lt v w) [
      | inl less ↦
          let k : w ≡ v + 1 + (w - (v + 1)) = omega arith in
          field-below n n' field v (w - (v + 1)) (subst (λ i. n' + field_at n i * 2 ^ (37 * i) ≡ n + field * 2 ^ (37 * i)) k e)
      | inr more ↦
          let k : v ≡ w + 1 + (v - (w + 1)) = omega arith in
          subst (λ i. field_at n' i ≡ field_at n i) (sym k) (field-above n n' field w (v - (w + 1)) e l)
    ]

-- the fields of a number of which one is written
pub field-written : (n n' field w v : ℕ) → n' + field_at n w * 2 ^ (37 * w) ≡ n + field * 2 ^ (37 * w) → field < 2 ^ 37
    → field_at n' v ≡ cond (eqb v w) field (field_at n v)
field-written n n' field w v e l =
    elim (cases_eq v w) [
      | inl same ↦ rw (eq-eqb v w same) (subst (λ i. field_at n' i ≡ field) (sym same) (field-same n n' field w e l))
      | inr differ ↦ rw (ne_eqb v w differ) (field-other n n' field w v e l differ)
    ]

-- ENTRIES in fields

code-small : (y : Coh) → code_of y < 8
code-small y = grind arith

state-again : (y : Coh) → state_in (code_of y) ≡ y
state-again I = refl
state-again S = refl
state-again E = refl
state-again F = refl
state-again M = refl
state-again O = refl

code-in : (entry : Entry) → field_of entry % 8 ≡ code_of entry.state
code-in entry = mod-mul-add entry.tag 8 (code_of entry.state) (code-small entry.state)

tag-in : (entry : Entry) → field_of entry / 8 ≡ entry.tag
tag-in entry = div-mul-add entry.tag 8 (code_of entry.state) (code-small entry.state)

state-of-code : (entry : Entry) → state_in (field_of entry % 8) ≡ entry.state
state-of-code entry = ap state_in (code-in entry) ∙ state-again entry.state

-- the field of an entry stands for the entry
pub entry-again : (entry : Entry) → entry_in (field_of entry) ≡ entry
entry-again entry = λ i. record { tag = tag-in entry i; state = state-of-code entry i }

-- and it is one that a way of the configuration may have
pub field-of-entry : (k : Shape) (w : ℕ) (entry : Entry) → entry.tag < tag_limit k → w < k.ways → IsField k w (field_of entry)
field-of-entry k w entry lt lw = record {
  code = ap code_of (state-of-code entry) ∙ sym (code-in entry);
  tag = rw (tag-in entry) lt;
  there = λ l. absurd (omega arith);
}

-- an entry that a way may have has this field
pub field-again : (k : Shape) (w field : ℕ) → IsField k w field → field_of (entry_in field) ≡ field
field-again k w field p = ap (λ x. field / 8 * 8 + x) p.code ∙ div-add-mod' field 8

-- 0 is a field that each way may have
some-tag : (n : ℕ) → IsTrue (is_set_count n) → 0 < 2 ^ 34 / n
some-tag n h = grind (arith, nat_tests)

pub no-field : (k : Shape) (w : ℕ) → InProfile k → IsField k w 0
no-field k w h = record { code = refl; tag = some-tag k.sets h.sets; there = λ l. refl }

pub tag-small : (k : Shape) (n : ℕ) → n < tag_limit k → n < 2 ^ 34
tag-small k n l = let e = div-le_self (2 ^ 34) k.sets in omega (arith, e)

-- THE NUMBER OF FIELDS

pub field-zero : (w : ℕ) → field_at 0 w ≡ 0
field-zero w = ap (λ x. x % 2 ^ 37) (zero-div (2 ^ (37 * w)))

-- the ways below a count are what is below the bits of the next
below-count : (n count : ℕ) (entries : ℕ → Entry) → ((w : ℕ) → field_of (entries w) ≡ field_at n w)
    → number_below count entries ≡ n % 2 ^ (37 * count)
below-count n zero entries h = sym (mod-one n)
below-count n (suc count) entries h =
    let k : 37 + 37 * count ≡ 37 * suc count = omega arith in
    let rest = below-count n count entries h in
    let split = mod-pow-add n 37 (37 * count) in
    (λ i. rest i + h count i * 2 ^ (37 * count)) ∙ add_comm (n % 2 ^ (37 * count)) (field_at n count * 2 ^ (37 * count))
    ∙ sym split ∙ ap (λ i. n % 2 ^ i) k

-- ways with nothing add nothing
no-more : (ways more : ℕ) (entries : ℕ → Entry) → ((w : ℕ) → ways ≤ w → field_of (entries w) ≡ 0)
    → number_below (ways + more) entries ≡ number_below ways entries
no-more ways zero entries h = ap (λ n. number_below n entries) (add-zero ways)
no-more ways (suc more) entries h =
    let e : ways + suc more ≡ suc (ways + more) = omega arith in
    ap (λ n. number_below n entries) e
    ∙ (λ i. no-more ways more entries h i + h (ways + more) (omega arith) i * 2 ^ (37 * (ways + more)))
    ∙ (omega arith)

-- a number is that of its entries
pub number-again : (k : Shape) (n : ℕ) (entries : ℕ → Entry) → k.ways ≤ 8 → n < 2 ^ 320
    → ((w : ℕ) → IsField k w (field_at n w))
    → ((w : ℕ) → entries w ≡ entry_in (field_at n w)) → number_below k.ways entries ≡ n
number-again k n entries few small fields same =
    let field = λ (w : ℕ). ap field_of (same w) ∙ field-again k w (field_at n w) (fields w) in
    let e : k.ways + (9 - k.ways) ≡ 9 = omega arith in
    sym (no-more k.ways (9 - k.ways) entries (λ w l. field w ∙ (fields w).there l)) ∙ ap (λ c. number_below c entries) e
    ∙ below-count n 9 entries field ∙ mod-eq_of_lt (omega arith)
