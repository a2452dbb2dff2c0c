-- The five words of a segment, at the bits of each way.
use Rattle.std.proofs.Common.{◌≡◌, inl, inr, ℕ, zero, suc, ◌+◌, ◌-◌, ◌*◌, ◌/◌, ◌%◌, ◌^◌, ◌<◌, ◌≤◌, List, [], ◌∷◌, length, get_or, set, refl, ap, sym, ◌∙◌, subst, arith, lit<}
use Rattle.std.specs.Prelude.{bit_and, bit_or}
use Rattle.std.proofs.lemmas.Nat.{pow_pos, pow-add, mod-pow-add, and_mask, mul-mod_first, shl-shr, shr_below, div-add-mod'}
use Rattle.std.proofs.lemmas.Bool.{cases_eq}
use Rattle.std.specs.Int.Bits.{or_shifted_r}
use Rattle.std.proofs.Math.Nat.{pow-suc, mul_assoc, mul_comm, mul-mod_left, add-mul-div_right, add-mul-mod_self_right}
use Rattle.bk_dir.specs.Segments.{number_of, field_at, shift_of, word_at}

-- what holds of each number below eight holds of one below eight
each-way : (P : ℕ → Type 0) → P 0 → P 1 → P 2 → P 3 → P 4 → P 5 → P 6 → P 7 → (w : ℕ) → w < 8 → P w
each-way P p0 p1 p2 p3 p4 p5 p6 p7 w l =
    elim (cases_eq w 0) [
      | inl e ↦ subst P (sym e) p0
      | inr n0 ↦
          elim (cases_eq w 1) [
            | inl e ↦ subst P (sym e) p1
            | inr n1 ↦
                elim (cases_eq w 2) [
                  | inl e ↦ subst P (sym e) p2
                  | inr n2 ↦
                      elim (cases_eq w 3) [
                        | inl e ↦ subst P (sym e) p3
                        | inr n3 ↦
                            elim (cases_eq w 4) [
                              | inl e ↦ subst P (sym e) p4
                              | inr n4 ↦
                                  elim (cases_eq w 5) [
                                    | inl e ↦ subst P (sym e) p5
                                    | inr n5 ↦
                                        elim (cases_eq w 6) [
                                          | inl e ↦ subst P (sym e) p6
                                          | inr n6 ↦
                                              subst P (let e : 7 ≡ w = omega arith in e) p7
                                        ]
                                  ]
                            ]
                      ]
                ]
          ]
    ]

-- the bits of a word that is shifted up
shifted-high : (high j shift : ℕ) → shift + j ≡ 64 → high * 2 ^ shift % 2 ^ 64 ≡ high % 2 ^ j * 2 ^ shift
shifted-high high j shift e =
    let e' : j + shift ≡ 64 = omega arith in
    let none : high * 2 ^ shift % 2 ^ shift ≡ 0 = mul-mod_left high (2 ^ shift) in
    ap (λ n. high * 2 ^ shift % 2 ^ n) (sym e') ∙ mod-pow-add (high * 2 ^ shift) j shift
    ∙ ap (λ x. x % 2 ^ j * 2 ^ shift + high * 2 ^ shift % 2 ^ shift) (shl-shr high shift) ∙ rw none (omega arith)

-- what is above a bit of two words, but for what is above both
from-bit : (low high unit t : ℕ) → 0 < unit → t * unit ≡ 2 ^ 64 → (low + 2 ^ 64 * high) / unit % 2 ^ 37 ≡
    (high % unit * t + low / unit) % 2 ^ 37
from-bit low high unit t l e =
    let split : high / unit * unit + high % unit ≡ high = div-add-mod' high unit in
    let turned : low + 2 ^ 64 * high ≡ low + high * t * unit =
    ap (λ x. low + x * high) (sym e) ∙ omega arith in
    let spread : (high / unit * unit + high % unit) * t ≡ high / unit * (t * unit) + high % unit * t = omega arith in
    let parts : high * t ≡ high / unit * 2 ^ 64 + high % unit * t =
    ap (λ x. x * t) (sym split) ∙ spread ∙ ap (λ x. high / unit * x + high % unit * t) e in
    let sums : low / unit + (high / unit * 2 ^ 64 + high % unit * t) ≡ high % unit * t + low / unit + high / unit * 2 ^ 27 * 2
    ^ 37 = omega arith in
    ap (λ x. x / unit % 2 ^ 37) turned ∙ ap (λ x. x % 2 ^ 37) (add-mul-div_right low (high * t) l)
    ∙ ap (λ x. (low / unit + x) % 2 ^ 37) parts ∙ ap (λ x. x % 2 ^ 37) sums
    ∙ add-mul-mod_self_right (high % unit * t + low / unit) (high / unit * 2 ^ 27) (2 ^ 37)

-- the 37 bits from a bit on of two words
pub bits-part : (low high from : ℕ) → from < 64 → low < 2 ^ 64 → high < 2 ^ 64
    → bit_and (bit_or (low / 2 ^ from) ((high * 2 % 2 ^ 64) * 2 ^ (63 - from) % 2 ^ 64)) (2 ^ 37 - 1)
    ≡ (low + 2 ^ 64 * high) / 2 ^ from % 2 ^ 37
bits-part low high from l low-small high-small =
    let one-more : suc (63 - from) ≡ 64 - from = omega arith in
    let both : (64 - from) + from ≡ 64 = omega arith in
    let whole : 2 ^ (64 - from) * 2 ^ from ≡ 2 ^ 64 = sym (pow-add 2 (64 - from) from) ∙ ap (λ k. 2 ^ k) both in
    let step : high * 2 * 2 ^ (63 - from) ≡ high * 2 ^ (64 - from) =
    mul_assoc high 2 (2 ^ (63 - from))
    ∙ ap (λ x. high * x) (mul_comm 2 (2 ^ (63 - from)) ∙ sym (pow-suc 2 (63 - from)) ∙ ap (λ k. 2 ^ k) one-more) in
    let shifted : (high * 2 % 2 ^ 64) * 2 ^ (63 - from) % 2 ^ 64 ≡ high % 2 ^ from * 2 ^ (64 - from) =
    mul-mod_first (high * 2) (2 ^ (63 - from)) (2 ^ 64) ∙ ap (λ x. x % 2 ^ 64) step ∙ shifted-high high from (64 - from) both in
    let low-part : low / 2 ^ from < 2 ^ (64 - from) = shr_below low (64 - from) from (subst (λ k. low < 2 ^ k) (sym both) low-small) in
    let joined = or_shifted_r (high % 2 ^ from) (64 - from) (low / 2 ^ from) low-part in
    ap (λ x. bit_and (bit_or (low / 2 ^ from) x) (2 ^ 37 - 1)) shifted ∙ ap (λ x. bit_and x (2 ^ 37 - 1)) joined
    ∙ and_mask (high % 2 ^ from * 2 ^ (64 - from) + low / 2 ^ from) 37
    ∙ sym (from-bit low high (2 ^ from) (2 ^ (64 - from)) (pow_pos from) whole)

abbrev pub part : ℕ → ℕ → ℕ → ℕ
part low high from = (low + 2 ^ 64 * high) / 2 ^ from % 2 ^ 37

-- the two words once a field is written over the one that stands there
abbrev new-low : (low old field from : ℕ) → ℕ
new-low low old field from = low - old * 2 ^ from % 2 ^ 64 + field * 2 ^ from % 2 ^ 64

abbrev new-high : (high old field from : ℕ) → ℕ
new-high high old field from = high - old / 2 ^ (64 - from) + field / 2 ^ (64 - from)

-- there is room for it: no difference falls below 0, each sum fits, and the two words change by the field alone
pub record HasRoom (low high old field from : ℕ) : Type 0 where
  pub low-room : old * 2 ^ from % 2 ^ 64 ≤ low
  pub low-fits : new-low low old field from < 2 ^ 64
  pub high-room : old / 2 ^ (64 - from) ≤ high
  pub high-fits : new-high high old field from < 2 ^ 64
  pub sum : new-low low old field from + 2 ^ 64 * new-high high old field from + old * 2 ^ from
      ≡ low + 2 ^ 64 * high + field * 2 ^ from

abbrev HasRoomAt : (low high field : ℕ) → ℕ → Type 0
HasRoomAt low high field w = HasRoom low high (part low high (shift_of w)) field (shift_of w)

room-at : (low high field : ℕ) → low < 2 ^ 64 → high < 2 ^ 64 → field < 2 ^ 37 → (w : ℕ) → w < 8
    → HasRoomAt low high field w
room-at low high field ll lh lf =
    each-way (HasRoomAt low high field)
    (record { low-room = omega arith; low-fits = omega arith; high-room = omega arith; high-fits = omega arith; sum = omega arith })
    (record { low-room = omega arith; low-fits = omega arith; high-room = omega arith; high-fits = omega arith; sum = omega arith })
    (record { low-room = omega arith; low-fits = omega arith; high-room = omega arith; high-fits = omega arith; sum = omega arith })
    (record { low-room = omega arith; low-fits = omega arith; high-room = omega arith; high-fits = omega arith; sum = omega arith })
    (record { low-room = omega arith; low-fits = omega arith; high-room = omega arith; high-fits = omega arith; sum = omega arith })
    (record { low-room = omega arith; low-fits = omega arith; high-room = omega arith; high-fits = omega arith; sum = omega arith })
    (record { low-room = omega arith; low-fits = omega arith; high-room = omega arith; high-fits = omega arith; sum = omega arith })
    (record { low-room = omega arith; low-fits = omega arith; high-room = omega arith; high-fits = omega arith; sum = omega arith })

-- THE WORDS OF A SEGMENT

-- five words, one by one
abbrev pub words : (a b c d e : ℕ) → List ℕ
words a b c d e = a ∷ b ∷ c ∷ d ∷ e ∷ []

pub record IsWords (xs : List ℕ) : Type 0 where
  pub five : length xs ≡ 5
  pub small : (i : ℕ) → get_or xs i 0 < 2 ^ 64

-- what holds of five words holds of each segment
of-words : (P : List ℕ → Type 0)
    → ((a b c d e : ℕ) → a < 2 ^ 64 → b < 2 ^ 64 → c < 2 ^ 64 → d < 2 ^ 64 → e < 2 ^ 64 → P (words a b c d e))
    → (xs : List ℕ) → IsWords xs → P xs
of-words P h (a ∷ b ∷ c ∷ d ∷ e ∷ []) p = h a b c d e (p.small 0) (p.small 1) (p.small 2) (p.small 3) (p.small 4)
of-words P h [] p = absurd (omega (arith, p.five))
of-words P h (a ∷ []) p = absurd (omega (arith, p.five))
of-words P h (a ∷ b ∷ []) p = absurd (omega (arith, p.five))
of-words P h (a ∷ b ∷ c ∷ []) p = absurd (omega (arith, p.five))
of-words P h (a ∷ b ∷ c ∷ d ∷ []) p = absurd (omega (arith, p.five))
of-words P h (a ∷ b ∷ c ∷ d ∷ e ∷ f ∷ xs) p = absurd (omega (arith, p.five))

abbrev pub first-place : ℕ → ℕ
first-place w = w * 37 / 64

abbrev pub next-place : ℕ → ℕ
next-place w = (w * 37 + 36) / 64

-- the bits of a way, from the two words that they may stand in
abbrev ReadsAt : List ℕ → ℕ → Type 0
ReadsAt xs w = part (get_or xs (first-place w) 0) (get_or xs (next-place w) 0) (shift_of w) ≡ field_at (number_of xs) w

reads-five : (w : ℕ) → w < 8 → (a b c d e : ℕ) → a < 2 ^ 64 → b < 2 ^ 64 → c < 2 ^ 64 → d < 2 ^ 64 → e < 2 ^ 64
    → ReadsAt (words a b c d e) w
reads-five w l a b c d e la lb lc ld le =
    each-way (ReadsAt (words a b c d e)) (omega arith) (omega arith) (omega arith) (omega arith) (omega arith) (omega arith)
    (omega arith) (omega arith) w l

pub reads : (xs : List ℕ) (w : ℕ) → IsWords xs → w < 8 → ReadsAt xs w
reads xs w p l = of-words (λ ys. ReadsAt ys w) (reads-five w l) xs p

-- the words once a field is written
abbrev written : List ℕ → (low high : ℕ) → ℕ → List ℕ
written xs low high w = set (set xs (next-place w) high) (first-place w) low

abbrev WritesAt : List ℕ → ℕ → ℕ → Type 0
WritesAt xs field w =
    let low = get_or xs (first-place w) 0 in
    let high = get_or xs (next-place w) 0 in
    let old = part low high (shift_of w) in
    number_of (written xs (new-low low old field (shift_of w)) (new-high high old field (shift_of w)) w) + old * 2 ^ (37 * w)
    ≡ number_of xs + field * 2 ^ (37 * w)

writes-five : (field w : ℕ) → field < 2 ^ 37 → w < 8 → (a b c d e : ℕ) → a < 2 ^ 64 → b < 2 ^ 64 → c < 2 ^ 64 → d < 2 ^ 64
    → e < 2 ^ 64 → WritesAt (words a b c d e) field w
writes-five field w lf l a b c d e la lb lc ld le =
    let r0 = (room-at a a field la la lf 0 (lit< tt)).sum in
    let r1 = (room-at a b field la lb lf 1 (lit< tt)).sum in
    let r2 = (room-at b b field lb lb lf 2 (lit< tt)).sum in
    let r3 = (room-at b c field lb lc lf 3 (lit< tt)).sum in
    let r4 = (room-at c c field lc lc lf 4 (lit< tt)).sum in
    let r5 = (room-at c d field lc ld lf 5 (lit< tt)).sum in
    let r6 = (room-at d e field ld le lf 6 (lit< tt)).sum in
    let r7 = (room-at e e field le le lf 7 (lit< tt)).sum in
    each-way (WritesAt (words a b c d e) field) (omega (arith, r0)) (omega (arith, r1)) (omega (arith, r2)) (omega (arith, r3))
    (omega (arith, r4)) (omega (arith, r5)) (omega (arith, r6)) (omega (arith, r7)) w l

writes : (xs : List ℕ) (field w : ℕ) → IsWords xs → field < 2 ^ 37 → w < 8 → WritesAt xs field w
writes xs field w p lf l = of-words (λ ys. WritesAt ys field w) (writes-five field w lf l) xs p

-- what the body of `write_field` owes, of what it takes from each word and adds to it
pub record IsWritten (xs : List ℕ) (field w place next above above-new below below-new : ℕ) : Type 0 where
  pub high-room : above ≤ get_or xs next 0
  pub high-fits : get_or xs next 0 - above + above-new < 2 ^ 64
  pub low-room : below ≤ get_or xs place 0
  pub low-fits : get_or xs place 0 - below + below-new < 2 ^ 64
  pub number : number_of (set (set xs next (get_or xs next 0 - above + above-new)) place (get_or xs place 0 - below + below-new))
      + field_at (number_of xs) w * 2 ^ (37 * w)
      ≡ number_of xs + field * 2 ^ (37 * w)

written-plain : (xs : List ℕ) (field w old : ℕ) → IsWords xs → field < 2 ^ 37 → w < 8
    → old ≡ part (get_or xs (first-place w) 0) (get_or xs (next-place w) 0) (shift_of w)
    → IsWritten xs field w (first-place w) (next-place w) (old / 2 ^ (64 - shift_of w)) (field / 2 ^ (64 - shift_of w))
    (old * 2 ^ shift_of w % 2 ^ 64) (field * 2 ^ shift_of w % 2 ^ 64)
written-plain xs field w old p lf l e =
    let low = get_or xs (first-place w) 0 in
    let high = get_or xs (next-place w) 0 in
    let room = room-at low high field (p.small (first-place w)) (p.small (next-place w)) lf w l in
    let same = reads xs w p l in
    let change = writes xs field w p lf l in
    rw e (record {
      high-room = room.high-room;
      high-fits = room.high-fits;
      low-room = room.low-room;
      low-fits = room.low-fits;
      number = rw (← same) change;
    })

pub is-written : (xs : List ℕ) (field w place next from old above above-new below below-new : ℕ) → IsWords xs → field < 2 ^ 37
    → w < 8 → place ≡ first-place w → next ≡ next-place w → from ≡ shift_of w
    → old ≡ part (get_or xs place 0) (get_or xs next 0) from → above ≡ old / 2 ^ (64 - from)
    → above-new ≡ field / 2 ^ (64 - from)
    → below ≡ old * 2 ^ from % 2 ^ 64 → below-new ≡ field * 2 ^ from % 2 ^ 64
    → IsWritten xs field w place next above above-new below below-new
is-written xs field w place next from old above above-new below below-new p lf l ep en ef eo ea ean eb ebn =
    let eo' : old ≡ part (get_or xs (first-place w) 0) (get_or xs (next-place w) 0) (shift_of w) =
    eo ∙ (λ i. part (get_or xs (ep i) 0) (get_or xs (en i) 0) (ef i)) in
    let plain = written-plain xs field w old p lf l eo' in
    rw (ea, ean, eb, ebn, ep, en, ef) plain

-- THE NUMBER OF THE WORDS

abbrev pub OfNumber : List ℕ → Type 0
OfNumber xs =
    xs ≡ word_at (number_of xs) 0 ∷ word_at (number_of xs) 1 ∷ word_at (number_of xs) 2 ∷ word_at (number_of xs) 3
    ∷ word_at (number_of xs) 4 ∷ []

of-number-five : (a b c d e : ℕ) → a < 2 ^ 64 → b < 2 ^ 64 → c < 2 ^ 64 → d < 2 ^ 64 → e < 2 ^ 64 → OfNumber (words a b c d e)
of-number-five a b c d e la lb lc ld le =
    let n = number_of (words a b c d e) in
    let first : a ≡ word_at n 0 = omega arith in
    let second : b ≡ word_at n 1 = omega arith in
    let third : c ≡ word_at n 2 = omega arith in
    let fourth : d ≡ word_at n 3 = omega arith in
    let fifth : e ≡ word_at n 4 = omega arith in
    λ i. first i ∷ second i ∷ third i ∷ fourth i ∷ fifth i ∷ []

pub of-number : (xs : List ℕ) → IsWords xs → OfNumber xs
of-number = of-words OfNumber of-number-five

pub number-small : (xs : List ℕ) → IsWords xs → number_of xs < 2 ^ 320
number-small = of-words (λ xs. number_of xs < 2 ^ 320) (λ a b c d e la lb lc ld le. omega arith)

-- five words, each read
abbrev pub Whole : List ℕ → Type 0
Whole xs = get_or xs 0 0 ∷ get_or xs 1 0 ∷ get_or xs 2 0 ∷ get_or xs 3 0 ∷ get_or xs 4 0 ∷ [] ≡ xs

pub whole : (xs : List ℕ) → length xs ≡ 5 → Whole xs
whole (a ∷ b ∷ c ∷ d ∷ e ∷ []) five = refl
whole [] five = absurd (omega (arith, five))
whole (a ∷ []) five = absurd (omega (arith, five))
whole (a ∷ b ∷ []) five = absurd (omega (arith, five))
whole (a ∷ b ∷ c ∷ []) five = absurd (omega (arith, five))
whole (a ∷ b ∷ c ∷ d ∷ []) five = absurd (omega (arith, five))
whole (a ∷ b ∷ c ∷ d ∷ e ∷ f ∷ xs) five = absurd (omega (arith, five))

pub words-small : (a b c d e : ℕ) → a < 2 ^ 64 → b < 2 ^ 64 → c < 2 ^ 64 → d < 2 ^ 64 → e < 2 ^ 64 → (i : ℕ)
    → get_or (words a b c d e) i 0 < 2 ^ 64
words-small a b c d e la lb lc ld le zero = la
words-small a b c d e la lb lc ld le (suc zero) = lb
words-small a b c d e la lb lc ld le (suc (suc zero)) = lc
words-small a b c d e la lb lc ld le (suc (suc (suc zero))) = ld
words-small a b c d e la lb lc ld le (suc (suc (suc (suc zero)))) = le
words-small a b c d e la lb lc ld le (suc (suc (suc (suc (suc i))))) = lit< tt

pub five-zeros : (xs : List ℕ) → length xs ≡ 5
    → ((i : ℕ) → i < 5 → get_or xs i 0 ≡ get_or (0 ∷ 0 ∷ 0 ∷ 0 ∷ 0 ∷ []) i 0)
    → xs ≡ 0 ∷ 0 ∷ 0 ∷ 0 ∷ 0 ∷ []
five-zeros (a ∷ b ∷ c ∷ d ∷ e ∷ []) five h =
    λ i. h 0 (lit< tt) i ∷ h 1 (lit< tt) i ∷ h 2 (lit< tt) i ∷ h 3 (lit< tt) i ∷ h 4 (lit< tt) i ∷ []
five-zeros [] five h = absurd (omega (arith, five))
five-zeros (a ∷ []) five h = absurd (omega (arith, five))
five-zeros (a ∷ b ∷ []) five h = absurd (omega (arith, five))
five-zeros (a ∷ b ∷ c ∷ []) five h = absurd (omega (arith, five))
five-zeros (a ∷ b ∷ c ∷ d ∷ []) five h = absurd (omega (arith, five))
five-zeros (a ∷ b ∷ c ∷ d ∷ e ∷ f ∷ xs) five h = absurd (omega (arith, five))
