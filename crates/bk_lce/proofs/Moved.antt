-- The word of a recency list: at which place a way stands in it, and the word after the way came to the front.
use Rattle.std.proofs.Common.{◌≡◌, ℕ, suc, ◌+◌, ◌-◌, ◌*◌, ◌/◌, ◌%◌, ◌^◌, ◌<◌, ◌≤◌, ◌≢◌, not, ◌==◌, List, ◌∷◌, ◌++◌, length, filter, refl, sym, ap, subst, ◌∙◌, arith}
use Rattle.std.specs.List.{position_or_len}
use Rattle.std.proofs.lemmas.Bool.Decides.{nat_tests}
use Rattle.std.proofs.lemmas.List.Elements.{filter-append}
use Rattle.std.proofs.lemmas.Nat.{pow-add, pow_pos, pow_below, one_shl, shr_below, shr_split, shr_high, mod_below, mul-add-lt}
use Rattle.bk_lce.specs.CacheState.{to_front}
use Rattle.bk_lce.specs.Lists.{digits, times, IsListed}
use Rattle.bk_lce.specs.Policies.{age_in}
use Rattle.bk_lce.proofs.Packed.{unit_more, rest_more, length-digits, digits-split, digits-low, digits_around}
use Rattle.bk_lce.proofs.Recent.{times-append, times-to_front, without_absent, age-after}

-- ---- the search for a place

pub none_first : (w word : ℕ) → times w (digits 0 word) ≡ 0
unfolding digits times
none_first w word = refl

-- one digit more, which isn't the way
pub none_more : (i w word : ℕ) → times w (digits i word) ≡ 0 → word / 2 ^ (3 * i) % 8 ≢ w → times w (digits (i + 1) word) ≡ 0
unfolding digits times
none_more i w word h d =
    let parts = times-append w (digits i word) (digits 1 (word / 2 ^ (3 * i))) in
    rw (digits-split i 1 word) (grind (arith, nat_tests, parts, h, d))

-- the digit that is the way
age-is : (i w : ℕ) (xs : List ℕ) → position_or_len (λ v. v == w) xs ≡ i → i < length xs → i ≡ age_in xs w
age-is i w xs e l = grind (arith, nat_tests, e, l)

pub found_age : (n i w word : ℕ) → i < n → times w (digits i word) ≡ 0 → word / 2 ^ (3 * i) % 8 ≡ w
    → i ≡ age_in (digits n word) w
found_age n i w word l h e =
    let around : digits n word ≡ digits i word ++ (w ∷ digits (n - i - 1) (word / 2 ^ (3 * i) / 8)) =
    digits_around n i word l ∙ ap (λ v. digits i word ++ (v ∷ digits (n - i - 1) (word / 2 ^ (3 * i) / 8))) e in
    let at : position_or_len (λ v. v == w) (digits n word) ≡ i =
    ap (position_or_len (λ v. v == w)) around ∙ age-after w (digits i word) (digits (n - i - 1) (word / 2 ^ (3 * i) / 8)) h
    ∙ length-digits i word in
    age-is i w (digits n word) at (rw (length-digits n word) l)

-- ---- the word afterwards

-- the digits that stood before a place move up, and the way stands in front of them
abbrev pub moved : ℕ → ℕ → ℕ → ℕ
moved i w x = w + 8 * (x % 2 ^ (3 * i) + 2 ^ (3 * i) * (x / 2 ^ (3 * i) / 8))

whole : (word u : ℕ) → word / u * u + word % u ≡ word → word ≡ word % u + u * (word / u)
whole word u e = omega (arith, e)

turned : (b h u : ℕ) → b + u * h ≡ h * u + b
turned b h u = omega arith

front : (w q : ℕ) → w < 8 → ((w + 8 * q) % 8 ≡ w) × ((w + 8 * q) / 8 ≡ q)
front w q l = (omega arith, omega arith)

digits-before : (i word h : ℕ) → digits i (word % 2 ^ (3 * i) + 2 ^ (3 * i) * h) ≡ digits i word
digits-before i word h =
    digits-low i (word % 2 ^ (3 * i)) h ∙ sym (digits-low i (word % 2 ^ (3 * i)) (word / 2 ^ (3 * i)))
    ∙ ap (digits i) (sym (whole word (2 ^ (3 * i)) (shr_split word (3 * i))))

high : (i word h : ℕ) → (word % 2 ^ (3 * i) + 2 ^ (3 * i) * h) / 2 ^ (3 * i) ≡ h
high i word h =
    ap (λ y. y / 2 ^ (3 * i)) (turned (word % 2 ^ (3 * i)) h (2 ^ (3 * i)))
    ∙ shr_high h (3 * i) (word % 2 ^ (3 * i)) (mod_below word (2 ^ (3 * i)) (pow_pos (3 * i)))

pub digits-moved : (i rest w word : ℕ) → w < 8
    → digits (suc (i + rest)) (moved i w word) ≡ w ∷ (digits i word ++ digits rest (word / 2 ^ (3 * i) / 8))
unfolding digits
digits-moved i rest w word l =
    let h : ℕ = word / 2 ^ (3 * i) / 8 in
    let q : ℕ = word % 2 ^ (3 * i) + 2 ^ (3 * i) * h in
    let cut = front w q l in
    ap (λ v. v ∷ digits (i + rest) (moved i w word / 8)) cut.0
    ∙ ap (λ xs. w ∷ xs)
    (ap (digits (i + rest)) cut.1 ∙ digits-split i rest q
    ∙ ap (λ xs. xs ++ digits rest (q / 2 ^ (3 * i))) (digits-before i word h)
    ∙ ap (λ y. digits i word ++ digits rest y) (high i word h))

-- the list is the one with the way at its front, where that stood in it once
apart : (w : ℕ) (before after : List ℕ) → times w (before ++ w ∷ after) ≡ 1 → (times w before ≡ 0) × (times w after ≡ 0)
unfolding times
apart w before after h =
    let parts = times-append w before (w ∷ after) in
    (grind (arith, nat_tests, parts, h), grind (arith, nat_tests, parts, h))

to_front-around : (w : ℕ) (before after : List ℕ) → times w (before ++ w ∷ after) ≡ 1
    → to_front w (before ++ w ∷ after) ≡ w ∷ (before ++ after)
to_front-around w before after h =
    let gone = apart w before after h in
    let here : filter (λ v. not (v == w)) (w ∷ after) ≡ after = grind (arith, nat_tests, without_absent w after gone.1) in
    ap (λ xs. w ∷ xs)
    (filter-append (λ v. not (v == w)) before (w ∷ after)
    ∙ ap (λ xs. xs ++ filter (λ v. not (v == w)) (w ∷ after)) (without_absent w before gone.0)
    ∙ ap (λ xs. before ++ xs) here)

pub moved_list : (n i w word : ℕ) → i < n → w < 8 → times w (digits n word) ≡ 1 → word / 2 ^ (3 * i) % 8 ≡ w
    → digits n (moved i w word) ≡ to_front w (digits n word)
moved_list n i w word l k h e =
    let m : ℕ = n - i - 1 in
    let after : List ℕ = digits m (word / 2 ^ (3 * i) / 8) in
    let around : digits n word ≡ digits i word ++ (w ∷ after) =
    digits_around n i word l ∙ ap (λ v. digits i word ++ (v ∷ after)) e in
    let long : n ≡ suc (i + m) = omega arith in
    ap (λ j. digits j (moved i w word)) long ∙ digits-moved i m w word k
    ∙ sym (to_front-around w (digits i word) after (rw around at h))
    ∙ ap (to_front w) (sym around)

-- it has no more digits
eight : (w q p : ℕ) → w < 8 → q < p → w + 8 * q < 8 * p
eight w q p l k = omega arith

cut_below : (a b u v : ℕ) → a < u → b < v → a + u * b < u * v
cut_below a b u v l k = omega (arith, mul-add-lt b u a v k l)

size : (i rest : ℕ) → 2 ^ (3 * suc (i + rest)) ≡ 8 * (2 ^ (3 * i) * 2 ^ (3 * rest))
size i rest =
    let e : 3 * (i + rest) ≡ 3 * i + 3 * rest = omega arith in
    unit_more (i + rest) ∙ ap (λ u. 8 * u) (ap (λ j. 2 ^ j) e ∙ pow-add 2 (3 * i) (3 * rest))

pub moved_below : (n i w word : ℕ) → i < n → w < 8 → word < 2 ^ (3 * n) → moved i w word < 2 ^ (3 * n)
moved_below n i w word l k h =
    let m : ℕ = n - i - 1 in
    let long : n ≡ suc (i + m) = omega arith in
    let e : 3 * n ≡ 3 * m + 3 * (i + 1) = omega arith in
    let after : word / 2 ^ (3 * i) / 8 < 2 ^ (3 * m) =
    rw (rest_more word i) (shr_below word (3 * m) (3 * (i + 1)) (subst (λ j. word < 2 ^ j) e h)) in
    let before : word % 2 ^ (3 * i) < 2 ^ (3 * i) = mod_below word (2 ^ (3 * i)) (pow_pos (3 * i)) in
    subst (λ (b : ℕ). moved i w word < b) (sym (ap (λ j. 2 ^ (3 * j)) long ∙ size i m))
    (eight w (word % 2 ^ (3 * i) + 2 ^ (3 * i) * (word / 2 ^ (3 * i) / 8)) (2 ^ (3 * i) * 2 ^ (3 * m)) k
    (cut_below (word % 2 ^ (3 * i)) (word / 2 ^ (3 * i) / 8) (2 ^ (3 * i)) (2 ^ (3 * m)) before after))

pub moved_fits : (n i w word : ℕ) → i < n → w < 8 → n ≤ 8 → word < 2 ^ (3 * n) → moved i w word < 4294967296
moved_fits n i w word l k m h =
    let below = moved_below n i w word l k h in
    let few : 2 ^ (3 * n) < 2 ^ 32 = pow_below (3 * n) 32 (omega arith) in
    omega (arith, below, few)

-- the unit of a place, as it is computed
pub unit_is : (i : ℕ) → i < 8 → 1 * 2 ^ (3 * i) % 4294967296 ≡ 2 ^ (3 * i)
unit_is i l = one_shl (3 * i) 32 (omega arith)

pub moved_listed : (n i w word : ℕ) → i < n → w < n → n ≤ 8 → IsListed n word → word / 2 ^ (3 * i) % 8 ≡ w
    → IsListed n (moved i w word)
moved_listed n i w word l k m h e = record {
  once = λ v p. rw (moved_list n i w word l (omega arith) (h.once w k) e)
      (times-to_front w v (digits n word) (h.once w k) ∙ h.once v p);
  below = moved_below n i w word l (omega arith) h.below;
}
