-- What a directory keeps, as the functions that it stands for.
use Rattle.std.proofs.Common.{◌≡◌, ◌≢◌, inl, inr, ℕ, zero, suc, ◌+◌, ◌*◌, ◌/◌, ◌%◌, ◌^◌, ◌<◌, ◌≤◌, List, [], ◌∷◌, Bool, true, false, cond, eqb, refl, ap, sym, ◌∙◌, subst, get_or, set, length, arith, get_or-set_other, get_or-set_same, lit<}
use Rattle.std.specs.Prelude.{IsTrue, replicate, bit_and, bit_or, ◌==◌, if◌then◌else◌}
use Rattle.std.specs.Int.{bit_not, w64}
use Rattle.std.proofs.Math.Nat.{zero-div, mod-one, mod-eq_of_lt, add_comm, pow-le-pow_right}
use Rattle.std.proofs.lemmas.Nat.{one_shl, or_lt, pow_below, and_le_l, mod-pow-add, mod_below}
use Rattle.std.proofs.lemmas.Nat.Bits.{bit_at_set_same, bit_at_set_other, bit_at_clear_same, bit_at_clear_other, bit_at_above}
use Rattle.std.proofs.lemmas.Bool.{cases_eq, cases_lt, eq-eqb, ne_eqb}
use Rattle.std.proofs.lemmas.Bool.Decides.{nat_tests}
use Rattle.std.proofs.lemmas.List.{get_or_read_under}
use mathlib.Core.Path.{fun_ext}
use Rattle.bk_base.specs.Tables.{put}
use Rattle.bk_base.specs.Places.{Shape, InProfile, is_cache_count, is_way_count, is_set_count, tag_limit}
use Rattle.bk_base.specs.declared.config.TheConstants.{MOST_CACHES}
use Rattle.bk_dir.specs.declared.entry.Entry.{Entry}
use Rattle.bk_dir.specs.Contents.{empty_entry}
use Rattle.bk_dir.specs.Segments.{number_of, field_at, field_of, entry_in, word_at, segment_of, IsField}
use Rattle.bk_dir.specs.Lists.{place_of, field_in, entries_of, bits_of, AreFields}
use Rattle.bk_dir.specs.Summaries.{bits_below, has_bit}
use Rattle.bk_dir.proofs.Fields.{field-written, entry-again, field-of-entry, no-field, field-zero, number-again}
use Rattle.bk_dir.proofs.Words.{IsWords, of-number, number-small}

-- the entry in a field
pub entries_of-at : (xs : List (List ℕ)) (c g w : ℕ) → c < MOST_CACHES → entries_of xs c g w ≡ entry_in (field_in xs (place_of c g) w)
unfolding entries_of
entries_of-at xs c g w l = grind (arith, nat_tests)

entries_of-off : (xs : List (List ℕ)) (c g w : ℕ) → MOST_CACHES ≤ c → entries_of xs c g w ≡ empty_entry
unfolding entries_of
entries_of-off xs c g w l = grind (arith, nat_tests)

-- the field that is read of a segment that the list has
pub field-read : (xs : List (List ℕ)) (c g w place : ℕ) (words : List ℕ) (field : ℕ) → place < length xs
    → place ≡ place_of c g
    → words ≡ get_or xs place words → field ≡ field_at (number_of words) w → field ≡ field_in xs (place_of c g) w
field-read xs c g w place words field l e read f =
    let there : words ≡ get_or xs place [] = get_or_read_under xs place (length xs) words [] read l refl in
    f ∙ ap (λ ys. field_at (number_of ys) w) (there ∙ ap (λ i. get_or xs i []) e)

-- what is owed of a segment that is written: one field changes, to that of an entry
pub record IsOver (old new : List ℕ) (w : ℕ) (x : Entry) : Type 0 where
  pub number : number_of new + field_at (number_of old) w * 2 ^ (37 * w) ≡ number_of old + field_of x * 2 ^ (37 * w)
  pub small : field_of x < 2 ^ 37

pub over-read : (xs : List (List ℕ)) (c g w place : ℕ) (words : List ℕ) (field : ℕ) (x : Entry) (new : List ℕ)
    → place < length xs
    → place ≡ place_of c g → words ≡ get_or xs place words → field ≡ field_of x → field < 2 ^ 37
    → number_of new + field_at (number_of words) w * 2 ^ (37 * w) ≡ number_of words + field * 2 ^ (37 * w)
    → IsOver (get_or xs (place_of c g) []) new w x
over-read xs c g w place words field x new l e read f small change =
    let there : words ≡ get_or xs (place_of c g) [] =
    get_or_read_under xs place (length xs) words [] read l refl ∙ ap (λ i. get_or xs i []) e in
    record {
      number =
          (λ i. number_of new + field_at (number_of (sym there i)) w * 2 ^ (37 * w)) ∙ change
          ∙ (λ i. number_of (there i) + f i * 2 ^ (37 * w));
      small = rw (← f) small;
    }

-- the fields once a segment is written
fields-set : (xs : List (List ℕ)) (i w : ℕ) (x : Entry) (new : List ℕ) (j v : ℕ) → i < length xs
    → IsOver (get_or xs i []) new w x
    → field_in (set xs i new) j v ≡ cond (eqb j i) (cond (eqb v w) (field_of x) (field_in xs j v)) (field_in xs j v)
fields-set xs i w x new j v l over =
    elim (cases_eq j i) [
      | inl same ↦
          let at : get_or (set xs i new) j [] ≡ new = grind (arith, nat_tests, get_or-set_same) in
          let here : get_or xs j [] ≡ get_or xs i [] = ap (λ k. get_or xs k []) same in
          let written = field-written (number_of (get_or xs i [])) (number_of new) (field_of x) w v over.number over.small in
          ap (λ ys. field_at (number_of ys) v) at ∙ written
          ∙ ap (λ ys. cond (eqb v w) (field_of x) (field_at (number_of ys) v)) (sym here) ∙ rw (eq-eqb j i same) refl
      | inr differ ↦
          let at : get_or (set xs i new) j [] ≡ get_or xs j [] = grind (arith, nat_tests, get_or-set_other) in
          ap (λ ys. field_at (number_of ys) v) at ∙ rw (ne_eqb j i differ) refl
    ]

written-one : (b : Bool) (x : Entry) (field : ℕ) (old : Entry) → entry_in (field_of x) ≡ x → old ≡ entry_in field
    → entry_in (cond b (field_of x) field) ≡ cond b x old
written-one true x field old again there = again
written-one false x field old again there = sym there

-- the entry in the field, of which no other place has one
chosen : (xs : List (List ℕ)) (c g w : ℕ) (x : Entry) (c' g' w' : ℕ) → c < MOST_CACHES → c' < MOST_CACHES
    → entry_in (cond (eqb (place_of c' g') (place_of c g)) (cond (eqb w' w) (field_of x) (field_in xs (place_of c' g') w'))
    (field_in xs (place_of c' g') w'))
    ≡ cond (eqb c' c) (cond (eqb g' g) (cond (eqb w' w) x (entries_of xs c g w')) (entries_of xs c g' w')) (entries_of xs c' g' w')
chosen xs c g w x c' g' w' lc less =
    let again = entry-again x in
    let there = entries_of-at xs c' g' w' less in
    elim (cases_eq c' c) [
      | inl same ↦
          elim (cases_eq g' g) [
            | inl same' ↦
                let one : place_of c' g' ≡ place_of c g = omega arith in
                rw (eq-eqb c' c same, eq-eqb g' g same', eq-eqb (place_of c' g') (place_of c g) one)
                (written-one (eqb w' w) x (field_in xs (place_of c' g') w') (entries_of xs c g w') again
                ((λ i. entries_of xs (sym same i) (sym same' i) w') ∙ there))
            | inr differ' ↦
                let two : place_of c' g' ≢ place_of c g = omega arith in
                rw (eq-eqb c' c same, ne_eqb g' g differ', ne_eqb (place_of c' g') (place_of c g) two)
                (sym ((λ i. entries_of xs (sym same i) g' w') ∙ there))
          ]
      | inr differ ↦
          let two : place_of c' g' ≢ place_of c g = omega arith in
          rw (ne_eqb c' c differ, ne_eqb (place_of c' g') (place_of c g) two) (sym there)
    ]

-- one field of the segments written is one entry of the function written: no other segment has its place
written-at : (xs : List (List ℕ)) (c g w : ℕ) (x : Entry) (new : List ℕ) (c' g' w' : ℕ) → c < MOST_CACHES → place_of c g < length xs
    → IsOver (get_or xs (place_of c g) []) new w x
    → entries_of (set xs (place_of c g) new) c' g' w'
    ≡ cond (eqb c' c) (cond (eqb g' g) (cond (eqb w' w) x (entries_of xs c g w')) (entries_of xs c g' w')) (entries_of xs c' g' w')
written-at xs c g w x new c' g' w' lc l over =
    elim (cases_lt c' MOST_CACHES) [
      | inl less ↦
          let fields = fields-set xs (place_of c g) w x new (place_of c' g') w' l over in
          entries_of-at (set xs (place_of c g) new) c' g' w' less ∙ ap entry_in fields ∙ chosen xs c g w x c' g' w' lc less
      | inr more ↦
          let differ : c' ≢ c = omega arith in
          entries_of-off (set xs (place_of c g) new) c' g' w' more ∙ sym (entries_of-off xs c' g' w' more)
          ∙ rw (ne_eqb c' c differ) refl
    ]

written-way : (f : ℕ → ℕ → ℕ → Entry) (c set w : ℕ) (x : Entry) (c' s' w' : ℕ)
    → cond (eqb c' c) (cond (eqb s' set) (cond (eqb w' w) x (f c set w')) (f c s' w')) (f c' s' w')
    ≡ put f c (put (f c) set (put (f c set) w x)) c' s' w'
unfolding put
written-way f c s w x c' s' w' =
    elim (cases_eq c' c) [
      | inl e ↦ elim (cases_eq s' s) [ inl e' ↦ grind (arith, nat_tests) | inr n' ↦ grind (arith, nat_tests) ]
      | inr n ↦ grind (arith, nat_tests)
    ]

pub entries_of-set : (xs : List (List ℕ)) (c g w : ℕ) (x : Entry) (new : List ℕ) → c < MOST_CACHES → place_of c g < length xs
    → IsOver (get_or xs (place_of c g) []) new w x
    → entries_of (set xs (place_of c g) new) ≡ put (entries_of xs) c (put (entries_of xs c) g (put (entries_of xs c g) w x))
entries_of-set xs c g w x new lc l over =
    fun_ext (λ c'. fun_ext (λ g'. fun_ext (λ w'. written-at xs c g w x new c' g' w' lc l over
    ∙ written-way (entries_of xs) c g w x c' g' w')))

-- and each field is still one that its way may have
pub fields_of-set : (k : Shape) (xs : List (List ℕ)) (i w : ℕ) (x : Entry) (new : List ℕ) → i < length xs
    → IsOver (get_or xs i []) new w x → x.tag < tag_limit k → w < k.ways → AreFields k xs → AreFields k (set xs i new)
fields_of-set k xs i w x new l over lt lw fields j v =
    let ours = field-of-entry k w x lt lw in
    subst (λ f. IsField k v f) (sym (fields-set xs i w x new j v l over))
    (elim (cases_eq j i) [
      | inl same ↦
          rw (eq-eqb j i same)
          (elim (cases_eq v w) [
            | inl same' ↦ rw (eq-eqb v w same') (subst (λ u. IsField k u (field_of x)) (sym same') ours)
            | inr differ' ↦ rw (ne_eqb v w differ') (fields j v)
          ])
      | inr differ ↦ rw (ne_eqb j i differ) (fields j v)
    ])

-- there are at most sixteen caches, and eight ways
cache_count : (n : ℕ) → IsTrue (is_cache_count n) → n ≤ 16
cache_count n h = grind (arith, nat_tests)

pub few_caches : (k : Shape) → InProfile k → k.caches ≤ MOST_CACHES
few_caches k h = cache_count k.caches h.caches

way_count : (n : ℕ) → IsTrue (is_way_count n) → n ≤ 8
way_count n h = grind (arith, nat_tests)

pub few_ways : (k : Shape) → InProfile k → k.ways ≤ 8
few_ways k h = way_count k.ways h.ways

set_count : (n : ℕ) → IsTrue (is_set_count n) → n ≤ 64
set_count n h = grind (arith, nat_tests)

pub few_sets : (k : Shape) → InProfile k → k.sets ≤ 64
few_sets k h = set_count k.sets h.sets

-- THE WORDS

-- the words of a segment are those of its entries
pub words-again : (k : Shape) (xs : List (List ℕ)) (c g place : ℕ) (words : List ℕ) → place < length xs → place ≡ place_of c g
    → words ≡ get_or xs place words → IsWords words → k.ways ≤ 8 → c < MOST_CACHES → AreFields k xs
    → words ≡ segment_of k.ways (entries_of xs c g)
words-again k xs c g place words l e read p few lc fields =
    let there : get_or xs (place_of c g) [] ≡ words =
    sym (get_or_read_under xs place (length xs) words [] read l refl ∙ ap (λ i. get_or xs i []) e) in
    let number = number-again k (number_of words) (entries_of xs c g) few (number-small words p)
    (λ w. subst (λ ys. IsField k w (field_at (number_of ys) w)) there (fields (place_of c g) w))
    (λ w. entries_of-at xs c g w lc ∙ ap (λ ys. entry_in (field_at (number_of ys) w)) there) in
    of-number words p ∙ (λ i. word_at (sym number i) 0 ∷ word_at (sym number i) 1 ∷ word_at (sym number i) 2
    ∷ word_at (sym number i) 3 ∷ word_at (sym number i) 4 ∷ [])

-- A NEW DIRECTORY

-- no word of it has a bit
pub none-in : (n i : ℕ) (words : List ℕ) → number_of words ≡ 0 → number_of (get_or (replicate n words) i []) ≡ 0
none-in zero i words h = refl
none-in (suc n) zero words h = h
none-in (suc n) (suc i) words h = none-in n i words h

no-field-in : (n i w : ℕ) (words : List ℕ) → number_of words ≡ 0 → field_in (replicate n words) i w ≡ 0
no-field-in n i w words h = ap (λ x. field_at x w) (none-in n i words h) ∙ field-zero w

pub entries_of-same : (n : ℕ) (words : List ℕ) → number_of words ≡ 0 → entries_of (replicate n words) ≡ λ c s w. empty_entry
entries_of-same n words h = fun_ext (λ c. fun_ext (λ s. fun_ext (λ w. elim (cases_lt c MOST_CACHES) [
  | inl less ↦ entries_of-at (replicate n words) c s w less ∙ ap entry_in (no-field-in n (place_of c s) w words h)
  | inr more ↦ entries_of-off (replicate n words) c s w more
])))

pub fields_of-same : (k : Shape) (n : ℕ) (words : List ℕ) → InProfile k → number_of words ≡ 0 → AreFields k (replicate n words)
fields_of-same k n words p h i w = subst (λ f. IsField k w f) (sym (no-field-in n i w words h)) (no-field k w p)

pub bits_of-none : bits_of 0 ≡ λ g. false
unfolding bits_of
bits_of-none = fun_ext (λ g. ap (λ x. x % 2 == 1) (zero-div (2 ^ g)))

-- THE PENDING BITS

pub bits_of-on : (n i : ℕ) → i < 64 → bits_of (bit_or n (1 * 2 ^ i % 2 ^ 64)) ≡ put (bits_of n) i true
unfolding put bits_of
bits_of-on n i l = fun_ext (λ g. elim (cases_eq g i) [
  | inl same ↦
      ap (λ k. has_bit (bit_or n (1 * 2 ^ i % 2 ^ 64)) k) same ∙ ap (λ x. x == 1) (bit_at_set_same w64 n i l)
      ∙ rw (eq-eqb g i same) refl
  | inr differ ↦ ap (λ x. x == 1) (bit_at_set_other w64 n i l g differ) ∙ rw (ne_eqb g i differ) refl
])

-- no bit stands above the last
bit-above : (n g : ℕ) → n < 2 ^ 64 → 64 ≤ g → has_bit n g ≡ false
bit-above n g small l = ap (λ x. x == 1) (bit_at_above n 64 g small l)

pub bits_of-off : (n i : ℕ) → i < 64 → n < 2 ^ 64
    → bits_of (bit_and n (bit_not w64 (1 * 2 ^ i % 2 ^ 64))) ≡ put (bits_of n) i false
unfolding put bits_of
bits_of-off n i l small = fun_ext (λ g. elim (cases_eq g i) [
  | inl same ↦
      ap (λ k. has_bit (bit_and n (bit_not w64 (1 * 2 ^ i % 2 ^ 64))) k) same ∙ ap (λ x. x == 1) (bit_at_clear_same w64 n i l)
      ∙ rw (eq-eqb g i same) refl
  | inr differ ↦ rw (ne_eqb g i differ) (elim (cases_lt g 64) [
    | inl less ↦ ap (λ x. x == 1) (bit_at_clear_other w64 n i l g less differ)
    | inr more ↦
        let le = and_le_l n (bit_not w64 (1 * 2 ^ i % 2 ^ 64)) in
        bit-above (bit_and n (bit_not w64 (1 * 2 ^ i % 2 ^ 64))) g (omega (arith, le)) more ∙ sym (bit-above n g small more)
  ])
])

pub on-small : (n i count : ℕ) → i < count → count ≤ 64 → n < 2 ^ count → bit_or n (1 * 2 ^ i % 2 ^ 64) < 2 ^ count
on-small n i count l few small =
    let one = one_shl i 64 (omega arith) in
    or_lt count n (1 * 2 ^ i % 2 ^ 64) small (rw one (pow_below i count l))

-- a word has 64 bits
pub word-small : (n count : ℕ) → count ≤ 64 → n < 2 ^ count → n < 2 ^ 64
word-small n count few small = let wider = pow-le-pow_right {n = 2} (lit< tt) {i = count} {j = 64} few in omega (arith, wider)

pub off-small : (n mask count : ℕ) → n < 2 ^ count → bit_and n mask < 2 ^ count
off-small n mask count small = let le = and_le_l n mask in omega (arith, le)

one-bit : (bit unit : ℕ) → bit < 2 → (if bit == 1 then unit else 0) ≡ bit * unit
one-bit bit unit l =
    elim (cases_eq bit 1) [
      | inl one ↦ rw (eq-eqb bit 1 one) (sym (ap (λ b. b * unit) one ∙ omega arith))
      | inr other ↦ rw (ne_eqb bit 1 other) (let none : bit ≡ 0 = omega arith in sym (ap (λ b. b * unit) none ∙ omega arith))
    ]

-- a word is its bits
bits-below : (n count : ℕ) → bits_below count (bits_of n) ≡ n % 2 ^ count
unfolding bits_of
bits-below n zero = sym (mod-one n)
bits-below n (suc count) =
    let k : 1 + count ≡ suc count = omega arith in
    ap (λ x. x + (if has_bit n count then 2 ^ count else 0)) (bits-below n count)
    ∙ ap (λ x. n % 2 ^ count + x) (one-bit (n / 2 ^ count % 2) (2 ^ count) (mod_below (n / 2 ^ count) 2 (lit< tt)))
    ∙ add_comm (n % 2 ^ count) (n / 2 ^ count % 2 * 2 ^ count) ∙ sym (mod-pow-add n 1 count) ∙ ap (λ i. n % 2 ^ i) k

pub word-again : (n count : ℕ) → n < 2 ^ count → n ≡ bits_below count (bits_of n)
word-again n count l = sym (bits-below n count ∙ mod-eq_of_lt l)
