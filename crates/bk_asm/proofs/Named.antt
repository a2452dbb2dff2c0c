-- Names and the pieces of a word.
use Rattle.std.proofs.Common.{◌≡◌, ℕ, Bool, true, false, cond, not, inl, inr, ◌&&◌, ◌||◌, ◌==◌, ◌<◌, ◌≤◌, ◌+◌, ◌^◌, List, [], ◌∷◌, length, take, drop, take_all, refl, sym, ap, ◌∙◌, arith}
use Rattle.std.specs.Prelude.{Option, Some, None, IfSome, nat_lt, bit_or, option_and_then}
use Rattle.std.specs.List.{slice_split, before_first, after_first, position_or_len}
use Rattle.std.specs.Str.{bytes_eq}
use Rattle.std.proofs.lemmas.Bool.Decides.{nat_tests}
use Rattle.std.proofs.lemmas.List.Splits.{slice_split_first, slice_split_none, length-slice_split}
use Rattle.std.proofs.lemmas.Nat.{or_lt, le_or_l, le_or_r, pow_pos}
use Rattle.std.proofs.lemmas.Option.{option_and_then_some}
use Rattle.std.proofs.lemmas.Bool.{eqb-true, and_parts}
use Rattle.bk_text.proofs.LineWords.{tested}
use Rattle.std.proofs.Math.Pow.{pow-lt}
use Rattle.std.proofs.lemmas.List.Sums.{fails_before_first, prefix_len-le-length}
use Rattle.bk_asm.specs.Names.{Naming, named, set_with, all_below, has_value, joined, cut_at}

below_step : (number : ℕ) (b : Bool) (v : ℕ) (o : Option ℕ) → v < number → IfSome o (λ v. v < number)
    → IfSome (cond b (Some v) o) (λ v. v < number)
below_step number true v o h r = h
below_step number false v o h r = r

pub named_below : (number : ℕ) (names : List Naming) (word : List ℕ) → all_below number names ≡ true
    → IfSome (named names word) (λ v. v < number)
named_below number [] word e = tt
named_below number (name ∷ more) word e =
    let lt : name.1 < number = grind (arith, nat_tests, e) in
    let rest : all_below number more ≡ true = grind (arith, nat_tests, e) in
    below_step number (bytes_eq name.0 word) name.1 (named more word) lt (named_below number more word rest)

abbrev pub pieces : ℕ → Option (List ℕ) → List (List ℕ)
pieces separator None = []
pieces separator (Some word) = slice_split (λ b. b == separator) word

abbrev pub left_len : Option (List ℕ) → ℕ
left_len None = 0
left_len (Some word) = length word + 1

whole : (separator : ℕ) (word : List ℕ) → position_or_len (λ b. b == separator) word ≡ length word
    → before_first (λ b. b == separator) word ≡ word
whole separator word e = rw e (take_all (length word) word (omega arith))

pieces_by : (separator : ℕ) (word : List ℕ) (test : Bool)
    → nat_lt (position_or_len (λ b. b == separator) word) (length word) ≡ test
    → slice_split (λ b. b == separator) word ≡ before_first (λ b. b == separator) word
    ∷ pieces separator (cond test (Some (after_first (λ b. b == separator) word)) None)
pieces_by separator word true e = slice_split_first (λ b. b == separator) word 0 (grind (arith, nat_tests, e))
pieces_by separator word false e =
    let within = prefix_len-le-length (λ b. not (b == separator)) word in
    let end : position_or_len (λ b. b == separator) word ≡ length word = grind (arith, nat_tests, e, within) in
    slice_split_none (λ b. b == separator) word (λ k d l. fails_before_first (λ b. b == separator) word k d (omega arith))
    ∙ ap (λ w. w ∷ []) (sym (whole separator word end))

pub pieces_cut : (separator : ℕ) (word : List ℕ) → pieces separator (Some word) ≡ (cut_at separator word).0
    ∷ pieces separator (cut_at separator word).1
pieces_cut separator word = pieces_by separator word (nat_lt (position_or_len (λ b. b == separator) word) (length word)) refl

-- what `cut` answers
pub cut_last : (separator : ℕ) (word : List ℕ) → position_or_len (λ b. b == separator) word ≡ length word
    → cut_at separator word ≡ (word, None)
cut_last separator word e = rw (whole separator word e) (rw e (grind (arith, nat_tests)))

pub cut_first : (separator end : ℕ) (word : List ℕ) → position_or_len (λ b. b == separator) word ≡ end → end < length word
    → cut_at separator word ≡ (take end word, Some (drop (end + 1) word))
cut_first separator end word e lt = rw e (grind (arith, nat_tests))

cut_step : (names : List Naming) (separator set : ℕ) (word name : List ℕ) (behind : Option (List ℕ))
    → (name, behind) ≡ cut_at separator word
    → set_with names set (pieces separator (Some word))
    ≡ option_and_then (λ value. set_with names (bit_or set (2 ^ value)) (pieces separator behind)) (named names name)
cut_step names separator set word name behind e =
    ap (set_with names set) (pieces_cut separator word)
    ∙ ap (λ (p : List ℕ × Option (List ℕ)).
    option_and_then (λ value. set_with names (bit_or set (2 ^ value)) (pieces separator p.1))
    (named names p.0)) (sym e)

-- one more value, and a word that is no name
pub joined_on : (names : List Naming) (separator set : ℕ) (word name : List ℕ) (behind : Option (List ℕ)) (value : ℕ)
    → (name, behind) ≡ cut_at separator word → named names name ≡ Some value
    → set_with names set (pieces separator (Some word)) ≡ set_with names (bit_or set (2 ^ value)) (pieces separator behind)
joined_on names separator set word name behind value e n = cut_step names separator set word name behind e
    ∙ ap (option_and_then (λ value. set_with names (bit_or set (2 ^ value)) (pieces separator behind))) n

pub joined_none : (names : List Naming) (separator set : ℕ) (word name : List ℕ) (behind : Option (List ℕ))
    → (name, behind) ≡ cut_at separator word → named names name ≡ None
    → set_with names set (pieces separator (Some word)) ≡ None
joined_none names separator set word name behind e n = cut_step names separator set word name behind e
    ∙ ap (option_and_then (λ value. set_with names (bit_or set (2 ^ value)) (pieces separator behind))) n

-- ---- the ranges of what is read

some_below : (number : ℕ) (o : Option ℕ) (v : ℕ) → IfSome o (λ v. v < number) → o ≡ Some v → v < number
some_below number o v h e = (rw e at h)

pub set_below : (number : ℕ) (names : List Naming) → all_below number names ≡ true
    → (set : ℕ) (words : List (List ℕ)) (bits : ℕ)
    → set < 2 ^ number → set_with names set words ≡ Some bits → bits < 2 ^ number
set_below number names e set [] bits lt is = let same : set ≡ bits = cc in rw (← same) lt
set_below number names e set (word ∷ words) bits lt is =
    option_and_then_some (λ value. set_with names (bit_or set (2 ^ value)) words) (named names word) bits is
    (λ v found rest. set_below number names e (bit_or set (2 ^ v)) words bits
    (or_lt number set (2 ^ v) lt (pow-lt (some_below number (named names word) v (named_below number names word e) found))) rest)

pub joined_below : (number : ℕ) (names : List Naming) (separator : ℕ) (word : List ℕ) (set : ℕ) → all_below number names ≡ true
    → joined names separator word ≡ Some set → set < 2 ^ number
joined_below number names separator word set e is =
    set_below number names e 0 (slice_split (λ b. b == separator) word) set (pow_pos number) is

set_grows : (names : List Naming) (set : ℕ) (words : List (List ℕ)) (bits : ℕ)
    → set_with names set words ≡ Some bits → set ≤ bits
set_grows names set [] bits is = let same : set ≡ bits = cc in omega arith
set_grows names set (word ∷ words) bits is =
    option_and_then_some (λ value. set_with names (bit_or set (2 ^ value)) words) (named names word) bits is
    (λ v found rest. let more = set_grows names (bit_or set (2 ^ v)) words bits rest in let first = le_or_l set (2 ^ v) in omega arith)

set_some : (names : List Naming) (words : List (List ℕ)) (set : ℕ) → 0 < length words
    → set_with names 0 words ≡ Some set → 0 < set
set_some names [] set some is = absurd (omega arith)
set_some names (word ∷ words) set some is =
    option_and_then_some (λ value. set_with names (bit_or 0 (2 ^ value)) words) (named names word) set is
    (λ v found rest. let more = set_grows names (bit_or 0 (2 ^ v)) words set rest in let first = le_or_r 0 (2 ^ v) in let one = pow_pos v
    in omega arith)

pub joined_some : (names : List Naming) (separator : ℕ) (word : List ℕ) (set : ℕ)
    → joined names separator word ≡ Some set → 0 < set
joined_some names separator word set is =
    set_some names (slice_split (λ b. b == separator) word) set (omega (arith, length-slice_split (λ b. b == separator) word)) is

has_step : (test : Bool) (v w : ℕ) (o : Option ℕ) (b : Bool) → (o ≡ Some w → b ≡ true) → cond test (Some v) o ≡ Some w
    → (v == w) || b ≡ true
has_step true v w o b more e = let same : v ≡ w = cc in grind (arith, nat_tests)
has_step false v w o b more e = let h = more e in grind (arith, nat_tests)

pub named_has : (names : List Naming) (word : List ℕ) (v : ℕ) → named names word ≡ Some v → has_value names v ≡ true
named_has [] word v e = absurd cc
named_has (name ∷ more) word v e = has_step (bytes_eq name.0 word) name.1 v (named more word) (has_value more v) (named_has more word v) e

-- what holds of each number that has a name
abbrev pub all_values : (ℕ → Bool) → List Naming → Bool
all_values p [] = true
all_values p (name ∷ more) = p name.1 && all_values p more

pub value_holds : (p : ℕ → Bool) (names : List Naming) (v : ℕ) → all_values p names ≡ true
    → has_value names v ≡ true → p v ≡ true
value_holds p [] v e h = absurd cc
value_holds p (name ∷ more) v e h =
    let parts = and_parts (p name.1) (all_values p more) e in
    elim (tested (name.1 == v)) [
      | inl is ↦ ap p (sym (eqb-true name.1 v is)) ∙ parts.0
      | inr not ↦ value_holds p more v parts.1 (sym (ap (λ t. t || has_value more v) not) ∙ h)
    ]

pub if_some : (P : ℕ → Type 0) (o : Option ℕ) → ((set : ℕ) → o ≡ Some set → P set) → IfSome o P
if_some P None h = tt
if_some P (Some set) h = h set refl
