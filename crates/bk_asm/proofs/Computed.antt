-- What is computed of the tables of names, value by value: each name and each set of values is a word, and is read again.
use Rattle.std.proofs.Common.{◌≡◌, ℕ, zero, suc, ◌+◌, ◌*◌, ◌-◌, ◌/◌, ◌%◌, ◌<◌, Bool, true, false, ◌&&◌, ◌||◌, cond, inl, inr, List, [], ◌∷◌, ◌++◌, refl, sym, ap, ◌∙◌, arith}
use Rattle.std.specs.Prelude.{Option, Some, None, codes, ◌==◌}
use Rattle.std.specs.List.{AllByRecursion}
use Rattle.std.specs.Str.{bytes_eq}
use Rattle.bk_know.specs.declared.sets.Sets.{Sets}
use Rattle.bk_know.specs.Sets.{field}
use Rattle.std.proofs.lemmas.Bool.{eqb-true, and_parts}
use Rattle.std.proofs.lemmas.Bool.Decides.{nat_tests}
use Rattle.std.proofs.lemmas.Fmt.{decimal_digit}
use Rattle.bk_text.proofs.LineWords.{tested}
use Rattle.bk_asm.specs.declared.names.Names.{Names}
use Rattle.bk_asm.specs.declared.names.Names.TheVariants as names
use Rattle.bk_asm.specs.Names.{Naming, named, joined, cut_at, value_names, class_names, names_of, has_value}
use Rattle.bk_asm.specs.Ranges.{is_value, limit_of, IsSet}
use Rattle.bk_asm.specs.Writing.{name_of, set_text, label_text}
use Rattle.bk_asm.specs.Reading.{is_label, label_of, values_of}
use Rattle.bk_asm.proofs.Named.{all_values, value_holds}
use Rattle.bk_asm.proofs.Sentences.{is_word}

-- whether something was read, and it is this number
abbrev pub is_read : ℕ → Option ℕ → Bool
is_read n None = false
is_read n (Some m) = m == n

-- a number that was read
pub read_some : (n : ℕ) (o : Option ℕ) → is_read n o ≡ true → o ≡ Some n
read_some n None e = absurd cc
read_some n (Some m) e = ap Some (eqb-true m n e)

-- ---- names

-- what holds of each name and its number
abbrev all_pairs : (List ℕ → ℕ → Bool) → List Naming → Bool
all_pairs p [] = true
all_pairs p (name ∷ more) = p name.0 name.1 && all_pairs p more

-- what holds of each name and its number holds of the name of a number
pair_holds : (p : List ℕ → ℕ → Bool) (names : List Naming) (n : ℕ) → all_pairs p names ≡ true → has_value names n ≡ true
    → p (name_of names n) n ≡ true
pair_holds p [] n e h = absurd cc
pair_holds p (name ∷ more) n e h =
    let t = and_parts (p name.0 name.1) (all_pairs p more) e in
    elim (tested (name.1 == n)) [
      | inl is ↦ ap (λ b. p (cond b name.0 (name_of more n)) n) is ∙ ap (p name.0) (sym (eqb-true name.1 n is)) ∙ t.0
      | inr not ↦ ap (λ b. p (cond b name.0 (name_of more n)) n) not ∙ pair_holds p more n t.1
          (sym (ap (λ b. b || has_value more n) not) ∙ h)
    ]

-- a word that stands for a number
abbrev stands_for : List Naming → List ℕ → ℕ → Bool
stands_for all word n = is_word word && is_read n (named all word)

-- a name of a sort is a word, and stands for its number
sort_good : (sort : Names) → all_pairs (stands_for (names_of sort)) (names_of sort) ≡ true
sort_good names.Register = refl
sort_good names.Flag = refl
sort_good names.State = refl
sort_good names.Valid = refl
sort_good names.Clean = refl
sort_good names.Granted = refl
sort_good names.Left = refl
sort_good names.Received = refl
sort_good names.Whose = refl
sort_good names.Holder = refl
sort_good names.Pending = refl
sort_good names.Owner = refl
sort_good names.Tested = refl
sort_good names.Field = refl

-- the name of a number is a word, and is read as that number
pub name_again : (sort : Names) (n : ℕ) → is_value sort n ≡ true
    → (is_word (name_of (names_of sort) n) ≡ true) × (named (names_of sort) (name_of (names_of sort) n) ≡ Some n)
name_again sort n h =
    let t = and_parts (is_word (name_of (names_of sort) n)) (is_read n (named (names_of sort) (name_of (names_of sort) n)))
    (pair_holds (stands_for (names_of sort)) (names_of sort) n (sort_good sort) h) in
    (t.0, read_some n (named (names_of sort) (name_of (names_of sort) n)) t.1)

-- ---- sets of values

-- a test of each number below one
abbrev pub each_below : (ℕ → Bool) → ℕ → Bool
each_below p zero = true
each_below p (suc n) = p n && each_below p n

-- a test that each number below a limit passes
pub at_below : (p : ℕ → Bool) (limit n : ℕ) → each_below p limit ≡ true → n < limit → p n ≡ true
at_below p zero n e lt = absurd (omega arith)
at_below p (suc limit) n e lt =
    let t = and_parts (p limit) (each_below p limit) e in
    elim (tested (n == limit)) [
      | inl is ↦ ap p (eqb-true n limit is) ∙ t.0
      | inr not ↦ at_below p limit n t.1 (grind (arith, nat_tests, lt, not))
    ]

-- one of two tests, where the number is not 0
none_or : (n : ℕ) (b : Bool) → 0 < n → (n == 0) || b ≡ true → b ≡ true
none_or n b some e = let no : (n == 0) ≡ false = grind (arith, nat_tests, some) in sym (ap (λ t. t || b) no) ∙ e

-- a set of values is a word with a separator between the names, and is read again
abbrev is_set_again : ℕ → List Naming → ℕ → Bool
is_set_again separator values n =
    n == 0 || (is_word (set_text values true (separator ∷ []) n)
    && is_read n (joined values separator (set_text values true (separator ∷ []) n)))

-- a set that is not empty is a word, and is read again
set_parts : (separator : ℕ) (values : List Naming) (n : ℕ) → 0 < n → is_set_again separator values n ≡ true
    → (is_word (set_text values true (separator ∷ []) n) ≡ true)
    × (joined values separator (set_text values true (separator ∷ []) n) ≡ Some n)
set_parts separator values n some e =
    let t = and_parts (is_word (set_text values true (separator ∷ []) n))
    (is_read n (joined values separator (set_text values true (separator ∷ []) n)))
    (none_or n (is_word (set_text values true (separator ∷ []) n)
    && is_read n (joined values separator (set_text values true (separator ∷ []) n))) some e) in
    (t.0, read_some n (joined values separator (set_text values true (separator ∷ []) n)) t.1)

-- each set of classes is a word, and is read again
pub classes_again : (n : ℕ) → 0 < n → n < 8
    → (is_word (set_text class_names true (codes ",") n) ≡ true)
    × (joined class_names 44 (set_text class_names true (codes ",") n) ≡ Some n)
classes_again n some few = set_parts 44 class_names n some (at_below (is_set_again 44 class_names) 8 n refl few)

-- computed for each of those fields and sets
all_tested : all_values (λ k. each_below (is_set_again 44 (value_names k)) (limit_of k)) (names_of names.Tested) ≡ true
all_tested = refl

-- each set of values of a field that `bk` tests is a word, and is read again
pub values_again : (number n : ℕ) → is_value names.Tested number ≡ true → 0 < n → n < limit_of number
    → (is_word (set_text (value_names number) true (codes ",") n) ≡ true)
    × (joined (value_names number) 44 (set_text (value_names number) true (codes ",") n) ≡ Some n)
values_again number n field some few =
    let all = value_holds (λ j. each_below (is_set_again 44 (value_names j)) (limit_of j)) (names_of names.Tested) number
    all_tested field in
    set_parts 44 (value_names number) n some (at_below (is_set_again 44 (value_names number)) (limit_of number) n all few)

-- ---- fields of know lines

-- a field with the names of its values
abbrev pub entry_word : Naming → ℕ → List ℕ
entry_word name n = (name.0 ++ codes "=") ++ set_text (value_names name.1) true (codes "|") n

-- a word is an entry of a field and a set
abbrev entry_parts : ℕ → ℕ → List ℕ → Bool
entry_parts number n word = is_word word && is_read number (named (names_of names.Field) (cut_at 61 word).0)
    && is_read n (values_of number (cut_at 61 word).1)

-- with each set of its values a field gives such a word
abbrev is_entry_again : List ℕ → ℕ → Bool
is_entry_again name number = each_below (λ n. n == 0 || entry_parts number n (entry_word (name, number) n)) (limit_of number)

-- each field of the table does
all_entries : all_pairs is_entry_again (names_of names.Field) ≡ true
all_entries = refl

-- ---- labels

-- `L` and three digits
abbrev label_bytes : ℕ → List ℕ
label_bytes n = 76 ∷ (48 + n / 100 % 10) ∷ (48 + n / 10 % 10) ∷ (48 + n % 10) ∷ []

-- the label of a place, byte by byte
pub label_is : (n : ℕ) → label_text n ≡ label_bytes n
label_is n = rw (
  decimal_digit (n / 100 % 10) (omega arith),
  decimal_digit (n / 10 % 10) (omega arith),
  decimal_digit (n % 10) (omega arith),
) refl

-- the place that a label of three digits names
abbrev label_number : List ℕ → ℕ
label_number (l ∷ a ∷ b ∷ c ∷ []) = (a - 48) * 100 + (b - 48) * 10 + (c - 48)
label_number bytes = 0

-- such bytes are words, a label, and name the place again
abbrev is_label_again : ℕ → Bool
is_label_again n = is_word (label_bytes n) && is_word (label_bytes n ++ codes ":") && is_label (label_bytes n)
    && label_number (label_bytes n) == n

-- computed for each place
all_labels : each_below is_label_again 256 ≡ true
all_labels = refl

-- the label of a place is a label, alone and before `:`
pub record IsPlaceLabel (n : ℕ) : Type 0 where
  pub word : is_word (label_text n) ≡ true
  pub defined : is_word (label_text n ++ codes ":") ≡ true
  pub label : is_label (label_text n) ≡ true
  pub read : label_of (label_text n ++ codes ":") ≡ Some (label_text n)
  pub number : label_number (label_text n) ≡ n
  pub other : bytes_eq (label_text n ++ codes ":") (codes "caches") ≡ false

-- four tests that pass together
three : (a b test d : Bool) → a && b && test && d ≡ true → (a ≡ true) × (b ≡ true) × (test ≡ true) × (d ≡ true)
three true true true true e = (refl, refl, refl, refl)
three true true true false e = absurd cc
three true true false d e = absurd cc
three true false test d e = absurd cc
three false b test d e = absurd cc

-- a label before `:` is read as that label
label_read : (bytes : List ℕ) (a b c d : ℕ) → bytes ≡ a ∷ b ∷ c ∷ d ∷ [] → is_label bytes ≡ true
    → label_of (bytes ++ codes ":") ≡ Some bytes
label_read bytes a b c d is e = rw is (ap (λ t. cond t (Some (a ∷ b ∷ c ∷ d ∷ [])) None) (rw is at e))

-- the label of each place
pub label_again : (n : ℕ) → n < 256 → IsPlaceLabel n
label_again n lt =
    let t = three (is_word (label_bytes n)) (is_word (label_bytes n ++ codes ":")) (is_label (label_bytes n))
    (label_number (label_bytes n) == n)
    (at_below is_label_again 256 n all_labels lt) in
    let e = label_is n in
    let label : is_label (label_text n) ≡ true = ap is_label e ∙ t.2 in
    record {
      word = ap is_word e ∙ t.0;
      defined = ap (λ l. is_word (l ++ codes ":")) e ∙ t.1;
      label = label;
      read = label_read (label_text n) 76 (48 + n / 100 % 10) (48 + n / 10 % 10) (48 + n % 10) e label;
      number = ap label_number e ∙ eqb-true (label_number (label_bytes n)) n t.3;
      other = ap (λ l. bytes_eq (l ++ codes ":") (codes "caches")) e;
    }

-- places with one label are one place
pub same_place : (number n : ℕ) → number < 256 → n < 256 → label_text number ≡ label_text n → number ≡ n
same_place number n l k e = sym (label_again number l).number ∙ ap label_number e ∙ (label_again n k).number

-- an entry of a know line: its word, its field and its set
pub record IsEntry (name : Naming) (n : ℕ) : Type 0 where
  pub word : is_word (entry_word name n) ≡ true
  pub field : named (names_of names.Field) (cut_at 61 (entry_word name n)).0 ≡ Some name.1
  pub set : values_of name.1 (cut_at 61 (entry_word name n)).1 ≡ Some n

-- the parts of an entry
entry_is : (name : Naming) (n : ℕ) → entry_parts name.1 n (entry_word name n) ≡ true → IsEntry name n
entry_is name n e =
    let w = entry_word name n in
    let t = and_parts (is_word w && is_read name.1 (named (names_of names.Field) (cut_at 61 w).0))
    (is_read n (values_of name.1 (cut_at 61 w).1)) e in
    let s = and_parts (is_word w) (is_read name.1 (named (names_of names.Field) (cut_at 61 w).0)) t.0 in
    record {
      word = s.0;
      field = read_some name.1 (named (names_of names.Field) (cut_at 61 w).0) s.1;
      set = read_some n (values_of name.1 (cut_at 61 w).1) t.1;
    }

-- the entries of fields whose sets are in their ranges
fields_by : (fields : List Naming) (sets : Sets) → all_pairs is_entry_again fields ≡ true
    → AllByRecursion (λ name. IsSet (limit_of name.1) (field sets name.1)) fields
    → AllByRecursion (λ name. IsEntry name (field sets name.1)) fields
fields_by [] sets e h = tt
fields_by (name ∷ more) sets e h =
    let t = and_parts (is_entry_again name.0 name.1) (all_pairs is_entry_again more) e in
    let n = field sets name.1 in
    let one = at_below (λ n. n == 0 || entry_parts name.1 n (entry_word (name.0, name.1) n)) (limit_of name.1) n t.0 h.0.1 in
    (entry_is name n (none_or n (entry_parts name.1 n (entry_word name n)) h.0.0 one), fields_by more sets t.1 h.1)

-- each field of what a know line says
pub fields_again : (sets : Sets) → AllByRecursion (λ name. IsSet (limit_of name.1) (field sets name.1)) (names_of names.Field)
    → AllByRecursion (λ name. IsEntry name (field sets name.1)) (names_of names.Field)
fields_again sets h = fields_by (names_of names.Field) sets all_entries h
