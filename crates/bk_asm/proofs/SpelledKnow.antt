-- A know line that is read is the one that its words spell.
use Rattle.std.proofs.Common.{◌≡◌, ℕ, zero, suc, ◌+◌, ◌<◌, ◌/◌, ◌%◌, ◌^◌, ◌==◌, Bool, true, false, true≢false, cond, nat_lt, Option, Some}
use Rattle.std.proofs.Common.{None, Ok, List, [], ◌∷◌, ◌++◌, length, map, take, drop, get_or, drop-cons, take-append-drop, append_assoc}
use Rattle.std.proofs.Common.{refl, sym, ap, subst, ◌∙◌, inl, inr, arith}
use Rattle.std.specs.Prelude.{codes, slice_index_or, option_and_then, bit_or, unwrap_or}
use Rattle.std.specs.List.{AllZip, AllByRecursion, Contains, IsDistinct, position_or_len, after_first}
use Rattle.std.specs.Map.{lookup}
use Rattle.std.specs.Option.{option_map}
use Rattle.std.specs.Str.{bytes_eq}
use Rattle.std.proofs.lemmas.Bool.{eqb-true}
use Rattle.std.proofs.lemmas.Bool.Decides.{nat_tests}
use Rattle.std.proofs.lemmas.List.Sums.{passes_at_first}
use Rattle.std.proofs.lemmas.Map.Keys.{IsDistinct-cons, IsDistinct-head, IsDistinct-tail}
use Rattle.std.proofs.lemmas.Option.{option_and_then_some}
use Rattle.std.proofs.lemmas.Slice.Eq.{bytes_eq-Decides}
use Rattle.bk_know.specs.declared.sets.Sets.{Sets}
use Rattle.bk_know.specs.Sets.{idle_base, held_base, field}
use Rattle.bk_text.specs.LineWords.{Marked, LineWords}
use Rattle.bk_text.proofs.Laws.{bytes_of}
use Rattle.bk_text.proofs.LineWords.{tested}
use Rattle.bk_asm.specs.declared.fault.Kind.TheVariants as kinds
use Rattle.bk_asm.specs.declared.names.Names.TheVariants as names
use Rattle.bk_asm.specs.Names.{Naming, named, joined, cut_at, value_names, names_of}
use Rattle.bk_text.specs.Faults.{or_wrong}
use Rattle.bk_asm.specs.Reading.{field as next_word, base_of, with_field, fresh, values_of, entry_of, entries_at, know_at}
use Rattle.bk_asm.specs.Spelled.{bases, SpellsField, SpellsKnow, Has}
use Rattle.bk_asm.proofs.SpelledForms.{done_is}
use Rattle.bk_asm.proofs.SpelledWords.{bound, some_is, if_true, right_is, first, later, named_in, has_own, has_kept, set_spelled}
use Rattle.bk_asm.proofs.SpelledWords.{words_in, field_next}

-- ---- a field

-- the base of a word
base_spelled : (word : List ℕ) (base : Sets) → base_of word ≡ Some base → Contains bases (word, base)
base_spelled word base e = elim (tested (bytes_eq word (codes "idle"))) [
  | inl is ↦
      let found = some_is idle_base base
      (sym (ap (λ t. cond t (Some idle_base) (cond (bytes_eq word (codes "held")) (Some held_base) None)) is) ∙ e) in
      first (codes "idle", idle_base) ((codes "held", held_base) ∷ []) (word, base)
      (ap (λ w. (w, idle_base)) (sym ((bytes_eq-Decides word (codes "idle")).0 is)) ∙ ap (λ b. (word, b)) found)
  | inr differs ↦
      let found = if_true (bytes_eq word (codes "held")) held_base base
      (sym (ap (λ t. cond t (Some idle_base) (cond (bytes_eq word (codes "held")) (Some held_base) None)) differs) ∙ e) in
      later (codes "idle", idle_base) ((codes "held", held_base) ∷ []) (word, base) (first (codes "held", held_base) [] (word, base)
      (ap (λ w. (w, held_base)) (sym ((bytes_eq-Decides word (codes "held")).0 found.0)) ∙ ap (λ b. (word, b)) found.1))
]

-- a word whose first separator has something behind it
cut_behind : (separator : ℕ) (word values : List ℕ) → (cut_at separator word).1 ≡ Some values
    → word ≡ (cut_at separator word).0 ++ separator ∷ values
cut_behind separator word values e =
    let p : ℕ → Bool = λ b. b == separator in
    let n = position_or_len p word in
    let t = if_true (nat_lt n (length word)) (after_first p word) values e in
    let lt : n < length word = grind (arith, nat_tests, t.0) in
    let next : suc n ≡ n + 1 = omega arith in
    sym (take-append-drop n word)
    ∙ ap (λ l. take n word ++ l) (drop-cons word n 0 lt
    ∙ ap (λ b. b ∷ drop (suc n) word) (eqb-true (get_or word n 0) separator (passes_at_first p word 0 lt))
    ∙ ap (λ k. separator ∷ drop k word) next ∙ ap (λ l. separator ∷ l) t.1)

fresh_is : (b : Bool) (j number : ℕ) → cond b None (Some j) ≡ Some number → (b ≡ false) × (j ≡ number)
fresh_is true j number e = absurd cc
fresh_is false j number e = (refl, some_is j number e)

mapped : (number : ℕ) (o : Option ℕ) (e : ℕ × ℕ) → option_map (λ set. (number, set)) o ≡ Some e
    → (set : ℕ) × (o ≡ Some set) × ((number, set) ≡ e)
mapped number None e is = absurd cc
mapped number (Some set) e is = (set, refl, some_is (number, set) e is)

values_are : (number : ℕ) (o : Option (List ℕ)) (set : ℕ) → values_of number o ≡ Some set → (v : List ℕ) × (o ≡ Some v)
    × (joined (value_names number) 124 v ≡ Some set)
values_are number None set e = absurd cc
values_are number (Some v) set e = (v, refl, e)

not_one : (n : ℕ) → (n == 1) ≡ false → n ≡ 1 → ⊥
not_one n differs is = true≢false (subst (λ (n : ℕ). (n == 1) ≡ false) is differs)

-- a field that is read is spelled, and it is none of those before
abbrev HasField : ℕ → List ℕ → ℕ × ℕ → Type 0
HasField seen word e = SpellsField word e × (Has seen e.0 → ⊥)

-- The word is cut at its first `=`: what stands before that is the field's name, and what stands behind it its values.
field_parts : (seen : ℕ) (word : List ℕ) (j number : ℕ) (e : ℕ × ℕ)
    → named (names_of names.Field) (cut_at 61 word).0 ≡ Some j
    → fresh seen j ≡ Some number
    → option_map (λ set. (number, set)) (values_of number (cut_at 61 word).1) ≡ Some e → HasField seen word e
field_parts seen word j number e found new made =
    let cut = cut_at 61 word in
    let f = fresh_is (seen / 2 ^ j % 2 == 1) j number new in
    let m = mapped number (values_of number cut.1) e made in
    let v = values_are number cut.1 m.0 m.1 in
    let spelled : SpellsField word (number, m.0) = record {
      name = cut.0;
      values = v.0;
      word = cut_behind 61 word v.0 v.1 ∙ sym (append_assoc cut.0 (codes "=") v.0);
      field = named_in (names_of names.Field) cut.0 number (found ∙ ap Some f.1);
      set = set_spelled (value_names number) 124 v.0 m.0 v.2;
    } in
    let none : Has seen number → ⊥ = subst (λ (number : ℕ). Has seen number → ⊥) f.1 (not_one (seen / 2 ^ j % 2) f.0) in
    subst (λ (e : ℕ × ℕ). HasField seen word e) m.2 (spelled, none)

field_spelled : (seen : ℕ) (word : List ℕ) (e : ℕ × ℕ) → entry_of seen word ≡ Some e → HasField seen word e
unfolding entry_of
field_spelled seen word e is =
    let cut = cut_at 61 word in
    option_and_then_some (λ k. option_map (λ set. (k, set)) (values_of k cut.1))
    (option_and_then (fresh seen) (named (names_of names.Field) cut.0)) e is
    (λ k some made. option_and_then_some (fresh seen) (named (names_of names.Field) cut.0) k some
    (λ j found new. field_parts seen word j k e found new made))

-- ---- the fields

-- sets with others in the place of some, one after the other
abbrev overlaid : Sets → List (ℕ × ℕ) → Sets
overlaid sets [] = sets
overlaid sets (g ∷ more) = overlaid (with_field sets g.0 g.1) more

abbrev numbers : List (ℕ × ℕ) → List ℕ
numbers given = map (λ g. g.0) given

record HasFields (sets : Sets) (seen : ℕ) (words : List Marked) (all : Sets) : Type 0 where
  given : List (ℕ × ℕ)
  each : AllZip SpellsField (map bytes_of words) given
  once : IsDistinct (λ k n. k == n) (numbers given)
  apart : AllByRecursion (λ n. Has seen n → ⊥) (numbers given)
  is : all ≡ overlaid sets given

nothing_twice : IsDistinct (λ (number n : ℕ). number == n) []
unfolding IsDistinct
nothing_twice = tt

-- fields that are none of those before, with one more, are not that one
differ : (seen number : ℕ) (ns : List ℕ) → AllByRecursion (λ n. Has (bit_or seen (2 ^ number)) n → ⊥) ns
    → AllByRecursion (λ n. (number == n) ≡ false) ns
differ seen number [] h = tt
differ seen number (n ∷ ns) h = (
  elim (tested (number == n)) [
    | inl is ↦ absurd (h.0 (subst (λ (i : ℕ). Has (bit_or seen (2 ^ number)) i) (eqb-true number n is) (has_own seen number)))
    | inr differs ↦ differs
  ],
  differ seen number ns h.1,
)

fewer : (seen number : ℕ) (ns : List ℕ) → AllByRecursion (λ n. Has (bit_or seen (2 ^ number)) n → ⊥) ns
    → AllByRecursion (λ n. Has seen n → ⊥) ns
fewer seen number [] h = tt
fewer seen number (n ∷ ns) h = (λ has. h.0 (has_kept seen number n has), fewer seen number ns h.1)

-- Each word is a field that is none of those before. So no two are the same, and the order doesn't matter.
fields_spelled : (sets : Sets) (seen : ℕ) (bad : Option ℕ) (words : List Marked) (all : Sets)
    → entries_at sets seen bad words ≡ Ok all
    → HasFields sets seen words all
unfolding entries_at
fields_spelled sets seen bad [] all e = record {
  given = [];
  each = tt;
  once = nothing_twice;
  apart = tt;
  is = sym (done_is [] bad sets all e).1;
}
fields_spelled sets seen bad (w ∷ words) all e =
    let one = bound (or_wrong kinds.Byte w kinds.Know (entry_of seen w.word))
    (λ e. entries_at (with_field sets e.0 e.1) (bit_or seen (2 ^ e.0)) bad words) all e in
    let f = field_spelled seen w.word one.0 (right_is w kinds.Know (entry_of seen w.word) one.0 one.1) in
    let more = fields_spelled (with_field sets one.0.0 one.0.1) (bit_or seen (2 ^ one.0.0)) bad words all one.2 in
    record {
      given = one.0 ∷ more.given;
      each = (f.0, more.each);
      once = IsDistinct-cons (λ k n. k == n) one.0.0 (numbers more.given) (differ seen one.0.0 (numbers more.given) more.apart) more.once;
      apart = (f.1, fewer seen one.0.0 (numbers more.given) more.apart);
      is = more.is;
    }

-- ---- what the fields make of the base

at_index : {X : Type 0} (P : X → Type 0) (xs : List X) (x : X) (number : ℕ) → number < length xs → slice_index_or xs number x ≡ x
    → AllByRecursion P xs
    → P x
at_index P [] x number lt e all = absurd (omega arith)
at_index P (y ∷ ys) x zero lt e all = subst P e all.0
at_index P (y ∷ ys) x (suc number) lt e all = at_index P ys x number (omega arith) e all.1

-- what holds of all elements holds of one, and the other way round
pub of_one : {X : Type 0} (P : X → Type 0) (xs : List X) (x : X) → Contains xs x → AllByRecursion P xs → P x
of_one P xs x h all = at_index P xs x h.0 h.1 h.2 all

pub of_all : {X : Type 0} (P : X → Type 0) (xs : List X) → ((x : X) → Contains xs x → P x) → AllByRecursion P xs
of_all P [] h = tt
of_all P (x ∷ xs) h = (h x (first x xs x refl), of_all P xs (λ y c. h y (later x xs y c)))

-- a field of sets in which one was put
abbrev PutAt : Sets → ℕ → ℕ → Naming → Type 0
PutAt sets number v name = field (with_field sets number v) name.1 ≡ cond (name.1 == number) v (field sets name.1)

abbrev Put : ℕ → Type 0
Put number = (sets : Sets) (v : ℕ) → AllByRecursion (PutAt sets number v) (names_of names.Field)

-- what holds of two lists holds of the one behind the other
of_two : (P : Naming → Type 0) (xs ys : List Naming) → AllByRecursion P xs → AllByRecursion P ys → AllByRecursion P (xs ++ ys)
of_two P [] ys a b = b
of_two P (x ∷ xs) ys a b = (a.0, of_two P xs ys a.1 b)

-- the table in two halves
abbrev front : List Naming
front = take 9 (names_of names.Field)

abbrev back : List Naming
back = drop 9 (names_of names.Field)

put_1 : Put 1
put_1 s v = of_two (PutAt s 1 v) front back
    (refl, (refl, (refl, (refl, (refl, (refl, (refl, (refl, (refl, tt)))))))))
    (refl, (refl, (refl, (refl, (refl, (refl, (refl, (refl, (refl, tt)))))))))

put_2 : Put 2
put_2 s v = of_two (PutAt s 2 v) front back
    (refl, (refl, (refl, (refl, (refl, (refl, (refl, (refl, (refl, tt)))))))))
    (refl, (refl, (refl, (refl, (refl, (refl, (refl, (refl, (refl, tt)))))))))

put_3 : Put 3
put_3 s v = of_two (PutAt s 3 v) front back
    (refl, (refl, (refl, (refl, (refl, (refl, (refl, (refl, (refl, tt)))))))))
    (refl, (refl, (refl, (refl, (refl, (refl, (refl, (refl, (refl, tt)))))))))

put_4 : Put 4
put_4 s v = of_two (PutAt s 4 v) front back
    (refl, (refl, (refl, (refl, (refl, (refl, (refl, (refl, (refl, tt)))))))))
    (refl, (refl, (refl, (refl, (refl, (refl, (refl, (refl, (refl, tt)))))))))

put_5 : Put 5
put_5 s v = of_two (PutAt s 5 v) front back
    (refl, (refl, (refl, (refl, (refl, (refl, (refl, (refl, (refl, tt)))))))))
    (refl, (refl, (refl, (refl, (refl, (refl, (refl, (refl, (refl, tt)))))))))

put_6 : Put 6
put_6 s v = of_two (PutAt s 6 v) front back
    (refl, (refl, (refl, (refl, (refl, (refl, (refl, (refl, (refl, tt)))))))))
    (refl, (refl, (refl, (refl, (refl, (refl, (refl, (refl, (refl, tt)))))))))

put_7 : Put 7
put_7 s v = of_two (PutAt s 7 v) front back
    (refl, (refl, (refl, (refl, (refl, (refl, (refl, (refl, (refl, tt)))))))))
    (refl, (refl, (refl, (refl, (refl, (refl, (refl, (refl, (refl, tt)))))))))

put_8 : Put 8
put_8 s v = of_two (PutAt s 8 v) front back
    (refl, (refl, (refl, (refl, (refl, (refl, (refl, (refl, (refl, tt)))))))))
    (refl, (refl, (refl, (refl, (refl, (refl, (refl, (refl, (refl, tt)))))))))

put_9 : Put 9
put_9 s v = of_two (PutAt s 9 v) front back
    (refl, (refl, (refl, (refl, (refl, (refl, (refl, (refl, (refl, tt)))))))))
    (refl, (refl, (refl, (refl, (refl, (refl, (refl, (refl, (refl, tt)))))))))

put_10 : Put 10
put_10 s v = of_two (PutAt s 10 v) front back
    (refl, (refl, (refl, (refl, (refl, (refl, (refl, (refl, (refl, tt)))))))))
    (refl, (refl, (refl, (refl, (refl, (refl, (refl, (refl, (refl, tt)))))))))

put_11 : Put 11
put_11 s v = of_two (PutAt s 11 v) front back
    (refl, (refl, (refl, (refl, (refl, (refl, (refl, (refl, (refl, tt)))))))))
    (refl, (refl, (refl, (refl, (refl, (refl, (refl, (refl, (refl, tt)))))))))

put_12 : Put 12
put_12 s v = of_two (PutAt s 12 v) front back
    (refl, (refl, (refl, (refl, (refl, (refl, (refl, (refl, (refl, tt)))))))))
    (refl, (refl, (refl, (refl, (refl, (refl, (refl, (refl, (refl, tt)))))))))

put_13 : Put 13
put_13 s v = of_two (PutAt s 13 v) front back
    (refl, (refl, (refl, (refl, (refl, (refl, (refl, (refl, (refl, tt)))))))))
    (refl, (refl, (refl, (refl, (refl, (refl, (refl, (refl, (refl, tt)))))))))

put_14 : Put 14
put_14 s v = of_two (PutAt s 14 v) front back
    (refl, (refl, (refl, (refl, (refl, (refl, (refl, (refl, (refl, tt)))))))))
    (refl, (refl, (refl, (refl, (refl, (refl, (refl, (refl, (refl, tt)))))))))

put_15 : Put 15
put_15 s v = of_two (PutAt s 15 v) front back
    (refl, (refl, (refl, (refl, (refl, (refl, (refl, (refl, (refl, tt)))))))))
    (refl, (refl, (refl, (refl, (refl, (refl, (refl, (refl, (refl, tt)))))))))

put_16 : Put 16
put_16 s v = of_two (PutAt s 16 v) front back
    (refl, (refl, (refl, (refl, (refl, (refl, (refl, (refl, (refl, tt)))))))))
    (refl, (refl, (refl, (refl, (refl, (refl, (refl, (refl, (refl, tt)))))))))

put_17 : Put 17
put_17 s v = of_two (PutAt s 17 v) front back
    (refl, (refl, (refl, (refl, (refl, (refl, (refl, (refl, (refl, tt)))))))))
    (refl, (refl, (refl, (refl, (refl, (refl, (refl, (refl, (refl, tt)))))))))

put_18 : Put 18
put_18 s v = of_two (PutAt s 18 v) front back
    (refl, (refl, (refl, (refl, (refl, (refl, (refl, (refl, (refl, tt)))))))))
    (refl, (refl, (refl, (refl, (refl, (refl, (refl, (refl, (refl, tt)))))))))

-- each field of the table
puts : AllByRecursion (λ (name : Naming). Put name.1) (names_of names.Field)
puts = of_two (λ (name : Naming). Put name.1) front back
    (put_1, (put_2, (put_3, (put_4, (put_5, (put_6, (put_7, (put_8, (put_9, tt)))))))))
    (put_10, (put_11, (put_12, (put_13, (put_14, (put_15, (put_16, (put_17, (put_18, tt)))))))))

no_lookup : (number : ℕ) (given : List (ℕ × ℕ)) → AllByRecursion (λ n. (number == n) ≡ false) (numbers given)
    → lookup (λ n. number == n) given ≡ None
no_lookup number [] h = refl
no_lookup number (g ∷ given) h = ap (λ t. cond t (Some g.1) (lookup (λ n. number == n) given)) h.0 ∙ no_lookup number given h.1

combined : (b : Bool) (v n : ℕ) (o : Option ℕ) → (b ≡ true → o ≡ None)
    → unwrap_or o (cond b v n) ≡ unwrap_or (cond b (Some v) o) n
combined true v n o h = ap (λ o. unwrap_or o v) (h refl)
combined false v n o h = refl

-- a field has the set that is given for it, else the base's: a later field of the line is another one, and leaves it
given_field : (name : Naming) → Contains (names_of names.Field) name
    → (base : Sets) (fields : List (List ℕ)) (given : List (ℕ × ℕ))
    → AllZip SpellsField fields given → IsDistinct (λ number n. number == n) (numbers given)
    → field (overlaid base given) name.1 ≡ unwrap_or (lookup (λ n. name.1 == n) given) (field base name.1)
given_field name is base [] [] each once = refl
given_field name is base (f ∷ fields) [] each once = absurd each
given_field name is base [] (g ∷ given) each once = absurd each
given_field name is base (f ∷ fields) (g ∷ given) each once =
    let known = of_one (λ (n : Naming). Put n.1) (names_of names.Field) (each.0.name, g.0) each.0.field puts in
    let put : PutAt base g.0 g.1 name = of_one (PutAt base g.0 g.1) (names_of names.Field) name is (known base g.1) in
    let rest = given_field name is (with_field base g.0 g.1) fields given each.1
    (IsDistinct-tail (λ number n. number == n) g.0 (numbers given) once) in
    let others = IsDistinct-head (λ number n. number == n) g.0 (numbers given) once in
    rest ∙ ap (λ x. unwrap_or (lookup (λ n. name.1 == n) given) x) put
    ∙ combined (name.1 == g.0) g.1 (field base name.1) (lookup (λ n. name.1 == n) given)
    (λ same. no_lookup name.1 given (subst (λ (number : ℕ). AllByRecursion (λ n. (number == n) ≡ false) (numbers given))
    (sym (eqb-true name.1 g.0 same)) others))

-- ---- the line

pub know_spelled : (marked : Marked) (row : LineWords) (sets : Sets) → bytes_eq marked.word (codes "know") ≡ true
    → know_at row ≡ Ok sets
    → SpellsKnow (marked.word ∷ words_in row) sets
unfolding know_at
know_spelled w row sets is e =
    let one = bound (next_word kinds.Know kinds.Know base_of row) (λ base. entries_at base.0 0 base.1.bad base.1.words) sets e in
    let n = field_next kinds.Know kinds.Know base_of row one.0 one.1 in
    let f = fields_spelled one.0.0 0 one.0.1.bad one.0.1.words sets one.2 in
    record {
      name = n.0.word;
      base = one.0.0;
      fields = words_in one.0.1;
      given = f.given;
      words = ap (λ x. x ∷ words_in row) ((bytes_eq-Decides w.word (codes "know")).0 is)
          ∙ ap (λ ws. codes "know" ∷ map bytes_of ws) n.1;
      named = base_spelled n.0.word one.0.0 n.2;
      each = f.each;
      once = f.once;
      chosen = of_all (λ (name : Naming). field sets name.1 ≡ unwrap_or (lookup (λ n. name.1 == n) f.given) (field one.0.0 name.1))
          (names_of names.Field)
          (λ name h. ap (λ (mask : Sets). field mask name.1) f.is
          ∙ given_field name h one.0.0 (words_in one.0.1) f.given f.each f.once);
    }
