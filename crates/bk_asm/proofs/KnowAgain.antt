-- A know line is read as its sets.
use Rattle.std.proofs.Common.{◌≡◌, ℕ, ◌+◌, ◌<◌, ◌≤◌, ◌^◌, ◌/◌, ◌%◌, Bool, true, false, ◌&&◌, ◌||◌, ◌==◌, cond, Option, Some, None, Result, Ok, List, [], ◌∷◌, ◌++◌, length, drop, refl, sym, ap, subst, ◌∙◌, inl, inr, arith}
use Rattle.std.specs.Prelude.{codes, nat_le, option_and_then, bit_or}
use Rattle.std.specs.Option.{option_map}
use Rattle.std.specs.List.{list_all, AllByRecursion}
use Rattle.std.proofs.lemmas.Bool.{eqb-true, and_parts, and_from}
use Rattle.std.proofs.lemmas.Bool.Decides.{nat_tests}
use Rattle.std.proofs.lemmas.Nat.{or_lt}
use Rattle.std.proofs.Math.Nat.{pow-le-pow_right, div-eq_of_lt, mod-lt}
use Rattle.std.proofs.Math.Pow.{pow-lt}
use Rattle.bk_know.specs.declared.sets.Sets.{Sets}
use Rattle.bk_know.specs.Sets.{idle_base, held_base, field, mask_of, IsKnow}
use Rattle.bk_text.specs.LineWords.{LineWords}
use Rattle.bk_text.proofs.LineWords.{tested}
use Rattle.bk_text.specs.Faults.{◌>>=◌}
use Rattle.bk_asm.specs.Faults.{At}
use Rattle.bk_asm.specs.declared.names.Names.TheVariants as names
use Rattle.bk_asm.specs.Names.{Naming, cut_at, names_of}
use Rattle.bk_asm.specs.Ranges.{IsSet, limit_of, AreInRange}
use Rattle.bk_asm.specs.Reading.{with_field, fresh, values_of, entry_of, entries_at, know_at, parts, content_at, labelled_at, line_at, row_at}
use Rattle.bk_asm.specs.Reading.{field as word_of}
use Rattle.bk_asm.specs.Writing.{fields_text, is_held, based_text, know_text}
use Rattle.bk_asm.proofs.Entries.{entries_on, entries_end}
use Rattle.bk_asm.proofs.Sentences.{is_word, spaced, marked, marks, row, row_words}
use Rattle.bk_asm.proofs.Computed.{entry_word, IsEntry, fields_again}

-- ---- the sets of a mask are in their ranges

-- a remainder is less than what was divided by
remainder : (i n value : ℕ) → 0 < n → i % n ≡ value → value < n
remainder i n value some e = subst (λ (number : ℕ). number < n) e (mod-lt i some)

-- two tests that fail
or_parts : (a b : Bool) → a || b ≡ false → (a ≡ false) × (b ≡ false)
or_parts true b e = absurd cc
or_parts false b e = (refl, e)

-- a number that is not 0
some_of : (n : ℕ) → (n == 0) ≡ false → 0 < n
some_of n e = grind (arith, nat_tests, e)

-- no field of a know line is empty
record NoneEmpty (sets : Sets) : Type 0 where
  stage : 0 < sets.stage
  head : 0 < sets.head
  gp : 0 < sets.gp
  kind : 0 < sets.kind
  summ : 0 < sets.summ
  own : 0 < sets.own
  owner : 0 < sets.owner
  others : 0 < sets.others
  victim : 0 < sets.victim
  acks : 0 < sets.acks
  wb : 0 < sets.wb
  mem : 0 < sets.mem
  dreq : 0 < sets.dreq
  down : 0 < sets.down
  f0 : 0 < sets.f0
  f1 : 0 < sets.f1
  f2 : 0 < sets.f2
  f3 : 0 < sets.f3

-- Each field of what a mask says has a set of its values: `any_empty` is a chain of tests, one for each field, and a field's set is a
-- remainder of the mask.
pub in_range : (sets : Sets) → IsKnow sets → AreInRange sets
in_range sets h =
    let m = mask_of sets in
    let at-stage = or_parts (sets.stage == 0) _ h.some in
    let at-head = or_parts (sets.head == 0) _ at-stage.1 in
    let at-gp = or_parts (sets.gp == 0) _ at-head.1 in
    let at-kind = or_parts (sets.kind == 0) _ at-gp.1 in
    let at-summ = or_parts (sets.summ == 0) _ at-kind.1 in
    let at-own = or_parts (sets.own == 0) _ at-summ.1 in
    let at-owner = or_parts (sets.owner == 0) _ at-own.1 in
    let at-others = or_parts (sets.others == 0) _ at-owner.1 in
    let at-victim = or_parts (sets.victim == 0) _ at-others.1 in
    let at-acks = or_parts (sets.acks == 0) _ at-victim.1 in
    let at-wb = or_parts (sets.wb == 0) _ at-acks.1 in
    let at-mem = or_parts (sets.mem == 0) _ at-wb.1 in
    let at-dreq = or_parts (sets.dreq == 0) _ at-mem.1 in
    let at-down = or_parts (sets.down == 0) _ at-dreq.1 in
    let at-f0 = or_parts (sets.f0 == 0) _ at-down.1 in
    let at-f1 = or_parts (sets.f1 == 0) _ at-f0.1 in
    let at-f2 = or_parts (sets.f2 == 0) _ at-f1.1 in
    let at-f3 = or_parts (sets.f3 == 0) _ at-f2.1 in
    record {
      stage = (some_of sets.stage at-stage.0, remainder (m / 2 ^ 0) (2 ^ 4) sets.stage (omega arith) (ap (λ (q : Sets). q.stage) h.again));
      head = (some_of sets.head at-head.0, remainder (m / 2 ^ 4) (2 ^ 7) sets.head (omega arith) (ap (λ (q : Sets). q.head) h.again));
      gp = (some_of sets.gp at-gp.0, remainder (m / 2 ^ 11) (2 ^ 2) sets.gp (omega arith) (ap (λ (q : Sets). q.gp) h.again));
      kind = (some_of sets.kind at-kind.0, remainder (m / 2 ^ 13) (2 ^ 5) sets.kind (omega arith) (ap (λ (q : Sets). q.kind) h.again));
      summ = (some_of sets.summ at-summ.0, remainder (m / 2 ^ 18) (2 ^ 3) sets.summ (omega arith) (ap (λ (q : Sets). q.summ) h.again));
      own = (some_of sets.own at-own.0, remainder (m / 2 ^ 21) (2 ^ 6) sets.own (omega arith) (ap (λ (q : Sets). q.own) h.again));
      owner = (
        some_of sets.owner at-owner.0,
        remainder (m / 2 ^ 27) (2 ^ 5) sets.owner (omega arith) (ap (λ (q : Sets). q.owner) h.again),
      );
      others = (
        some_of sets.others at-others.0,
        remainder (m / 2 ^ 32) (2 ^ 2) sets.others (omega arith) (ap (λ (q : Sets). q.others) h.again),
      );
      victim = (
        some_of sets.victim at-victim.0,
        remainder (m / 2 ^ 34) (2 ^ 2) sets.victim (omega arith) (ap (λ (q : Sets). q.victim) h.again),
      );
      acks = (some_of sets.acks at-acks.0, remainder (m / 2 ^ 36) (2 ^ 2) sets.acks (omega arith) (ap (λ (q : Sets). q.acks) h.again));
      wb = (some_of sets.wb at-wb.0, remainder (m / 2 ^ 38) (2 ^ 3) sets.wb (omega arith) (ap (λ (q : Sets). q.wb) h.again));
      mem = (some_of sets.mem at-mem.0, remainder (m / 2 ^ 41) (2 ^ 4) sets.mem (omega arith) (ap (λ (q : Sets). q.mem) h.again));
      dreq = (some_of sets.dreq at-dreq.0, remainder (m / 2 ^ 45) (2 ^ 6) sets.dreq (omega arith) (ap (λ (q : Sets). q.dreq) h.again));
      down = (some_of sets.down at-down.0, remainder (m / 2 ^ 51) (2 ^ 5) sets.down (omega arith) (ap (λ (q : Sets). q.down) h.again));
      f0 = (some_of sets.f0 at-f0.0, remainder (m / 2 ^ 56) (2 ^ 2) sets.f0 (omega arith) (ap (λ (q : Sets). q.f0) h.again));
      f1 = (some_of sets.f1 at-f1.0, remainder (m / 2 ^ 58) (2 ^ 2) sets.f1 (omega arith) (ap (λ (q : Sets). q.f1) h.again));
      f2 = (some_of sets.f2 at-f2.0, remainder (m / 2 ^ 60) (2 ^ 2) sets.f2 (omega arith) (ap (λ (q : Sets). q.f2) h.again));
      f3 = (some_of sets.f3 at-f3.0, remainder (m / 2 ^ 62) (2 ^ 2) sets.f3 (omega arith) (ap (λ (q : Sets). q.f3) h.again));
    }

-- the sets of fields
abbrev HaveSets : List Naming → Sets → Type 0
HaveSets fields sets = AllByRecursion (λ name. IsSet (limit_of name.1) (field sets name.1)) fields

-- each field of the table has a set of its values
all_sets : (sets : Sets) → AreInRange sets → HaveSets (names_of names.Field) sets
all_sets sets h = (
  h.stage,
  (
    h.head,
    (
      h.gp,
      (
        h.kind,
        (
          h.summ,
          (
            h.own,
            (
              h.owner,
              (
                h.others,
                (
                  h.victim,
                  (h.acks, (h.wb, (h.mem, (h.dreq, (h.down, (h.f0, (h.f1, (h.f2, (h.f3, tt))))))))),
                ),
              ),
            ),
          ),
        ),
      ),
    ),
  ),
)

-- ---- entries

-- the entries of fields whose sets differ from those of a base
abbrev pub entry_words : List Naming → Sets → Sets → List (List ℕ)
entry_words [] base sets = []
entry_words (name ∷ more) base sets =
    cond (field sets name.1 == field base name.1) (entry_words more base sets) (entry_word name (field sets name.1)
    ∷ entry_words more base sets)

-- sets with those of fields that differ from the base
abbrev applied : List Naming → Sets → Sets → Sets → Sets
applied [] base sets mask = mask
applied (name ∷ more) base sets mask =
    applied more base sets (cond (field sets name.1 == field base name.1) mask (with_field mask name.1 (field sets name.1)))

-- an entry, if the field differs, before other entries
text_step : (b : Bool) (word more : List ℕ) (ws : List (List ℕ)) → spaced ws ≡ more
    → cond b [] (32 ∷ word) ++ more ≡ spaced (cond b ws (word ∷ ws))
text_step true word more ws e = sym e
text_step false word more ws e = ap (λ l. 32 ∷ (word ++ l)) (sym e)

-- the text of the fields that differ is that of the entries
entries_text : (fields : List Naming) (base sets : Sets) → fields_text fields base sets ≡ spaced (entry_words fields base sets)
entries_text [] base sets = refl
entries_text (name ∷ more) base sets =
    text_step (field sets name.1 == field base name.1) (entry_word name (field sets name.1)) (fields_text more base sets)
    (entry_words more base sets)
    (sym (entries_text more base sets))

-- each field gives an entry that is read again
abbrev AreEntries : List Naming → Sets → Type 0
AreEntries fields sets = AllByRecursion (λ name. IsEntry name (field sets name.1)) fields

-- an entry, if the field differs, is a word
words_step : (b : Bool) (word : List ℕ) (ws : List (List ℕ)) → is_word word ≡ true → list_all is_word ws ≡ true
    → list_all is_word (cond b ws (word ∷ ws)) ≡ true
words_step true word ws e f = f
words_step false word ws e f = and_from (is_word word) (list_all is_word ws) e f

-- the entries are words
entries_are_words : (fields : List Naming) (base sets : Sets) → AreEntries fields sets
    → list_all is_word (entry_words fields base sets) ≡ true
entries_are_words [] base sets h = refl
entries_are_words (name ∷ more) base sets h =
    words_step (field sets name.1 == field base name.1) (entry_word name (field sets name.1)) (entry_words more base sets) h.0.word
    (entries_are_words more base sets h.1)

-- a field above all that were seen
is_fresh : (seen least number : ℕ) → seen < 2 ^ least → least ≤ number → fresh seen number ≡ Some number
is_fresh seen least number lt le =
    let high : 2 ^ least ≤ 2 ^ number = pow-le-pow_right {n = 2} (omega arith) le in
    let none : seen / 2 ^ number ≡ 0 = div-eq_of_lt (omega (arith, high)) in
    rw none refl

-- the fields that were seen are below the next
seen_more : (seen least number : ℕ) → seen < 2 ^ least → least ≤ number → seen < 2 ^ (number + 1)
seen_more seen least number lt le =
    let high : 2 ^ least ≤ 2 ^ (number + 1) = pow-le-pow_right {n = 2} (omega arith) (omega arith) in
    omega (arith, high)

-- with one more field they are below the one behind that
seen_one : (seen least number : ℕ) → seen < 2 ^ least → least ≤ number → bit_or seen (2 ^ number) < 2 ^ (number + 1)
seen_one seen least number lt le = or_lt (number + 1) seen (2 ^ number) (seen_more seen least number lt le) (pow-lt (omega arith))

-- an entry of a field above those that were seen
entry_read : (seen least : ℕ) (name : Naming) (n : ℕ) → seen < 2 ^ least → least ≤ name.1 → IsEntry name n
    → entry_of seen (entry_word name n) ≡ Some (name.1, n)
unfolding entry_of
entry_read seen least name n lt le h =
    let cut = cut_at 61 (entry_word name n) in
    ap (λ (o : Option ℕ). option_and_then (λ k. option_map (λ set. (k, set)) (values_of k cut.1))
    (option_and_then (fresh seen) o)) h.field
    ∙ ap (λ (o : Option ℕ). option_and_then (λ k. option_map (λ set. (k, set)) (values_of k cut.1)) o)
    (is_fresh seen least name.1 lt le)
    ∙ ap (λ (o : Option ℕ). option_map (λ set. (name.1, set)) o) h.set

-- the numbers of fields ascend from the least one on
abbrev ascend : ℕ → List Naming → Bool
ascend least [] = true
ascend least (name ∷ more) = nat_le least name.1 && ascend (name.1 + 1) more

-- the entries are read one after the other
entries_read : (fields : List Naming) (base sets mask : Sets) (seen least c : ℕ) → seen < 2 ^ least → ascend least fields ≡ true
    → AreEntries fields sets
    → entries_at mask seen None (marks c (entry_words fields base sets)) ≡ Ok (applied fields base sets mask)
entries_read [] base sets mask seen least c lt up h = entries_end mask seen None
entries_read (name ∷ more) base sets mask seen least c lt up h =
    let t = and_parts (nat_le least name.1) (ascend (name.1 + 1) more) up in
    let le : least ≤ name.1 = grind (arith, nat_tests, t.0) in
    let n = field sets name.1 in
    let w = entry_word name n in
    let ws = entry_words more base sets in
    elim (tested (n == field base name.1)) [
      | inl same ↦
          ap (λ b. entries_at mask seen None (marks c (cond b ws (w ∷ ws)))) same
          ∙ entries_read more base sets mask seen (name.1 + 1) c (seen_more seen least name.1 lt le) t.1 h.1
          ∙ ap (λ b. Ok (applied more base sets (cond b mask (with_field mask name.1 n)))) (sym same)
      | inr other ↦
          ap (λ b. entries_at mask seen None (marks c (cond b ws (w ∷ ws)))) other
          ∙ entries_on mask seen None (marked c w) (marks (c + (length w + 1)) ws) (name.1, n) (entry_read seen least name n lt le h.0)
          ∙ entries_read more base sets (with_field mask name.1 n) (bit_or seen (2 ^ name.1)) (name.1 + 1) (c + (length w + 1))
          (seen_one seen least name.1 lt le) t.1 h.1
          ∙ ap (λ b. Ok (applied more base sets (cond b mask (with_field mask name.1 n)))) (sym other)
    ]

-- a field that is the base's, or takes its place
step : (make : ℕ → Sets) (n y : ℕ) → cond (n == y) (make y) (make n) ≡ make n
step make n y = elim (tested (n == y)) [
  | inl same ↦ ap (λ b. cond b (make y) (make n)) same ∙ ap make (sym (eqb-true n y same))
  | inr other ↦ ap (λ b. cond b (make y) (make n)) other
]

-- with each field that differs put in its place, a base becomes the sets
all_applied : (base sets : Sets) → applied (names_of names.Field) base sets base ≡ sets
all_applied base sets =
    let s1 = record base { stage = sets.stage } in
    let s2 = record s1 { head = sets.head } in
    let s3 = record s2 { gp = sets.gp } in
    let s4 = record s3 { kind = sets.kind } in
    let s5 = record s4 { summ = sets.summ } in
    let s6 = record s5 { own = sets.own } in
    let s7 = record s6 { owner = sets.owner } in
    let s8 = record s7 { others = sets.others } in
    let s9 = record s8 { victim = sets.victim } in
    let s10 = record s9 { acks = sets.acks } in
    let s11 = record s10 { wb = sets.wb } in
    let s12 = record s11 { mem = sets.mem } in
    let s13 = record s12 { dreq = sets.dreq } in
    let s14 = record s13 { down = sets.down } in
    let s15 = record s14 { f0 = sets.f0 } in
    let s16 = record s15 { f1 = sets.f1 } in
    let s17 = record s16 { f2 = sets.f2 } in
    ap (applied (drop 1 (names_of names.Field)) base sets) (step (λ v. record base { stage = v }) sets.stage base.stage)
    ∙ ap (applied (drop 2 (names_of names.Field)) base sets) (step (λ v. record s1 { head = v }) sets.head base.head)
    ∙ ap (applied (drop 3 (names_of names.Field)) base sets) (step (λ v. record s2 { gp = v }) sets.gp base.gp)
    ∙ ap (applied (drop 4 (names_of names.Field)) base sets) (step (λ v. record s3 { kind = v }) sets.kind base.kind)
    ∙ ap (applied (drop 5 (names_of names.Field)) base sets) (step (λ v. record s4 { summ = v }) sets.summ base.summ)
    ∙ ap (applied (drop 6 (names_of names.Field)) base sets) (step (λ v. record s5 { own = v }) sets.own base.own)
    ∙ ap (applied (drop 7 (names_of names.Field)) base sets) (step (λ v. record s6 { owner = v }) sets.owner base.owner)
    ∙ ap (applied (drop 8 (names_of names.Field)) base sets) (step (λ v. record s7 { others = v }) sets.others base.others)
    ∙ ap (applied (drop 9 (names_of names.Field)) base sets) (step (λ v. record s8 { victim = v }) sets.victim base.victim)
    ∙ ap (applied (drop 10 (names_of names.Field)) base sets) (step (λ v. record s9 { acks = v }) sets.acks base.acks)
    ∙ ap (applied (drop 11 (names_of names.Field)) base sets) (step (λ v. record s10 { wb = v }) sets.wb base.wb)
    ∙ ap (applied (drop 12 (names_of names.Field)) base sets) (step (λ v. record s11 { mem = v }) sets.mem base.mem)
    ∙ ap (applied (drop 13 (names_of names.Field)) base sets) (step (λ v. record s12 { dreq = v }) sets.dreq base.dreq)
    ∙ ap (applied (drop 14 (names_of names.Field)) base sets) (step (λ v. record s13 { down = v }) sets.down base.down)
    ∙ ap (applied (drop 15 (names_of names.Field)) base sets) (step (λ v. record s14 { f0 = v }) sets.f0 base.f0)
    ∙ ap (applied (drop 16 (names_of names.Field)) base sets) (step (λ v. record s15 { f1 = v }) sets.f1 base.f1)
    ∙ ap (applied (drop 17 (names_of names.Field)) base sets) (step (λ v. record s16 { f2 = v }) sets.f2 base.f2)
    ∙ ap (applied (drop 18 (names_of names.Field)) base sets) (step (λ v. record s17 { f3 = v }) sets.f3 base.f3)

-- ---- the line

-- the base of what a mask says
abbrev base_of_sets : Sets → Sets
base_of_sets sets = cond (is_held sets) held_base idle_base

-- the name of the base
abbrev base_name : Sets → List ℕ
base_name sets = cond (is_held sets) (codes "held") (codes "idle")

-- the words of a know line
abbrev pub know_words : Sets → List (List ℕ)
know_words sets = codes "know" ∷ base_name sets ∷ entry_words (names_of names.Field) (base_of_sets sets) sets

-- the text of a know line, without its end
abbrev pub know_bytes : Sets → List ℕ
know_bytes sets = 32 ∷ spaced (know_words sets)

-- the fields of what a mask says give entries
entries_of : (sets : Sets) → IsKnow sets → AreEntries (names_of names.Field) sets
entries_of sets h = fields_again sets (all_sets sets (in_range sets h))

-- the name of a base is a word
base_is_word : (b : Bool) → is_word (cond b (codes "held") (codes "idle")) ≡ true
base_is_word true = refl
base_is_word false = refl

-- the words of a know line are words
pub know_is_words : (sets : Sets) → IsKnow sets → list_all is_word (know_words sets) ≡ true
know_is_words sets h =
    let ws = entry_words (names_of names.Field) (base_of_sets sets) sets in
    and_from (is_word (base_name sets)) (list_all is_word ws) (base_is_word (is_held sets))
    (entries_are_words (names_of names.Field) (base_of_sets sets) sets (entries_of sets h))

-- the text of a know line with this base
based : (name : List ℕ) (base sets : Sets) → based_text (names_of names.Field) name base sets
    ≡ (32 ∷ spaced (codes "know" ∷ name ∷ entry_words (names_of names.Field) base sets)) ++ 10 ∷ []
unfolding based_text
based name base s = ap (λ l. ((codes "  know " ++ name) ++ l) ++ 10 ∷ []) (entries_text (names_of names.Field) base s)

-- the text of a know line, by the base
text_by : (b : Bool) (sets : Sets)
    → cond b (based_text (names_of names.Field) (codes "held") held_base sets)
    (based_text (names_of names.Field) (codes "idle") idle_base sets)
    ≡ (32 ∷ spaced (codes "know" ∷ cond b (codes "held") (codes "idle")
    ∷ entry_words (names_of names.Field) (cond b held_base idle_base) sets)) ++ 10 ∷ []
text_by true sets = based (codes "held") held_base sets
text_by false sets = based (codes "idle") idle_base sets

-- the line of a mask is its words, and LF
pub know_bytes_are : (sets : Sets) → know_text sets ≡ know_bytes sets ++ 10 ∷ []
know_bytes_are sets = text_by (is_held sets) sets

-- a know line, by its base and what its entries are read as
line_by : (b : Bool) (labels : List Naming) (begun full : Bool) (line end : ℕ) (ws : List (List ℕ)) (sets : Sets)
    → ((c : ℕ) → entries_at (cond b held_base idle_base) 0 None (marks c ws) ≡ Ok sets)
    → line_at labels begun full false line (row (marks 3 (codes "know" ∷ cond b (codes "held") (codes "idle") ∷ ws)) end)
    (marks 3 (codes "know" ∷ cond b (codes "held") (codes "idle") ∷ ws)) ≡ Ok (parts (Some sets) None)
unfolding line_at labelled_at content_at know_at word_of
line_by true labels begun full line end ws s e = ap (λ (r : Result Sets At). r >>= λ sets. Ok (parts (Some sets) None)) (e 13)
line_by false labels begun full line end ws s e = ap (λ (r : Result Sets At). r >>= λ sets. Ok (parts (Some sets) None)) (e 13)

-- a know line is read from its text
pub know_read : (sets : Sets) (labels : List Naming) (begun full : Bool) (line : ℕ) → IsKnow sets
    → line_at labels begun full false line (row_at (know_bytes sets)) (row_at (know_bytes sets)).words ≡ Ok (parts (Some sets) None)
know_read sets labels begun full line h =
    let ws = entry_words (names_of names.Field) (base_of_sets sets) sets in
    let end = length (know_bytes sets) + 1 in
    ap (λ (r : LineWords). line_at labels begun full false line r r.words) (row_words (know_words sets) (know_is_words sets h))
    ∙ line_by (is_held sets) labels begun full line end ws sets
    (λ c. entries_read (names_of names.Field) (base_of_sets sets) sets (base_of_sets sets) 0 0 c (omega arith) refl (entries_of sets h)
    ∙ ap Ok (all_applied (base_of_sets sets) sets))
