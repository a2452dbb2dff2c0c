-- The canonical text of a trace spells the trace.
use Rattle.std.proofs.Common.{◌≡◌, ℕ, ◌^◌, ◌<◌, ◌≤◌, Bool, true, false, not, ◌||◌, cond, List, [], ◌∷◌, ◌++◌, length, map, refl, ap, ◌∙◌, append_assoc, arith}
use Rattle.std.specs.Prelude.{Some, None, codes, nat_le, ◌==◌}
use Rattle.std.specs.List.{list_all, filter, flat_map, slice_split, position_or_len, AllByRecursion}
use Rattle.std.specs.Fmt.{decimal, digits}
use Rattle.std.specs.Str.Lines.{lines}
use Rattle.std.proofs.lemmas.Bool.{and_from}
use Rattle.std.proofs.lemmas.Bool.Decides.{nat_tests}
use Rattle.std.proofs.lemmas.Fmt.{decimal_is_IsNumeral, digits_is_IsNumeral}
use Rattle.std.proofs.lemmas.List.{take_all, length-map}
use Rattle.std.proofs.lemmas.List.Elements.{recursion_from_All}
use Rattle.std.proofs.lemmas.List.Concat.{flat_map-cons}
use Rattle.bk_base.specs.Places.{Shape, InProfile, is_cache_count, is_way_count, is_set_count}
use Rattle.bk_base.specs.declared.op.Op.{Op}
use Rattle.bk_base.specs.declared.op.Op.TheVariants.{Load, Store, UcLoad, UcStore, Evict}
use Rattle.bk_text.specs.Texts.{is_text_byte, is_blank, is_nonempty, is_digit, before_comment, words_of}
use Rattle.bk_text.proofs.Joined.{implied, all_append, split_at, split_none, position_none, line_again}
use Rattle.bk_text.proofs.Numerals.{all_digits, nonempty, decimal_again}
use Rattle.bk_trace.specs.Traces.{Parts, IsOp, IsLine, IsTrace}
use Rattle.bk_trace.specs.Grammar.{comment_mark, shape_of, operation_of, lines_of, parts_of, trace_of}
use Rattle.bk_trace.specs.Spelling.{hexadecimal, line_text, config_text, spelling}
use Rattle.bk_trace.proofs.Again.{address_again, below_again, count_again}
use Rattle.bk_trace.proofs.Whole.{worded, are_text}

-- ---- words of digits and letters, and lines of them

abbrev is_plain : ℕ → Bool
is_plain b = is_digit 36 b

abbrev is_quiet : ℕ → Bool
is_quiet b = is_plain b || b == 32

record IsWord (word : List ℕ) : Type 0 where
  some : is_nonempty word ≡ true
  plain : list_all is_plain word ≡ true

plain_is_quiet : (b : ℕ) → is_plain b ≡ true → is_quiet b ≡ true
plain_is_quiet b e = ap (λ t. t || b == 32) e

plain_no_blank : (b : ℕ) → is_plain b ≡ true → not (is_blank b) ≡ true
plain_no_blank b e = grind (arith, nat_tests)

quiet_no_feed : (b : ℕ) → is_quiet b ≡ true → not (b == 10) ≡ true
quiet_no_feed b e = grind (arith, nat_tests)

quiet_no_mark : (b : ℕ) → is_quiet b ≡ true → not (b == 35) ≡ true
quiet_no_mark b e = grind (arith, nat_tests)

quiet_no_return : (b : ℕ) → is_quiet b ≡ true → (b == 13) ≡ false
quiet_no_return b e = grind (arith, nat_tests)

quiet_is_text : (b : ℕ) → is_quiet b ≡ true → is_text_byte b ≡ true
quiet_is_text b e = grind (arith, nat_tests)

-- the words with one blank between two
abbrev sentence : List (List ℕ) → List ℕ
sentence [] = []
sentence (w ∷ []) = w
sentence (w ∷ v ∷ words) = w ++ 32 ∷ sentence (v ∷ words)

sentence_quiet : (words : List (List ℕ)) → AllByRecursion IsWord words → list_all is_quiet (sentence words) ≡ true
sentence_quiet [] h = refl
sentence_quiet (w ∷ []) h = implied is_plain is_quiet plain_is_quiet w h.0.plain
sentence_quiet (w ∷ v ∷ words) h =
    all_append is_quiet w (32 ∷ sentence (v ∷ words)) (implied is_plain is_quiet plain_is_quiet w h.0.plain)
    (sentence_quiet (v ∷ words) h.1)

some_word : (word : List ℕ) (parts words : List (List ℕ)) → is_nonempty word ≡ true → filter is_nonempty parts ≡ words
    → filter is_nonempty (word ∷ parts) ≡ word ∷ words
some_word word parts words some e = ap (λ t. cond t (word ∷ filter is_nonempty parts) (filter is_nonempty parts)) some
    ∙ ap (λ ws. word ∷ ws) e

parts_of_sentence : (words : List (List ℕ)) → AllByRecursion IsWord words
    → filter is_nonempty (slice_split is_blank (sentence words)) ≡ words
parts_of_sentence [] h = refl
parts_of_sentence (w ∷ []) h =
    ap (filter is_nonempty) (split_none is_blank w (implied is_plain (λ b. not (is_blank b)) plain_no_blank w h.0.plain))
    ∙ some_word w [] [] h.0.some refl
parts_of_sentence (w ∷ v ∷ words) h =
    ap (filter is_nonempty)
    (split_at is_blank 32 (sentence (v ∷ words)) refl w (implied is_plain (λ b. not (is_blank b)) plain_no_blank w h.0.plain))
    ∙ some_word w (slice_split is_blank (sentence (v ∷ words))) (v ∷ words) h.0.some (parts_of_sentence (v ∷ words) h.1)

words_again : (words : List (List ℕ)) → AllByRecursion IsWord words → words_of comment_mark (sentence words) ≡ words
words_again words h =
    let none = position_none (λ b. b == 35) (sentence words)
    (implied is_quiet (λ b. not (b == 35)) quiet_no_mark (sentence words) (sentence_quiet words h)) in
    let whole : before_comment comment_mark (sentence words) ≡ sentence words =
    take_all (position_or_len (λ b. b == 35) (sentence words)) (sentence words) (omega (arith, none)) in
    ap (λ line. filter is_nonempty (slice_split is_blank line)) whole ∙ parts_of_sentence words h

-- ---- the lines of a trace

digit_is_plain : (radix : ℕ) → radix ≤ 36 → (b : ℕ) → is_digit radix b ≡ true → is_plain b ≡ true
digit_is_plain radix small b e = grind (arith, nat_tests)

decimal_word : (n : ℕ) → n < 2 ^ 64 → IsWord (decimal n)
decimal_word n small =
    let d = decimal_is_IsNumeral n small in
    record {
      some = nonempty (decimal n) d.0.0;
      plain = implied (is_digit 10) is_plain (digit_is_plain 10 (omega arith)) (decimal n) (all_digits 10 (decimal n) d.0.1);
    }

hexadecimal_word : (n : ℕ) → n < 2 ^ 40 → IsWord (hexadecimal n)
hexadecimal_word n small =
    let d = digits_is_IsNumeral 16 false (omega arith) (omega arith) n (omega arith) in
    let all : list_all is_plain (digits 16 false n) ≡ true =
    implied (is_digit 16) is_plain (digit_is_plain 16 (omega arith)) (digits 16 false n) (all_digits 16 (digits 16 false n) d.0.1) in
    record { some = refl; plain = all }

literal_word : (word : List ℕ) → is_nonempty word ≡ true → list_all is_plain word ≡ true → IsWord word
literal_word word some plain = record { some = some; plain = plain }

op_words : Op → List (List ℕ)
op_words (Load a) = codes "L" ∷ hexadecimal a ∷ []
op_words (Store a v) = codes "S" ∷ hexadecimal a ∷ decimal v ∷ []
op_words (UcLoad a) = codes "UL" ∷ hexadecimal a ∷ []
op_words (UcStore a v) = codes "US" ∷ hexadecimal a ∷ decimal v ∷ []
op_words (Evict a) = codes "EV" ∷ hexadecimal a ∷ []

abbrev line_words : ℕ × Op → List (List ℕ)
line_words line = decimal line.0 ∷ op_words line.1

abbrev config_words : Shape → List (List ℕ)
config_words k = codes "config" ∷ decimal k.caches ∷ decimal k.sets ∷ decimal k.ways ∷ []

ops_are_words : (op : Op) → IsOp op → AllByRecursion IsWord (op_words op)
unfolding op_words
ops_are_words (Load a) h = (literal_word (codes "L") refl refl, (hexadecimal_word a h.below, tt))
ops_are_words (Store a v) h = (literal_word (codes "S") refl refl, (hexadecimal_word a h.0.below, (decimal_word v h.1, tt)))
ops_are_words (UcLoad a) h = (literal_word (codes "UL") refl refl, (hexadecimal_word a h.below, tt))
ops_are_words (UcStore a v) h = (literal_word (codes "US") refl refl, (hexadecimal_word a h.0.below, (decimal_word v h.1, tt)))
ops_are_words (Evict a) h = (literal_word (codes "EV") refl refl, (hexadecimal_word a h.below, tt))

stored_text : (cache name address value : List ℕ) → (cache ++ (((32 ∷ (name ++ 32 ∷ address)) ++ 32 ∷ []) ++ value)) ++ 10 ∷ []
    ≡ (cache ++ 32 ∷ (name ++ 32 ∷ (address ++ 32 ∷ value))) ++ 10 ∷ []
stored_text cache name address value = simp append_assoc

line_is : (cache : ℕ) (op : Op) → line_text (cache, op) ≡ sentence (line_words (cache, op)) ++ 10 ∷ []
unfolding op_words
line_is cache (Load a) = refl
line_is cache (Store a v) = stored_text (decimal cache) (codes "S") (hexadecimal a) (decimal v)
line_is cache (UcLoad a) = refl
line_is cache (UcStore a v) = stored_text (decimal cache) (codes "US") (hexadecimal a) (decimal v)
line_is cache (Evict a) = refl

spaced : (a b bytes d : List ℕ) → (((((a ++ b) ++ 32 ∷ []) ++ bytes) ++ 32 ∷ []) ++ d) ++ 10 ∷ []
    ≡ (a ++ (b ++ 32 ∷ (bytes ++ 32 ∷ d))) ++ 10 ∷ []
spaced a b bytes d = simp append_assoc

config_is : (k : Shape) → config_text k ≡ sentence (config_words k) ++ 10 ∷ []
config_is k = spaced (codes "config ") (decimal k.caches) (decimal k.sets) (decimal k.ways)

op_is_read : (caches cache : ℕ) (op : Op) → cache < caches → caches ≤ 256 → IsOp op
    → operation_of caches (line_words (cache, op)) ≡ Some (cache, op)
unfolding operation_of op_words
op_is_read caches cache (Load a) small low h = rw (below_again caches cache small low, address_again a h) refl
op_is_read caches cache (Store a v) small low h = rw (below_again caches cache small low, address_again a h.0, decimal_again v h.1) refl
op_is_read caches cache (UcLoad a) small low h = rw (below_again caches cache small low, address_again a h) refl
op_is_read caches cache (UcStore a v) small low h = rw (below_again caches cache small low, address_again a h.0, decimal_again v h.1) refl
op_is_read caches cache (Evict a) small low h = rw (below_again caches cache small low, address_again a h) refl

cache_count : (n : ℕ) → is_cache_count n ≡ true → n ≤ 16
cache_count n e = grind (arith, nat_tests)

way_count : (n : ℕ) → is_way_count n ≡ true → n ≤ 8
way_count n e = grind (arith, nat_tests)

set_count : (n : ℕ) → is_set_count n ≡ true → n ≤ 64
set_count n e = grind (arith, nat_tests)

shape_is_read : (k : Shape) → InProfile k → shape_of (config_words k) ≡ Some k
unfolding shape_of
shape_is_read s h =
    let caches = cache_count s.caches h.caches in
    let sets = set_count s.sets h.sets in
    let ways = way_count s.ways h.ways in
    rw (
      count_again is_cache_count s.caches (omega arith) h.caches,
      count_again is_set_count s.sets (omega arith) h.sets,
      count_again is_way_count s.ways (omega arith) h.ways,
    ) refl

config_is_words : (k : Shape) → InProfile k → AllByRecursion IsWord (config_words k)
config_is_words k h =
    let caches = cache_count k.caches h.caches in
    let sets = set_count k.sets h.sets in
    let ways = way_count k.ways h.ways in (
      literal_word (codes "config") refl refl,
      (decimal_word k.caches (omega arith), (decimal_word k.sets (omega arith), (decimal_word k.ways (omega arith), tt))),
    )

-- ---- the whole text

-- a line of words and what follows it
line_first : (word : List ℕ) (words : List (List ℕ)) (rest : List ℕ) → AllByRecursion IsWord (word ∷ words)
    → (worded (lines ((sentence (word ∷ words) ++ 10 ∷ []) ++ rest)) ≡ (word ∷ words) ∷ worded (lines rest))
    × (are_text (lines rest) ≡ true → are_text (lines ((sentence (word ∷ words) ++ 10 ∷ []) ++ rest)) ≡ true)
line_first word words rest h =
    let quiet = sentence_quiet (word ∷ words) h in
    let cut = line_again is_quiet quiet_no_feed quiet_no_return (sentence (word ∷ words)) rest quiet in (
      ap worded cut ∙ ap (λ words. filter is_nonempty (words ∷ map (words_of comment_mark) (lines rest)))
          (words_again (word ∷ words) h),
      λ e. ap are_text cut
          ∙ and_from (list_all is_text_byte (sentence (word ∷ words))) (are_text (lines rest))
          (implied is_quiet is_text_byte quiet_is_text (sentence (word ∷ words)) quiet) e,
    )

lines_again : (caches : ℕ) (ls : List (ℕ × Op)) → caches ≤ 256 → AllByRecursion (IsLine caches) ls
    → (worded (lines (flat_map line_text ls)) ≡ map line_words ls) × (are_text (lines (flat_map line_text ls)) ≡ true)
    × (lines_of caches (map line_words ls) ≡ Some ls)
lines_again caches [] low h = (refl, refl, refl)
lines_again caches (line ∷ ls) low h =
    let behind = lines_again caches ls low h.1 in
    let cache : line.0 < 256 = omega (arith, h.0.below) in
    let text : flat_map line_text (line ∷ ls) ≡ (sentence (line_words line) ++ 10 ∷ []) ++ flat_map line_text ls =
    flat_map-cons line_text line ls ∙ ap (λ t. t ++ flat_map line_text ls) (line_is line.0 line.1) in
    let first = line_first (decimal line.0) (op_words line.1) (flat_map line_text ls) (
      decimal_word line.0 (omega arith),
      ops_are_words line.1 h.0.op,
    ) in (
      ap (λ t. worded (lines t)) text ∙ first.0 ∙ ap (λ r. line_words line ∷ r) behind.0,
      ap (λ t. are_text (lines t)) text ∙ first.1 behind.1,
      rw (op_is_read caches line.0 line.1 h.0.below low h.0.op, behind.2) refl,
    )

few_worded : (read : List (List (List ℕ))) (ls : List (ℕ × Op)) → read ≡ map line_words ls → length ls ≤ 10000
    → nat_le (length read) 10000 ≡ true
few_worded read ls is few =
    let same : length read ≡ length ls = ap length is ∙ length-map ls line_words in
    grind (arith, nat_tests, same)

parts_again : (t : Parts) (read : List (List (List ℕ))) → IsTrace t → read ≡ map line_words t.lines
    → lines_of t.config.caches read ≡ Some t.lines → parts_of (config_words t.config ∷ read) ≡ Some t
unfolding parts_of
parts_again t read h is e =
    let few : nat_le (length read) 10000 ≡ true = few_worded read t.lines is h.few in
    rw (shape_is_read t.config h.profile, e, few) refl

-- the canonical text of a trace spells it
pub trace_again : (t : Parts) → IsTrace t → trace_of (spelling t) ≡ Some t
unfolding trace_of
trace_again t h =
    let low = cache_count t.config.caches h.profile.caches in
    let behind = lines_again t.config.caches t.lines (omega arith) (recursion_from_All (IsLine t.config.caches) t.lines h.each) in
    let text : spelling t ≡ (sentence (config_words t.config) ++ 10 ∷ []) ++ flat_map line_text t.lines =
    ap (λ x. x ++ flat_map line_text t.lines) (config_is t.config) in
    let first = line_first (codes "config") (decimal t.config.caches ∷ decimal t.config.sets ∷ decimal t.config.ways ∷ [])
    (flat_map line_text t.lines) (config_is_words t.config h.profile) in
    let is_worded : worded (lines (spelling t)) ≡ config_words t.config ∷ map line_words t.lines =
    ap (λ x. worded (lines x)) text ∙ first.0 ∙ ap (λ r. config_words t.config ∷ r) behind.0 in
    let is_text : are_text (lines (spelling t)) ≡ true = ap (λ x. are_text (lines x)) text ∙ first.1 behind.1 in
    ap (λ b. cond b (parts_of (worded (lines (spelling t)))) None) is_text ∙ ap parts_of is_worded
    ∙ parts_again t (map line_words t.lines) h refl behind.2
