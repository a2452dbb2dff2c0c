-- A text is read exactly where it is of the grammar.
use Rattle.std.proofs.Common.{◌≡◌, ℕ, suc, ◌+◌, ◌<◌, ◌≤◌, inl, inr, Bool, true, false, ◌&&◌, ◌||◌, cond, List, [], ◌∷◌, length, map, refl, sym, ap, ◌∙◌, zero-add, subst, arith}
use Rattle.std.specs.Prelude.{Option, Some, None, is_none, option_and_then, nat_lt, nat_le, Result, Ok, Err, IfOk, IfErr}
use Rattle.std.specs.Option.{option_map}
use Rattle.std.specs.List.{list_all, list_any, filter, cons_option}
use Rattle.std.specs.Str.Lines.{lines}
use Rattle.std.proofs.lemmas.Bool.Decides.{nat_tests}
use Rattle.bk_base.specs.Places.{Shape}
use Rattle.bk_base.specs.declared.op.Op.{Op}
use Rattle.bk_text.specs.Texts.{is_text_byte, is_nonempty, words_of}
use Rattle.bk_text.specs.LineWords.{Marked, LineWords}
use Rattle.bk_text.proofs.LineWords.{tested}
use Rattle.bk_text.proofs.Laws.{bytes_of, is_text_word, is_text_line, text_in_line, words_in_line}
use Rattle.bk_text.specs.Faults.{Bad, ◌>>=◌}
use Rattle.bk_trace.specs.Traces.{Parts}
use Rattle.bk_trace.specs.Faults.{At, bad, Gives, IsOff}
use Rattle.bk_trace.specs.declared.fault.TraceFault.{TraceFault}
use Rattle.bk_trace.specs.declared.fault.TraceFault.TheVariants as errors
use Rattle.bk_trace.specs.Grammar.{comment_mark, number_below, shape_of, operation_of, lines_of, parts_of, trace_of}
use Rattle.bk_trace.specs.Reading.{config_at, operation_at, surplus, line_at, on_line, line_of, counted, lines_at, no_config, first_at, found, config_from, has_words, lines_read, trace_at}
use Rattle.bk_trace.proofs.Agrees.{ok_of, guard, guard_none, operation_agrees, config_agrees}

-- the words of each line that has some, and whether all of their bytes are those of a text
abbrev pub worded : List (List ℕ) → List (List (List ℕ))
worded texts = filter is_nonempty (map (words_of comment_mark) texts)

abbrev pub are_text : List (List ℕ) → Bool
are_text texts = list_all (λ line. list_all is_text_byte line) texts

-- the same for a line with these words and those behind it
abbrev worded_with : List Marked → List (List ℕ) → List (List (List ℕ))
worded_with words texts = filter is_nonempty (map bytes_of words ∷ map (words_of comment_mark) texts)

worded_are : (text : List ℕ) (texts : List (List ℕ)) → worded (text ∷ texts) ≡ worded_with (line_of text).words texts
worded_are text texts = ap (λ words. filter is_nonempty (words ∷ map (words_of comment_mark) texts)) (words_in_line comment_mark text)

text_are : (text : List ℕ) (texts : List (List ℕ)) → are_text (text ∷ texts) ≡ (is_text_line (line_of text) && are_text texts)
text_are text texts = ap (λ t. t && are_text texts) (text_in_line comment_mark text)

bind_id : {X E : Type 0} (r : Result X E) → ok_of (r >>= λ x. Ok x) ≡ ok_of r
bind_id (Ok x) = refl
bind_id (Err e) = refl

bind_map : {X Y E : Type 0} (f : X → Y) (r : Result X E) → ok_of (r >>= λ x. Ok (f x)) ≡ option_map f (ok_of r)
bind_map f (Ok x) = refl
bind_map f (Err e) = refl

-- a guarded value that is there, or isn't
guard_some : {X : Type 0} (b : Bool) (o : Option X) (x : X) → Some x ≡ guard b o → (b ≡ true) × (o ≡ Some x)
guard_some true o x e = (refl, sym e)
guard_some false o x e = absurd cc

guard_nothing : {X Y : Type 0} (b test : Bool) (o : Option X) (f : X → Option Y) → None ≡ guard b o
    → guard (b && test) (option_and_then f o) ≡ None
guard_nothing true test o f e = ap (λ p. guard test (option_and_then f p)) (sym e) ∙ guard_none test
guard_nothing false test o f e = refl

guard_limited : {X Y : Type 0} (b test few : Bool) (o : Option X) (f : X → Option Y) → None ≡ guard b o
    → guard (b && test) (guard few (option_and_then f o)) ≡ None
guard_limited true test few o f e = ap (λ p. guard test (guard few (option_and_then f p))) (sym e) ∙ ap (guard test) (guard_none few)
    ∙ guard_none test
guard_limited false test few o f e = refl

abbrev Lines : Type 0
Lines = List (ℕ × Op)

-- at most so many lines
abbrev limited : ℕ → ℕ → ℕ → List (List (List ℕ)) → Option Lines
limited limit caches count worded = guard (nat_le (count + length worded) limit) (lines_of caches worded)

-- ---- a line and those behind it

guarded_more : (b few : Bool) (line : ℕ × Op) (o : Option Lines)
    → option_map (λ ls. line ∷ ls) (guard b (guard few o)) ≡ guard b (guard few (option_and_then (λ ls. Some (line ∷ ls)) o))
guarded_more true true line None = refl
guarded_more true true line (Some ls) = refl
guarded_more true false line o = refl
guarded_more false few line o = refl

same_count : (count n limit : ℕ) → nat_le ((count + 1) + n) limit ≡ nat_le (count + suc n) limit
same_count count n limit = ap (λ k. nat_le k limit) (omega arith)

too_many : (count n limit : ℕ) → nat_lt count limit ≡ false → nat_le (count + suc n) limit ≡ false
too_many count n limit e = grind (arith, nat_tests)

-- what the lines behind give, for each count
abbrev Behind : ℕ → ℕ → List (List ℕ) → Type 0
Behind limit caches texts = (count line : ℕ) → count ≤ limit
    → ok_of (lines_at limit caches count line texts) ≡ guard (are_text texts) (limited limit caches count (worded texts))

abbrev and_on : ℕ → ℕ → ℕ → ℕ → List (List ℕ) → Result (Option (ℕ × Op)) Bad → Result Lines Bad
and_on limit caches count line texts read =
    read >>= λ first. lines_at limit caches (counted count first) (line + 1) texts >>= λ others. Ok (cons_option first others)

-- The line's operation is read as the grammar has it or fails as it does; the lines behind it are the induction's.
with_operation : (limit caches count line : ℕ) (texts : List (List ℕ)) (test : Bool) (words : List (List ℕ))
    (r : Result (ℕ × Op) At)
    → count < limit → Behind limit caches texts
    → ok_of r ≡ guard test (operation_of caches words)
    → ok_of (and_on limit caches count line texts (on_line line (r >>= λ l. Ok (Some l))))
    ≡ guard (test && are_text texts) (limited limit caches count (words ∷ worded texts))
with_operation limit caches count line texts test words (Err e) few behind is =
    sym (guard_limited test (are_text texts) (nat_le (count + suc (length (worded texts))) limit) (operation_of caches words)
    (λ l. option_and_then (λ ls. Some (l ∷ ls)) (lines_of caches (worded texts))) is)
with_operation limit caches count line texts test words (Ok op) few behind is =
    let g = guard_some test (operation_of caches words) op is in
    bind_map (λ ls. op ∷ ls) (lines_at limit caches (count + 1) (line + 1) texts)
    ∙ ap (option_map (λ ls. op ∷ ls)) (behind (count + 1) (line + 1) (omega arith))
    ∙ guarded_more (are_text texts) (nat_le ((count + 1) + length (worded texts)) limit) op (lines_of caches (worded texts))
    ∙ ap (λ few. guard (are_text texts) (guard few (option_and_then (λ ls. Some (op ∷ ls)) (lines_of caches (worded texts)))))
    (same_count count (length (worded texts)) limit)
    ∙ ap (λ b. guard (b && are_text texts)
    (guard (nat_le (count + suc (length (worded texts))) limit)
    (option_and_then (λ ls. Some (op ∷ ls)) (lines_of caches (worded texts))))) (sym g.0)
    ∙ ap (λ o. guard (test && are_text texts)
    (guard (nat_le (count + suc (length (worded texts))) limit)
    (option_and_then (λ l. option_and_then (λ ls. Some (l ∷ ls)) (lines_of caches (worded texts))) o))) (sym g.1)

lines_step : (limit caches count line : ℕ) (words : List Marked) (bad : Option ℕ) (end : ℕ) (texts : List (List ℕ))
    → count ≤ limit
    → Behind limit caches texts
    → ok_of (and_on limit caches count line texts
    (on_line line (line_at limit caches count (record { words = words; bad = bad; end = end }) words)))
    ≡ guard ((list_all is_text_word words && is_none bad) && are_text texts) (limited limit caches count (worded_with words texts))
unfolding line_at
lines_step limit caches count line [] None end texts few behind = bind_id (lines_at limit caches count (line + 1) texts)
    ∙ behind count (line + 1) few
lines_step limit caches count line [] (Some column) end texts few behind = refl
lines_step limit caches count line (w ∷ words) bad end texts few behind =
    let left : LineWords = record { words = w ∷ words; bad = bad; end = end } in
    elim (tested (nat_lt count limit)) [
      | inl e ↦
          ap (λ t. ok_of (and_on limit caches count line texts
          (on_line line (cond t (operation_at caches left >>= λ l. Ok (Some l)) (Err (surplus w (number_below caches w.word))))))) e
          ∙ with_operation limit caches count line texts (is_text_line left) (map bytes_of (w ∷ words)) (operation_at caches left)
          (grind (arith, nat_tests, e)) behind (operation_agrees caches left)
      | inr e ↦
          ap (λ t. ok_of (and_on limit caches count line texts
          (on_line line (cond t (operation_at caches left >>= λ l. Ok (Some l)) (Err (surplus w (number_below caches w.word))))))) e
          ∙ sym (guard_none (is_text_line left && are_text texts))
          ∙ ap (λ b. guard (is_text_line left && are_text texts) (guard b (lines_of caches (worded_with (w ∷ words) texts))))
          (sym (too_many count (length (worded texts)) limit e))
    ]

fits_none : (limit count : ℕ) → count ≤ limit → nat_le (count + 0) limit ≡ true
fits_none limit count few = grind (arith, nat_tests)

none_more : (limit count : ℕ) (o : Option Lines) → count ≤ limit → o ≡ guard (nat_le (count + 0) limit) o
none_more limit count o few = ap (λ b. guard b o) (sym (fits_none limit count few))

lines_agree : (limit caches : ℕ) (texts : List (List ℕ)) → Behind limit caches texts
unfolding lines_at
lines_agree limit caches [] = λ count line few. none_more limit count (Some []) few
lines_agree limit caches (text ∷ texts) = λ count line few.
    lines_step limit caches count line (line_of text).words (line_of text).bad (line_of text).end texts few (lines_agree limit caches texts)
    ∙ ap (λ t. guard t (limited limit caches count (worded_with (line_of text).words texts))) (sym (text_are text texts))
    ∙ ap (λ r. guard (are_text (text ∷ texts)) (limited limit caches count r)) (sym (worded_are text texts))

-- ---- the configuration and the lines behind it

abbrev with_lines : Shape → Lines → Parts
with_lines config ls = record { config = config; lines = ls }

abbrev and_lines : ℕ → Shape × (ℕ × List (List ℕ)) → Result Parts Bad
and_lines limit c = lines_at limit c.0.caches 0 c.1.0 c.1.1 >>= λ ls. Ok (record { config = c.0; lines = ls })

-- the grammar with a limit
abbrev behind_config : ℕ → List (List (List ℕ)) → Shape → Option Parts
behind_config limit worded config =
    option_and_then (λ ls. cond (nat_le (length worded) limit) (Some (with_lines config ls)) None) (lines_of config.caches worded)

abbrev parts_in : ℕ → List (List (List ℕ)) → Option Parts
parts_in limit [] = None
parts_in limit (first ∷ worded) = option_and_then (behind_config limit worded) (shape_of first)

make_parts : (b few : Bool) (config : Shape) (o : Option Lines)
    → option_map (with_lines config) (guard b (guard few o))
    ≡ guard b (option_and_then (λ ls. cond few (Some (with_lines config ls)) None) o)
make_parts true true config None = refl
make_parts true true config (Some ls) = refl
make_parts true false config None = refl
make_parts true false config (Some ls) = refl
make_parts false few config o = refl

abbrev and_config : ℕ → ℕ → List (List ℕ) → Result (Option Shape) Bad → Result Parts Bad
and_config limit line texts read = (read >>= λ first. found first (line + 1) texts (config_from (line + 1) texts)) >>= and_lines limit

with_config : (limit line : ℕ) (texts : List (List ℕ)) (test : Bool) (words : List (List ℕ)) (r : Result Shape At)
    → ok_of r ≡ guard test (shape_of words)
    → ok_of (and_config limit line texts (on_line line (r >>= λ c. Ok (Some c))))
    ≡ guard (test && are_text texts) (parts_in limit (words ∷ worded texts))
with_config limit line texts test words (Err e) is =
    sym (guard_nothing test (are_text texts) (shape_of words) (behind_config limit (worded texts)) is)
with_config limit line texts test words (Ok config) is =
    let g = guard_some test (shape_of words) config is in
    bind_map (with_lines config) (lines_at limit config.caches 0 (line + 1) texts)
    ∙ ap (option_map (with_lines config)) (lines_agree limit config.caches texts 0 (line + 1) (omega arith))
    ∙ make_parts (are_text texts) (nat_le (0 + length (worded texts)) limit) config (lines_of config.caches (worded texts))
    ∙ ap (λ n. guard (are_text texts)
    (option_and_then (λ ls. cond (nat_le n limit) (Some (with_lines config ls)) None) (lines_of config.caches (worded texts))))
    (zero-add (length (worded texts)))
    ∙ ap (λ b. guard (b && are_text texts) (behind_config limit (worded texts) config)) (sym g.0)
    ∙ ap (λ o. guard (test && are_text texts) (option_and_then (behind_config limit (worded texts)) o)) (sym g.1)

config_step : (limit line : ℕ) (words : List Marked) (bad : Option ℕ) (end : ℕ) (texts : List (List ℕ))
    → ok_of (config_from (line + 1) texts >>= and_lines limit) ≡ guard (are_text texts) (parts_in limit (worded texts))
    → ok_of (and_config limit line texts (on_line line (first_at (record { words = words; bad = bad; end = end }) words)))
    ≡ guard ((list_all is_text_word words && is_none bad) && are_text texts) (parts_in limit (worded_with words texts))
unfolding first_at
config_step limit line [] None end texts behind = behind
config_step limit line [] (Some column) end texts behind = refl
config_step limit line (w ∷ words) bad end texts behind =
    let left : LineWords = record { words = w ∷ words; bad = bad; end = end } in
    with_config limit line texts (is_text_line left) (map bytes_of (w ∷ words)) (config_at left) (config_agrees left)

config_from_agrees : (limit line : ℕ) (texts : List (List ℕ))
    → ok_of (config_from line texts >>= and_lines limit) ≡ guard (are_text texts) (parts_in limit (worded texts))
unfolding config_from
config_from_agrees limit line [] = refl
config_from_agrees limit line (text ∷ texts) =
    config_step limit line (line_of text).words (line_of text).bad (line_of text).end texts (config_from_agrees limit (line + 1) texts)
    ∙ ap (λ t. guard t (parts_in limit (worded_with (line_of text).words texts))) (sym (text_are text texts))
    ∙ ap (λ r. guard (are_text (text ∷ texts)) (parts_in limit r)) (sym (worded_are text texts))

-- ---- the whole text

none_worded_with : (words : List Marked) (texts : List (List ℕ)) → (is_nonempty words || list_any has_words texts) ≡ false
    → (worded texts ≡ []) → worded_with words texts ≡ []
none_worded_with [] texts e none = none
none_worded_with (w ∷ words) texts e none = absurd cc

or_second : (a b : Bool) → (a || b) ≡ false → b ≡ false
or_second true b e = absurd cc
or_second false b e = e

none_worded : (texts : List (List ℕ)) → list_any has_words texts ≡ false → worded texts ≡ []
none_worded [] e = refl
none_worded (text ∷ texts) e =
    worded_are text texts
    ∙ none_worded_with (line_of text).words texts e
    (none_worded texts (or_second (is_nonempty (line_of text).words) (list_any has_words texts) e))

parts_are : (worded : List (List (List ℕ))) → parts_in 10000 worded ≡ parts_of worded
unfolding parts_of
parts_are [] = refl
parts_are (first ∷ worded) = refl

lines_read_agrees : (texts : List (List ℕ)) → ok_of (lines_read 10000 texts) ≡ guard (are_text texts) (parts_of (worded texts))
unfolding lines_read
lines_read_agrees texts = config_from_agrees 10000 1 texts ∙ ap (guard (are_text texts)) (parts_are (worded texts))

nothing_read : (texts : List (List ℕ)) → worded texts ≡ [] → None ≡ guard (are_text texts) (parts_of (worded texts))
unfolding parts_of
nothing_read texts e = sym (guard_none (are_text texts)) ∙ ap (λ r. guard (are_text texts) (parts_of r)) (sym e)

-- A text is read exactly where it spells a trace, and as that trace.
pub agrees : (text : List ℕ) → ok_of (trace_at text) ≡ trace_of text
unfolding trace_of
agrees text = elim (tested (list_any has_words (lines text))) [
  | inl e ↦ ap (λ t. ok_of (cond t (lines_read 10000 (lines text)) (Err no_config))) e ∙ lines_read_agrees (lines text)
  | inr e ↦ ap (λ t. ok_of (cond t (lines_read 10000 (lines text)) (Err no_config))) e
      ∙ nothing_read (lines text) (none_worded (lines text) e)
]

-- ---- what a call answers

pub read_some : (r : Result Parts Bad) (p : Parts) → ok_of r ≡ Some p → r ≡ Ok p
read_some (Ok q) p e = cc
read_some (Err b) p e = absurd cc

pub is_found : (text : List ℕ) (r : Result Parts TraceFault) → Gives (λ t. t) r (trace_at text)
    → IfOk r (λ t. trace_of text ≡ Some t)
is_found text (Ok t) given = sym (agrees text) ∙ ap ok_of given
is_found text (Err e) given = tt

pub is_only : (text : List ℕ) (r : Result Parts TraceFault) (p : Parts) → Gives (λ t. t) r (trace_at text) → trace_of text ≡ Some p
    → Gives (λ t. t) r (Ok p)
is_only text r p given e =
    subst (λ (read : Result Parts Bad). Gives (λ t. t) r read) (read_some (trace_at text) p (agrees text ∙ e)) given

pub is_off : (text : List ℕ) (r : Result Parts TraceFault) → Gives (λ t. t) r (trace_at text)
    → IfErr r (λ e. IsOff e (trace_of text))
is_off text (Ok t) given = tt
is_off text (Err errors.Memory) given = tt
is_off text (Err (errors.Bad line column kind)) given = sym (agrees text) ∙ ap ok_of given
