-- Reading the lines of a trace one after the other, as a loop does.
use Rattle.std.proofs.Common.{◌≡◌, true, cond, ◌||◌, Option, ℕ, ◌+◌, ◌<◌, ◌≤◌, arith, List, [], ◌∷◌, ◌++◌, length, Some, None, Result, Ok, Err, ◌∙◌, refl, sym, ap, append_assoc}
use Rattle.std.specs.Prelude.{IfSome, option_to_list}
use Rattle.std.specs.List.{All, cons_option, list_any}
use Rattle.std.specs.Str.Lines.{lines}
use Rattle.std.proofs.lemmas.List.Elements.{All-push}
use Rattle.std.proofs.lemmas.List.{append-nil, length_push}
use Rattle.bk_base.specs.declared.op.Op.{Op}
use Rattle.bk_text.specs.Texts.{is_nonempty}
use Rattle.bk_text.specs.LineWords.{Marked}
use Rattle.bk_text.specs.Faults.{Bad, ◌>>=◌}
use Rattle.bk_trace.specs.Traces.{Parts, IsLine}
use Rattle.bk_trace.specs.Faults.{At, bad}
use Rattle.bk_trace.specs.Reading.{line_of, on_line, counted, line_at, lines_at, first_at, found, config_from, no_config, has_words, lines_read, trace_at}
use Rattle.bk_base.specs.Places.{Shape}

-- what was read before, and what is still read
abbrev pub with_front : List (ℕ × Op) → Result (List (ℕ × Op)) Bad → Result (List (ℕ × Op)) Bad
with_front front read = read >>= λ lines. Ok (front ++ lines)

front_bind : (front : List (ℕ × Op)) (o : Option (ℕ × Op)) (r : Result (List (ℕ × Op)) Bad)
    → with_front front (r >>= λ others. Ok (cons_option o others)) ≡ with_front (front ++ option_to_list o) r
front_bind front None (Ok x) = ap (λ l. Ok (l ++ x)) (sym (append-nil front))
front_bind front None (Err e) = refl
front_bind front (Some op) (Ok x) = ap Ok (sym (append_assoc front (op ∷ []) x))
front_bind front (Some op) (Err e) = refl

count_kept : (front : List (ℕ × Op)) (o : Option (ℕ × Op)) → counted (length front) o ≡ length (front ++ option_to_list o)
count_kept front None = ap length (sym (append-nil front))
count_kept front (Some op) = sym (length_push front op)

-- a line that is read
pub goes_on : (front : List (ℕ × Op)) (caches line : ℕ) (text : List ℕ) (texts : List (List ℕ)) (o : Option (ℕ × Op))
    → line_at 10000 caches (length front) (line_of text) (line_of text).words ≡ Ok o
    → with_front front (lines_at 10000 caches (length front) line (text ∷ texts))
    ≡ with_front (front ++ option_to_list o) (lines_at 10000 caches (length (front ++ option_to_list o)) (line + 1) texts)
unfolding lines_at
goes_on front caches line text texts o e =
    let one : with_front front (lines_at 10000 caches (length front) line (text ∷ texts))
    ≡ with_front front (lines_at 10000 caches (counted (length front) o) (line + 1) texts >>= λ others.
    Ok (cons_option o others)) = rw e refl in
    one ∙ front_bind front o (lines_at 10000 caches (counted (length front) o) (line + 1) texts)
    ∙ ap (λ n. with_front (front ++ option_to_list o) (lines_at 10000 caches n (line + 1) texts)) (count_kept front o)

-- a line with a fault
pub stops : (front : List (ℕ × Op)) (caches line : ℕ) (text : List ℕ) (texts : List (List ℕ)) (fault : At)
    → line_at 10000 caches (length front) (line_of text) (line_of text).words ≡ Err fault
    → with_front front (lines_at 10000 caches (length front) line (text ∷ texts)) ≡ Err (bad line fault)
unfolding lines_at
stops front caches line text texts fault e = rw e refl

pub few_kept : (front : List (ℕ × Op)) (o : Option (ℕ × Op)) (n : ℕ) → n ≡ length front → length front ≤ 10000
    → IfSome o (λ line. n < 10000) → length (front ++ option_to_list o) ≤ 10000
few_kept front None n is few room = rw append-nil few
few_kept front (Some op) n is few room = omega (arith, length_push front op)

pub each_kept : (caches : ℕ) (front : List (ℕ × Op)) (o : Option (ℕ × Op)) → All (λ line. IsLine caches line) front
    → IfSome o (λ line. IsLine caches line) → All (λ line. IsLine caches line) (front ++ option_to_list o)
each_kept caches front None each line = rw append-nil each
each_kept caches front (Some op) each line = All-push (λ line. IsLine caches line) front op each line

pub ends : (front : List (ℕ × Op)) (caches line : ℕ) → with_front front (lines_at 10000 caches (length front) line []) ≡ Ok front
unfolding lines_at
ends front caches line = ap Ok (append-nil front)

-- the same up to the configuration

pub config_past : (line : ℕ) (text : List ℕ) (texts : List (List ℕ)) → first_at (line_of text) (line_of text).words ≡ Ok None
    → config_from line (text ∷ texts) ≡ config_from (line + 1) texts
unfolding config_from
config_past line text texts e = rw e refl

pub config_found : (line : ℕ) (text : List ℕ) (texts : List (List ℕ)) (config : Shape)
    → first_at (line_of text) (line_of text).words ≡ Ok (Some config)
    → config_from line (text ∷ texts) ≡ Ok (config, (line + 1, texts))
unfolding config_from
config_found line text texts config e = rw e refl

pub config_stops : (line : ℕ) (text : List ℕ) (texts : List (List ℕ)) (fault : At)
    → first_at (line_of text) (line_of text).words ≡ Err fault → config_from line (text ∷ texts) ≡ Err (bad line fault)
unfolding config_from
config_stops line text texts fault e = rw e refl

-- ---- a configuration that is found is one of words

words_first : (line : ℕ) (words : List Marked) (bad : Option ℕ) (end : ℕ) (texts : List (List ℕ))
    (x : Shape × (ℕ × List (List ℕ)))
    → (config_from (line + 1) texts ≡ Ok x → list_any has_words texts ≡ true)
    → (on_line line (first_at (record { words = words; bad = bad; end = end }) words) >>= λ first.
    found first (line + 1) texts (config_from (line + 1) texts)) ≡ Ok x
    → (is_nonempty words || list_any has_words texts) ≡ true
unfolding first_at
words_first line [] None end texts x behind e = behind e
words_first line [] (Some column) end texts x behind e = absurd cc
words_first line (w ∷ words) bad end texts x behind e = refl

pub words_found : (line : ℕ) (texts : List (List ℕ)) (x : Shape × (ℕ × List (List ℕ))) → config_from line texts ≡ Ok x
    → list_any has_words texts ≡ true
unfolding config_from
words_found line [] x e = absurd cc
words_found line (text ∷ texts) x e =
    words_first line (line_of text).words (line_of text).bad (line_of text).end texts x (words_found (line + 1) texts x) e

-- ---- the whole text

abbrev lines_behind : Result (Shape × (ℕ × List (List ℕ))) Bad → Result Parts Bad
lines_behind read =
    read >>= λ config. lines_at 10000 config.0.caches 0 config.1.0 config.1.1 >>= λ ls. Ok (record { config = config.0; lines = ls })

pub trace_read : (text : List ℕ) (x : Shape × (ℕ × List (List ℕ))) (ops : List (ℕ × Op)) → config_from 1 (lines text) ≡ Ok x
    → lines_at 10000 x.0.caches 0 x.1.0 x.1.1 ≡ Ok ops
    → trace_at text ≡ Ok (record { config = x.0; lines = ops })
unfolding lines_read
trace_read text x ops e given =
    ap (λ t. cond t (lines_read 10000 (lines text)) (Err no_config)) (words_found 1 (lines text) x e)
    ∙ ap lines_behind e ∙ ap (λ r. r >>= λ ls. Ok (record { config = x.0; lines = ls })) given
