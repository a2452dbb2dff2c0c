-- Reading a trace from left to right, with the first fault that is met; at one place the one of the least kind.
-- A line's readers answer a value and what is left of the line.
use Rattle.std.specs.Prelude.{ℕ, ◌+◌, Bool, true, List, [], ◌∷◌, Option, Some, None, Result, Ok, Err, nat_lt, if◌then◌else◌}
use Rattle.std.specs.List.{list_any, cons_option}
use Rattle.std.specs.Str.Lines.{lines}
use Rattle.bk_base.specs.Places.{Shape, is_cache_count, is_way_count, is_set_count}
use Rattle.bk_base.specs.declared.op.Op.{Op}
use Rattle.bk_base.specs.declared.op.Op.TheVariants.{Load, Store, UcLoad, UcStore, Evict}
use Rattle.bk_text.specs.Texts.{is_nonempty, number_of}
use Rattle.bk_text.specs.LineWords.{Marked, LineWords, whole_line}
use Rattle.bk_text.specs.Faults as texts
use Rattle.bk_text.specs.Faults.{◌>>=◌, Bad, at, wrong, next_field, fault_behind, unless}
use Rattle.bk_trace.specs.Traces.{Parts}
use Rattle.bk_trace.specs.Grammar.{comment_mark, number_below, count_of, address_of, is_config, name_of}
use Rattle.bk_trace.specs.Faults.{At, kind_code, bad}
use Rattle.bk_trace.specs.declared.words.Name.{Name}
use Rattle.bk_trace.specs.declared.words.Name.TheVariants as names
use Rattle.bk_trace.specs.declared.fault.Kind.{Kind}
use Rattle.bk_trace.specs.declared.fault.Kind.TheVariants as kinds

-- ---- words

-- the next word, as it is read
unfoldable pub field : {X : Type 0} → Kind → (List ℕ → Option X) → LineWords → Result (X × LineWords) At
field kind read left = next_field kinds.Byte kind kind read left

-- a value, if nothing but a comment is left
abbrev pub done : {X : Type 0} → LineWords → X → Result X At
done left x = unless (fault_behind kinds.Byte kinds.Extra left.words left.bad) x

-- ---- lines

-- the word `config`
abbrev pub config_word : List ℕ → Option Bool
config_word word = if is_config word then Some true else None

-- `config CACHES SETS WAYS`
unfoldable pub config_at : LineWords → Result Shape At
config_at left = do
  name ← field kinds.Config config_word left
  caches ← field kinds.Config (count_of is_cache_count) name.1
  sets ← field kinds.Config (count_of is_set_count) caches.1
  ways ← field kinds.Config (count_of is_way_count) sets.1
  done ways.1 (record { caches = caches.0; sets = sets.0; ways = ways.0 })

-- an operation, by its name and its address: a store has a value
unfoldable pub op_at : Name → ℕ → LineWords → Result (Op × LineWords) At
op_at names.Load address left = Ok (Load address, left)
op_at names.Store address left = field kinds.Value number_of left >>= λ value. Ok (Store address value.0, value.1)
op_at names.UcLoad address left = Ok (UcLoad address, left)
op_at names.UcStore address left = field kinds.Value number_of left >>= λ value. Ok (UcStore address value.0, value.1)
op_at names.Evict address left = Ok (Evict address, left)

-- `CACHE OP ADDRESS`, and a value for a store
unfoldable pub operation_at : ℕ → LineWords → Result (ℕ × Op) At
operation_at caches left = do
  cache ← field kinds.Cache (number_below caches) left
  name ← field kinds.Name name_of cache.1
  address ← field kinds.Address address_of name.1
  op ← op_at name.0 address.0 address.1
  done op.1 (cache.0, op.0)

-- an operation too many: at the same word a wrong cache comes first
abbrev pub surplus : Marked → Option ℕ → At
surplus marked None = wrong kinds.Byte marked kinds.Cache
surplus marked (Some cache) = at marked.column kinds.TooMany

-- A line that has `count` operations before it: its operation, if it has words.
unfoldable pub line_at : ℕ → ℕ → ℕ → LineWords → List Marked → Result (Option (ℕ × Op)) At
line_at limit caches count left [] = done left None
line_at limit caches count left (w ∷ words) =
    if nat_lt count limit then (operation_at caches left >>= λ line. Ok (Some line))
    else Err (surplus w (number_below caches w.word))

-- ---- texts

abbrev pub on_line : {X : Type 0} → ℕ → Result X At → Result X Bad
on_line line read = texts.on_line kind_code line read

abbrev pub line_of : List ℕ → LineWords
line_of text = whole_line comment_mark text

abbrev pub counted : {X : Type 0} → ℕ → Option X → ℕ
counted count None = count
counted count (Some x) = count + 1

-- the operations of lines, of which the first has a number and some operations before it
unfoldable pub lines_at : ℕ → ℕ → ℕ → ℕ → List (List ℕ) → Result (List (ℕ × Op)) Bad
lines_at limit caches count line [] = Ok []
lines_at limit caches count line (text ∷ texts) = do
  first ← on_line line (line_at limit caches count (line_of text) (line_of text).words)
  others ← lines_at limit caches (counted count first) (line + 1) texts
  Ok (cons_option first others)

-- no configuration: the fault stands at the beginning of the text
abbrev pub no_config : Bad
no_config = bad 1 (at 1 kinds.Config)

-- the configuration in the first line that has words, if this is that line
unfoldable pub first_at : LineWords → List Marked → Result (Option Shape) At
first_at left [] = done left None
first_at left (w ∷ words) = config_at left >>= λ config. Ok (Some config)

-- a configuration and what follows it, or what is found behind a line without words
abbrev pub found : Option Shape → ℕ → List (List ℕ) → Result (Shape × (ℕ × List (List ℕ))) Bad
    → Result (Shape × (ℕ × List (List ℕ))) Bad
found (Some config) line texts behind = Ok (config, (line, texts))
found None line texts behind = behind

-- the configuration in the first line that has words, with the number of the line behind it and the lines from there on
unfoldable pub config_from : ℕ → List (List ℕ) → Result (Shape × (ℕ × List (List ℕ))) Bad
config_from line [] = Err no_config
config_from line (text ∷ texts) =
    on_line line (first_at (line_of text) (line_of text).words) >>= λ first. found first (line + 1) texts (config_from (line + 1) texts)

abbrev pub has_words : List ℕ → Bool
has_words text = is_nonempty (line_of text).words

-- the trace of these lines, with at most so many operations
unfoldable pub lines_read : ℕ → List (List ℕ) → Result Parts Bad
lines_read limit texts = do
  config ← config_from 1 texts
  lines ← lines_at limit config.0.caches 0 config.1.0 config.1.1
  Ok (record { config = config.0; lines = lines })

-- A text without a word has no configuration, whatever stands in its comments.
abbrev pub read_at : ℕ → List ℕ → Result Parts Bad
read_at limit text = if list_any has_words (lines text) then lines_read limit (lines text) else Err no_config

-- the trace that a text spells, or its first fault
abbrev pub trace_at : List ℕ → Result Parts Bad
trace_at text = read_at 10000 text
