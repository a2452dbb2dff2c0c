-- The grammar of traces: what a text spells.
use Rattle.std.specs.Prelude.{ℕ, Bool, List, [], ◌∷◌, length, codes, Option, Some, None, option_and_then, nat_lt, nat_le, if◌then◌else◌}
use Rattle.std.specs.Option.{option_map}
use Rattle.std.specs.Str.{bytes_eq}
use Rattle.bk_base.specs.Places.{Shape, is_cache_count, is_way_count, is_set_count, addr_of}
use Rattle.bk_base.specs.declared.op.Op.{Op}
use Rattle.bk_base.specs.declared.op.Op.TheVariants.{Load, Store, UcLoad, UcStore, Evict}
use Rattle.bk_text.specs.Texts.{is_text, words_by_line, number_of}
use Rattle.bk_trace.specs.Traces.{Parts}
use Rattle.bk_trace.specs.declared.words.Name.{Name}
use Rattle.bk_trace.specs.declared.words.Name.TheVariants as names

infixl 10 ◌>>=◌
abbrev pub ◌>>=◌ : {A B : Type 0} → Option A → (A → Option B) → Option B
o >>= f = option_and_then f o

-- what begins a comment: `#`
abbrev pub comment_mark : ℕ
comment_mark = 35

-- a number below the limit
unfoldable pub number_below : ℕ → List ℕ → Option ℕ
number_below limit word = do
  n ← number_of word
  if nat_lt n limit then Some n else None

-- a number of caches, of sets or of ways; none is above 64
unfoldable pub count_of : (ℕ → Bool) → List ℕ → Option ℕ
count_of test word = do
  n ← number_below 65 word
  if test n then Some n else None

-- the number of an address
unfoldable pub address_of : List ℕ → Option ℕ
address_of word = do
  n ← number_of word
  addr_of n

-- the word `config`
abbrev pub is_config : List ℕ → Bool
is_config word = bytes_eq word (codes "config")

-- `config CACHES SETS WAYS`
unfoldable pub shape_of : List (List ℕ) → Option Shape
shape_of (name ∷ caches ∷ sets ∷ ways ∷ []) = if is_config name then (do
  c ← count_of is_cache_count caches
  s ← count_of is_set_count sets
  w ← count_of is_way_count ways
  Some (record { caches = c; sets = s; ways = w })) else None
shape_of _ = None

-- the name of an operation: `L`, `S`, `UL`, `US` or `EV`
abbrev pub name_of : List ℕ → Option Name
name_of word =
    if bytes_eq word (codes "L") then Some names.Load
    else if bytes_eq word (codes "S") then Some names.Store
    else if bytes_eq word (codes "UL") then Some names.UcLoad
    else if bytes_eq word (codes "US") then Some names.UcStore
    else if bytes_eq word (codes "EV") then Some names.Evict
    else None

-- the operation of a name, an address and the words behind it: a value for a store, nothing else
abbrev pub op_of : Name → ℕ → List (List ℕ) → Option Op
op_of names.Load address [] = Some (Load address)
op_of names.Store address (value ∷ []) = option_map (Store address) (number_of value)
op_of names.UcLoad address [] = Some (UcLoad address)
op_of names.UcStore address (value ∷ []) = option_map (UcStore address) (number_of value)
op_of names.Evict address [] = Some (Evict address)
op_of name address values = None

-- `CACHE OP ADDRESS`, and a value for a store
unfoldable pub operation_of : ℕ → List (List ℕ) → Option (ℕ × Op)
operation_of caches (cache ∷ name ∷ address ∷ values) = do
  c ← number_below caches cache
  n ← name_of name
  a ← address_of address
  op ← op_of n a values
  Some (c, op)
operation_of caches _ = None

-- each line is an operation
abbrev pub lines_of : ℕ → List (List (List ℕ)) → Option (List (ℕ × Op))
lines_of caches [] = Some []
lines_of caches (words ∷ others) = do
  line ← operation_of caches words
  lines ← lines_of caches others
  Some (line ∷ lines)

-- the first line is the configuration, and at most 10,000 follow
unfoldable pub parts_of : List (List (List ℕ)) → Option Parts
parts_of [] = None
parts_of (first ∷ others) = do
  config ← shape_of first
  lines ← lines_of config.caches others
  if nat_le (length others) 10000 then Some (record { config = config; lines = lines }) else None

-- the trace that a text spells, if it spells one
unfoldable pub trace_of : List ℕ → Option Parts
trace_of text = if is_text text then parts_of (words_by_line comment_mark text) else None
