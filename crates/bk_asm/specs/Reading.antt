-- Reading a text of microcode: what each line is, by its words, and the first fault.
-- A line's readers answer a value and what is left of the line.
use Rattle.std.specs.Prelude.{ℕ, ◌+◌, ◌-◌, ◌/◌, ◌%◌, ◌^◌, ◌==◌, Bool, true, false, not, ◌&&◌, ◌||◌, List, [], ◌∷◌, ◌++◌, length, max, Option, Some, None, Result, Ok, Err, codes, nat_lt, nat_le, bit_or, is_some, option_and_then, if◌then◌else◌, slice_index, take}
use Rattle.std.specs.Option.{option_map}
use Rattle.std.specs.List.{list_all}
use Rattle.std.specs.Ordering.{nat_cmp}
use Rattle.std.specs.Cmp.Lexicographic.{slice_cmp}
use Rattle.std.specs.BTreeMap.{insert_entry}
use Rattle.std.specs.Map.{lookup}
use Rattle.std.specs.Str.{bytes_eq}
use Rattle.std.specs.Str.Lines.{lines}
use Rattle.bk_isa.specs.declared.form.Form.{Form}
use Rattle.bk_know.specs.declared.fields.TheConstants.{FIELD_STAGE, FIELD_HEAD, FIELD_GP, FIELD_KIND, FIELD_SUMM, FIELD_OWN, FIELD_OWNER, FIELD_OTHERS, FIELD_VICTIM, FIELD_ACKS, FIELD_WB, FIELD_MEM, FIELD_DREQ, FIELD_DOWN, FIELD_F0, FIELD_F1, FIELD_F2}
use Rattle.bk_know.specs.declared.sets.Sets.{Sets}
use Rattle.bk_know.specs.Sets.{idle_base, held_base}
use Rattle.bk_image.specs.Images.{Parts, Line}
use Rattle.bk_text.specs.Texts.{is_nonempty, number_of}
use Rattle.bk_text.specs.LineWords.{Marked, LineWords, whole_line}
use Rattle.bk_text.specs.Faults as texts
use Rattle.bk_text.specs.Faults.{◌>>=◌, Bad, at, word_in, or_wrong, next_field, fault_behind, unless}
use Rattle.bk_asm.specs.Names.{Naming, named, joined, cut_at, value_names, class_names, names_of}
use Rattle.bk_asm.specs.Operations.{slots_of, mnemonics, pushed, operation_named}
use Rattle.bk_asm.specs.Faults.{At, kind_code, bad}
use Rattle.bk_asm.specs.Programs.{Use, Statement, LineParts, form_with, version_of, limit_or_first}
use Rattle.bk_asm.specs.declared.names.Names.TheVariants as names
use Rattle.bk_asm.specs.declared.operation.Operation.{Operation}
use Rattle.bk_asm.specs.declared.slots.Slot.{Slot}
use Rattle.bk_asm.specs.declared.slots.Slot.TheVariants as slots
use Rattle.bk_asm.specs.declared.slots.Last.{Last}
use Rattle.bk_asm.specs.declared.slots.Last.TheVariants as lasts
use Rattle.bk_asm.specs.declared.fault.Kind.{Kind}
use Rattle.bk_asm.specs.declared.fault.Kind.TheVariants as kinds

-- ---- words

-- the next word, as it is read
unfoldable pub field : {X : Type 0} → Kind → Kind → (List ℕ → Option X) → LineWords → Result (X × LineWords) At
field absent kind read row = next_field kinds.Byte absent kind read row

-- an operand
abbrev pub operand : {X : Type 0} → (List ℕ → Option X) → LineWords → Result (X × LineWords) At
operand read row = field kinds.Operand kinds.Operand read row

-- a value, if nothing but a comment is left
abbrev pub done : {X : Type 0} → LineWords → X → Result X At
done row x = unless (fault_behind kinds.Byte kinds.Extra row.words row.bad) x

-- ---- labels

-- a letter
abbrev pub is_letter : ℕ → Bool
is_letter b = (nat_le 97 b && nat_le b 122) || (nat_le 65 b && nat_le b 90)

-- a letter, a digit or `_`
abbrev pub is_label_byte : ℕ → Bool
is_label_byte b = is_letter b || (nat_le 48 b && nat_le b 57) || b == 95

-- 1 to 16 letters, digits and `_`, the first a letter
abbrev pub is_label : List ℕ → Bool
is_label [] = false
is_label (b ∷ rest) = is_letter b && nat_le (length rest) 15 && list_all is_label_byte rest

-- the name of a label, where a word is one with `:` behind it
abbrev pub label_of : List ℕ → Option (List ℕ)
label_of word =
    if slice_index word (length word - 1) == 58 && is_label (take (length word - 1) word)
    then Some (take (length word - 1) word) else None

-- the label that a word names
abbrev pub target_of : List ℕ → Option (List ℕ)
target_of word = if is_label word then Some word else None

-- ---- instructions

-- An operand a, b or c. The values of a know field depend on that field.
abbrev pub slot_at : Slot → ℕ → LineWords → Result (ℕ × LineWords) At
slot_at slots.Nothing field row = Ok (0, row)
slot_at (slots.Name sort) field row = operand (named (names_of sort)) row
slot_at (slots.Perhaps sort) field row = if is_nonempty row.words then operand (named (names_of sort)) row else Ok (0, row)
slot_at slots.Classes field row = operand (joined class_names 44) row
slot_at slots.Values field row = operand (joined (value_names field) 44) row

-- a number below a limit
unfoldable pub number_below : ℕ → List ℕ → Option ℕ
number_below limit word = option_and_then (λ n. if nat_lt n limit then Some n else None) (number_of word)

-- a number as the last operand
unfoldable pub number_at : ℕ → LineWords → Result ((ℕ × Option Use) × LineWords) At
number_at limit row = field kinds.Operand kinds.Number (number_below limit) row >>= λ n. Ok ((n.0, None), n.1)

-- a label as the last operand
unfoldable pub target_at : ℕ → LineWords → Result ((ℕ × Option Use) × LineWords) At
target_at line row = do
  word ← word_in kinds.Byte kinds.Operand row row.words
  name ← or_wrong kinds.Byte word.0 kinds.Operand (target_of word.0.word)
  Ok ((0, Some (record { line = line; column = word.0.column; name = name })), word.1)

-- the last operand
abbrev pub last_at : Last → ℕ → LineWords → Result ((ℕ × Option Use) × LineWords) At
last_at lasts.Nothing line row = Ok ((0, None), row)
last_at lasts.Shift line row = number_at 64 row
last_at lasts.Number line row = number_at (2 ^ 32) row
last_at lasts.Target line row = target_at line row

-- the operands of an operation, and nothing behind them
unfoldable pub operands_at : ℕ → Operation → LineWords → Result Statement At
operands_at line operation row = do
  a ← slot_at (slots_of operation).a 0 row
  b ← slot_at (slots_of operation).b a.0 a.1
  c ← slot_at (slots_of operation).c a.0 b.1
  last ← last_at (slots_of operation).last line c.1
  done last.1 (record { operation = operation; a = a.0; b = b.0; c = c.0; imm = last.0.0; target = last.0.1 })

-- the operation of a mnemonic; of `pushq` the next word says which
unfoldable pub mnemonic_at : Bool → Marked → LineWords → Result (Operation × LineWords) At
mnemonic_at full marked row =
    if bytes_eq marked.word (codes "pushq")
    then (if full then Err (at marked.column kinds.TooMany) else operand (operation_named pushed) row)
    else (or_wrong kinds.Byte marked kinds.Mnemonic (operation_named mnemonics marked.word) >>= λ operation. if full
    then Err (at marked.column kinds.TooMany) else Ok (operation, row))

-- ---- know lines

-- where a know line begins
abbrev pub base_of : List ℕ → Option Sets
base_of word = if bytes_eq word (codes "idle") then Some idle_base else if bytes_eq word (codes "held") then Some held_base else None

-- the sets with another one for the field of a number
abbrev pub with_field : Sets → ℕ → ℕ → Sets
with_field sets number set =
    if number == FIELD_STAGE then record sets { stage = set }
    else if number == FIELD_HEAD then record sets { head = set }
    else if number == FIELD_GP then record sets { gp = set }
    else if number == FIELD_KIND then record sets { kind = set }
    else if number == FIELD_SUMM then record sets { summ = set }
    else if number == FIELD_OWN then record sets { own = set }
    else if number == FIELD_OWNER then record sets { owner = set }
    else if number == FIELD_OTHERS then record sets { others = set }
    else if number == FIELD_VICTIM then record sets { victim = set }
    else if number == FIELD_ACKS then record sets { acks = set }
    else if number == FIELD_WB then record sets { wb = set }
    else if number == FIELD_MEM then record sets { mem = set }
    else if number == FIELD_DREQ then record sets { dreq = set }
    else if number == FIELD_DOWN then record sets { down = set }
    else if number == FIELD_F0 then record sets { f0 = set }
    else if number == FIELD_F1 then record sets { f1 = set }
    else if number == FIELD_F2 then record sets { f2 = set }
    else record sets { f3 = set }

-- the field of this number, which stood in none of the fields before
abbrev pub fresh : ℕ → ℕ → Option ℕ
fresh seen number = if seen / 2 ^ number % 2 == 1 then None else Some number

-- the set of a field's values
abbrev pub values_of : ℕ → Option (List ℕ) → Option ℕ
values_of number (Some values) = joined (value_names number) 124 values
values_of number None = None

-- `field=value|value`: a field that stands in none of the fields before, and its set
unfoldable pub entry_of : ℕ → List ℕ → Option (ℕ × ℕ)
entry_of seen word =
    option_and_then (λ k. option_map (λ set. (k, set)) (values_of k (cut_at 61 word).1))
    (option_and_then (fresh seen) (named (names_of names.Field) (cut_at 61 word).0))

-- the fields of a know line, each of which takes the place of the one that was there; the comment behind them may have a bad byte
unfoldable pub entries_at : Sets → ℕ → Option ℕ → List Marked → Result Sets At
entries_at sets seen bad [] = unless (fault_behind kinds.Byte kinds.Extra [] bad) sets
entries_at sets seen bad (w ∷ words) =
    or_wrong kinds.Byte w kinds.Know (entry_of seen w.word) >>= λ e. entries_at (with_field sets e.0 e.1) (bit_or seen (2 ^ e.0)) bad words

-- what stands behind `know`
unfoldable pub know_at : LineWords → Result Sets At
know_at row = field kinds.Know kinds.Know base_of row >>= λ base. entries_at base.0 0 base.1.bad base.1.words

-- ---- lines

-- What was read so far: the limit; the instructions; the know lines with their places; the labels with theirs, in the order of their
-- names; and whether a know line and a label still wait for their instruction.
pub record Draft : Type 0 where
  pub limit : Option ℕ
  pub statements : List Statement
  pub knows : List Line
  pub labels : List Naming
  pub know : Option Sets
  pub waits : Bool

abbrev pub nothing_read : Draft
nothing_read = record { limit = None; statements = []; knows = []; labels = []; know = None; waits = false }

-- the place of a label
abbrev pub place_of : List Naming → List ℕ → Option ℕ
place_of labels name = lookup (λ other. bytes_eq name other) labels

abbrev pub parts : Option Sets → Option Statement → LineParts
parts know does = record { limit = None; label = None; know = know; does = does }

-- the limit that a word names, from 1 to 16
unfoldable pub limit_of : List ℕ → Option ℕ
limit_of word = option_and_then (λ n. if nat_le 1 n && nat_le n 16 then Some n else None) (number_of word)

abbrev pub limit_in : ℕ → Option ℕ → Result ℕ At
limit_in column None = Err (at column kinds.Caches)
limit_in column (Some limit) = Ok limit

-- What stands behind the word `caches` in a column: a limit, where nothing was read before. Without it the fault stands at that word.
unfoldable pub caches_at : Bool → ℕ → LineWords → List Marked → Result LineParts At
caches_at begun column row [] = Err (at column kinds.Caches)
caches_at begun column row (w ∷ words) =
    limit_in column (if begun then None else limit_of w.word) >>= λ limit.
    done (record row { words = words }) (record { limit = Some limit; label = None; know = None; does = None })

-- The word `know` or a mnemonic. An instruction has one know line at most, and an image 256 instructions.
unfoldable pub content_at : Bool → Bool → ℕ → Marked → LineWords → Result LineParts At
content_at full known line marked row =
    if bytes_eq marked.word (codes "know")
    then (if known then Err (at marked.column kinds.Know) else (know_at row >>= λ sets. Ok (parts (Some sets) None)))
    else (mnemonic_at full marked row >>= λ o. operands_at line o.0 o.1 >>= λ statement. Ok (parts None (Some statement)))

-- what stands behind a label
unfoldable pub rest_at : Bool → Bool → ℕ → LineWords → List Marked → Result LineParts At
rest_at full known line row [] = done row (parts None None)
rest_at full known line row (w ∷ words) = content_at full known line w (record row { words = words })

-- one more label, if it is none of those before
abbrev pub fresh_label : List Naming → Marked → List ℕ → Result (List ℕ) At
fresh_label labels marked name = if is_some (place_of labels name) then Err (at marked.column kinds.LabelTwice) else Ok name

-- a line, by the label that its first word is
unfoldable pub labelled_at : List Naming → Bool → Bool → ℕ → Marked → LineWords → Option (List ℕ) → Result LineParts At
labelled_at labels full known line marked row None = content_at full known line marked row
labelled_at labels full known line marked row (Some name) = do
  label ← fresh_label labels marked name
  content ← rest_at full known line row row.words
  Ok (record content { label = Some label })

-- a line; a `caches` line is one whose first word is that
unfoldable pub line_at : List Naming → Bool → Bool → Bool → ℕ → LineWords → List Marked → Result LineParts At
line_at labels begun full known line row [] = done row (parts None None)
line_at labels begun full known line row (w ∷ words) =
    if bytes_eq w.word (codes "caches") then caches_at begun w.column (record row { words = words }) words
    else labelled_at labels full known line w (record row { words = words }) (label_of w.word)

-- ---- texts

abbrev pub on_line : {X : Type 0} → ℕ → Result X At → Result X Bad
on_line line read = texts.on_line kind_code line read

-- what begins a comment: `;`
abbrev pub comment_mark : ℕ
comment_mark = 59

abbrev pub row_at : List ℕ → LineWords
row_at text = whole_line comment_mark text

-- whether something was read: before the first instruction a label or a know line waits for it
abbrev pub has_begun : Draft → Bool
has_begun d = is_some d.limit || d.waits || is_some d.know || not (length d.statements == 0)

abbrev pub with_limit : Option ℕ → Draft → Draft
with_limit None d = d
with_limit (Some limit) d = record d { limit = Some limit }

-- a label stands for the place of the next instruction
abbrev pub with_label : Option (List ℕ) → Draft → Draft
with_label None d = d
with_label (Some name) d = record d { labels = insert_entry (slice_cmp nat_cmp) d.labels name (length d.statements); waits = true }

-- a know line waits for the next instruction
abbrev pub with_know : Option Sets → Draft → Draft
with_know None d = d
with_know (Some sets) d = record d { know = Some sets }

-- the know line of a place
abbrev pub know_line : ℕ → Option Sets → List Line
know_line place None = []
know_line place (Some sets) = (place, sets) ∷ []

-- an instruction takes the know line that waits, and nothing waits any more
abbrev pub with_statement : Option Statement → Draft → Draft
with_statement None d = d
with_statement (Some s) d = record {
  limit = d.limit;
  statements = d.statements ++ s ∷ [];
  knows = d.knows ++ know_line (length d.statements) d.know;
  labels = d.labels;
  know = None;
  waits = false;
}

-- what was read with one more line
abbrev pub after : LineParts → Draft → Draft
after line d = with_statement line.does (with_know line.know (with_label line.label (with_limit line.limit d)))

-- the lines of a text, of which the first has a number, behind what was read before
unfoldable pub lines_at : Draft → ℕ → List (List ℕ) → Result Draft Bad
lines_at d line [] = Ok d
lines_at d line (text ∷ texts) = do
  parts ← on_line line
      (line_at d.labels (has_begun d) (nat_le 256 (length d.statements)) (is_some d.know) line (row_at text) (row_at text).words)
  lines_at (after parts d) (line + 1) texts

abbrev pub defined_at : ℕ → Option ℕ → Result ℕ At
defined_at column None = Err (at column kinds.LabelUndefined)
defined_at column (Some place) = Ok place

-- the place that a use of a label means
abbrev pub use_at : List Naming → Use → Result ℕ Bad
use_at labels u = on_line u.line (defined_at u.column (place_of labels u.name))

-- the form of an instruction, whose target is the place of its label
abbrev pub form_at : List Naming → Statement → Option Use → Result Form Bad
form_at labels statement None = Ok (form_with statement statement.imm)
form_at labels statement (Some u) = use_at labels u >>= λ place. Ok (form_with statement place)

-- the forms of instructions
unfoldable pub forms_at : List Naming → List Statement → Result (List Form) Bad
forms_at labels [] = Ok []
forms_at labels (s ∷ more) = do
  form ← form_at labels s s.target
  forms ← forms_at labels more
  Ok (form ∷ forms)

-- The image of what was read, up to the last line of a number. Nothing waits for an instruction, and there is one.
unfoldable pub image_of : ℕ → Draft → Result Parts Bad
image_of last d =
    if d.waits || is_some d.know then Err (bad last (at 1 kinds.WithoutInstruction))
    else if length d.statements == 0 then Err (bad last (at 1 kinds.NoInstruction))
    else (forms_at d.labels d.statements >>= λ forms.
    Ok (record { version = version_of d.limit; limit = limit_or_first d.limit; instrs = forms; knows = d.knows }))

-- the image that a text spells, or its first fault; an empty text counts as one line
unfoldable pub image_at : List ℕ → Result Parts Bad
image_at text = lines_at nothing_read 1 (lines text) >>= image_of (max 1 (length (lines text)))
