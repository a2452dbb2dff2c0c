-- What a text of microcode spells: what each of its lines says, and the image that these make.
-- It says which image a text means. Which texts have a fault, as a comment with a byte that is none of a text, and which fault
-- that is, the reader says (Reading); an image that it gives is the one that is spelled here.
use Rattle.std.specs.Prelude.{◌≡◌, ◌⊎◌, ℕ, ◌+◌, ◌/◌, ◌%◌, ◌^◌, ◌<◌, ◌==◌, true, List, [], ◌∷◌, ◌++◌, length, map, Option, Some, None, codes, unwrap_or, is_some, if◌then◌else◌}
use Rattle.std.specs.List.{AllZip, AllByRecursion, Contains, IsDistinct, slice_split}
use Rattle.std.specs.Map.{lookup}
use Rattle.std.specs.Str.{bytes_eq}
use Rattle.std.specs.Str.Lines.{lines}
use Rattle.bk_isa.specs.declared.form.Form.{Form}
use Rattle.bk_isa.specs.Fields.{fields_of}
use Rattle.bk_know.specs.declared.sets.Sets.{Sets}
use Rattle.bk_know.specs.Sets.{idle_base, held_base, field}
use Rattle.bk_image.specs.Images.{Parts, Line, AreParts}
use Rattle.bk_text.specs.Texts.{number_of, words_of}
use Rattle.bk_asm.specs.Names.{Naming, value_names, class_names, names_of}
use Rattle.bk_asm.specs.Operations.{slots_of}
use Rattle.bk_asm.specs.Programs.{version_of, limit_or_first}
use Rattle.bk_asm.specs.Mnemonics.{mnemonic, operation_of}
use Rattle.bk_asm.specs.Reading.{is_label, comment_mark}
use Rattle.bk_asm.specs.declared.names.Names.TheVariants as names
use Rattle.bk_asm.specs.declared.slots.Slot.{Slot}
use Rattle.bk_asm.specs.declared.slots.Slot.TheVariants as slots
use Rattle.bk_asm.specs.declared.slots.Last.{Last}
use Rattle.bk_asm.specs.declared.slots.Last.TheVariants as lasts

-- ---- lines

-- what a line says behind its label
pub data Content : Type 0 where
  Nothing : Content
  Know : (sets : Sets) → Content
  Instruction : (form : Form) → Content

-- what a line says: a limit, or else a label and a content
pub record Sentence : Type 0 where
  pub limit : Option ℕ
  pub label : Option (List ℕ)
  pub content : Content

-- the instructions of lines
abbrev pub form_in : Content → List Form
form_in (Instruction form) = form ∷ []
form_in content = []

abbrev pub forms_in : List Sentence → List Form
forms_in [] = []
forms_in (s ∷ more) = form_in s.content ++ forms_in more

-- the labels, each with the place of the next instruction, where the first instruction has a place
abbrev pub label_in : ℕ → Option (List ℕ) → List Naming
label_in place None = []
label_in place (Some name) = (name, place) ∷ []

abbrev pub labels_in : ℕ → List Sentence → List Naming
labels_in place [] = []
labels_in place (s ∷ more) = label_in place s.label ++ labels_in (place + length (form_in s.content)) more

-- the know lines, each with the place of the next instruction
abbrev pub know_in : ℕ → Content → List Line
know_in place (Know sets) = (place, sets) ∷ []
know_in place content = []

abbrev pub knows_in : ℕ → List Sentence → List Line
knows_in place [] = []
knows_in place (s ∷ more) = know_in place s.content ++ knows_in (place + length (form_in s.content)) more

-- the limit, which some line gives
abbrev pub limit_from : List Sentence → Option ℕ
limit_from [] = None
limit_from (s ∷ more) = if is_some s.limit then s.limit else limit_from more

abbrev pub SaysNothing : Sentence → Type 0
SaysNothing s = (s.limit ≡ None) × (s.label ≡ None) × (s.content ≡ Nothing)

-- a limit is given by the first line that says something alone
abbrev pub IsLed : List Sentence → Type 0
IsLed [] = Unit {0}
IsLed (s ∷ more) = (SaysNothing s × IsLed more) ⊎ (limit_from more ≡ None)

-- ---- the words of an instruction

-- the set has this value, one bit each
abbrev pub Has : ℕ → ℕ → Type 0
Has set value = set / 2 ^ value % 2 ≡ 1

-- names of values with a separator between them, in any order, and the set of these values
pub record SpellsSet (names : List Naming) (separator : ℕ) (word : List ℕ) (set : ℕ) : Type 0 where
  pub values : List ℕ
  pub named : AllZip (λ name value. Contains names (name, value)) (slice_split (λ b. b == separator) word) values
  pub each : (value : ℕ) → Contains values value → Has set value
  pub only : (value : ℕ) → Has set value → Contains values value

-- the word of an operand a, b or c, if it is written; which values there are depends on the field before them
abbrev pub SpellsOperand : Slot → ℕ → List (List ℕ) → ℕ → Type 0
SpellsOperand slots.Nothing field [] n = n ≡ 0
SpellsOperand (slots.Name sort) field (word ∷ []) n = Contains (names_of sort) (word, n)
SpellsOperand (slots.Perhaps sort) field [] n = n ≡ 0
SpellsOperand (slots.Perhaps sort) field (word ∷ []) n = Contains (names_of sort) (word, n)
SpellsOperand slots.Classes field (word ∷ []) n = SpellsSet class_names 44 word n
SpellsOperand slots.Values field (word ∷ []) n = SpellsSet (value_names field) 44 word n
SpellsOperand slot field words n = ⊥

-- the word of the last operand, if it is written; a label means its place
abbrev pub SpellsLast : List Naming → Last → List (List ℕ) → ℕ → Type 0
SpellsLast labels lasts.Nothing [] n = n ≡ 0
SpellsLast labels lasts.Shift (word ∷ []) n = (number_of word ≡ Some n) × (n < 64)
SpellsLast labels lasts.Number (word ∷ []) n = (number_of word ≡ Some n) × (n < 2 ^ 32)
SpellsLast labels lasts.Target (word ∷ []) n = Contains labels (word, n)
SpellsLast labels last words n = ⊥

-- an instruction, in a text with these labels: its mnemonic, and its operands in the order of the table
pub record SpellsForm (labels : List Naming) (line : List (List ℕ)) (form : Form) : Type 0 where
  pub first : List (List ℕ)
  pub second : List (List ℕ)
  pub third : List (List ℕ)
  pub rest : List (List ℕ)
  pub words : line ≡ words_of comment_mark (mnemonic (operation_of form)) ++ (first ++ (second ++ (third ++ rest)))
  pub a : SpellsOperand (slots_of (operation_of form)).a 0 first (fields_of form).a
  pub b : SpellsOperand (slots_of (operation_of form)).b (fields_of form).a second (fields_of form).b
  pub c : SpellsOperand (slots_of (operation_of form)).c (fields_of form).a third (fields_of form).c
  pub imm : SpellsLast labels (slots_of (operation_of form)).last rest (fields_of form).imm

-- ---- the words of a know line

-- the sets that a know line begins with
abbrev pub bases : List (List ℕ × Sets)
bases = (codes "idle", idle_base) ∷ (codes "held", held_base) ∷ []

-- `field=value|value`: the field's number, and the set of the values
pub record SpellsField (entry : List ℕ) (given : ℕ × ℕ) : Type 0 where
  pub name : List ℕ
  pub values : List ℕ
  pub word : entry ≡ name ++ codes "=" ++ values
  pub field : Contains (names_of names.Field) (name, given.0)
  pub set : SpellsSet (value_names given.0) 124 values given.1

-- a know line: its base and further fields, each once; a field has its own set where one is given, else that of the base
pub record SpellsKnow (line : List (List ℕ)) (sets : Sets) : Type 0 where
  pub name : List ℕ
  pub base : Sets
  pub fields : List (List ℕ)
  pub given : List (ℕ × ℕ)
  pub words : line ≡ codes "know" ∷ name ∷ fields
  pub named : Contains bases (name, base)
  pub each : AllZip SpellsField fields given
  pub once : IsDistinct (λ k n. k == n) (map (λ g. g.0) given)
  pub chosen : AllByRecursion (λ (n : Naming). field sets n.1 ≡ unwrap_or (lookup (λ k. n.1 == k) given) (field base n.1))
      (names_of names.Field)

-- ---- texts

abbrev pub SpellsContent : List Naming → List (List ℕ) → Content → Type 0
SpellsContent labels words Nothing = words ≡ []
SpellsContent labels words (Know sets) = SpellsKnow words sets
SpellsContent labels words (Instruction form) = SpellsForm labels words form

-- the words of a line without a limit: a label and `:`, where it has one, and what stands behind that
abbrev pub SpellsLabelled : List Naming → List (List ℕ) → Option (List ℕ) → Content → Type 0
SpellsLabelled labels words None content = SpellsContent labels words content
SpellsLabelled labels [] (Some name) content = ⊥
SpellsLabelled labels (word ∷ words) (Some name) content = (word ≡ name ++ codes ":") × (is_label name ≡ true)
    × SpellsContent labels words content

-- the words of a line that gives a limit
pub record SpellsLimit (words : List (List ℕ)) (limit : ℕ) : Type 0 where
  pub number : List ℕ
  pub words-are : words ≡ codes "caches" ∷ number ∷ []
  pub named : number_of number ≡ Some limit

-- the words of a line
abbrev pub SpellsSentence : List Naming → List (List ℕ) → Option ℕ → Option (List ℕ) → Content → Type 0
SpellsSentence labels words (Some limit) label content = SpellsLimit words limit × (label ≡ None) × (content ≡ Nothing)
SpellsSentence labels words None label content = SpellsLabelled labels words label content

-- An image is spelled by the text whose lines say this. Each label is defined once, and an instruction follows each label
-- and each know line, of which an instruction has one at most. A limit is given before all else, and once; without it the image is
-- of version 1.
pub record Spells (text : List ℕ) (image : Parts) : Type 0 where
  pub sentences : List Sentence
  pub lines : AllZip (λ line s. SpellsSentence (labels_in 0 sentences) (words_of comment_mark line) s.limit s.label s.content)
      (lines text) sentences
  pub led : IsLed sentences
  pub version : image.version ≡ version_of (limit_from sentences)
  pub limit : image.limit ≡ limit_or_first (limit_from sentences)
  pub instrs : image.instrs ≡ forms_in sentences
  pub knows : image.knows ≡ knows_in 0 sentences
  pub parts : AreParts image
  pub once : IsDistinct bytes_eq (map (λ l. l.0) (labels_in 0 sentences))
  pub placed : AllByRecursion (λ (l : Naming). l.1 < length image.instrs) (labels_in 0 sentences)
