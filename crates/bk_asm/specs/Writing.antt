-- The canonical text of an image.
use Rattle.std.specs.Prelude.{ℕ, ◌+◌, ◌/◌, ◌%◌, ◌^◌, ◌==◌, Bool, true, false, ◌&&◌, nat_lt, List, [], ◌∷◌, ◌++◌, codes, Option, Some, None, if◌then◌else◌}
use Rattle.std.specs.List.{list_any}
use Rattle.std.specs.Fmt.{decimal}
use Rattle.bk_isa.specs.declared.fields.Fields.{Fields}
use Rattle.bk_isa.specs.declared.form.Form.{Form}
use Rattle.bk_isa.specs.Fields.{fields_of}
use Rattle.bk_know.specs.declared.values.TheConstants.{STAGE_HELD_CLOSING}
use Rattle.bk_know.specs.declared.sets.Sets.{Sets}
use Rattle.bk_know.specs.Sets.{idle_base, held_base, subset, field}
use Rattle.bk_image.specs.Images.{Parts, known}
use Rattle.bk_asm.specs.Names.{Naming, value_names, class_names, names_of}
use Rattle.bk_asm.specs.Operations.{slots_of}
use Rattle.bk_asm.specs.Mnemonics.{mnemonic, operation_of}
use Rattle.bk_asm.specs.Ranges.{is_target}
use Rattle.bk_asm.specs.declared.names.Names.TheVariants as names
use Rattle.bk_asm.specs.declared.operation.Operation.{Operation}
use Rattle.bk_asm.specs.declared.slots.Slot.{Slot}
use Rattle.bk_asm.specs.declared.slots.Slot.TheVariants as slots
use Rattle.bk_asm.specs.declared.slots.Last.{Last}
use Rattle.bk_asm.specs.declared.slots.Last.TheVariants as lasts

-- the name of a number
abbrev pub name_of : List Naming → ℕ → List ℕ
name_of [] n = []
name_of (name ∷ more) n = if name.1 == n then name.0 else name_of more n

-- whether a set, a byte, has a value
abbrev pub is_in : ℕ → ℕ → Bool
is_in set value = nat_lt value 8 && set / 2 ^ value % 2 == 1

-- the names of the values that a set has, in order, with a separator before each but the first
abbrev pub set_text : List Naming → Bool → List ℕ → ℕ → List ℕ
set_text [] first separator set = []
set_text (name ∷ more) first separator set =
    if is_in set name.1
    then (if first then [] else separator) ++ name.0 ++ set_text more false separator set
    else set_text more first separator set

-- an operand a, b or c, and the blank before it
abbrev pub slot_text : Slot → ℕ → ℕ → List ℕ
slot_text slots.Nothing field n = []
slot_text (slots.Name sort) field n = codes " " ++ name_of (names_of sort) n
slot_text (slots.Perhaps sort) field n = if n == 0 then [] else codes " " ++ name_of (names_of sort) n
slot_text slots.Classes field n = codes " " ++ set_text class_names true (codes ",") n
slot_text slots.Values field n = codes " " ++ set_text (value_names field) true (codes ",") n

-- the label of a place below 1000: `L` and three digits
abbrev pub label_text : ℕ → List ℕ
label_text place = codes "L" ++ decimal (place / 100 % 10) ++ decimal (place / 10 % 10) ++ decimal (place % 10)

-- the last operand, and the blank before it
abbrev pub last_text : Last → ℕ → List ℕ
last_text lasts.Nothing n = []
last_text lasts.Shift n = codes " " ++ decimal n
last_text lasts.Number n = codes " " ++ decimal n
last_text lasts.Target n = codes " " ++ label_text n

-- an instruction
abbrev pub operation_text : Operation → Fields → List ℕ
operation_text o p = mnemonic o ++ slot_text (slots_of o).a 0 p.a ++ slot_text (slots_of o).b p.a p.b ++ slot_text (slots_of o).c p.a p.c
    ++ last_text (slots_of o).last p.imm

abbrev pub form_text : Form → List ℕ
form_text f = operation_text (operation_of f) (fields_of f)

-- ---- know lines

-- a field with the names of its values, if its set differs from that of the base
abbrev pub field_text : Naming → Sets → Sets → List ℕ
field_text name base sets = if field sets name.1 == field base name.1 then []
    else codes " " ++ name.0 ++ codes "=" ++ set_text (value_names name.1) true (codes "|") (field sets name.1)

-- the fields of a list
abbrev pub fields_text : List Naming → Sets → Sets → List ℕ
fields_text [] base sets = []
fields_text (name ∷ more) base sets = field_text name base sets ++ fields_text more base sets

-- the stage is Held, Closing or one of the two
abbrev pub is_held : Sets → Bool
is_held sets = subset sets.stage STAGE_HELD_CLOSING

-- a know line: its base, and the fields that differ from that
unfoldable pub based_text : List Naming → List ℕ → Sets → Sets → List ℕ
based_text fields name base sets = codes "  know " ++ name ++ fields_text fields base sets ++ codes "\n"

-- the base is that of a held request where one is held
abbrev pub know_text : Sets → List ℕ
know_text sets = if is_held sets then based_text (names_of names.Field) (codes "held") held_base sets
    else based_text (names_of names.Field) (codes "idle") idle_base sets

abbrev pub know_line_text : Option Sets → List ℕ
know_line_text None = []
know_line_text (Some sets) = know_text sets

-- ---- texts

-- whether a form goes to a place
abbrev pub goes_to : ℕ → Form → Bool
goes_to place f = is_target (slots_of (operation_of f)).last && (fields_of f).imm == place

-- the label of a place, if some branch names it
unfoldable pub label_line : List Form → ℕ → List ℕ
label_line forms place = if list_any (goes_to place) forms then label_text place ++ codes ":\n" else []

-- an instruction alone
unfoldable pub form_line : Form → List ℕ
form_line f = codes "  " ++ form_text f ++ codes "\n"

-- what is written of the place of an instruction
abbrev pub place_text : Parts → ℕ → Form → List ℕ
place_text x place f = label_line x.instrs place ++ know_line_text (known x.knows place) ++ form_line f

-- the instructions from a place on
abbrev pub places_text : Parts → ℕ → List Form → List ℕ
places_text x place [] = []
places_text x place (f ∷ more) = place_text x place f ++ places_text x (place + 1) more

-- the line of the limit, which an image of version 1 doesn't have
unfoldable pub caches_line : ℕ → ℕ → List ℕ
caches_line version limit = if version == 1 then [] else codes "caches " ++ decimal limit ++ codes "\n"

-- the text of an image
abbrev pub spelling : Parts → List ℕ
spelling x = caches_line x.version x.limit ++ places_text x 0 x.instrs
