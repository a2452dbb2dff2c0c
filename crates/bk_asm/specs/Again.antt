-- What the canonical text of an image is read as.
use Rattle.std.specs.Prelude.{◌≡◌, ℕ, Bool, true, false, not, ◌||◌, nat_lt, List, length, Result, Ok, Err}
use Rattle.std.specs.List.{list_all}
use Rattle.bk_isa.specs.declared.form.Form.{Form}
use Rattle.bk_isa.specs.Fields.{fields_of}
use Rattle.bk_image.specs.Images.{Parts}
use Rattle.bk_text.specs.Faults.{Bad}
use Rattle.bk_asm.specs.Mnemonics.{operation_of}
use Rattle.bk_asm.specs.Operations.{slots_of}
use Rattle.bk_asm.specs.Ranges.{is_target}

-- a form that goes nowhere, or to one of so many places
abbrev pub goes_inside : ℕ → Form → Bool
goes_inside count f = not (is_target (slots_of (operation_of f)).last) || nat_lt (fields_of f).imm count

-- each branch goes to a place that has an instruction
abbrev pub all_inside : List Form → Bool
all_inside forms = list_all (goes_inside (length forms)) forms

-- A text is read as this image where each of its branches goes to a place. Else a label is defined nowhere, which is fault 26.
abbrev pub IsAgain : Bool → Parts → Result Parts Bad → Type 0
IsAgain true x read = read ≡ Ok x
IsAgain false x read = (line : ℕ) × (column : ℕ) × (read ≡ Err (record { line = line; column = column; kind = 26 }))
