-- Instructions and their words.
use Rattle.std.specs.Prelude.{◌≡◌, ℕ, Option, Some, None, Result, Ok, Err}
use Rattle.bk_isa.specs.declared.fault.WordFault.{WordFault}
use Rattle.bk_isa.specs.declared.form.Form.{Form}
use Rattle.bk_isa.specs.Fields.{fields_of, form_of, pack, unpack, AreWide}
use Rattle.bk_isa.specs.Table.{fault_in}

-- each operand is in the range that the table gives it
pub record IsInRange (f : Form) : Type 0 where
  pub wide : AreWide (fields_of f)
  pub admitted : fault_in (fields_of f) ≡ None

-- the word of an instruction
abbrev pub encode : Form → ℕ
encode f = pack (fields_of f)

abbrev pub unless : Option WordFault → Form → Result Form WordFault
unless None f = Ok f
unless (Some e) f = Err e

-- the instruction of a word, or its first fault
abbrev pub decode : ℕ → Result Form WordFault
decode word = unless (fault_in (unpack word)) (form_of (unpack word))
