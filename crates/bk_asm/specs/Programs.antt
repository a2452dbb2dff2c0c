-- A program as it is read: instructions whose targets are labels, know lines and labels.
use Rattle.std.specs.Prelude.{ℕ, List, Option, Some, None}
use Rattle.bk_isa.specs.declared.form.Form.{Form}
use Rattle.bk_isa.specs.Fields.{fields_with, form_of}
use Rattle.bk_know.specs.declared.sets.Sets.{Sets}
use Rattle.bk_asm.specs.Operations.{opcode}
use Rattle.bk_asm.specs.declared.operation.Operation.{Operation}

-- the version and the limit of an image, by the limit that its text gives
abbrev pub version_of : Option ℕ → ℕ
version_of None = 1
version_of (Some limit) = 2

abbrev pub limit_or_first : Option ℕ → ℕ
limit_or_first None = 8
limit_or_first (Some limit) = limit

-- a use of a label: where it stands, and the label's name
pub record Use : Type 0 where
  pub line : ℕ
  pub column : ℕ
  pub name : List ℕ

-- An instruction with its operands. Where it has a target, its last operand is the place of that label.
pub record Statement : Type 0 where
  pub operation : Operation
  pub a : ℕ
  pub b : ℕ
  pub c : ℕ
  pub imm : ℕ
  pub target : Option Use

-- its form, with this last operand
abbrev pub form_with : Statement → ℕ → Form
form_with statement imm = form_of (fields_with (opcode statement.operation) statement.a statement.b statement.c imm)

-- what a line has: a limit, or a label, a know line, an instruction
pub record LineParts : Type 0 where
  pub limit : Option ℕ
  pub label : Option (List ℕ)
  pub know : Option Sets
  pub does : Option Statement
