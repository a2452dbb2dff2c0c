-- What a command says that makes no run: of the bytes of a file, or of its words.
use Rattle.std.specs.Prelude.{◌≡◌, ℕ, List, codes, Result, Ok, Err}
use Rattle.bk_image.specs.Faults.{Bad}
use Rattle.bk_image.specs.Images.{Parts}
use Rattle.bk_image.specs.Reading.{image_at}
use Rattle.bk_image.specs.Spelling as images
use Rattle.bk_text.specs.Faults as text_faults
use Rattle.bk_asm.specs.Reading as asm
use Rattle.bk_asm.specs.Spelled.{Spells}
use Rattle.bk_asm.specs.Writing as texts
use Rattle.bk_cmd.specs.declared.words.Question.{Question}
use Rattle.bk_cmd.specs.declared.words.Question.TheVariants.{Verdict, Assembly, Disassembly}
use Rattle.bk_base.specs.Places.{Shape}
use Rattle.bk_trace.specs.Generator.{generated}
use Rattle.bk_trace.specs.Spelling.{spelling}
use Rattle.bk_check.specs.Accepted.{Accepted, IsFirstUnmet}

abbrev pub bad_at : ℕ → ℕ → Bad
bad_at at kind = record { place = at; kind = kind }

pub data Answer : Type 0 where
  -- these bytes are due
  Due : (text : List ℕ) → Answer
  -- the image is refused: the least instruction with an unmet obligation, and the least such
  Refuses : (at obligation : ℕ) → Answer
  -- the file is not of its grammar
  Fault : (at column kind : ℕ) → Answer

-- `accepted` and a line's end
abbrev pub accepted_text : List ℕ
accepted_text = codes "accepted\n"

-- the verdict on an image, or on bytes that are none
abbrev pub VerdictOn : Result Parts Bad → Answer → Type 0
VerdictOn (Ok image) (Due text) = Accepted image × (text ≡ accepted_text)
VerdictOn (Ok image) (Refuses at obligation) = IsFirstUnmet image at obligation
VerdictOn (Ok image) (Fault at column kind) = ⊥
VerdictOn (Err bad) (Due text) = ⊥
VerdictOn (Err bad) (Refuses at obligation) = ⊥
VerdictOn (Err bad) (Fault at column kind) = (bad ≡ bad_at at kind) × (column ≡ 0)

-- the bytes of the image that a text spells, or, where it is read as none, its first fault
abbrev pub AssemblyOf : List ℕ → Result Parts text_faults.Bad → Answer → Type 0
AssemblyOf bytes (Ok image) (Due text) = Spells bytes image × (text ≡ images.spelling image)
AssemblyOf bytes (Err bad) (Fault at column kind) = bad ≡ record { line = at; column = column; kind = kind }
AssemblyOf bytes _ _ = ⊥

-- the canonical text of an image, or the first fault of bytes that are none
abbrev pub DisassemblyOf : Result Parts Bad → Answer → Type 0
DisassemblyOf (Ok image) (Due text) = text ≡ texts.spelling image
DisassemblyOf (Err bad) (Fault at column kind) = (bad ≡ bad_at at kind) × (column ≡ 0)
DisassemblyOf _ _ = ⊥

-- what `verify`, `asm` and `dis` say of a file's bytes
abbrev pub SaysOf : Question → List ℕ → Answer → Type 0
SaysOf Verdict bytes answer = VerdictOn (image_at bytes) answer
SaysOf Assembly bytes answer = AssemblyOf bytes (asm.image_at bytes) answer
SaysOf Disassembly bytes answer = DisassemblyOf (image_at bytes) answer

-- what `gen` says: the canonical text of the drawn trace
abbrev pub drawn_text : ℕ → Shape → ℕ → List ℕ
drawn_text seed config operations = spelling (record { config = config; lines = generated config seed 1 operations })
