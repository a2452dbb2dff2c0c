-- What a command needs of its files. With it, and where no read and no write fails, only want of memory keeps all that is due from being
-- written.
use Rattle.std.specs.Prelude.{◌≡◌, ℕ, ◌≤◌, List, length, Option, Some, Ok}
use Rattle.bk_outer.specs.declared.shelf.TheConstants.{FILE_LIMIT}
use Rattle.bk_asm.specs.Reading as asm
use Rattle.bk_image.specs.Images as images
use Rattle.bk_image.specs.Spelling.{IsImage, spelling}
use Rattle.bk_check.specs.Accepted.{Accepted}
use Rattle.bk_trace.specs.Traces as traces
use Rattle.bk_trace.specs.Grammar.{trace_of}
use Rattle.bk_cmd.specs.Words.{Command, OfFile, Source, Generate, Replay}
use Rattle.bk_cmd.specs.declared.words.Question.{Question}
use Rattle.bk_cmd.specs.declared.words.Question.TheVariants.{Verdict, Assembly, Disassembly}

-- the bytes of an image
abbrev pub IsImageFile : List ℕ → Type 0
IsImageFile bytes = (image : images.Parts) × IsImage image × (bytes ≡ spelling image)

-- the bytes of an image that is accepted
abbrev pub IsAcceptedFile : List ℕ → Type 0
IsAcceptedFile bytes = (image : images.Parts) × IsImage image × (bytes ≡ spelling image) × Accepted image

-- a text that is read as an image
abbrev pub IsProgramFile : List ℕ → Type 0
IsProgramFile text = (image : images.Parts) × (asm.image_at text ≡ Ok image)

-- a text of the grammar of traces
abbrev pub IsTraceFile : List ℕ → Type 0
IsTraceFile text = (trace : traces.Parts) × (trace_of text ≡ Some trace)

-- what a question asks about
abbrev pub Suits : Question → List ℕ → Type 0
Suits Verdict = IsAcceptedFile
Suits Assembly = IsProgramFile
Suits Disassembly = IsImageFile

-- The shelf tells its files, and one of this name is there, not over the limit. Of its bytes this holds.
pub record IsThere (files : Option (List ℕ → Option (List ℕ))) (name : List ℕ) (Holds : List ℕ → Type 0) : Type 0 where
  pub at : List ℕ → Option (List ℕ)
  pub tells : files ≡ Some at
  pub bytes : List ℕ
  pub present : at name ≡ Some bytes
  pub fits : length bytes ≤ FILE_LIMIT
  pub holds : Holds bytes

-- the image of a replay and its trace are there and suit it, and the trace has no more caches than the image's limit
pub record HasInputs (files : Option (List ℕ → Option (List ℕ))) (image_name trace_name : List ℕ) : Type 0 where
  pub image : IsThere files image_name IsAcceptedFile
  pub trace : IsThere files trace_name IsTraceFile
  pub within : trace.holds.0.config.caches ≤ image.holds.0.limit

-- each file of a command is there and suits it
abbrev pub HasFiles : Option (List ℕ → Option (List ℕ)) → Command → Type 0
HasFiles files (OfFile question name) = IsThere files name (Suits question)
HasFiles files (Source text) = Unit {0}
HasFiles files (Generate seed config operations) = Unit {0}
HasFiles files (Replay output image trace) = HasInputs files image trace
