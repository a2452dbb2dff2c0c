-- The files of a command, and what they hold.
use Rattle.std.specs.Prelude.{◌≡◌, ℕ, ◌⊎◌, List, [], ◌∷◌, ◌++◌, Option, Some, Err, IfSome}
use Rattle.bk_outer.specs.Reads.{Reads}
use Rattle.bk_image.specs.Faults.{Bad}
use Rattle.bk_image.specs.Images as images
use Rattle.bk_image.specs.Reading.{image_at}
use Rattle.bk_image.specs.Spelling.{IsImage, spelling}
use Rattle.bk_check.specs.Accepted.{Accepted}
use Rattle.bk_trace.specs.Traces as traces
use Rattle.bk_text.specs.Faults as text_faults
use Rattle.bk_trace.specs.Grammar.{trace_of}
use Rattle.bk_trace.specs.Reading.{trace_at}

-- What is known of files: what a shelf has under each name, where it tells, and what its reads gave before and have given after.
pub record Files : Type 0 where
  pub at : Option (List ℕ → Option (List ℕ))
  pub before : Reads
  pub after : Reads

-- what a shelf tells in two of its states, by the functions that tell its files and its reads
abbrev pub seen : {S : Type 0} → (S → Option (List ℕ → Option (List ℕ))) → (S → Reads) → S → S → Files
seen files reads old new = record { at = files old; before = reads old; after = reads new }

-- no read gave anything
abbrev pub IsUnread : Files → Type 0
IsUnread files = files.after ≡ files.before

-- One read gave something: these bytes, of the file of this name.
abbrev pub GaveOnly : Files → List ℕ → List ℕ → Type 0
GaveOnly files name bytes = files.after ≡ files.before ++ (name, bytes) ∷ []

-- the files up to some moment, and from it on
abbrev pub until : Files → Reads → Files
until files then = record files { after = then }

abbrev pub since : Files → Reads → Files
since files then = record files { before = then }

-- Of the names, the first few were read, each once, in order; nothing else was.
abbrev pub ReadsFirst : List (List ℕ) → Files → Type 0
ReadsFirst [] files = IsUnread files
ReadsFirst (name ∷ names) files = IsUnread files
    ⊎ ((bytes : List ℕ) × ReadsFirst names (since files (files.before ++ (name, bytes) ∷ [])))

-- The file was read, and nothing else. Of the bytes that the read gave, which are the file's where the shelf tells, this holds.
pub record FileHolds (files : Files) (name : List ℕ) (Holds : List ℕ → Type 0) : Type 0 where
  pub bytes : List ℕ
  pub found : IfSome files.at (λ at. at name ≡ Some bytes)
  pub gave : GaveOnly files name bytes
  pub holds : Holds bytes

-- The file is the spelling of this image. Each image has one spelling, and no two have the same.
abbrev pub HasImage : Files → List ℕ → images.Parts → Type 0
HasImage files name image = FileHolds files name (λ bytes. IsImage image × (bytes ≡ spelling image))

-- The file is a text of the grammar of traces, and spells this trace.
abbrev pub HasTrace : Files → List ℕ → traces.Parts → Type 0
HasTrace files name trace = FileHolds files name (λ text. trace_of text ≡ Some trace)

-- This is the first fault of an image.
abbrev pub HasImageFault : Files → List ℕ → Bad → Type 0
HasImageFault files name fault = FileHolds files name (λ bytes. image_at bytes ≡ Err fault)

-- This is the first fault of a trace.
abbrev pub HasTraceFault : Files → List ℕ → text_faults.Bad → Type 0
HasTraceFault files name fault = FileHolds files name (λ text. trace_at text ≡ Err fault)

-- Two files were read, first this image, which is accepted, and then this trace.
pub record AreRead (files : Files) (image_name trace_name : List ℕ) (image : images.Parts) (trace : traces.Parts) : Type 0 where
  pub then : Reads
  pub has_image : HasImage (until files then) image_name image
  pub accepted : Accepted image
  pub has_trace : HasTrace (since files then) trace_name trace

-- a trace is read only after an image that is accepted, and this holds of the files from then on
pub record AfterImage (files : Files) (name : List ℕ) (Next : Files → Type 0) : Type 0 where
  pub image : images.Parts
  pub then : Reads
  pub has_image : HasImage (until files then) name image
  pub accepted : Accepted image
  pub next : Next (since files then)
