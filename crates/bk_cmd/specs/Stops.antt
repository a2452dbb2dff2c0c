-- What each reason to stop says. The two types say that the shelf's count of faults rose, and its count of misses.
use Rattle.std.specs.Prelude.{◌≡◌, ℕ, ◌<◌, ◌⊎◌, List, length, None, Result, Ok, Err, IfSome, IsSomeAnd}
use Rattle.std.specs.Global.{Vec}
use Rattle.bk_outer.specs.declared.shelf.TheConstants.{FILE_LIMIT}
use Rattle.bk_image.specs.Faults as faults
use Rattle.bk_image.specs.Images as images
use Rattle.bk_image.specs.Reading.{image_at}
use Rattle.bk_text.specs.Faults as text_faults
use Rattle.bk_trace.specs.Traces as traces
use Rattle.bk_cmd.specs.Answers.{Answer, Due, Refuses, Fault, bad_at, VerdictOn, SaysOf, drawn_text}
use Rattle.bk_cmd.specs.Inputs.{Files, IsUnread, FileHolds, HasImageFault, HasTraceFault, AreRead, AfterImage}
use Rattle.bk_cmd.specs.Words.{Command, OfFile, Source, Generate, Replay}
use Rattle.bk_cmd.specs.declared.outcome.Unread as unread
use Rattle.bk_cmd.specs.declared.outcome.Unread.TheVariants.{Absent, Failed, TooLong}
use Rattle.bk_cmd.specs.declared.outcome.Stop.{Stop}
use Rattle.bk_cmd.specs.declared.outcome.Stop.TheVariants.{Memory, Usage, Unread, Bad, Refused, Limit}

-- a fault of a text, in a line and a column
abbrev pub bad_in : ℕ → ℕ → ℕ → text_faults.Bad
bad_in line column kind = record { line = line; column = column; kind = kind }

-- ---- what a reader of bytes answers

-- the bytes of an image read so, or memory ran out
abbrev pub GivesImage : Result images.Parts Stop → Result images.Parts faults.Bad → Type 0
GivesImage (Ok image) read = read ≡ Ok image
GivesImage (Err Memory) read = Unit {0}
GivesImage (Err (Bad file at column kind)) read = (file ≡ 1) × (column ≡ 0) × (read ≡ Err (bad_at at kind))
GivesImage (Err _) read = ⊥

-- the bytes of a trace read so, or memory ran out
abbrev pub GivesTrace : Result traces.Parts Stop → Result traces.Parts text_faults.Bad → Type 0
GivesTrace (Ok trace) read = read ≡ Ok trace
GivesTrace (Err Memory) read = Unit {0}
GivesTrace (Err (Bad file at column kind)) read = (file ≡ 2) × (read ≡ Err (bad_in at column kind))
GivesTrace (Err _) read = ⊥

-- a command of one file says so, or memory ran out
abbrev pub GivesAnswer : Result (Vec ℕ) Stop → (Answer → Type 0) → Type 0
GivesAnswer (Ok text) Says = Says (Due text.items)
GivesAnswer (Err Memory) Says = Unit {0}
GivesAnswer (Err (Bad file at column kind)) Says = (file ≡ 1) × Says (Fault at column kind)
GivesAnswer (Err (Refused refusal)) Says = Says (Refuses refusal.at refusal.obligation)
GivesAnswer (Err _) Says = ⊥

-- ---- files that gave no bytes

-- Nothing was read, and the shelf counted it. Where it tells its files, there is none of the name, or it is over the limit.
abbrev pub GaveNone : Files → List ℕ → Type 0 → Type 0 → unread.Unread → Type 0
GaveNone files name failed missed Absent = IsUnread files × missed × IfSome files.at (λ at. at name ≡ None)
GaveNone files name failed missed Failed = IsUnread files × failed
GaveNone files name failed missed TooLong = IsUnread files × missed
    × IfSome files.at (λ at. IsSomeAnd (at name) (λ bytes. FILE_LIMIT < length bytes))

-- a file gave no bytes, or memory ran out
abbrev pub IsReadStop : Files → List ℕ → ℕ → Type 0 → Type 0 → Stop → Type 0
IsReadStop files name number failed missed Memory = Unit {0}
IsReadStop files name number failed missed (Unread file cause) = (file ≡ number) × GaveNone files name failed missed cause
IsReadStop files name number failed missed _ = ⊥

-- the verdict refuses the image of a file
abbrev pub ImageIsRefused : Files → List ℕ → ℕ → ℕ → Type 0
ImageIsRefused files name at obligation = FileHolds files name (λ bytes. VerdictOn (image_at bytes) (Refuses at obligation))

-- of the image of a replay
abbrev pub IsImageStop : Files → List ℕ → Type 0 → Type 0 → Stop → Type 0
IsImageStop files name failed missed Memory = Unit {0}
IsImageStop files name failed missed (Unread file cause) = (file ≡ 1) × GaveNone files name failed missed cause
IsImageStop files name failed missed (Bad file at column kind) = (file ≡ 1) × (column ≡ 0) × HasImageFault files name (bad_at at kind)
IsImageStop files name failed missed (Refused refusal) = ImageIsRefused files name refusal.at refusal.obligation
IsImageStop files name failed missed _ = ⊥

-- of its trace
abbrev pub IsTraceStop : Files → List ℕ → Type 0 → Type 0 → Stop → Type 0
IsTraceStop files name failed missed Memory = Unit {0}
IsTraceStop files name failed missed (Unread file cause) = (file ≡ 2) × GaveNone files name failed missed cause
IsTraceStop files name failed missed (Bad file at column kind) = (file ≡ 2) × HasTraceFault files name (bad_in at column kind)
IsTraceStop files name failed missed _ = ⊥

-- ---- commands

-- what a command says that makes no run: of the bytes of its one file, or of its words alone
abbrev pub Says : Files → Command → Answer → Type 0
Says files (OfFile question name) answer = FileHolds files name (λ bytes. SaysOf question bytes answer)
Says files (Source text) answer = IsUnread files × (answer ≡ Due text)
Says files (Generate seed config operations) answer = IsUnread files × (answer ≡ Due (drawn_text seed config operations))
Says files (Replay output image trace) answer = ⊥

-- the verdict refuses the image: the one file of the command, or the image of a replay
abbrev pub IsRefused : Files → Command → ℕ → ℕ → Type 0
IsRefused files (Replay output image trace) at obligation = ImageIsRefused files image at obligation
IsRefused files command at obligation = Says files command (Refuses at obligation)

-- the first fault of the image; or that of the trace, after an image that is accepted
abbrev pub IsBadInput : Files → List ℕ → List ℕ → ℕ → ℕ → ℕ → ℕ → Type 0
IsBadInput files image trace file at column kind =
    ((file ≡ 1) × (column ≡ 0) × HasImageFault files image (bad_at at kind))
    ⊎ ((file ≡ 2) × AfterImage files image (λ rest. HasTraceFault rest trace (bad_in at column kind)))

-- the file of this number has this fault
abbrev pub IsBad : Files → Command → ℕ → ℕ → ℕ → ℕ → Type 0
IsBad files (OfFile question name) file at column kind = (file ≡ 1) × Says files (OfFile question name) (Fault at column kind)
IsBad files (Source text) file at column kind = ⊥
IsBad files (Generate seed config operations) file at column kind = ⊥
IsBad files (Replay output image trace) file at column kind = IsBadInput files image trace file at column kind

-- the image gave no bytes; or the trace, after an image that is accepted
abbrev pub IsMissingInput : Files → List ℕ → List ℕ → ℕ → Type 0 → Type 0 → unread.Unread → Type 0
IsMissingInput files image trace file failed missed cause =
    ((file ≡ 1) × GaveNone files image failed missed cause)
    ⊎ ((file ≡ 2) × AfterImage files image (λ rest. GaveNone rest trace failed missed cause))

-- the file of this number gave no bytes
abbrev pub IsMissing : Files → Command → ℕ → Type 0 → Type 0 → unread.Unread → Type 0
IsMissing files (OfFile question name) file failed missed cause = (file ≡ 1) × GaveNone files name failed missed cause
IsMissing files (Source text) file failed missed cause = ⊥
IsMissing files (Generate seed config operations) file failed missed cause = ⊥
IsMissing files (Replay output image trace) file failed missed cause = IsMissingInput files image trace file failed missed cause

-- an image and a trace were read, and the trace has more caches than the image's limit
pub record IsOverLimit (files : Files) (image_name trace_name : List ℕ) : Type 0 where
  pub image : images.Parts
  pub trace : traces.Parts
  pub read : AreRead files image_name trace_name image trace
  pub over : image.limit < trace.config.caches

-- so it is of a replay
abbrev pub IsOver : Files → Command → Type 0
IsOver files (OfFile question name) = ⊥
IsOver files (Source text) = ⊥
IsOver files (Generate seed config operations) = ⊥
IsOver files (Replay output image trace) = IsOverLimit files image trace

abbrev pub IsStop : Files → Command → Type 0 → Type 0 → Stop → Type 0
IsStop files command failed missed Memory = Unit {0}
IsStop files command failed missed Usage = ⊥
IsStop files command failed missed (Unread file cause) = IsMissing files command file failed missed cause
IsStop files command failed missed (Bad file at column kind) = IsBad files command file at column kind
IsStop files command failed missed (Refused refusal) = IsRefused files command refusal.at refusal.obligation
IsStop files command failed missed Limit = IsOver files command
