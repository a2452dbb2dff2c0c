-- Where each file of a command is there and suits it, and no read fails, nothing but want of memory keeps the command from its writing.
use Rattle.std.proofs.Common.{◌≡◌, ℕ, ◌≤◌, ◌<◌, List, Option, Some, None, Result, Ok, Err, refl, ap, sym, ◌∙◌, subst, inl, inr, length, arith}
use Rattle.std.specs.Prelude.{IfSome, IsSomeAnd, String}
use Rattle.std.specs.Global.{Global}
use Rattle.bk_outer.specs.declared.shelf.TheConstants.{FILE_LIMIT}
use Rattle.bk_image.specs.Faults.{Bad}
use Rattle.bk_image.specs.Images as images
use Rattle.bk_image.specs.Reading.{image_at}
use Rattle.bk_image.specs.Spelling.{IsImage, spelling}
use Rattle.bk_image.proofs.Images.{image_again}
use Rattle.bk_text.specs.Faults as text_faults
use Rattle.bk_check.specs.Accepted.{Accepted, IsFirstUnmet}
use Rattle.bk_trace.specs.Grammar.{trace_of}
use Rattle.bk_trace.specs.Reading.{trace_at}
use Rattle.bk_trace.specs.Traces as traces
use Rattle.bk_trace.proofs.Whole.{agrees, read_some}
use Rattle.bk_cmd.specs.Answers.{Refuses, Fault, VerdictOn, AssemblyOf, DisassemblyOf, SaysOf, bad_at}
use Rattle.bk_cmd.specs.Inputs.{Files, FileHolds, until, since}
use Rattle.bk_cmd.specs.Needs.{IsImageFile, IsAcceptedFile, IsTraceFile, Suits, IsThere, HasInputs, HasFiles}
use Rattle.bk_cmd.specs.Ends.{OfCommand}
use Rattle.bk_cmd.specs.Outcomes.{Facts, facts_of, facts_of_stop}
use Rattle.bk_cmd.specs.Stops.{GaveNone, IsStop, IsMissingInput, IsBadInput, IsOverLimit, ImageIsRefused, bad_in}
use Rattle.bk_cmd.specs.Threads.{threads_of, OfThreads}
use Rattle.bk_cmd.specs.Words.{Command, OfFile, Source, Generate, Replay, command_of}
use Rattle.bk_cmd.specs.declared.outcome.Outcome.{Outcome}
use Rattle.bk_cmd.specs.declared.outcome.Stop.{Stop}
use Rattle.bk_cmd.specs.declared.outcome.Stop.TheVariants.{Memory, Usage, Unread, Bad as BadFile, Refused, Limit}
use Rattle.bk_cmd.specs.declared.outcome.TheConstants.{MEMORY}
use Rattle.bk_cmd.specs.declared.outcome.Unread as unread
use Rattle.bk_cmd.specs.declared.outcome.Unread.TheVariants.{Absent, Failed, TooLong}
use Rattle.bk_cmd.specs.declared.words.Output.TheVariants.{Report}
use Rattle.bk_cmd.specs.declared.words.Question.{Question}
use Rattle.bk_cmd.specs.declared.words.Question.TheVariants.{Verdict, Assembly, Disassembly}

-- a read of a file that is there gives its bytes
module _ (files : Files) (name : List ℕ) (Suited : List ℕ → Type 0) (there : IsThere files.at name Suited) where
  told : (P : (List ℕ → Option (List ℕ)) → Type 0) → IfSome files.at P → P there.at
  told P h = subst (λ (o : Option (List ℕ → Option (List ℕ))). IfSome o P) there.tells h

  same-bytes : (Holds : List ℕ → Type 0) (h : FileHolds files name Holds) → there.bytes ≡ h.bytes
  same-bytes Holds h =
      let found : there.at name ≡ Some h.bytes = told (λ at. at name ≡ Some h.bytes) h.found in
      cc (there.present, found)

  suited : (Holds : List ℕ → Type 0) (h : FileHolds files name Holds) → Suited h.bytes
  suited Holds h = subst Suited (same-bytes Holds h) there.holds

  given : (failed missed : Type 0) (cause : unread.Unread) → (failed → ⊥) → GaveNone files name failed missed cause → ⊥
  given failed missed Absent whole h =
      let none : there.at name ≡ None = told (λ at. at name ≡ None) h.2 in
      absurd (cc (there.present, none))
  given failed missed Failed whole h = whole h.1
  given failed missed TooLong whole h =
      let long : IsSomeAnd (there.at name) (λ bytes. FILE_LIMIT < length bytes) =
      told (λ at. IsSomeAnd (at name) (λ bytes. FILE_LIMIT < length bytes)) h.2 in
      over there.bytes there.fits
      (subst (λ (o : Option (List ℕ)). IsSomeAnd o (λ bytes. FILE_LIMIT < length bytes)) there.present long)
    where
      over : (bytes : List ℕ) → length bytes ≤ FILE_LIMIT → FILE_LIMIT < length bytes → ⊥
      over bytes fits long = omega (arith, fits, long)

-- AN IMAGE, A PROGRAM, A TRACE

image-read : (bytes : List ℕ) (image : images.Parts) → IsImage image → bytes ≡ spelling image → image_at bytes ≡ Ok image
image-read bytes image is_image is = ap image_at is ∙ image_again image is_image

not-first : (image : images.Parts) (at obligation : ℕ) → Accepted image → IsFirstUnmet image at obligation → ⊥
not-first image at obligation accepted first = absurd (cc (accepted at first.within, first.unmet))

image-sound : (bytes : List ℕ) (bad : Bad) → IsImageFile bytes → image_at bytes ≡ Err bad → ⊥
image-sound bytes bad file e = absurd (cc (image-read bytes file.0 file.1 file.2, e))

accepted-image : (bytes : List ℕ) → IsAcceptedFile bytes → IsImageFile bytes
accepted-image bytes file = (file.0, file.1, file.2)

not-refused : (bytes : List ℕ) (at obligation : ℕ) → IsAcceptedFile bytes
    → VerdictOn (image_at bytes) (Refuses at obligation) → ⊥
not-refused bytes at obligation file h =
    not-first file.0 at obligation file.3
    (subst (λ (r : Result images.Parts Bad). VerdictOn r (Refuses at obligation)) (image-read bytes file.0 file.1 file.2) h)

trace-sound : (text : List ℕ) (bad : text_faults.Bad) → IsTraceFile text → trace_at text ≡ Err bad → ⊥
trace-sound text bad file e = absurd (cc (read_some (trace_at text) file.0 (agrees text ∙ file.1), e))

-- what a question says of bytes that suit it is no fault, and no refusal
no-fault : (question : Question) (bytes : List ℕ) (at column kind : ℕ) → Suits question bytes
    → SaysOf question bytes (Fault at column kind) → ⊥
no-fault Verdict bytes at column kind file h =
    subst (λ (r : Result images.Parts Bad). VerdictOn r (Fault at column kind)) (image-read bytes file.0 file.1 file.2) h
no-fault Assembly bytes at column kind file h =
    subst (λ (r : Result images.Parts text_faults.Bad). AssemblyOf bytes r (Fault at column kind)) file.1 h
no-fault Disassembly bytes at column kind file h =
    subst (λ (r : Result images.Parts Bad). DisassemblyOf r (Fault at column kind)) (image-read bytes file.0 file.1 file.2) h

no-refusal : (question : Question) (bytes : List ℕ) (at obligation : ℕ) → Suits question bytes
    → SaysOf question bytes (Refuses at obligation) → ⊥
no-refusal Verdict bytes at obligation file h = not-refused bytes at obligation file h
no-refusal Assembly bytes at obligation file h =
    subst (λ (r : Result images.Parts text_faults.Bad). AssemblyOf bytes r (Refuses at obligation)) file.1 h
no-refusal Disassembly bytes at obligation file h =
    subst (λ (r : Result images.Parts Bad). DisassemblyOf r (Refuses at obligation)) (image-read bytes file.0 file.1 file.2) h

-- NO STOP BUT FOR MEMORY

module _ (files : Files) (image trace : List ℕ) (first : IsThere files.at image IsAcceptedFile)
    (second : IsThere files.at trace IsTraceFile) (failed missed : Type 0) (whole : failed → ⊥)
  where
    inputs-given : (file : ℕ) (cause : unread.Unread) → IsMissingInput files image trace file failed missed cause → ⊥
    inputs-given file cause (inl h) = given files image IsAcceptedFile first failed missed cause whole h.1
    inputs-given file cause (inr h) = given (since files h.1.then) trace IsTraceFile second failed missed cause whole h.1.next

    inputs-sound : (file at column kind : ℕ) → IsBadInput files image trace file at column kind → ⊥
    inputs-sound file at column kind (inl h) =
        let fault = h.2 in
        image-sound fault.bytes (bad_at at kind)
        (accepted-image fault.bytes (suited files image IsAcceptedFile first (λ bytes. image_at bytes ≡ Err (bad_at at kind)) fault))
        fault.holds
    inputs-sound file at column kind (inr h) =
        let after = h.1 in
        let fault = after.next in
        trace-sound fault.bytes (bad_in at column kind)
        (suited (since files after.then) trace IsTraceFile second (λ text. trace_at text ≡ Err (bad_in at column kind)) fault)
        fault.holds

    image-accepted : (at obligation : ℕ) → ImageIsRefused files image at obligation → ⊥
    image-accepted at obligation h =
        not-refused h.bytes at obligation
        (suited files image IsAcceptedFile first (λ bytes. VerdictOn (image_at bytes) (Refuses at obligation)) h) h.holds

-- the image and the trace that were read are those that are there
not-over : (files : Files) (image trace : List ℕ) → HasInputs files.at image trace → IsOverLimit files image trace → ⊥
not-over files image trace has h =
    let read = h.read in
    let first = has.image in
    let second = has.trace in
    let one = same-bytes (until files read.then) image IsAcceptedFile first
    (λ bytes. IsImage h.image × (bytes ≡ spelling h.image)) read.has_image in
    let two = same-bytes (since files read.then) trace IsTraceFile second (λ text. trace_of text ≡ Some h.trace) read.has_trace in
    let here : image_at first.bytes ≡ Ok first.holds.0 = image-read first.bytes first.holds.0 first.holds.1 first.holds.2 in
    let there : image_at read.has_image.bytes ≡ Ok h.image =
    image-read read.has_image.bytes h.image read.has_image.holds.0 read.has_image.holds.1 in
    let limit : first.holds.0.limit ≡ h.image.limit =
    ap (λ (p : images.Parts). p.limit) (same-ok first.holds.0 h.image (sym here ∙ ap image_at one ∙ there)) in
    let caches : second.holds.0.config.caches ≡ h.trace.config.caches =
    ap (λ (p : traces.Parts). p.config.caches)
    (same-some second.holds.0 h.trace (sym second.holds.1 ∙ ap trace_of two ∙ read.has_trace.holds)) in
    absurd (omega (arith, has.within, h.over, limit, caches))
  where
    same-ok : (p q : images.Parts) → ◌≡◌ {A = Result images.Parts Bad} (Ok p) (Ok q) → p ≡ q
    same-ok p q e = cc e

    same-some : (p q : traces.Parts) → Some p ≡ Some q → p ≡ q
    same-some p q e = cc e

only-memory : (files : Files) (command : Command) (failed missed : Type 0) (stop : Stop) → HasFiles files.at command
    → (failed → ⊥) → IsStop files command failed missed stop → stop ≡ Memory
only-memory files command failed missed Memory has whole h = refl
only-memory files command failed missed Usage has whole h = absurd (h)
only-memory files (OfFile question name) failed missed (Unread file cause) has whole h =
    absurd (given files name (Suits question) has failed missed cause whole h.1)
only-memory files (Source text) failed missed (Unread file cause) has whole h = absurd (h)
only-memory files (Generate seed config operations) failed missed (Unread file cause) has whole h = absurd (h)
only-memory files (Replay output image trace) failed missed (Unread file cause) has whole h =
    absurd (inputs-given files image trace has.image has.trace failed missed whole file cause h)
only-memory files (OfFile question name) failed missed (BadFile file at column kind) has whole h =
    let says = h.1 in
    absurd (no-fault question says.bytes at column kind
    (suited files name (Suits question) has (λ bytes. SaysOf question bytes (Fault at column kind)) says) says.holds)
only-memory files (Source text) failed missed (BadFile file at column kind) has whole h = absurd (h)
only-memory files (Generate seed config operations) failed missed (BadFile file at column kind) has whole h = absurd (h)
only-memory files (Replay output image trace) failed missed (BadFile file at column kind) has whole h =
    absurd (inputs-sound files image trace has.image has.trace failed missed whole file at column kind h)
only-memory files (OfFile question name) failed missed (Refused refusal) has whole h =
    absurd (no-refusal question h.bytes refusal.at refusal.obligation
    (suited files name (Suits question) has (λ bytes. SaysOf question bytes (Refuses refusal.at refusal.obligation)) h) h.holds)
only-memory files (Source text) failed missed (Refused refusal) has whole h = absurd (cc (h.1))
only-memory files (Generate seed config operations) failed missed (Refused refusal) has whole h = absurd (cc (h.1))
only-memory files (Replay output image trace) failed missed (Refused refusal) has whole h =
    absurd (image-accepted files image trace has.image has.trace failed missed whole refusal.at refusal.obligation h)
only-memory files (OfFile question name) failed missed Limit has whole h = absurd h
only-memory files (Source text) failed missed Limit has whole h = absurd h
only-memory files (Generate seed config operations) failed missed Limit has whole h = absurd h
only-memory files (Replay output image trace) failed missed Limit has whole h = absurd (not-over files image trace has h)

-- so the status is that of memory
by-memory : (files : Files) (command : Command) (failed missed : Type 0) (stop : Stop) (o : Outcome) → HasFiles files.at command
    → (failed → ⊥) → IsStop files command failed missed stop → facts_of o ≡ facts_of_stop stop → o.status ≡ MEMORY
by-memory files command failed missed stop o has whole stops facts =
    ap (λ (f : Facts). f.status) facts
    ∙ ap (λ (x : Stop). (facts_of_stop x).status) (only-memory files command failed missed stop has whole stops)

pub stopped-by-memory : (files : Files) (words : List (String Global)) (command : Command) (failed missed : Type 0) (stop : Stop)
    (o : Outcome) → command_of words ≡ Some command → OfCommand words (HasFiles files.at) → (failed → ⊥)
    → IsStop files command failed missed stop → facts_of o ≡ facts_of_stop stop → o.status ≡ MEMORY
stopped-by-memory files words command failed missed stop o is has whole stops facts =
    by-memory files command failed missed stop o
    (subst (λ (found : Option Command). IsSomeAnd found (HasFiles files.at)) is has) whole stops facts

-- of `replay threads` too
pub threads-by-memory : (files : Files) (words : List (String Global)) (image trace : List ℕ) (failed missed : Type 0) (stop : Stop)
    (o : Outcome) → threads_of words ≡ Some (image, trace) → OfThreads words (HasInputs files.at) → (failed → ⊥)
    → IsStop files (Replay Report image trace) failed missed stop → facts_of o ≡ facts_of_stop stop → o.status ≡ MEMORY
threads-by-memory files words image trace failed missed stop o is has whole stops facts =
    by-memory files (Replay Report image trace) failed missed stop o
    (subst (λ (found : Option (List ℕ × List ℕ)). IsSomeAnd found
    (λ names. HasInputs files.at names.0 names.1)) is has) whole stops facts
