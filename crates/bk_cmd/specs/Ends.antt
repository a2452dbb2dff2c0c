-- How a command ends, status by status.
use Rattle.std.specs.Prelude.{◌≡◌, ℕ, ◌⊎◌, List, [], String, IsSomeAnd}
use Rattle.std.specs.Global.{Global}
use Rattle.bk_lce.specs.declared.line.WayView.{WayView}
use Rattle.bk_cmd.specs.declared.outcome.Outcome.{Outcome}
use Rattle.bk_cmd.specs.Answers.{Due}
use Rattle.bk_cmd.specs.Inputs.{Files}
use Rattle.bk_cmd.specs.Replays.{OfInputs, RunEnds, Reported, ReportedPart}
use Rattle.bk_cmd.specs.Stops.{Says, IsRefused, IsBad}
use Rattle.bk_cmd.specs.Words.{Command, Replay, command_of}
use Rattle.bk_cmd.specs.Writes.{Wrote, WrotePart}

-- the words are a command, of which this holds
abbrev pub OfCommand : List (String Global) → (Command → Type 0) → Type 0
OfCommand words Holds = IsSomeAnd (command_of words) Holds

-- what the command says is due, and something holds of that
pub record SaysText (files : Files) (command : Command) (Holds : List ℕ → Type 0) : Type 0 where
  pub text : List ℕ
  pub says : Says files command (Due text)
  pub holds : Holds text

-- status 0: the sink took all that is due
abbrev pub EndsWhole : (List WayView → ℕ → Type 0) → Files → Command → Outcome → List ℕ → List ℕ → Type 0
EndsWhole policy files (Replay output image trace) o before after =
    OfInputs files image trace (λ i t. Reported policy output i t o before after)
EndsWhole policy files command o before after = SaysText files command (λ text. Wrote text o before after)

-- status 7, and 1 where something was written: the sink took the first bytes of what is due, as many as are told, and no more
abbrev pub EndsInPart : (List WayView → ℕ → Type 0) → Files → Command → Outcome → List ℕ → List ℕ → Type 0
EndsInPart policy files (Replay output image trace) o before after =
    OfInputs files image trace (λ i t. ReportedPart policy output i t o before after)
EndsInPart policy files command o before after = SaysText files command (λ text. WrotePart text o before after)

-- status 3: the refusal is the verdict on the image
abbrev pub EndsRefused : Files → Command → Outcome → Type 0
EndsRefused files command o = IsSomeAnd o.refusal (λ refusal. IsRefused files command refusal.at refusal.obligation)

-- status 4, and 8 where a list of the file is over its limit: the file has this fault
abbrev pub EndsBad : Files → Command → Outcome → Type 0
EndsBad files command o = IsBad files command o.file o.at o.column o.kind

-- events are told only of a run, and then all of them
abbrev pub TellsEvents : (List WayView → ℕ → Type 0) → Files → Command → Outcome → Type 0
TellsEvents policy files (Replay output image trace) o =
    (o.events.items ≡ []) ⊎ OfInputs files image trace (λ i t. RunEnds policy i t o.events.items)
TellsEvents policy files command o = o.events.items ≡ []
