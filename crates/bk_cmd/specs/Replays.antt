-- How a replay ends, once its files are read. The policy is the relation between the views of a set and the way of a victim.
use Rattle.std.specs.Prelude.{◌≡◌, ℕ, ◌≤◌, List, [], ◌++◌, length, true}
use Rattle.bk_image.specs.Images as images
use Rattle.bk_trace.specs.Traces as traces
use Rattle.bk_lce.specs.declared.line.WayView.{WayView}
use Rattle.bk_system.specs.declared.event.Event.{Event}
use Rattle.bk_coherent.specs.Coherent.{StaysCoherent}
use Rattle.bk_run.specs.Greedy.{budget_of}
use Rattle.bk_run.specs.Jobs.{Job, job_of}
use Rattle.bk_run.specs.Serial.{IsEnded}
use Rattle.bk_run.specs.Report.{IsReport}
use Rattle.bk_run.specs.declared.serial_runs.SerialFault.{SerialFault}
use Rattle.bk_run.specs.declared.serial_runs.SerialFault.TheVariants.{Spent, Unreported, Memory}
use Rattle.bk_cmd.specs.declared.outcome.Outcome.{Outcome}
use Rattle.bk_run.specs.Log.{log_of}
use Rattle.bk_cmd.specs.declared.words.Output.{Output}
use Rattle.bk_cmd.specs.declared.words.Output.TheVariants.{Report, LogAndReport}
use Rattle.bk_cmd.specs.Inputs.{Files, AreRead}
use Rattle.bk_cmd.specs.Writes.{Wrote, WrotePart}

-- This image and this trace were read, and the trace has no more caches than the image's limit.
pub record AreInputs (files : Files) (image_name trace_name : List ℕ) (image : images.Parts) (trace : traces.Parts) : Type 0 where
  pub read : AreRead files image_name trace_name image trace
  pub within : trace.config.caches ≤ image.limit

-- An image that is accepted and a trace were read, and of these something holds.
pub record OfInputs (files : Files) (image_name trace_name : List ℕ) (Holds : images.Parts → traces.Parts → Type 0) : Type 0 where
  pub image : images.Parts
  pub trace : traces.Parts
  pub inputs : AreInputs files image_name trace_name image trace
  pub holds : Holds image trace

abbrev pub budget_for : images.Parts → traces.Parts → ℕ
budget_for image trace = budget_of trace.config (length image.instrs) (length trace.lines)

-- the job of a replay
abbrev pub job_for : (List WayView → ℕ → Type 0) → images.Parts → traces.Parts → Job
job_for policy image trace = job_of policy image.instrs trace (budget_for image trace)

-- the greedy run came to its end within its budget, and is complete
abbrev pub RunEnds : (List WayView → ℕ → Type 0) → images.Parts → traces.Parts → List Event → Type 0
RunEnds policy image trace events = IsEnded (job_for policy image trace) events true

-- What a fault of a run says. The budget is never used up.
abbrev pub IsRunFault : (List WayView → ℕ → Type 0) → images.Parts → traces.Parts → SerialFault → Type 0
IsRunFault policy image trace (Spent end) = ⊥
IsRunFault policy image trace (Unreported end) = RunEnds policy image trace end.events.items
IsRunFault policy image trace Memory = Unit {0}

-- the log of a run, where it is asked for
abbrev pub log_due : Output → images.Parts → traces.Parts → List Event → List ℕ
log_due Report image trace events = []
log_due LogAndReport image trace events = log_of trace.config image.instrs events

-- what is due of a run: the log, where it is asked for, and then the report
pub record IsDue (output : Output) (image : images.Parts) (trace : traces.Parts) (events : List Event) (text : List ℕ) : Type 0 where
  pub report : List ℕ
  pub is_report : IsReport trace.config image.instrs trace.lines events report
  pub whole : text ≡ log_due output image trace events ++ report

-- A run ended so, it was coherent after each of its events, and of all that is due of it this holds.
pub record Replayed (Ends : List Event → Type 0) (output : Output) (image : images.Parts) (trace : traces.Parts) (events : List Event)
    (Holds : List ℕ → Type 0) : Type 0 where
  pub ended : Ends events
  pub coherent : StaysCoherent trace.config image.instrs events
  pub text : List ℕ
  pub is_due : IsDue output image trace events text
  pub holds : Holds text

-- the greedy run is complete, and all that is due of it was taken
abbrev pub Reported : (List WayView → ℕ → Type 0) → Output → images.Parts → traces.Parts → Outcome → List ℕ → List ℕ
    → Type 0
Reported policy output image trace o before after =
    Replayed (RunEnds policy image trace) output image trace o.events.items (λ text. Wrote text o before after)

-- the same, and not all that is due of it was taken
abbrev pub ReportedPart : (List WayView → ℕ → Type 0) → Output → images.Parts → traces.Parts → Outcome → List ℕ
    → List ℕ → Type 0
ReportedPart policy output image trace o before after =
    Replayed (RunEnds policy image trace) output image trace o.events.items (λ text. WrotePart text o before after)
