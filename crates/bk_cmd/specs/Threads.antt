-- `replay threads`: its words, and how its run ends. The policy is the relation between the views of a set and the way of a victim.
use Rattle.std.specs.Prelude.{ℕ, ◌≤◌, ◌&&◌, List, [], ◌∷◌, length, Option, Some, None, String, string_bytes, codes, IsSomeAnd, if◌then◌else◌}
use Rattle.std.specs.Str.{bytes_eq}
use Rattle.std.specs.Global.{Global}
use Rattle.bk_image.specs.Images as images
use Rattle.bk_trace.specs.Traces as traces
use Rattle.bk_lce.specs.declared.line.WayView.{WayView}
use Rattle.bk_system.specs.declared.event.Event.{Event}
use Rattle.bk_system.specs.Runs.{run, IsTight, IsComplete}
use Rattle.bk_system.specs.State.{opening}
use Rattle.bk_run.specs.Greedy.{IsEnd}
use Rattle.bk_parallel.specs.Runs.{AreAsked}
use Rattle.bk_cmd.specs.declared.outcome.Outcome.{Outcome}
use Rattle.bk_cmd.specs.declared.words.Output.TheVariants.{Report}
use Rattle.bk_cmd.specs.Replays.{budget_for, Replayed}
use Rattle.bk_cmd.specs.Writes.{Wrote, WrotePart}

-- the names of the image and the trace of the words `replay threads IMAGE TRACE`; other words have none
abbrev pub threads_of : List (String Global) → Option (List ℕ × List ℕ)
threads_of (command ∷ mode ∷ image ∷ trace ∷ []) =
    if bytes_eq (string_bytes command) (codes "replay") && bytes_eq (string_bytes mode) (codes "threads")
    then Some (string_bytes image, string_bytes trace) else None
threads_of _ = None

-- the words are of this kind, and of the names something holds
abbrev pub OfThreads : List (String Global) → (List ℕ → List ℕ → Type 0) → Type 0
OfThreads words Holds = IsSomeAnd (threads_of words) (λ names. Holds names.0 names.1)

-- What the agents have done side by side comes to these events, one after the other, and they came to their end.
pub record ThreadsEnd (policy : List WayView → ℕ → Type 0) (image : images.Parts) (trace : traces.Parts) (events : List Event)
    : Type 0 where
  -- each event was enabled where it stands
  pub tight : IsTight trace.config image.instrs events
  -- they do all of the trace
  pub complete : IsComplete trace.config image.instrs trace.lines events
  -- each Issue has a way that the policy answers where it stands
  pub asked : AreAsked policy trace.config image.instrs (opening trace.config) events
  -- nothing is enabled after the last
  pub ended : IsEnd trace.config image.instrs (run trace.config image.instrs events) trace.lines
  pub within : length events ≤ budget_for image trace

-- the run ended so, and its report, all that is due of it, was taken
abbrev pub ThreadsReported : (List WayView → ℕ → Type 0) → images.Parts → traces.Parts → Outcome → List ℕ → List ℕ
    → Type 0
ThreadsReported policy image trace o before after =
    Replayed (ThreadsEnd policy image trace) Report image trace o.events.items (λ text. Wrote text o before after)

-- the same, and not all of the report was taken
abbrev pub ThreadsReportedPart : (List WayView → ℕ → Type 0) → images.Parts → traces.Parts → Outcome → List ℕ → List ℕ
    → Type 0
ThreadsReportedPart policy image trace o before after =
    Replayed (ThreadsEnd policy image trace) Report image trace o.events.items (λ text. WrotePart text o before after)
