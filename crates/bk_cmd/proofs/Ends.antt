-- How a replay ends: what its run says, that it stayed coherent, and what is due of it.
use Rattle.std.proofs.Common.{◌≡◌, ℕ, Bool, List, ◌++◌, Result, Ok, Err, IfOk, IfErr, sym, ap, subst}
use Rattle.std.specs.List.{All}
use Rattle.bk_base.specs.Places.{InProfile}
use Rattle.bk_image.specs.Images as images
use Rattle.bk_trace.specs.Traces as traces
use Rattle.bk_trace.specs.Traces.{IsLine}
use Rattle.bk_lce.specs.declared.line.WayView.{WayView}
use Rattle.bk_run.specs.declared.serial_runs.LoggedRun.{LoggedRun}
use Rattle.bk_run.specs.declared.serial_runs.SerialFault.{SerialFault}
use Rattle.bk_run.specs.declared.serial_runs.SerialFault.TheVariants.{Spent, Unreported, Memory}
use Rattle.bk_run.specs.Jobs.{job_of}
use Rattle.bk_run.specs.Serial.{IsEnded, IsFault}
use Rattle.bk_run.proofs.Lawful.{in_order-lawful}
use Rattle.bk_system.specs.Runs.{IsTight, IsInOrder}
use Rattle.bk_coherent.specs.Coherent.{StaysCoherent}
use Rattle.bk_bound.specs.Bound.{IsBounded}
use Rattle.bk_sound.specs.Sound.{IsSound}
use Rattle.bk_sound.proofs.Stays.{stays-coherent}
use Rattle.bk_system.specs.declared.event.Event.{Event}
use Rattle.bk_run.specs.Report.{IsReport}
use Rattle.bk_cmd.specs.declared.words.Output.{Output}
use Rattle.bk_cmd.specs.Replays.{budget_for, job_for, RunEnds, IsRunFault, log_due, IsDue, Replayed}
use Rattle.bk_cmd.proofs.Finishes.{ended-complete}
use Rattle.bk_cmd.proofs.Budgets.{never-spent}

-- What a run's call says of an image that is handed to it (`given`, which is the replay's) is so of the replay's image.
module _ (policy : List WayView → ℕ → Type 0) (given image : images.Parts) (trace : traces.Parts) (budget : ℕ)
    (is : given ≡ image)
    (same : budget ≡ budget_for image trace)
  where
    fault-here : (fault : SerialFault) → IsFault (job_of policy given.instrs trace budget) fault
        → IsFault (job_for policy image trace) fault
    fault-here fault h = subst (λ (p : images.Parts). IsFault (job_of policy p.instrs trace (budget_for image trace)) fault) is
        (subst (λ (b : ℕ). IsFault (job_of policy given.instrs trace b) fault) same h)

    ended-here : (events : List Event) (complete : Bool) → IsEnded (job_of policy given.instrs trace budget) events complete
        → IsEnded (job_for policy image trace) events complete
    ended-here events complete h =
        subst (λ (p : images.Parts). IsEnded (job_of policy p.instrs trace (budget_for image trace)) events complete) is
        (subst (λ (b : ℕ). IsEnded (job_of policy given.instrs trace b) events complete) same h)

    -- the image is sound and bounded, so a run comes to its end within its budget, and is complete
    module _ (sound : IsSound image.instrs) (bounded : IsBounded image.instrs) (profile : InProfile trace.config)
        (lines : All (λ line. IsLine trace.config.caches line) trace.lines)
      where
        whole : (events : List Event) (complete : Bool) → IsEnded (job_for policy image trace) events complete
            → RunEnds policy image trace events
        whole events complete h = subst (IsEnded (job_for policy image trace) events)
            (ended-complete (job_for policy image trace) events complete sound profile lines h) h

        fault-of : (fault : SerialFault) → IsFault (job_for policy image trace) fault → IsRunFault policy image trace fault
        fault-of (Spent end) h = never-spent policy image trace bounded profile lines end.events.items end.complete h
        fault-of (Unreported end) h = whole end.events.items end.complete h
        fault-of Memory h = tt

        pub fault-told : (result : Result LoggedRun SerialFault) → IfErr result (IsFault (job_of policy given.instrs trace budget))
            → IfErr result (IsRunFault policy image trace)
        fault-told (Ok run) h = tt
        fault-told (Err fault) h = fault-of fault (fault-here fault h)

        pub end-told : (result : Result LoggedRun SerialFault)
            → IfOk result (λ run. IsEnded (job_of policy given.instrs trace budget) run.end.events.items run.end.complete)
            → IfOk result (λ run. RunEnds policy image trace run.end.events.items)
        end-told (Ok run) h = whole run.end.events.items run.end.complete (ended-here run.end.events.items run.end.complete h)
        end-told (Err fault) h = tt

    pub report-told : (result : Result LoggedRun SerialFault)
        → IfOk result (λ run. IsReport trace.config given.instrs trace.lines run.end.events.items run.report.items)
        → IfOk result (λ run. IsReport trace.config image.instrs trace.lines run.end.events.items run.report.items)
    report-told (Ok run) h =
        subst (λ (p : images.Parts). IsReport trace.config p.instrs trace.lines run.end.events.items run.report.items) is h
    report-told (Err fault) h = tt

    pub log-told : (output : Output) (result : Result LoggedRun SerialFault)
        → IfOk result (λ run. run.log.items ≡ log_due output given trace run.end.events.items)
        → IfOk result (λ run. run.log.items ≡ log_due output image trace run.end.events.items)
    log-told output (Ok run) h =
        subst (λ (p : images.Parts). run.log.items ≡ log_due output p trace run.end.events.items) is h
    log-told output (Err fault) h = tt

-- A run of a sound image over a trace, each event enabled where it stands and each cache's operations issued in order, is coherent at the
-- opening and after each of its events.
pub tight-coherent : (image : images.Parts) (trace : traces.Parts) (events : List Event) → IsSound image.instrs → InProfile trace.config
    → All (IsLine trace.config.caches) trace.lines → IsTight trace.config image.instrs events
    → IsInOrder trace.config trace.lines events → StaysCoherent trace.config image.instrs events
tight-coherent image trace events sound profile lines tight in_order =
    stays-coherent trace.config image.instrs events sound profile
    (in_order-lawful trace.config image.instrs trace.lines events lines tight in_order)

pub run-coherent : (policy : List WayView → ℕ → Type 0) (image : images.Parts) (trace : traces.Parts)
    (result : Result LoggedRun SerialFault)
    → IsSound image.instrs → InProfile trace.config → All (λ line. IsLine trace.config.caches line) trace.lines
    → IfOk result (λ run. RunEnds policy image trace run.end.events.items)
    → IfOk result (λ run. StaysCoherent trace.config image.instrs run.end.events.items)
run-coherent policy image trace (Ok run) sound profile lines h =
    tight-coherent image trace run.end.events.items sound profile lines h.made.tight h.made.in_order
run-coherent policy image trace (Err fault) sound profile lines h = tt

-- what is due of a run that ended so, and of which something holds
module _ (Ends : List Event → Type 0) (output : Output) (image : images.Parts) (trace : traces.Parts) (Holds : List ℕ → Type 0)
    (events es : List Event) (log report : List ℕ) (is : events ≡ es) (ended : Ends es)
    (coherent : StaysCoherent trace.config image.instrs es) (is_report : IsReport trace.config image.instrs trace.lines es report)
    (is_log : log ≡ log_due output image trace es) where
  due : IsDue output image trace events (log ++ report)
  due = subst (λ (vs : List Event). IsDue output image trace vs (log ++ report)) (sym is)
      (record { report = report; is_report = is_report; whole = ap (λ (text : List ℕ). text ++ report) is_log })

  pub replayed : Holds (log ++ report) → Replayed Ends output image trace events Holds
  replayed holds = record {
    ended = subst Ends (sym is) ended;
    coherent = subst (StaysCoherent trace.config image.instrs) (sym is) coherent;
    text = log ++ report;
    is_due = due;
    holds = holds;
  }
