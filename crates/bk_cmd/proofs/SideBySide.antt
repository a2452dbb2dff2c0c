-- The end of a run of agents side by side.
use Rattle.std.proofs.Common.{◌≡◌, ℕ, List, [], Result, Ok, Err, IfOk, refl, subst}
use Rattle.std.specs.List.{All}
use Rattle.std.specs.Global.{Vec}
use Rattle.bk_base.specs.Places.{InProfile}
use Rattle.bk_image.specs.Images as images
use Rattle.bk_isa.specs.declared.form.Form.{Form}
use Rattle.bk_trace.specs.Traces as traces
use Rattle.bk_trace.specs.Traces.{IsLine}
use Rattle.bk_lce.specs.declared.line.WayView.{WayView}
use Rattle.bk_system.specs.declared.event.Event.{Event}
use Rattle.bk_bound.specs.Bound.{IsBounded}
use Rattle.bk_coherent.specs.Coherent.{StaysCoherent}
use Rattle.bk_sound.specs.Sound.{IsSound}
use Rattle.bk_rounds.specs.Tasks.{task_of}
use Rattle.bk_run.specs.Report.{IsReport}
use Rattle.bk_parallel.specs.Runs.{IsWholeRun}
use Rattle.bk_cmd.specs.declared.words.Output.TheVariants.{Report}
use Rattle.bk_cmd.specs.Replays.{Replayed}
use Rattle.bk_cmd.specs.Threads.{ThreadsEnd}
use Rattle.bk_cmd.proofs.Budgets.{tight-within}
use Rattle.bk_cmd.proofs.Ends.{tight-coherent, replayed}
use Rattle.bk_cmd.proofs.Finishes.{whole-complete}

-- the image is sound and bounded, so the agents end within the budget, with all of the trace done, and coherent throughout
module _ (policy : List WayView → ℕ → Type 0) (program : List Form) (image : images.Parts) (trace : traces.Parts)
    (is : program ≡ image.instrs) (sound : IsSound image.instrs) (bounded : IsBounded image.instrs) (profile : InProfile trace.config)
    (each : All (IsLine trace.config.caches) trace.lines)
  where
    here : (events : List Event) → IsWholeRun (task_of policy program trace) events
        → IsWholeRun (task_of policy image.instrs trace) events
    here events h = subst (λ (forms : List Form). IsWholeRun (task_of policy forms trace) events) is h

    pub threads-end : {E : Type 0} (result : Result (Vec Event) E)
        → IfOk result (λ events. IsWholeRun (task_of policy program trace) events.items)
        → IfOk result (λ events. ThreadsEnd policy image trace events.items)
    threads-end (Ok events) h = let run = here events.items h in record {
      tight = run.tight;
      complete = whole-complete trace.config image.instrs trace.lines events.items sound profile each run.tight run.in_order run.ended;
      asked = run.asked;
      ended = run.ended;
      within = (tight-within image trace events.items bounded profile each run.tight run.in_order).within;
    }
    threads-end (Err e) h = tt

    pub threads-coherent : {E : Type 0} (result : Result (Vec Event) E)
        → IfOk result (λ events. IsWholeRun (task_of policy program trace) events.items)
        → IfOk result (λ events. StaysCoherent trace.config image.instrs events.items)
    threads-coherent (Ok events) h = let run = here events.items h in
        tight-coherent image trace events.items sound profile each run.tight run.in_order
    threads-coherent (Err e) h = tt

-- Their report is what is due, and of that something holds. The image and the events that it was asked of are those of the run.
pub threads-reported : (policy : List WayView → ℕ → Type 0) (given image : images.Parts) (trace : traces.Parts)
    (Holds : List ℕ → Type 0)
    (told events asked : List Event) (report : List ℕ) → told ≡ events → asked ≡ events → given ≡ image
    → ThreadsEnd policy image trace events → StaysCoherent trace.config image.instrs events
    → IsReport trace.config given.instrs trace.lines asked report → Holds report
    → Replayed (ThreadsEnd policy image trace) Report image trace told Holds
threads-reported policy given image trace Holds told events asked report tells same is ended coherent is_report holds =
    replayed (ThreadsEnd policy image trace) Report image trace Holds told events [] report tells ended coherent
    (subst (λ (p : images.Parts). IsReport trace.config p.instrs trace.lines events report) is
    (subst (λ (es : List Event). IsReport trace.config given.instrs trace.lines es report) same is_report)) refl holds
