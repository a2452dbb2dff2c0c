-- In each run of an accepted image each event of the engine is one permitted action.
use Rattle.std.proofs.Common.{◌≡◌, Bool, true, false, refl, ap, ◌∙◌, List, [], ◌∷◌, ◌++◌, Option, Some, None, slice_get}
use Rattle.std.specs.Prelude.{is_some, if◌then◌else◌}
use Rattle.bk_base.specs.Places.{Shape, InProfile}
use Rattle.bk_isa.specs.declared.form.Form.{Form}
use Rattle.bk_image.specs.Images.{Parts}
use Rattle.bk_check.specs.Accepted.{Accepted}
use Rattle.bk_engine.specs.declared.parts.Choice.{Choice}
use Rattle.bk_engine.specs.Step.{runs_to}
use Rattle.bk_system.specs.declared.event.Event.{Event}
use Rattle.bk_system.specs.declared.event.Event.TheVariants as events
use Rattle.bk_system.specs.State.{State, opening}
use Rattle.bk_system.specs.Events.{can_run, with_outcome, offered_head}
use Rattle.bk_system.specs.Runs.{is_enabled, after, run, run_from}
use Rattle.bk_system.specs.Lawful.{AreLawful}
use Rattle.bk_exact.specs.Told.{Told, untold}
use Rattle.bk_exact.specs.After.{told_after}
use Rattle.bk_exact.specs.Runs.{told_by, told_next}
use Rattle.bk_exact.specs.Ties.{told_world}
use Rattle.bk_exact.proofs.Steps.{no-form, instructions-act}
use Rattle.bk_bound.specs.Runs.{told_from}
use Rattle.bk_sound.specs.Actions.{world_after, IsAction}
use Rattle.bk_check.specs.Accepted.{IsMade}
use Rattle.bk_bound.proofs.Follows.{Follows, reached, is-met}

-- RUNS OF A LIST AND ONE EVENT MORE

run-more : (k : Shape) (program : List Form) (s : State) (es : List Event) (event : Event)
    → run_from k program s (es ++ event ∷ []) ≡ after k program (run_from k program s es) event
run-more k program s [] event = refl
run-more k program s (v ∷ es) event = run-more k program (after k program s v) es event

told-more : (k : Shape) (program : List Form) (s : State) (told : Told) (es : List Event) (event : Event)
    → told_from k program s told (es ++ event ∷ [])
    ≡ told_next k program (run_from k program s es) (told_from k program s told es) event
told-more k program s told [] event = refl
told-more k program s told (v ∷ es) event = told-more k program (after k program s v) (told_next k program s told v) es event

-- an instruction that is enabled can run
runs : (k : Shape) (program : List Form) (s : State) (choice : Choice) → is_enabled k program s (events.Engine choice) ≡ true
    → can_run k program s choice ≡ true
runs k program s choice e = go (can_run k program s choice) refl e
  where
    go : (b : Bool) → can_run k program s choice ≡ b
        → is_some (if b then Some (with_outcome k s (runs_to k s.engine program choice (offered_head s choice))) else None) ≡ true
        → can_run k program s choice ≡ true
    go true i e = i
    go false i e = absurd (cc)

module _ (k : Shape) (image : Parts) (profile : InProfile k) (made : IsMade image) (accepted : Accepted image) (es : List Event)
    (lawful : AreLawful es)
    (choice : Choice) where
  abbrev n : State
  n = run k image.instrs es

  abbrev told : Told
  told = told_from k image.instrs (opening k) untold es

  abbrev follows : Follows image k n told
  follows = reached k image profile made accepted es lawful

  -- the machine's state after the event, by the form at the engine's place
  world-next : (f : Form) → slice_get image.instrs n.engine.core.place ≡ Some f → can_run k image.instrs n choice ≡ true
      → world_after k image.instrs (es ++ events.Engine choice ∷ [])
      ≡ told_world k (after k image.instrs n (events.Engine choice)) (told_after k n.engine.core (told_world k n told) f told)
  world-next f here can =
      ap (λ (s : State). told_world k s (told_from k image.instrs (opening k) untold (es ++ events.Engine choice ∷ [])))
      (run-more k image.instrs (opening k) es (events.Engine choice))
      ∙ ap (told_world k (after k image.instrs n (events.Engine choice)))
      (told-more k image.instrs (opening k) untold es (events.Engine choice)
      ∙ ap (λ (b : Bool). if b then told_by k n told (slice_get image.instrs n.engine.core.place) else told) can
      ∙ ap (told_by k n told) here)

  acts-at : (o : Option Form) → slice_get image.instrs n.engine.core.place ≡ o → can_run k image.instrs n choice ≡ true
      → IsAction k image.instrs es choice
  acts-at None here can = absurd (no-form k image.instrs n told choice profile follows.tied can here)
  acts-at (Some f) here can =
      let a = instructions-act k image.instrs n told choice f profile (made.forms n.engine.core.place f here) here can
      (is-met k image profile made accepted n told follows f here) follows.tied in
      record {
        form = f;
        here = here;
        group = a.acts.group;
        action = a.acts.action;
        is = a.acts.is;
        permitted = a.acts.permitted;
        leaves = world-next f here can ∙ a.world;
      }

  pub acts : is_enabled k image.instrs n (events.Engine choice) ≡ true → IsAction k image.instrs es choice
  acts e = acts-at (slice_get image.instrs n.engine.core.place) refl (runs k image.instrs n choice e)
