-- The row of an Engine event whose instruction is internal: the engine alone changes.
use Rattle.std.proofs.Common.{◌≡◌, ◌∙◌, ◌<◌, List, [], Bool, true, false, Some, None, refl, ap, append-nil}
use Rattle.std.specs.Prelude.{◌&&◌, is_none, nat_lt, if◌then◌else◌, slice_get}
use Rattle.std.proofs.lemmas.Bool.{and_from, lt-ltb, cond-true}
use Rattle.bk_base.specs.Places.{Shape}
use Rattle.bk_isa.specs.declared.form.Form.{Form}
use Rattle.bk_engine.specs.Engine.{EngineState}
use Rattle.bk_engine.specs.Step.{Outcome, runs, runs_to, RunsInternally}
use Rattle.bk_system.specs.Events.{can_run, engine_row, is_choice, is_wait, no_channel, offered_head, with_outcome}
use Rattle.bk_system.specs.State.{State}

either : (b : Bool) → (if b then true else true) ≡ true
either true = refl
either false = refl

alone : (k : Shape) (s : State) (engine : EngineState)
    → with_outcome k s (record { engine = engine; sent = []; popped = None })
    ≡ record { state = record s { engine = engine }; sent = [] }
alone k s engine = λ i. record {
  state = record s { engine = engine; taken = append-nil s.taken i; settled = append-nil s.settled i };
  sent = [];
}

pub internal-row : (k : Shape) (program : List Form) (s : State) (engine : EngineState) → 0 < k.caches
    → RunsInternally k program s.engine engine
    → engine_row k program s no_channel ≡ Some (record { state = record s { engine = engine }; sent = [] })
internal-row k program s engine some h =
    let ran = h no_channel (offered_head s no_channel) in
    let chosen : is_choice (slice_get program s.engine.core.place) no_channel ≡ true =
    either (is_wait (slice_get program s.engine.core.place)) in
    let enabled : can_run k program s no_channel ≡ true =
    and_from (nat_lt 0 k.caches && is_choice (slice_get program s.engine.core.place) no_channel)
    (runs k s.engine program no_channel (offered_head s no_channel))
    (and_from (nat_lt 0 k.caches) (is_choice (slice_get program s.engine.core.place) no_channel) (lt-ltb 0 k.caches some) chosen)
    (ap is_none ran.0) in
    cond-true (can_run k program s no_channel)
    (Some (with_outcome k s (runs_to k s.engine program no_channel (offered_head s no_channel)))) None enabled
    ∙ ap (λ (outcome : Outcome). Some (with_outcome k s outcome)) ran.1 ∙ ap Some (alone k s engine)
