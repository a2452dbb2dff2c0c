use Rattle.std.proofs.Common.{◌≡◌, ℕ, Bool, true, false, Some, None, ap, sym, subst, ◌∙◌}
use Rattle.std.specs.Prelude.{slice_get, if◌then◌else◌}
use Rattle.bk_system.specs.EventCalls.{HasRoomForNeed}
use Rattle.bk_system.specs.Events.{is_choice}
use Rattle.bk_system.specs.Needs.{need_at}
use Rattle.bk_system.specs.State.{State}
use Rattle.bk_system.specs.declared.needs.Need.{Need}
use Rattle.bk_system.proofs.hardware.Hardware.run.Goals as goal

-- the need that was found is that of the instruction
found : (b : Bool) (wanted need : Need) → Some need ≡ (if b then Some wanted else None) → need ≡ wanted
found true wanted need e = cc
found false wanted need e = absurd (cc)

pub run_choice-requires-clause-room : goal.run_choice-requires-clause-room
run_choice-requires-clause-room c =
    let form = slice_get c.args.program.now c.place.result in
    subst (HasRoomForNeed c.reserve_for.new.self)
    (found (is_choice form c.args.choice) (need_at form) c.in-Some.need c.in-Some.ensures
    ∙ ap (λ (place : ℕ). need_at (slice_get c.args.program.now place))
    (c.place.ensures ∙ ap (λ (s : State). s.engine.core.place) (sym c.reserve_for.ensures.state)))
    c.in_ok-reserve_for.ensures.room
