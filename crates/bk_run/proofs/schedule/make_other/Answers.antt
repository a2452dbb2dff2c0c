use Rattle.std.proofs.Common.{sym, ap, subst, ◌∙◌}
use Rattle.std.specs.Prelude.{Option}
use Rattle.bk_base.specs.Places.{Shape}
use Rattle.bk_base.specs.Counting.{or_else}
use Rattle.bk_system.specs.declared.event.Event.{Event}
use Rattle.bk_system.specs.State.{State}
use Rattle.bk_system.specs.Systems.{state_of}
use Rattle.bk_run.specs.Schedule.{Makes, least_delivery, least_engine}
use Rattle.bk_run.proofs.Made.{made-some, made-none, makes-later, makes-here, parts}
use Rattle.bk_run.proofs.schedule.make_other.Goals as goal

pub returns-in-Ok-Some-clause-made : goal.returns-in-Ok-Some-clause-made
returns-in-Ok-Some-clause-made c =
    let k = c.args.hardware.now.config in
    let p = c.args.program.now in
    let s = state_of c.args.hardware.now in
    let made = made-some k p (least_engine k p s) s (state_of c.make_engine.new.hardware) c.make_engine.new.hardware.sent.items
    c.make_engine.result c.in-Ok-Some.field-0 c.in-Ok-Some.event c.in-Ok-Some.is c.in-Ok-Some.field-0-is c.make_engine.ensures.made in
    (sym (parts k p s) ∙ ap (λ (o : Option Event). or_else o (least_delivery k p s)) made.0, made.1)

pub returns-clause-made : goal.returns-clause-made
returns-clause-made c =
    let k = c.args.hardware.now.config in
    let p = c.args.program.now in
    let s = state_of c.args.hardware.now in
    let y = c.make_engine.new.hardware in
    let new = state_of c.make_delivery.new.hardware in
    let sent = c.make_delivery.new.hardware.sent.items in
    let none = made-none k p (least_engine k p s) s (state_of y) y.sent.items c.make_engine.result c.in-Ok-None.field-0
    c.in-Ok-None.is c.in-Ok-None.field-0-is c.make_engine.ensures.made in
    subst (λ (o : Option Event). Makes k p o s new sent c.make_delivery.result) (parts k p s)
    (makes-later k p (least_engine k p s) (least_delivery k p s) s new sent c.make_delivery.result none.0
    (makes-here k y.config p (λ (shape : Shape) (before : State). least_delivery shape p before) s (state_of y) new sent
    c.make_delivery.result c.make_engine.ensures.config none.1 c.make_delivery.ensures.made))
