use Rattle.std.proofs.Common.{◌≡◌, ◌++◌, ℕ, List, Some, OnOk, string_bytes, subst}
use Rattle.bk_system.specs.Events.{row}
use Rattle.bk_system.specs.EventCalls.{Answers}
use Rattle.bk_system.specs.Systems.{state_of}
use Rattle.bk_run.proofs.Logging.{text-ran}
use Rattle.bk_run.proofs.logs.log_event.Goals as goal

pub returns-in-Ok-true-clause-text : goal.returns-in-Ok-true-clause-text
returns-in-Ok-true-clause-text c =
    let y = c.args.hardware.now in
    let new = c.step.new.self in
    let o = row y.config c.args.program.now (state_of y) c.args.event.now in
    let here : o ≡ Some (record { state = state_of new; sent = new.sent.items }) = subst
    (Answers o (state_of y) (state_of new) new.sent.items) c.in-Ok-true.field-0-test c.in-Ok-true.ensures.row in
    subst (λ (text : List ℕ). OnOk c.push_ran.result (string_bytes c.push_ran.new.out ≡ string_bytes c.args.out.now ++ text))
    (text-ran c.args.event.now o (state_of new) new.sent.items c.sent.result.now here c.sent.ensures.value)
    c.push_ran.ensures
