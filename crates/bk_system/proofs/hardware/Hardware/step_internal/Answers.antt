use Rattle.std.proofs.Common.{List, Some, ap, sym, ◌∙◌, subst}
use Rattle.bk_base.specs.Places.{Shape}
use Rattle.bk_msg.specs.declared.row.Row.{Row}
use Rattle.bk_engine.specs.Engine as engines
use Rattle.bk_engine.specs.Step.{RunsInternally}
use Rattle.bk_system.specs.State.{State}
use Rattle.bk_system.specs.Systems.{state_of}
use Rattle.bk_system.proofs.InternalRow.{internal-row}
use Rattle.bk_system.proofs.hardware.Hardware.step_internal.Goals as goal

pub returns-clause-row : goal.returns-clause-row
returns-clause-row c e =
    let old = c.args.self.now in
    let engine = engines.state_of c.step_internal.new.self in
    let later : State = record (state_of old) { engine = engine } in
    internal-row old.config c.args.program.now (state_of old) engine old.some_caches
    (subst (λ (k : Shape). RunsInternally k c.args.program.now (state_of old).engine engine) old.engine_config
    (c.step_internal.ensures.ran c.if-not-step_internal.false))
    ∙ ap (λ (sent : List Row). Some (record { state = later; sent = sent })) (sym c.clear.ensures)
