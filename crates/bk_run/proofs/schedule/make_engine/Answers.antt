use Rattle.std.proofs.Common.{sym, ◌∙◌}
use Rattle.std.specs.Prelude.{slice_get}
use Rattle.bk_engine.specs.declared.parts.TheConstants.{CLASS_NONE}
use Rattle.bk_system.specs.Systems.{state_of}
use Rattle.bk_run.specs.Greedy.{engine_event}
use Rattle.bk_run.specs.Schedule.{least_head}
use Rattle.bk_run.proofs.Made.{makes-alone, no-heads, awaits-nothing}
use Rattle.bk_run.proofs.schedule.make_engine.Goals as goal

pub returns-in-None-clause-made : goal.returns-in-None-clause-made
returns-in-None-clause-made c =
    let k = c.args.hardware.now.config in
    let p = c.args.program.now in
    let s = state_of c.args.hardware.now in
    makes-alone k p (engine_event k p s CLASS_NONE 0) (least_head k p s) s (state_of c.make_alone.new.hardware)
    c.make_alone.new.hardware.sent.items c.make_alone.result
    (no-heads k p s (awaits-nothing (slice_get p s.engine.core.place) (sym c.waits_for.ensures ∙ c.in-None.is))) c.make_alone.ensures.made
