use Rattle.std.proofs.Common.{sym, arith}
use Rattle.bk_run.specs.Greedy.{engine_event}
use Rattle.bk_system.specs.Systems.{state_of}
use Rattle.bk_base.proofs.Below.{first_below-found, first_below-more}
use Rattle.bk_run.proofs.greedy.first_engine.Goals as goal

pub returns-in-Some : goal.returns-in-Some
returns-in-Some c = sym (first_below-found c.args.hardware.now.config.caches c.loop-source.source
    (engine_event c.args.hardware.now.config c.args.program.now (state_of c.args.hardware.now) c.args.class) c.in-Some.event (omega arith)
    c.loop-source.invariant (sym c.in-Some.ensures))

pub loop-source-preserved : goal.loop-source-preserved
loop-source-preserved c = first_below-more c.loop-source.source
    (engine_event c.args.hardware.now.config c.args.program.now (state_of c.args.hardware.now) c.args.class) c.loop-source.invariant
    (sym c.in-None.ensures)
