use Rattle.std.proofs.Common.{sym, arith}
use Rattle.bk_base.specs.Counting.{first_below}
use Rattle.bk_run.specs.Greedy.{fill_event}
use Rattle.bk_system.specs.Systems.{state_of}
use Rattle.bk_base.proofs.Below.{first_below-found, first_below-more}
use Rattle.bk_run.proofs.greedy.first_fill.Goals as goal

pub returns-in-Some : goal.returns-in-Some
returns-in-Some c = sym (first_below-found c.args.hardware.now.config.caches c.loop-to.to
    (λ to. first_below c.args.hardware.now.config.caches
    (fill_event c.args.hardware.now.config c.args.program.now (state_of c.args.hardware.now) to)) c.in-Some.event (omega arith)
    c.loop-to.invariant (sym c.in-Some.ensures))

pub loop-to-preserved : goal.loop-to-preserved
loop-to-preserved c =
    first_below-more c.loop-to.to
    (λ to. first_below c.args.hardware.now.config.caches
    (fill_event c.args.hardware.now.config c.args.program.now (state_of c.args.hardware.now) to)) c.loop-to.invariant
    (sym c.in-None.ensures)
