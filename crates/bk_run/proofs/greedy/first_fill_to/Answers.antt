use Rattle.std.proofs.Common.{sym, arith}
use Rattle.bk_run.specs.Greedy.{fill_event}
use Rattle.bk_system.specs.Systems.{state_of}
use Rattle.bk_base.proofs.Below.{first_below-found, first_below-more}
use Rattle.bk_run.proofs.greedy.first_fill_to.Goals as goal

pub returns-in-Some : goal.returns-in-Some
returns-in-Some c = sym (first_below-found c.args.hardware.now.config.caches c.loop-from.from
    (fill_event c.args.hardware.now.config c.args.program.now (state_of c.args.hardware.now) c.args.to) c.in-Some.event (omega arith)
    c.loop-from.invariant (sym c.in-Some.ensures))

pub loop-from-preserved : goal.loop-from-preserved
loop-from-preserved c =
    first_below-more c.loop-from.from (fill_event c.args.hardware.now.config c.args.program.now (state_of c.args.hardware.now) c.args.to)
    c.loop-from.invariant (sym c.in-None.ensures)
