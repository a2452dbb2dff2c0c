use Rattle.std.proofs.Common.{sym, arith}
use Rattle.bk_system.specs.declared.event.Event.TheVariants.{Command}
use Rattle.bk_run.specs.Greedy.{if_enabled}
use Rattle.bk_system.specs.Systems.{state_of}
use Rattle.bk_base.proofs.Below.{first_below-found, first_below-more}
use Rattle.bk_run.proofs.greedy.first_command.Goals as goal

pub returns-in-Some : goal.returns-in-Some
returns-in-Some c = sym (first_below-found c.args.hardware.now.config.caches c.loop-cache.cache
    (λ i. if_enabled c.args.hardware.now.config c.args.program.now (state_of c.args.hardware.now) (Command i)) c.in-Some.event
    (omega arith)
    c.loop-cache.invariant (sym c.in-Some.ensures))

pub loop-cache-preserved : goal.loop-cache-preserved
loop-cache-preserved c = first_below-more c.loop-cache.cache
    (λ i. if_enabled c.args.hardware.now.config c.args.program.now (state_of c.args.hardware.now) (Command i)) c.loop-cache.invariant
    (sym c.in-None.ensures)
