use Rattle.std.proofs.Common.{◌∙◌}
use Rattle.std.specs.Fn.{FnReturnsAt}
use Rattle.bk_system.specs.Systems.{state_of}
use Rattle.bk_rounds.specs.Tasks.{task_of}
use Rattle.bk_rounds.proofs.Acts.{engine-acts}
use Rattle.bk_rounds.proofs.acting.act.Goals as goal

pub returns-then-number-caches-2-clause-acts : goal.returns-then-number-caches-2-clause-acts
returns-then-number-caches-2-clause-acts g c =
    engine-acts (task_of (FnReturnsAt g.F.Fn c.args.victim.now.pick) c.args.program.now c.args.trace.now) c.args.hardware.now.config
    c.args.number (state_of c.args.hardware.now) (state_of c.make_engine.new.hardware) c.make_engine.new.hardware.sent.items
    c.make_engine.result c.requires.config (c.if-number-caches-2.true ∙ c.cache_count-caches.ensures.value) c.make_engine.ensures.made
