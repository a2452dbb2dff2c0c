use Rattle.std.proofs.Common.{◌<◌, sym, subst, ◌∙◌}
use Rattle.std.specs.Fn.{FnReturnsAt}
use Rattle.bk_base.specs.Places.{Shape}
use Rattle.bk_lce.specs.CacheArrays as caches
use Rattle.bk_system.specs.Systems.{state_of}
use Rattle.bk_rounds.specs.Tasks.{task_of}
use Rattle.bk_rounds.proofs.Acts.{delivery-acts, issue-acts, asked-here}
use Rattle.bk_rounds.proofs.acting.make_of_cache.Goals as goal

pub returns-in-None-clause-acts : goal.returns-in-None-clause-acts
returns-in-None-clause-acts g c =
    delivery-acts (task_of (FnReturnsAt g.F.Fn c.args.victim.now.pick) c.args.program.now c.args.trace.now) c.args.hardware.now.config
    c.args.cache (state_of c.args.hardware.now) (state_of c.make_delivery.new.hardware) c.make_delivery.new.hardware.sent.items
    c.make_delivery.result c.requires.config c.requires.cache (sym c.ready_operation.ensures.value ∙ c.in-None.is)
    c.make_delivery.ensures.made

pub returns-in-Some-clause-acts : goal.returns-in-Some-clause-acts
returns-in-Some-clause-acts g c =
    issue-acts (task_of (FnReturnsAt g.F.Fn c.args.victim.now.pick) c.args.program.now c.args.trace.now) c.args.hardware.now.config
    c.args.cache c.in-Some.cache c.choose-way.result c.in-Some.op (state_of c.args.hardware.now)
    (state_of c.make_enabled.new.hardware) c.make_enabled.new.hardware.sent.items c.make_enabled.result c.requires.config
    c.requires.cache (subst (λ (k : Shape). c.choose-way.result < k.ways) c.cache.ensures.config c.choose-way.ensures.within)
    c.in-Some.ensures.own (sym c.ready_operation.ensures.value ∙ c.in-Some.is)
    (asked-here (FnReturnsAt g.F.Fn c.args.victim.now.pick) c.args.hardware.now.config c.cache.result.now.config c.config.result
    (state_of c.args.hardware.now) c.args.cache c.in-Some.cache c.in-Some.op (caches.state_of c.cache.result.now) c.address_of.result
    c.group_of-set.result c.choose-way.result c.cache.ensures.config c.cache.ensures.state
    (c.config.ensures.value ∙ c.requires.config) c.address_of.ensures c.group_of-set.ensures.value c.in-Some.ensures.own
    c.choose-way.ensures.answer)
    c.make_enabled.ensures.made
