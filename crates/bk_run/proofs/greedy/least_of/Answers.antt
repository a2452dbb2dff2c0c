use Rattle.std.proofs.Common.{sym, subst, ◌∙◌}
use Rattle.std.specs.Fn.{FnReturnsAt}
use Rattle.bk_base.specs.Places.{InProfile}
use Rattle.bk_lce.specs.CacheArrays as caches
use Rattle.bk_system.specs.Systems.{state_of}
use Rattle.bk_run.proofs.Tight.{some-ways, least-unready, least-chosen}
use Rattle.bk_run.proofs.greedy.least_of.Goals as goal

pub returns-in-None : goal.returns-in-None
returns-in-None g c =
    let profile : InProfile c.args.hardware.now.config =
    subst InProfile (c.config-config.ensures.value ∙ c.requires.config) c.config-config.ensures.profile in
    least-unready (FnReturnsAt g.F.Fn c.args.victim.now.pick) c.args.hardware.now.config c.args.program.now (state_of c.args.hardware.now)
    c.args.trace.now.lines c.least_other.result
    (some-ways c.args.hardware.now.config profile) (sym c.first_ready.ensures.first ∙ c.in-None.is) c.least_other.ensures

pub returns-in-Some : goal.returns-in-Some
returns-in-Some g c =
    least-chosen (FnReturnsAt g.F.Fn c.args.victim.now.pick) c.args.hardware.now.config c.cache.result.now.config
    c.config-config.result c.args.program.now (state_of c.args.hardware.now) c.args.trace.now.lines c.in-Some.cache c.in-Some.op
    (caches.state_of c.cache.result.now) c.address_of.result c.group_of-set.result c.choose-way.result c.cache.ensures.config
    c.cache.ensures.state (c.config-config.ensures.value ∙ c.requires.config) c.address_of.ensures c.group_of-set.ensures.value
    c.choose-way.ensures.within (sym c.first_ready.ensures.first ∙ c.in-Some.is) c.choose-way.ensures.answer
