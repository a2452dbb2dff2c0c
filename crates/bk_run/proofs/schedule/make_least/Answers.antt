use Rattle.std.proofs.Common.{sym, subst, ◌∙◌}
use Rattle.std.specs.Fn.{FnReturnsAt}
use Rattle.bk_base.specs.Places.{InProfile}
use Rattle.bk_lce.specs.CacheArrays as caches
use Rattle.bk_system.specs.declared.event.Event.TheVariants.{Issue}
use Rattle.bk_system.specs.Systems.{state_of}
use Rattle.bk_run.proofs.Made.{least-made, issue-made, issue-least}
use Rattle.bk_run.proofs.Tight.{some-ways, least-chosen, taken-picked}
use Rattle.bk_run.proofs.schedule.make_least.Goals as goal

pub returns-in-None-clause-least : goal.returns-in-None-clause-least
returns-in-None-clause-least g c =
    let k = c.args.hardware.now.config in
    let profile : InProfile k = subst InProfile (c.config-config.ensures.value ∙ c.requires.config) c.config-config.ensures.profile in
    least-made (FnReturnsAt g.F.Fn c.args.victim.now.pick) k c.args.program.now (state_of c.args.hardware.now)
    (state_of c.make_other.new.hardware) c.make_other.new.hardware.sent.items c.args.trace.now.lines c.make_other.result
    (some-ways k profile)
    (sym c.first_ready.ensures.first ∙ c.in-None.is) c.make_other.ensures.made

pub returns-in-Some-clause-none : goal.returns-in-Some-clause-none
returns-in-Some-clause-none g c =
    let k = c.args.hardware.now.config in
    let s = state_of c.args.hardware.now in
    let event = Issue c.in-Some.cache c.choose-way.result c.in-Some.op in
    let least = least-chosen (FnReturnsAt g.F.Fn c.args.victim.now.pick) c.args.hardware.now.config c.cache.result.now.config
    c.config-config.result c.args.program.now (state_of c.args.hardware.now) c.args.trace.now.lines c.in-Some.cache c.in-Some.op
    (caches.state_of c.cache.result.now) c.address_of.result c.group_of-set.result c.choose-way.result c.cache.ensures.config
    c.cache.ensures.state (c.config-config.ensures.value ∙ c.requires.config) c.address_of.ensures c.group_of-set.ensures.value
    c.choose-way.ensures.within (sym c.first_ready.ensures.first ∙ c.in-Some.is) c.choose-way.ensures.answer in
    issue-made _ k c.args.program.now s (state_of c.make_enabled.new.hardware) c.make_enabled.new.hardware.sent.items event
    c.make_enabled.result (taken-picked (FnReturnsAt g.F.Fn c.args.victim.now.pick) k c.args.program.now s c.args.trace.now.lines event
    least).enabled c.make_enabled.ensures.made

pub returns-in-Some-clause-least : goal.returns-in-Some-clause-least
returns-in-Some-clause-least g c =
    let k = c.args.hardware.now.config in
    let s = state_of c.args.hardware.now in
    let event = Issue c.in-Some.cache c.choose-way.result c.in-Some.op in
    let least = least-chosen (FnReturnsAt g.F.Fn c.args.victim.now.pick) c.args.hardware.now.config c.cache.result.now.config
    c.config-config.result c.args.program.now (state_of c.args.hardware.now) c.args.trace.now.lines c.in-Some.cache c.in-Some.op
    (caches.state_of c.cache.result.now) c.address_of.result c.group_of-set.result c.choose-way.result c.cache.ensures.config
    c.cache.ensures.state (c.config-config.ensures.value ∙ c.requires.config) c.address_of.ensures c.group_of-set.ensures.value
    c.choose-way.ensures.within (sym c.first_ready.ensures.first ∙ c.in-Some.is) c.choose-way.ensures.answer in
    issue-least (FnReturnsAt g.F.Fn c.args.victim.now.pick) k c.args.program.now s (state_of c.make_enabled.new.hardware)
    c.make_enabled.new.hardware.sent.items c.args.trace.now.lines event c.make_enabled.result least c.make_enabled.ensures.made
