use Rattle.std.proofs.Common.{◌<◌, ◌≤◌, ℕ, ap, sym, ◌∙◌, arith, Option}
use Rattle.std.specs.Prelude.{is_some}
use Rattle.std.specs.Option.{option_copied}
use Rattle.bk_base.specs.Places.{Shape}
use Rattle.bk_base.specs.declared.config.TheConstants.{MOST_CACHES}
use Rattle.bk_lce.specs.CacheState.{CacheState}
use Rattle.bk_lce.specs.CacheTable as table
use Rattle.bk_lce.specs.CacheTable.{Transition}
use Rattle.bk_lce.specs.CacheArrays as caches
use Rattle.bk_system.specs.Channels.{queue}
use Rattle.bk_system.specs.Systems.{state_of}
use Rattle.bk_system.proofs.CacheRows.{fill-none, fill-head, fill-row, is-below}
use Rattle.bk_system.proofs.hardware.Hardware.can_fill.Goals as goal

pub returns-in-None : goal.returns-in-None
returns-in-None c =
    let s = state_of c.args.self.now in
    let to : c.args.to < c.args.self.now.config.caches =
    is-below c.args.to c.args.self.now.config.caches (sym c.has_cache.ensures ∙ c.if-not-has_cache.false) in
    let from : c.args.from < c.args.self.now.config.caches =
    is-below c.args.from c.args.self.now.config.caches (sym c.has_cache-2.ensures ∙ c.if-not-has_cache-2.false) in
    let few : c.args.self.now.config.caches ≤ MOST_CACHES = c.args.self.now.few_caches in
    let none = sym (fill-head (queue c.args.self.now.fills) c.args.to c.args.from (option_copied c.head.result) c.fill_place.result
    (omega arith) (omega arith) c.fill_place.ensures.value c.head.ensures.value) ∙ ap option_copied c.in-None.is in
    sym (ap (λ (o : Option Transition). is_some o) (fill-none c.args.self.now.config s c.args.to c.args.from none))

pub returns-in-Some : goal.returns-in-Some
returns-in-Some c =
    let s = state_of c.args.self.now in
    let to : c.args.to < c.args.self.now.config.caches =
    is-below c.args.to c.args.self.now.config.caches (sym c.has_cache.ensures ∙ c.if-not-has_cache.false) in
    let from : c.args.from < c.args.self.now.config.caches =
    is-below c.args.from c.args.self.now.config.caches (sym c.has_cache-2.ensures ∙ c.if-not-has_cache-2.false) in
    let few : c.args.self.now.config.caches ≤ MOST_CACHES = c.args.self.now.few_caches in
    let m = c.in-Some.message.now in
    let some = sym (fill-head (queue c.args.self.now.fills) c.args.to c.args.from (option_copied c.head.result) c.fill_place.result
    (omega arith) (omega arith) c.fill_place.ensures.value c.head.ensures.value) ∙ ap option_copied c.in-Some.is in
    c.can_fill.ensures
    ∙ ap (λ (k : Shape). is_some (table.fill k (caches.state_of c.cache.result.now) c.cache.result.now.number m)) c.cache.ensures.config
    ∙ ap (λ (cache : CacheState). is_some (table.fill c.args.self.now.config cache c.cache.result.now.number m)) c.cache.ensures.state
    ∙ ap (λ (j : ℕ). is_some (table.fill c.args.self.now.config (s.caches c.args.to) j m)) c.cache.ensures.number
    ∙ sym (ap (λ (o : Option Transition). is_some o) (fill-row c.args.self.now.config s c.args.to c.args.from m to from some))
