use Rattle.std.proofs.Common.{◌<◌, ap, sym, ◌∙◌, arith, ℕ, true}
use Rattle.std.specs.Prelude.{is_none}
use Rattle.bk_lce.specs.CacheState.{CacheState}
use Rattle.bk_lce.specs.CacheArrays as caches
use Rattle.bk_base.proofs.Below.{all_below-fails}
use Rattle.bk_system.specs.Systems.{state_of}
use Rattle.bk_system.proofs.Empty.{none-some}
use Rattle.bk_system.proofs.hardware.Hardware.all_idle.Goals as goal

pub returns-then-busy : goal.returns-then-busy
returns-then-busy c =
    let within : c.loop-cache.cache < c.args.self.now.config.caches = omega (arith, c.cache_count-cache-end.ensures.value) in
    sym (all_below-fails c.args.self.now.config.caches c.loop-cache.cache
    (λ (j : ℕ). is_none ((state_of c.args.self.now).caches j).busy) within
    (ap (λ (cache : CacheState). is_none cache.busy) (sym c.cache.ensures.state)
    ∙ none-some (caches.state_of c.cache.result.now).busy true (sym c.if-busy.true ∙ c.busy.ensures)))
