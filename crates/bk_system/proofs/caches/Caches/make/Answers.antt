use Rattle.std.proofs.Common.{◌≡◌, ℕ, length, List, ap, sym, subst, arith}
use mathlib.Core.Path.{fun_ext}
use Rattle.bk_lce.specs.declared.cache_arrays.CacheArrays.{CacheArrays}
use Rattle.bk_lce.specs.CacheState.{CacheState, opening}
use Rattle.bk_system.specs.Numbering.{caches_of, AreCaches, AreIdle}
use Rattle.bk_system.proofs.CacheList.{own-none, own-more, caches-none, caches-more}
use Rattle.bk_system.proofs.Idle.{idle-zero, idle-more, idle-all}
use Rattle.bk_system.proofs.caches.Caches.make.Goals as goal

pub loop-cache-init : goal.loop-cache-init
loop-cache-init c = record {
  count = c.new-arrays.ensures.len;
  own = subst (AreCaches c.args.config) (sym c.new-arrays.ensures.items) (own-none c.args.config);
  unused = λ j. subst (λ (xs : List CacheArrays). caches_of c.args.config xs j ≡ opening c.args.config) (sym c.new-arrays.ensures.items)
      (caches-none c.args.config j);
  idle = λ j l. idle-zero j;
}

pub loop-cache-preserved : goal.loop-cache-preserved
loop-cache-preserved c =
    let place : c.in_ok-made.made.number ≡ length c.loop-cache.arrays.items =
    omega (arith, c.in_ok-made.ensures.number, c.loop-cache.invariant.count, c.loop-cache.arrays.ok.0) in
    record {
      count = omega (arith, c.in_ok-push.ensures.len, c.loop-cache.invariant.count);
      own = subst (AreCaches c.args.config) (sym c.in_ok-push.ensures.items)
          (own-more c.args.config c.loop-cache.arrays.items c.in_ok-made.made c.loop-cache.invariant.own place c.in_ok-made.ensures.config);
      unused = λ j. subst (λ (xs : List CacheArrays). caches_of c.args.config xs j ≡ opening c.args.config)
          (sym c.in_ok-push.ensures.items)
          (caches-more c.args.config c.loop-cache.arrays.items c.in_ok-made.made c.in_ok-made.ensures.state
          c.loop-cache.invariant.unused j);
      idle = idle-more c.loop-cache.idle c.marked-idle.result c.loop-cache.cache c.loop-cache.invariant.idle c.marked-idle.ensures;
    }

pub returns-clause-state : goal.returns-clause-state
returns-clause-state c = fun_ext c.loop-cache.invariant.unused

pub invariant_of-result-clause-idlers : goal.invariant_of-result-clause-idlers
invariant_of-result-clause-idlers c =
    let all : c.loop-cache.cache ≡ c.args.config.caches = omega (arith, c.cache_count-cache-end.ensures.value) in
    subst (λ (n : ℕ). AreIdle n c.loop-cache.idle (caches_of c.args.config c.loop-cache.arrays.items)) all
    (idle-all c.loop-cache.cache c.loop-cache.idle (caches_of c.args.config c.loop-cache.arrays.items) c.loop-cache.invariant.idle
    (λ j. ap (λ (cache : CacheState). cache.busy) (c.loop-cache.invariant.unused j)))
