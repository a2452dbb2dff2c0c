use Rattle.std.proofs.Common.{rules, ◌≡◌, ap, ◌∙◌, ◌<◌, false, IsTrue, below_more}
use Rattle.bk_trace.specs.Traces.{operations_of}
use Rattle.bk_system.specs.Runs.{issued_by, IsPrefix}
use Rattle.bk_run.proofs.Prefixes.{prefix-at, refused-at}
use Rattle.bk_run.proofs.completion.is_in_order.Goals as goal

pub returns-then-not-is_prefix : goal.returns-then-not-is_prefix
returns-then-not-is_prefix c =
    let within : c.loop-cache.cache < c.args.trace.now.config.caches = search rules in
    let issued : c.deref-in-loop-cache.result.now ≡ issued_by c.loop-cache.cache c.args.events.now =
    c.deref-in-loop-cache.ensures.value ∙ c.in_ok-issued.ensures ∙ ap (issued_by c.loop-cache.cache) c.deref.ensures.value
    ∙ c.in_ok-issues.ensures c.loop-cache.cache in
    let listed : c.deref-in-loop-cache-2.result.now ≡ operations_of c.loop-cache.cache c.args.trace.now.lines =
    c.deref-in-loop-cache-2.ensures.value ∙ c.in_ok-operations.ensures.value in
    let refused = refused-at c.args.trace.now.config c.args.trace.now.lines c.args.events.now c.loop-cache.cache
    c.deref-in-loop-cache.result.now c.deref-in-loop-cache-2.result.now c.is_prefix.result
    within issued listed c.is_prefix.ensures.1 c.if-not-is_prefix.true in
    ((λ (h : IsTrue false). absurd (cc h)), refused)

pub loop-cache-preserved : goal.loop-cache-preserved
loop-cache-preserved c =
    let issued : c.deref-in-loop-cache.result.now ≡ issued_by c.loop-cache.cache c.args.events.now =
    c.deref-in-loop-cache.ensures.value ∙ c.in_ok-issued.ensures ∙ ap (issued_by c.loop-cache.cache) c.deref.ensures.value
    ∙ c.in_ok-issues.ensures c.loop-cache.cache in
    let listed : c.deref-in-loop-cache-2.result.now ≡ operations_of c.loop-cache.cache c.args.trace.now.lines =
    c.deref-in-loop-cache-2.ensures.value ∙ c.in_ok-operations.ensures.value in
    below_more (λ k. IsPrefix (issued_by k c.args.events.now) (operations_of k c.args.trace.now.lines)) c.loop-cache.cache
    c.loop-cache.invariant
    (prefix-at c.args.trace.now.lines c.args.events.now c.loop-cache.cache c.deref-in-loop-cache.result.now
    c.deref-in-loop-cache-2.result.now issued
    listed (c.is_prefix.ensures.0 c.if-not-is_prefix.false))
