use Rattle.std.proofs.Common.{◌<◌, ◌≤◌, length, arith, ap}
use Rattle.bk_trace.proofs.Index.{length-index, index-at, length_places, length_operations_of}
use Rattle.bk_trace.proofs.trace.Trace.places.Goals as goal

pub index-requires : goal.index-requires
index-requires c =
    let t = c.self.inside in
    let whole = length-index (λ places. places.items) t.places.items t.config.caches t.lines.items c.self.invariant.1 in
    let within : c.args.cache < t.config.caches = rw (ap (λ p. p.config.caches) c.self.view_is) c.requires in
    omega (arith, whole, within, t.places.ok.0)

pub returns-clause-value : goal.returns-clause-value
returns-clause-value c =
    let t = c.self.inside in
    let within : c.args.cache < t.config.caches = rw (ap (λ p. p.config.caches) c.self.view_is) c.requires in
    let at = index-at (λ places. places.items) t.places.items t.config.caches t.lines.items c.self.invariant.1 c.args.cache
    c.index.result.now within c.index.ensures in
    cc

pub returns-clause-few : goal.returns-clause-few
returns-clause-few c =
    let t = c.self.inside in
    let within : c.args.cache < t.config.caches = rw (ap (λ p. p.config.caches) c.self.view_is) c.requires in
    let at = index-at (λ places. places.items) t.places.items t.config.caches t.lines.items c.self.invariant.1 c.args.cache
    c.index.result.now within c.index.ensures in
    let few : length c.index.result.now.items ≤ 10000 = rw at (omega (
      arith,
      length_places c.args.cache t.lines.items,
      length_operations_of c.args.cache t.lines.items,
      c.self.invariant.0.few,
    )) in
    rw c.deref.ensures.value few
