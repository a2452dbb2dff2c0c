-- Nothing was written, and each set has its ways in order.
use Rattle.std.proofs.Common.{ℕ, ◌≤◌, ap, ◌∙◌, subst, List}
use mathlib.Core.Path.{fun_ext}
use Rattle.bk_base.specs.Places.{Shape}
use Rattle.bk_lce.specs.declared.line.Line.{Line}
use Rattle.bk_lce.specs.CacheState.{opening}
use Rattle.bk_lce.specs.CacheArrays.{state_of}
use Rattle.bk_lce.specs.Lists.{AreOpening, AreOrdered, recency_of}
use Rattle.bk_lce.proofs.Unused.{are_listed, recency_ordered, way_count}
use Rattle.bk_lce.proofs.cache_arrays.CacheArrays.make.Goals as goal

pub returns-clause-state : goal.returns-clause-state
unfolding state_of
returns-clause-state c =
    let ordered : AreOrdered c.args.config.ways c.in_ok-recency.recency.items =
    subst (λ (ways : ℕ). AreOrdered ways c.in_ok-recency.recency.items) (ap (λ (k : Shape). k.ways) c.config.view_is)
    c.in_ok-recency.ensures.recency in
    let few : c.args.config.ways ≤ 8 =
    subst (λ (ways : ℕ). ways ≤ 8) (ap (λ (k : Shape). k.ways) c.config.view_is)
    (way_count c.config.inside.ways c.config.invariant.ways).1 in
    let empty : AreOpening c.args.config.ways c.in_ok-lines.lines.items =
    subst (λ (ways : ℕ). AreOpening ways c.in_ok-lines.lines.items) (ap (λ (k : Shape). k.ways) c.config.view_is)
    c.in_ok-lines.ensures.lines in
    ap (λ (f : ℕ → ℕ → Line). record (opening c.args.config) {
      lines = f;
      recency = recency_of c.args.config.ways c.in_ok-recency.recency.items;
    })
    (fun_ext (λ s. fun_ext (λ w. empty s w)))
    ∙ ap (λ (f : ℕ → List ℕ). record (opening c.args.config) { recency = f })
    (fun_ext (recency_ordered c.args.config.ways c.in_ok-recency.recency.items few ordered))

pub invariant_of-result-clause-listed : goal.invariant_of-result-clause-listed
invariant_of-result-clause-listed c =
    let few : c.args.config.ways ≤ 8 =
    subst (λ (ways : ℕ). ways ≤ 8) (ap (λ (k : Shape). k.ways) c.config.view_is)
    (way_count c.config.inside.ways c.config.invariant.ways).1 in
    are_listed c.args.config c.in_ok-recency.recency.items few
    (subst (λ (ways : ℕ). AreOrdered ways c.in_ok-recency.recency.items) (ap (λ (k : Shape). k.ways) c.config.view_is)
    c.in_ok-recency.ensures.recency)
