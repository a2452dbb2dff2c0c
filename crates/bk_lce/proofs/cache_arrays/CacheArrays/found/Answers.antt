-- The first way that holds the block is the least.
use Rattle.std.proofs.Common.{◌≡◌, ℕ, ◌<◌, Bool, true, Some, None, if◌then◌else◌, ap, ◌∙◌, sym, arith}
use Rattle.bk_base.specs.Places.{tag_at}
use Rattle.bk_base.proofs.Below.{first_below-found}
use Rattle.bk_lce.specs.declared.line.Line.{Line}
use Rattle.bk_lce.specs.CacheState.{holds, line_at}
use Rattle.bk_lce.specs.CacheArrays.{state_of}
use Rattle.bk_lce.specs.Lists.{lines_of}
use Rattle.bk_lce.proofs.cache_arrays.CacheArrays.found.Goals as goal

pub returns-then-holds-clause-value : goal.returns-then-holds-clause-value
unfolding state_of
returns-then-holds-clause-value c =
    let test : ℕ → Bool =
    λ w. holds (line_at c.args.self.now.config (state_of c.args.self.now) c.args.addr w) (tag_at c.args.self.now.config c.args.addr) in
    let same : test c.loop-way.way ≡ holds c.kept.result.now c.tag_at-tag.result =
    ap (λ (set : ℕ). holds (lines_of c.args.self.now.config.ways c.args.self.now.lines.items set c.loop-way.way)
    (tag_at c.args.self.now.config c.args.addr))
    (sym c.group_of-set.ensures.value)
    ∙ ap (λ (x : Line). holds x (tag_at c.args.self.now.config c.args.addr)) (sym c.kept.ensures)
    ∙ ap (λ (t : ℕ). holds c.kept.result.now t) (sym c.tag_at-tag.ensures.value) in
    let passes : test c.loop-way.way ≡ true = same ∙ sym c.holds.ensures ∙ c.if-holds.true in
    let lt : c.loop-way.way < c.args.self.now.config.ways = grind (arith, c.self.view_is, c.loop-way-test.true) in
    sym (first_below-found c.args.self.now.config.ways c.loop-way.way (λ w. if test w then Some w else None)
    c.loop-way.way lt c.loop-way.invariant (ap (λ (b : Bool). if b then Some c.loop-way.way else None) passes))
