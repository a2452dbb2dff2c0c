-- One way after the other is dropped, and after the last each that holds the block.
use Rattle.std.proofs.Common.{◌≡◌, ℕ, ◌∙◌, ap, sym, arith, refl}
use Rattle.bk_base.specs.Places.{group_of}
use Rattle.bk_base.specs.Tables.{put}
use Rattle.bk_lce.specs.CacheState.{CacheState, with_line}
use Rattle.bk_lce.specs.CacheTable.{wiped_line}
use Rattle.bk_lce.specs.CacheArrays.{state_of}
use Rattle.bk_lce.proofs.Dropped.{dropped_below, dropped_none, dropped_more, dropped_all}
use Rattle.bk_lce.proofs.cache_arrays.CacheArrays.invalidate.Goals as goal

pub loop-way-init : goal.loop-way-init
loop-way-init c = record {
  state = sym (dropped_none c.group_of-set.result c.tag_at-tag.result (state_of c.args.self.now));
  config = refl;
  number = refl;
}

pub loop-way-preserved : goal.loop-way-preserved
loop-way-preserved c =
    record {
      state = c.wipe.ensures.state
          ∙ ap (λ (cache : CacheState). with_line cache c.group_of-set.result c.loop-way.way
          (wiped_line c.tag_at-tag.result (cache.lines c.group_of-set.result c.loop-way.way))) c.loop-way.invariant.state
          ∙ dropped_more c.loop-way.way c.group_of-set.result c.tag_at-tag.result (state_of c.args.self.now);
      config = c.wipe.ensures.config ∙ c.loop-way.invariant.config;
      number = c.wipe.ensures.number ∙ c.loop-way.invariant.number;
    }

pub returns-clause-state : goal.returns-clause-state
returns-clause-state c =
    let all : c.loop-way.way ≡ c.args.self.now.config.ways = omega arith in
    let dropped : ℕ → ℕ → CacheState = λ set tag.
    record (state_of c.args.self.now) {
      lines = put (state_of c.args.self.now).lines set
          (λ w. wiped_line tag ((state_of c.args.self.now).lines set w));
    } in
    c.loop-way.invariant.state
    ∙ ap (λ (i : ℕ). dropped_below i c.group_of-set.result c.tag_at-tag.result (state_of c.args.self.now)) all
    ∙ dropped_all c.args.self.now c.group_of-set.result c.tag_at-tag.result
    ∙ ap (λ (set : ℕ). dropped set c.tag_at-tag.result) c.group_of-set.ensures.value
    ∙ ap (λ (t : ℕ). dropped (group_of c.args.self.now.config c.args.addr) t) c.tag_at-tag.ensures.value
