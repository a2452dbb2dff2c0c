-- At each cache, its entries are wiped where it is sent an invalidation.
use Rattle.std.proofs.Common.{◌≡◌, ◌∙◌, ap, sym, arith}
use Rattle.bk_base.specs.Places.{Shape}
use Rattle.bk_dir.specs.declared.directory.Directory.{Directory}
use Rattle.bk_dir.specs.Directories.{contents_of}
use Rattle.bk_engine.specs.Sends.{is_invalidated}
use Rattle.bk_engine.proofs.Wiping.{caches-passed, caches-more, invalidates-all}
use Rattle.bk_engine.proofs.directory.invalidate.Goals as goal
use Rattle.bk_engine.proofs.directory.invalidate.Goals.{then-is_invalidated, else-is_invalidated}

pub loop-cache-preserved : goal.loop-cache-preserved
loop-cache-preserved c =
    elim c.if-is_invalidated.branch [
      | then-is_invalidated w ↦ record {
        config = ap (λ (d : Directory). d.config) w.directory-is ∙ w.wipe_ways.ensures.config;
        state = ap (λ (d : Directory). contents_of d) w.directory-is ∙ w.wipe_ways.ensures.state
            ∙ caches-more c.args.config c.loop-cache.cache (is_invalidated c.args.with_owner c.args.summary.now)
            (contents_of c.args.directory.now)
            c.group_of-group.result c.tag_at-tag.result (contents_of c.loop-cache.directory)
            (sym c.is_invalidated.ensures ∙ w.if-is_invalidated.true) c.loop-cache.invariant.state;
      }
      | else-is_invalidated w ↦ record {
        config = ap (λ (d : Directory). d.config) w.directory-is ∙ c.loop-cache.invariant.config;
        state = ap (λ (d : Directory). contents_of d) w.directory-is ∙ c.loop-cache.invariant.state
            ∙ caches-passed c.args.config c.loop-cache.cache (is_invalidated c.args.with_owner c.args.summary.now)
            (contents_of c.args.directory.now)
            c.group_of-group.result c.tag_at-tag.result (sym c.is_invalidated.ensures ∙ w.if-is_invalidated.false);
      }
    ]

pub returns-clause-state : goal.returns-clause-state
returns-clause-state c =
    let caches : c.config.inside.caches ≡ c.args.config.caches = ap (λ (k : Shape). k.caches) c.config.view_is in
    invalidates-all c.args.config (contents_of c.args.directory.now) c.args.held.now c.args.with_owner c.args.summary.now
    c.loop-cache.cache c.group_of-group.result c.tag_at-tag.result (contents_of c.loop-cache.directory)
    (omega arith) c.requires.others c.requires.owner c.group_of-group.ensures.value c.tag_at-tag.ensures.value c.loop-cache.invariant.state
