-- The caches so far are wiped, where they are sent an invalidation.
use Rattle.std.proofs.Common.{◌≡◌}
use Rattle.bk_dir.specs.Directories.{contents_of}
use Rattle.bk_engine.specs.Sends.{is_invalidated}
use Rattle.bk_engine.specs.Changes.{with_wiped_caches_below}
use Rattle.bk_engine.proofs.directory.invalidate.Given as goal

abbrev pub invariant-loop-cache : goal.invariant-loop-cache
invariant-loop-cache l = record {
  config : l.directory.config ≡ l.fn.config;
  state : contents_of l.directory
      ≡ with_wiped_caches_below l.fn.config l.cache (is_invalidated l.with_owner l.summary) (contents_of l.initial.directory)
      l.group l.tag;
}
