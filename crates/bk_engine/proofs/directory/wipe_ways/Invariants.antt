-- The ways so far are wiped.
use Rattle.std.proofs.Common.{◌≡◌}
use Rattle.bk_dir.specs.Directories.{contents_of}
use Rattle.bk_engine.specs.Changes.{with_wiped_ways_below}
use Rattle.bk_engine.proofs.directory.wipe_ways.Given as goal

abbrev pub invariant-loop-way : goal.invariant-loop-way
invariant-loop-way l = record {
  config : l.directory.config ≡ l.fn.config;
  state : contents_of l.directory ≡ with_wiped_ways_below l.way (contents_of l.initial.directory) l.cache l.set l.tag;
}
