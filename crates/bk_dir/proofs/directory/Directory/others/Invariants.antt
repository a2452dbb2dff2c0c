use Rattle.std.proofs.Common.{◌≡◌, ◌<◌, ◌^◌}
use Rattle.bk_base.specs.Counting.{first_below}
use Rattle.bk_dir.specs.Directories.{contents_of}
use Rattle.bk_dir.specs.Summaries.{bits_below, is_other, owner_at}
use Rattle.bk_dir.proofs.directory.Directory.others.Given as goal

abbrev pub invariant-loop-cache : goal.invariant-loop-cache
invariant-loop-cache l = record {
  owner : l.others.owner ≡ first_below l.cache (owner_at l.self.config (contents_of l.self) l.query);
  sharers : l.others.sharers ≡ bits_below l.cache (is_other l.self.config (contents_of l.self) l.query);
  small : l.others.sharers < 2 ^ l.cache;
}
