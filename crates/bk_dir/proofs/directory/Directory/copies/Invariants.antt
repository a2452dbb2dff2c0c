use Rattle.std.proofs.Common.{◌≡◌}
use Rattle.std.specs.Prelude.{is_some}
use Rattle.bk_base.specs.Counting.{least_below}
use Rattle.bk_dir.specs.Directories.{contents_of}
use Rattle.bk_dir.proofs.EntryTests.{answers_at, shares_at}
use Rattle.bk_dir.proofs.directory.Directory.copies.Given as goal

abbrev pub invariant-loop-way : goal.invariant-loop-way
invariant-loop-way l = record {
  owner : l.copies.owner ≡ least_below l.way (answers_at (contents_of l.self) l.cache l.set l.tag);
  is_shared : l.copies.is_shared ≡ is_some (least_below l.way (shares_at (contents_of l.self) l.cache l.set l.tag));
}
