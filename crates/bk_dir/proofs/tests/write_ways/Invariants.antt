use Rattle.std.proofs.Common.{◌≡◌}
use Rattle.bk_dir.proofs.tests.write_ways.Given as goal

abbrev pub invariant-loop-way : goal.invariant-loop-way
invariant-loop-way l = l.directory.config ≡ l.initial.directory.config
