-- The ways so far are dropped.
use Rattle.std.proofs.Common.{◌≡◌}
use Rattle.bk_lce.specs.CacheArrays.{state_of}
use Rattle.bk_lce.proofs.Dropped.{dropped_below}
use Rattle.bk_lce.proofs.cache_arrays.CacheArrays.invalidate.Given as goal

abbrev pub invariant-loop-way : goal.invariant-loop-way
invariant-loop-way l = record {
  state : state_of l.self ≡ dropped_below l.way l.set l.tag (state_of l.initial.self);
  config : l.self.config ≡ l.initial.self.config;
  number : l.self.number ≡ l.initial.self.number;
}
