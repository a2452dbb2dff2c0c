-- The ways so far are viewed.
use Rattle.std.proofs.Common.{◌≡◌, map}
use Rattle.arrayvec.specs.ArrayVec.{array_vec_len}
use Rattle.bk_lce.specs.CacheState.{ways_in_order}
use Rattle.bk_lce.specs.Policies.{view_of}
use Rattle.bk_lce.specs.CacheArrays.{state_of}
use Rattle.bk_lce.proofs.cache_arrays.CacheArrays.views.Given as goal

abbrev pub invariant-loop-way : goal.invariant-loop-way
invariant-loop-way l = record {
  views : l.views.items ≡ map (view_of (state_of l.self) l.set) (ways_in_order l.way);
  count : array_vec_len l.views ≡ l.way;
}
