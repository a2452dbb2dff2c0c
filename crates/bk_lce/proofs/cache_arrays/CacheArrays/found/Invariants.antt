-- No way so far holds the block.
use Rattle.std.proofs.Common.{◌≡◌, None}
use Rattle.bk_base.specs.Counting.{least_below}
use Rattle.bk_base.specs.Places.{tag_at}
use Rattle.bk_lce.specs.CacheState.{holds, line_at}
use Rattle.bk_lce.specs.CacheArrays.{state_of}
use Rattle.bk_lce.proofs.cache_arrays.CacheArrays.found.Given as goal

abbrev pub invariant-loop-way : goal.invariant-loop-way
invariant-loop-way l =
    least_below l.way (λ w. holds (line_at l.self.config (state_of l.self) l.fn.addr w) (tag_at l.self.config l.fn.addr)) ≡ None
