-- The state that a cache's arrays stand for.
use Rattle.bk_lce.specs.declared.cache_arrays.CacheArrays.{CacheArrays}
use Rattle.bk_lce.specs.CacheState.{CacheState}
use Rattle.bk_lce.specs.Lists.{lines_of, recency_of}

unfoldable pub state_of : CacheArrays → CacheState
state_of a = record { lines = lines_of a.config.ways a.lines.items; recency = recency_of a.config.ways a.recency.items; busy = a.busy }
