-- The word of a set is made of its list.
use Rattle.std.proofs.Common.{arith}
use Rattle.bk_lce.specs.CacheArrays.{state_of}
use Rattle.bk_lce.proofs.Written.{packed_read}
use Rattle.bk_lce.proofs.cache_arrays.CacheArrays.recency.Goals as goal

pub returns : goal.returns
unfolding state_of
returns c =
    packed_read c.args.self.now.config c.args.self.now.recency.items c.args.set c.index.result.now (omega arith) c.index.ensures
    c.args.self.now.listed
