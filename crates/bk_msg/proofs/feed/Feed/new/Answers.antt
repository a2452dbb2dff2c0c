use Rattle.std.proofs.Common.{None}
use Rattle.bk_msg.proofs.Kept.{kept_nothing}
use Rattle.bk_msg.proofs.feed.Feed.new.Goals as goal

pub invariant_of-result : goal.invariant_of-result
invariant_of-result c = kept_nothing 0 c.new.result.items None c.new.ensures
