use Rattle.bk_msg.proofs.Kept.{kept_nothing}
use Rattle.bk_msg.proofs.feed.kept.Goals as goal

pub invariant_of-result : goal.invariant_of-result
invariant_of-result c = kept_nothing _ c.new.result.items _ c.new.ensures
