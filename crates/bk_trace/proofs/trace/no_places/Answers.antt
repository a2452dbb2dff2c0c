use Rattle.bk_trace.proofs.Index.{index-wider}
use Rattle.bk_trace.proofs.trace.no_places.Goals as goal

pub loop-preserved : goal.loop-preserved
loop-preserved c =
    rw c.in_ok-push.ensures.items
    (index-wider (λ places. places.items) c.loop.index.items c.loop.counter c.new.result c.loop.invariant c.new.ensures.items)
