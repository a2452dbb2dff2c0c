use Rattle.bk_net.proofs.Keeps.{merges}
use Rattle.bk_net.proofs.closed.close.Goals as goal

pub absorb-requires-clause-rule : goal.absorb-requires-clause-rule
absorb-requires-clause-rule g c = merges _ _ _ _ c.receiver.invariant.1 c.sender.invariant.1
