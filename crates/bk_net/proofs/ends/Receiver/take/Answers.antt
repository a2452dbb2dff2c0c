use Rattle.bk_net.proofs.Keeps.{keeps_take, learns_none}
use Rattle.bk_net.proofs.ends.Receiver.take.Goals as goal

pub pop_as-requires-clause-rule : goal.pop_as-requires-clause-rule
pop_as-requires-clause-rule g c = (keeps_take _ _ c.self.invariant.1, learns_none _ _)
