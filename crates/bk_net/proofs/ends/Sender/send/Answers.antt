use Rattle.bk_net.proofs.Keeps.{keeps_send, holds_last}
use Rattle.bk_net.proofs.ends.Sender.send.Goals as goal

pub push_as-requires-clause-rule : goal.push_as-requires-clause-rule
push_as-requires-clause-rule g c = (keeps_send _ _ _ _ c.self.invariant.1, holds_last _ _ c.self.invariant.1)
