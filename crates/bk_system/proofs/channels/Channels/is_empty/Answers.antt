use Rattle.bk_system.proofs.Marks.{empty-by}
use Rattle.bk_system.proofs.channels.Channels.is_empty.Goals as goal

pub returns : goal.returns
returns c = empty-by c.args.self.now c.next.result c.is_none.result c.is_none.ensures c.next.ensures
