-- The table keeps its laws.
use Rattle.bk_lce.proofs.Local.{stores_sole_copies, touches_one_set}
use Rattle.bk_lce.proofs.laws.laws.Goals as goal

pub returns : goal.returns
returns c = record { store = stores_sole_copies; one_set = touches_one_set }
