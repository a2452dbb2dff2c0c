use Rattle.bk_bound.proofs.TraceBounds.{bounded}
use Rattle.bk_bound.proofs.laws.bounds.Goals as goal

pub returns : goal.returns
returns c = record { bounded = bounded }
