use Rattle.bk_order.proofs.Belows.{masks-are-ordered}
use Rattle.bk_order.proofs.Fitting.{obligations-go-down, flow-is-monotone}
use Rattle.bk_order.proofs.laws.masks.Goals as goal

pub returns-clause-ordered : goal.returns-clause-ordered
returns-clause-ordered c = masks-are-ordered

pub returns-clause-obligations : goal.returns-clause-obligations
returns-clause-obligations c = obligations-go-down

pub returns-clause-flow : goal.returns-clause-flow
returns-clause-flow c = flow-is-monotone
