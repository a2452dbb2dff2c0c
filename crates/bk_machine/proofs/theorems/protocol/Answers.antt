use Rattle.bk_machine.proofs.Law.{sole, latest_stores, pending_agrees}
use Rattle.bk_machine.proofs.theorems.protocol.Goals as goal

pub returns-clause-sole : goal.returns-clause-sole
returns-clause-sole c = λ k w inv. sole w inv.groups

pub returns-clause-latest : goal.returns-clause-latest
returns-clause-latest c = λ k w inv. latest_stores w inv.groups

pub returns-clause-pending : goal.returns-clause-pending
returns-clause-pending c = λ k w inv. pending_agrees w inv.groups
