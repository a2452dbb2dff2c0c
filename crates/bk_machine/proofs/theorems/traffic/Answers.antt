use Rattle.bk_machine.proofs.Foreign.{no_foreign}
use Rattle.bk_machine.proofs.Collectable.{collectable}
use Rattle.bk_machine.proofs.Resting.{quiet_rests}
use Rattle.bk_machine.proofs.theorems.traffic.Goals as goal

pub returns-clause-no_foreign : goal.returns-clause-no_foreign
returns-clause-no_foreign c = λ k w inv. no_foreign k w inv.groups inv.ranges

pub returns-clause-collectable : goal.returns-clause-collectable
returns-clause-collectable c = λ k w inv. collectable w inv.groups

pub returns-clause-rests : goal.returns-clause-rests
returns-clause-rests c = λ k w inv q. quiet_rests w inv.groups q
