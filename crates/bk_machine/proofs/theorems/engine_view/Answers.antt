use Rattle.bk_machine.proofs.Readings.{readings}
use Rattle.bk_machine.proofs.Bounds.{under_way}
use Rattle.bk_machine.proofs.Fall.{acks_fall}
use Rattle.bk_machine.proofs.theorems.engine_view.Goals as goal

pub returns-clause-readings : goal.returns-clause-readings
returns-clause-readings c = readings

pub returns-clause-under_way : goal.returns-clause-under_way
returns-clause-under_way c = under_way

pub returns-clause-acks_fall : goal.returns-clause-acks_fall
returns-clause-acks_fall c = acks_fall
