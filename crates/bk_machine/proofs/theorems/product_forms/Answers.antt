use Rattle.bk_machine.proofs.Spoken.{spoken, one_place}
use Rattle.bk_machine.proofs.theorems.product_forms.Goals as goal

pub returns-clause-messages : goal.returns-clause-messages
returns-clause-messages c = spoken

pub returns-clause-places : goal.returns-clause-places
returns-clause-places c = one_place
