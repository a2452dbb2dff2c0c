use Rattle.bk_machine.proofs.Computed.{first_listed, first_answers, second_listed, second_answers}
use Rattle.bk_machine.proofs.theorems.example.Goals as goal

pub returns-clause-listed : goal.returns-clause-listed
returns-clause-listed c = first_listed

pub returns-clause-answers : goal.returns-clause-answers
returns-clause-answers c = first_answers

pub returns-clause-second_listed : goal.returns-clause-second_listed
returns-clause-second_listed c = second_listed

pub returns-clause-second_answers : goal.returns-clause-second_answers
returns-clause-second_answers c = second_answers
