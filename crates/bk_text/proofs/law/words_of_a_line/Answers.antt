use Rattle.bk_text.proofs.Laws.{words_are_parts}
use Rattle.bk_text.proofs.Places.{words_stand}
use Rattle.bk_text.proofs.law.words_of_a_line.Goals as goal

pub returns-clause-parts : goal.returns-clause-parts
returns-clause-parts c = words_are_parts

pub returns-clause-places : goal.returns-clause-places
returns-clause-places c = words_stand
