use Rattle.bk_threads.proofs.Merges.{one_merge, journals_stand}
use Rattle.bk_threads.proofs.agents.merge_laws.Goals as goal

pub returns-clause-one : goal.returns-clause-one
returns-clause-one c = one_merge

pub returns-clause-stand : goal.returns-clause-stand
returns-clause-stand c = journals_stand
