use Rattle.bk_exact.proofs.Steps.{opens-tied, events-tie, instructions-act}
use Rattle.bk_exact.proofs.laws.exact_ties.Goals as goal

pub returns-clause-opens : goal.returns-clause-opens
returns-clause-opens c = opens-tied

pub returns-clause-events : goal.returns-clause-events
returns-clause-events c = events-tie

pub returns-clause-acts : goal.returns-clause-acts
returns-clause-acts c = instructions-act
