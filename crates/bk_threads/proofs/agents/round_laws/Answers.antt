use Rattle.bk_threads.proofs.Rounds.{rounds_run, walks_heed}
use Rattle.bk_threads.proofs.agents.round_laws.Goals as goal

pub returns-clause-run : goal.returns-clause-run
returns-clause-run c = rounds_run

pub returns-clause-heed : goal.returns-clause-heed
returns-clause-heed c = walks_heed
