use Rattle.bk_threads.proofs.SystemRunning.{system_local, system_runs}
use Rattle.bk_threads.proofs.agents.system_laws.Goals as goal

pub returns-clause-local : goal.returns-clause-local
returns-clause-local c = system_local

pub returns-clause-run : goal.returns-clause-run
returns-clause-run c = system_runs
