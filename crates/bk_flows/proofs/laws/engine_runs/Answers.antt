use Rattle.bk_flows.proofs.ByForm.{mask-follows}
use Rattle.bk_flows.proofs.Halts.{never-halts}
use Rattle.bk_flows.proofs.laws.engine_runs.Goals as goal

pub returns-clause-halts : goal.returns-clause-halts
returns-clause-halts c = never-halts

pub returns-clause-follows : goal.returns-clause-follows
returns-clause-follows c = mask-follows
