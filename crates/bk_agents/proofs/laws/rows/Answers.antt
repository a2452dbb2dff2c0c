use Rattle.bk_agents.proofs.EventRows.{rows-local}
use Rattle.bk_agents.proofs.EventParts.{parts-stay}
use Rattle.bk_agents.proofs.Tight.{walks-tight}
use Rattle.bk_agents.proofs.laws.rows.Goals as goal

pub returns-clause-local : goal.returns-clause-local
returns-clause-local c = rows-local

pub returns-clause-parts : goal.returns-clause-parts
returns-clause-parts c = parts-stay

pub returns-clause-lists : goal.returns-clause-lists
returns-clause-lists c = walks-tight
