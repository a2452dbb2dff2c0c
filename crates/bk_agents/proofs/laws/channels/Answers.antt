use Rattle.bk_agents.proofs.Heads.{one-head-counts}
use Rattle.bk_agents.proofs.HeadsThere.{touches-a-head}
use Rattle.bk_agents.proofs.HeadsHeld.{holds-on}
use Rattle.bk_agents.proofs.Ends.{touches-its-own, sends-from-itself}
use Rattle.bk_agents.proofs.laws.channels.Goals as goal

pub returns-clause-heads : goal.returns-clause-heads
returns-clause-heads c = one-head-counts

pub returns-clause-there : goal.returns-clause-there
returns-clause-there c = touches-a-head

pub returns-clause-holds : goal.returns-clause-holds
returns-clause-holds c = holds-on

pub returns-clause-ends : goal.returns-clause-ends
returns-clause-ends c = touches-its-own

pub returns-clause-begins : goal.returns-clause-begins
returns-clause-begins c = sends-from-itself
