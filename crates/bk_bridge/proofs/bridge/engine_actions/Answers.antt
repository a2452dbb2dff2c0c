use Rattle.bk_bridge.proofs.Acting.{actions-alike, heads-alike}
use Rattle.bk_bridge.proofs.bridge.engine_actions.Goals as goal

pub returns-clause-actions : goal.returns-clause-actions
returns-clause-actions c = actions-alike

pub returns-clause-heads : goal.returns-clause-heads
returns-clause-heads c = heads-alike
