use Rattle.bk_bridge.proofs.Opening.{opens_empty}
use Rattle.bk_bridge.proofs.Steps.{event_step, reached-step}
use Rattle.bk_bridge.proofs.bridge.event_steps.Goals as goal

pub returns-clause-opens_empty : goal.returns-clause-opens_empty
returns-clause-opens_empty c = opens_empty

pub returns-clause-steps : goal.returns-clause-steps
returns-clause-steps c = event_step

pub returns-clause-reached : goal.returns-clause-reached
returns-clause-reached c = reached-step
