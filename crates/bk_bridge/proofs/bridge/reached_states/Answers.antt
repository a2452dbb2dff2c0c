use Rattle.bk_bridge.proofs.Opening.{opens_formed}
use Rattle.bk_bridge.proofs.Keeps.{event-keeps, run-keeps}
use Rattle.bk_bridge.proofs.Fronts.{event-front, runs-front}
use Rattle.bk_bridge.proofs.Ranges.{event-range, runs-range}
use Rattle.bk_bridge.proofs.bridge.reached_states.Goals as goal

pub returns-clause-opens_formed : goal.returns-clause-opens_formed
returns-clause-opens_formed c = opens_formed

pub returns-clause-events_form : goal.returns-clause-events_form
returns-clause-events_form c = event-keeps

pub returns-clause-runs_form : goal.returns-clause-runs_form
returns-clause-runs_form c = run-keeps

pub returns-clause-events_front : goal.returns-clause-events_front
returns-clause-events_front c = event-front

pub returns-clause-runs_front : goal.returns-clause-runs_front
returns-clause-runs_front c = runs-front

pub returns-clause-events_range : goal.returns-clause-events_range
returns-clause-events_range c = event-range

pub returns-clause-runs_range : goal.returns-clause-runs_range
returns-clause-runs_range c = runs-range
