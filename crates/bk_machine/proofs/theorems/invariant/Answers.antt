use Rattle.bk_machine.proofs.Sound.{empty_keeps, event_keeps, invariant}
use Rattle.bk_machine.proofs.theorems.invariant.Goals as goal

pub returns-clause-start : goal.returns-clause-start
returns-clause-start c = empty_keeps

pub returns-clause-event : goal.returns-clause-event
returns-clause-event c = event_keeps

pub returns-clause-list : goal.returns-clause-list
returns-clause-list c = invariant
