use Rattle.bk_machine.specs.World.{empty_world}
use Rattle.bk_machine.specs.Runs.{run}
use Rattle.bk_machine.proofs.Sound.{invariant}
use Rattle.bk_machine.proofs.Law.{sole, latest_stores, pending_agrees}
use Rattle.bk_sound.proofs.laws.table_machine.Goals as goal

pub returns-clause-sole : goal.returns-clause-sole
returns-clause-sole c = λ k events profile l. sole (run k events (empty_world k.ways)) (invariant k events l).groups

pub returns-clause-latest : goal.returns-clause-latest
returns-clause-latest c = λ k events profile l. latest_stores (run k events (empty_world k.ways)) (invariant k events l).groups

pub returns-clause-pending : goal.returns-clause-pending
returns-clause-pending c = λ k events profile l. pending_agrees (run k events (empty_world k.ways)) (invariant k events l).groups
