use Rattle.bk_bridge.proofs.Instructions.{instructions-do}
use Rattle.bk_bridge.proofs.Pops.{pops-do}
use Rattle.bk_bridge.proofs.Asides.{instructions-aside, pops-aside}
use Rattle.bk_bridge.proofs.bridge.engine_effects.Goals as goal

pub returns-clause-instructions : goal.returns-clause-instructions
returns-clause-instructions c = instructions-do

pub returns-clause-pops : goal.returns-clause-pops
returns-clause-pops c = pops-do

pub returns-clause-instructions_aside : goal.returns-clause-instructions_aside
returns-clause-instructions_aside c = instructions-aside

pub returns-clause-pops_aside : goal.returns-clause-pops_aside
returns-clause-pops_aside c = pops-aside
