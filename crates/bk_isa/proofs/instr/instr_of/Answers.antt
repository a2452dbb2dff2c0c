use Rattle.bk_isa.proofs.Words.{found, only}
use Rattle.bk_isa.proofs.instr.instr_of.Goals as goal

pub returns-clause-found : goal.returns-clause-found
returns-clause-found c = found _ _ c.read.ensures

pub returns-clause-only : goal.returns-clause-only
returns-clause-only c = only _ _ c.read.ensures
