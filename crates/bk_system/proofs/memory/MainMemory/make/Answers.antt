use Rattle.bk_system.proofs.Words.{words-empty}
use Rattle.bk_system.proofs.memory.MainMemory.make.Goals as goal

pub returns : goal.returns
returns c = words-empty _ c.new.ensures.empty
