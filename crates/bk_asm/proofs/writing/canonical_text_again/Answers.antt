use Rattle.bk_asm.proofs.ImageAgain.{text_again}
use Rattle.bk_asm.proofs.writing.canonical_text_again.Goals as goal

pub returns : goal.returns
returns c = λ x h. text_again x h
