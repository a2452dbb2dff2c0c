use Rattle.std.proofs.Common.{arith}
use Rattle.bk_system.proofs.FourWords.{mark-changed}
use Rattle.bk_system.proofs.bits.mark.Goals as goal

pub returns : goal.returns
returns c = λ j l.
    mark-changed c.args.marks.now c.marked.result c.args.place _ (omega arith) (omega arith) c.marked.ensures j
