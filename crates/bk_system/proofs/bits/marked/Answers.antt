use Rattle.bk_system.proofs.WordBits.{bit-set, bit-cleared}
use Rattle.bk_system.proofs.bits.marked.Goals as goal

pub returns-then-set : goal.returns-then-set
returns-then-set c = λ j l. rw c.if-set.true (bit-set c.args.word c.args.place c.requires j)

pub returns-else-set : goal.returns-else-set
returns-else-set c = λ j l. rw c.if-set.false (bit-cleared c.args.word c.args.place c.requires j l)
