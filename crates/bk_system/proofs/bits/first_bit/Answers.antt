use Rattle.std.proofs.Common.{arith}
use Rattle.bk_system.proofs.WordBits.{bits-none, bits-past, bits-first}
use Rattle.bk_system.proofs.bits.first_bit.Goals as goal

pub returns-then-start-ge64 : goal.returns-then-start-ge64
returns-then-start-ge64 c = bits-past c.args.word c.args.start (omega arith) (omega arith)

pub returns-then-rest-eq0 : goal.returns-then-rest-eq0
returns-then-rest-eq0 c = bits-none c.args.word c.args.start (omega arith)

pub returns-else-rest-eq0 : goal.returns-else-rest-eq0
returns-else-rest-eq0 c = bits-first c.args.word c.args.start (omega arith) (omega arith)
