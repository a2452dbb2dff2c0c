use Rattle.std.proofs.Common.{arith}
use Rattle.bk_dir.proofs.Words.{bits-part}
use Rattle.bk_dir.proofs.segment.part.Goals as goal

pub returns : goal.returns
returns c = bits-part c.args.low c.args.high c.args.from c.requires (omega arith) (omega arith)
