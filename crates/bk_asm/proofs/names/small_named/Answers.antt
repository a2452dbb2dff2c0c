use Rattle.std.proofs.Common.{length}
use Rattle.bk_asm.proofs.Named.{named_below}
use Rattle.bk_asm.proofs.names.small_named.Goals as goal

pub returns-clause-small : goal.returns-clause-small
returns-clause-small c = rw c.named.ensures (named_below (length c.args.names.now) _ c.args.word.now c.requires)
