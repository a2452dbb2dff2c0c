use Rattle.std.proofs.Common.{refl}
use Rattle.bk_asm.specs.Names.{names_of}
use Rattle.bk_asm.specs.declared.names.Names.TheVariants as names
use Rattle.bk_asm.proofs.Named.{named_below}
use Rattle.bk_asm.proofs.know.field_of.Goals as goal

pub returns-clause-few : goal.returns-clause-few
returns-clause-few c = rw c.named.ensures (rw c.names_of.ensures (named_below 19 (names_of names.Field) c.args.word.now refl))
