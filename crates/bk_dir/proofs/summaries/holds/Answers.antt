use Rattle.std.proofs.Common.{arith}
use Rattle.std.proofs.lemmas.Bool.Decides.{nat_tests}
use Rattle.bk_dir.proofs.Codes.{readable_in}
use Rattle.bk_dir.proofs.summaries.holds.Goals as goal

pub returns-then-tag_in-tag : goal.returns-then-tag_in-tag
returns-then-tag_in-tag c = let test = readable_in c.args.field c.requires in grind (arith, nat_tests)

pub returns-else-tag_in-tag : goal.returns-else-tag_in-tag
returns-else-tag_in-tag c = let test = readable_in c.args.field c.requires in grind (arith, nat_tests)
