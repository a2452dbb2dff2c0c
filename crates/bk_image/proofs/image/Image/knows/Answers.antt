use Rattle.std.proofs.Common.{length, arith}
use Rattle.bk_image.proofs.KnowLines.{lines_few}
use Rattle.bk_image.proofs.image.Image.knows.Goals as goal

pub returns-clause-few : goal.returns-clause-few
returns-clause-few c =
    let few = lines_few (length c.self.inside.instrs.items) 0 c.self.inside.knows.items c.self.invariant.whole.lines in
    omega (arith, c.as_slice.ensures.value, few, c.self.invariant.whole.count.few)
