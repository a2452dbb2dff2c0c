use Rattle.std.proofs.Common.{arith}
use Rattle.std.proofs.lemmas.List.{get_or_default}
use Rattle.bk_know.specs.Sets.{idle_base}
use Rattle.bk_image.proofs.image.Image.know_at.Goals as goal

pub returns-in-Ok : goal.returns-in-Ok
returns-in-Ok c =
    let found = c.in-Ok.ensures.found in
    let read = get_or_default _ _ c.index.result.now (0, idle_base) found.0 in
    grind (arith, c.self.view_is, found.1, read)
