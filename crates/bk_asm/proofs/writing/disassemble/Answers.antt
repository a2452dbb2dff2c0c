use Rattle.std.proofs.Common.{rules, ◌≡◌}
use Rattle.bk_asm.specs.Writing.{spelling}
use Rattle.bk_asm.proofs.ImageAgain.{written_again}
use Rattle.bk_asm.proofs.writing.disassemble.Goals as goal

pub returns-clause-again : goal.returns-clause-again
returns-clause-again c =
    let image = c.args.image.now in
    let text : c.into_bytes.result.items ≡ spelling image = search rules in
    written_again image c.into_bytes.result.items text c.in_ok-push_places.ensures.image
