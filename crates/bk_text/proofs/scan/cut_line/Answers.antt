use Rattle.std.proofs.Common.{◌<◌, ◌==◌, length, arith}
use Rattle.std.proofs.lemmas.Grind.{common_steps}
use Rattle.std.specs.List.{position_or_len}
use Rattle.bk_text.proofs.Cuts.{lines-first, lines-last}
use Rattle.bk_text.proofs.scan.cut_line.Goals as goal

pub returns-then-end-text-clause-lines : goal.returns-then-end-text-clause-lines
returns-then-end-text-clause-lines c = lines-last c.args.text.now (omega arith) (omega arith)

pub returns-else-end-text-clause-lines : goal.returns-else-end-text-clause-lines
returns-else-end-text-clause-lines c =
    let within : position_or_len (λ b. b == 10) c.args.text.now < length c.args.text.now = omega arith in
    let first = lines-first c.args.text.now within in
    grind (arith, common_steps)
