use Rattle.std.proofs.Common.{◌<◌, ◌==◌, ◌∙◌, length, sym, arith}
use Rattle.std.proofs.lemmas.Grind.{common_steps}
use Rattle.std.proofs.lemmas.List.{append-nil}
use Rattle.std.specs.List.{position_or_len}
use Rattle.bk_text.specs.LineWords.{words_from}
use Rattle.bk_text.specs.Items.{line_items}
use Rattle.bk_text.proofs.Cuts.{items-first, items-last}
use Rattle.bk_text.proofs.lines.Lines.begin.Goals as goal

pub returns-then-end-text : goal.returns-then-end-text
returns-then-end-text c =
    let whole = items-last c.args.line c.args.start c.args.text.now (omega arith) in
    append-nil (line_items c.args.line c.args.start (words_from 1 c.args.text.now)) ∙ sym whole

pub returns-else-end-text : goal.returns-else-end-text
returns-else-end-text c =
    let within : position_or_len (λ b. b == 10) c.args.text.now < length c.args.text.now = omega arith in
    let first = items-first c.args.line c.args.start c.args.text.now within in
    grind (arith, common_steps)
