use Rattle.std.proofs.Common.{rules, tests}
use Rattle.std.proofs.lemmas.Iterator.{YieldsList-from_slice}
use Rattle.std.proofs.lemmas.Iterator.Search.{position_from_yields_List}
use Rattle.bk_text.specs.Texts.{is_blank}
use Rattle.bk_text.proofs.Cuts.{index-from_position}
use Rattle.bk_text.proofs.scan.word_len.Goals as goal

pub returns-clause-value : goal.returns-clause-value
returns-clause-value c =
    let found = position_from_yields_List is_blank _ _ c.position.result c.position.ensures.ran (YieldsList-from_slice c.args.bytes.now cc)
    (λ x b q k. search (rules, tests)) in
    let index = index-from_position is_blank c.args.bytes.now c.position.result found in
    cc
