use Rattle.std.proofs.Common.{◌∷◌, [], ◌∙◌}
use Rattle.bk_dir.proofs.Words.{whole, words-small}
use Rattle.bk_dir.proofs.segment.words_of.Goals as goal

pub returns-clause-value : goal.returns-clause-value
returns-clause-value c =
    (λ i. c.word.ensures i ∷ c.word-2.ensures i ∷ c.word-3.ensures i ∷ c.word-4.ensures i ∷ c.word-5.ensures i ∷ [])
    ∙ whole c.args.words.now c.told-words

pub returns-clause-small : goal.returns-clause-small
returns-clause-small c =
    words-small c.word.result c.word-2.result c.word-3.result c.word-4.result c.word-5.result c.word.type_inv c.word-2.type_inv
    c.word-3.type_inv c.word-4.type_inv c.word-5.type_inv
