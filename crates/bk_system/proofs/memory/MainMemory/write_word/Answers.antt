use Rattle.std.proofs.Common.{◌∙◌, ap, ℕ, cond, Some, set}
use Rattle.std.specs.Ordering.{nat_cmp}
use Rattle.std.specs.BTreeMap.{get, is_at}
use Rattle.bk_base.specs.Places.{block_of}
use Rattle.bk_system.proofs.Words.{words-same, words-word, block_in}
use Rattle.bk_system.proofs.memory.MainMemory.write_word.Goals as goal

pub returns-in-Ok-clause-ok : goal.returns-in-Ok-clause-ok
returns-in-Ok-clause-ok c =
    words-word c.args.self.now _ c.args.addr c.args.word c.block-words.result
    (c.block-words.ensures.value ∙ ap (λ (b : ℕ). block_in c.args.self.now b) c.block_of-number.ensures.value)
    c.value-aligned.ensures.range.aligned c.block-words.ensures.eight
    (λ q. c.in-Ok.ensures.updates.0 q
    ∙ ap (λ (b : ℕ). cond (is_at (nat_cmp b) q) (Some (set c.block-words.result c.word_of.result c.args.word))
    (get nat_cmp c.args.self.now.blocks q)) c.block_of-number.ensures.value
    ∙ ap (λ (j : ℕ). cond (is_at (nat_cmp (block_of c.args.addr)) q) (Some (set c.block-words.result j c.args.word))
    (get nat_cmp c.args.self.now.blocks q)) c.word_of.ensures.value)

pub returns-in-Err-clause-err : goal.returns-in-Err-clause-err
returns-in-Err-clause-err c = words-same c.args.self.now _ c.in-Err.ensures.err
