use Rattle.std.proofs.Common.{ap, ◌∙◌, List, ℕ}
use Rattle.bk_base.specs.Places.{block_start}
use Rattle.bk_msg.specs.declared.row.Row.TheVariants.{Block}
use Rattle.bk_msg.specs.declared.row.TheConstants.{ENGINE, MEMORY}
use Rattle.bk_system.proofs.Words.{words-read, block_in}
use Rattle.bk_system.proofs.memory.MainMemory.read.Goals as goal

pub returns : goal.returns
returns c =
    c.block-2.ensures ∙ ap (λ (words : List ℕ). Block MEMORY ENGINE (block_start c.args.addr) words)
    (words-read c.args.self.now c.args.addr c.block.result (c.block.ensures.value
    ∙ ap (λ (b : ℕ). block_in c.args.self.now b) c.block_of.ensures.value) c.block.ensures.eight)
