use Rattle.bk_asm.proofs.InRange.{reads}
use Rattle.bk_asm.proofs.statement.Statement.with_last.Goals as goal

pub unreachable-requires : goal.unreachable-requires
unreachable-requires c =
    let is = reads c.args.self.now c.args.last c.word_with.result c.instr_of.result c.word_with.ensures.ready
    (c.requires c.word_with.ensures.ready) c.word_with.ensures.wide c.word_with.ensures.value c.instr_of.ensures.only in
    cc

pub returns : goal.returns
returns c =
    let is = reads c.args.self.now c.args.last c.word_with.result c.instr_of.result c.word_with.ensures.ready
    (c.requires c.word_with.ensures.ready) c.word_with.ensures.wide c.word_with.ensures.value c.instr_of.ensures.only in
    cc
