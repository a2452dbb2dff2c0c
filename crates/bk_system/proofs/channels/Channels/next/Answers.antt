use Rattle.bk_system.proofs.FourWords.{none-past, first-in}
use Rattle.bk_system.proofs.Marks.{next-none, next-some}
use Rattle.std.proofs.Common.{◌+◌, ◌*◌, arith}
use Rattle.bk_system.proofs.channels.Channels.next.Goals as goal

pub loop-word-preserved : goal.loop-word-preserved
loop-word-preserved c = record {
  low = omega arith;
  small = omega arith;
  none = none-past c.args.self.now.marks c.args.from c.loop-word.word c.loop-word.start c.loop-word.invariant.none c.in_default.ensures;
}

pub returns-in-Some : goal.returns-in-Some
returns-in-Some c =
    next-some c.args.self.now c.args.from (c.loop-word.word * 64 + c.in-Some.bit)
    (first-in c.args.self.now.marks c.args.from c.loop-word.word c.loop-word.start c.loop-word.invariant.none c.in-Some.bit
    c.loop-word.invariant.low (omega arith) c.in-Some.ensures)

pub returns : goal.returns
returns c =
    next-none c.args.self.now c.args.from (c.loop-word.word * 64 + c.loop-word.start) (omega arith) c.loop-word.invariant.none
