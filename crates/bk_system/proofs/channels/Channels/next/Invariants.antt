use Rattle.std.proofs.Common.{◌+◌, ◌*◌, ◌<◌, ◌≤◌}
use Rattle.bk_system.proofs.FourWords.{NoneTo}
use Rattle.bk_system.proofs.channels.Channels.next.Given as goal

abbrev pub invariant-loop-word : goal.invariant-loop-word
invariant-loop-word l = record {
  low : l.from ≤ l.word * 64 + l.start;
  small : l.start < 64;
  none : NoneTo l.self.marks l.from (l.word * 64 + l.start);
}
