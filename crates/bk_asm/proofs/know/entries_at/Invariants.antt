use Rattle.std.proofs.Common.{◌≡◌, length}
use Rattle.bk_asm.specs.Reading.{entries_at}
use Rattle.bk_asm.specs.Ranges.{AreInRange}
use Rattle.bk_asm.proofs.know.entries_at.Given as goal

abbrev pub invariant-loop-word : goal.invariant-loop-word
invariant-loop-word l = record {
  value : entries_at l.sets l.seen l.row.bad l.row.words ≡ entries_at l.fn.base 0 l.fn.row.bad l.fn.row.words;
  range : AreInRange l.sets;
}

abbrev pub decreases-loop-word : goal.decreases-loop-word
decreases-loop-word l = length l.row.words
