use Rattle.std.proofs.Common.{◌≡◌, ◌+◌, ◌≤◌, length}
use Rattle.std.specs.Str.Lines.{lines}
use Rattle.bk_asm.specs.Reading.{nothing_read, lines_at}
use Rattle.bk_asm.proofs.assembly.assemble.Given as goal

abbrev pub invariant-loop-rest : goal.invariant-loop-rest
invariant-loop-rest l = record {
  value : lines_at l.draft (l.line + 1) (lines l.rest) ≡ lines_at nothing_read 1 (lines l.text);
  count : l.line + length (lines l.rest) ≡ length (lines l.text);
  short : l.line + length l.rest ≤ length l.text;
}

abbrev pub decreases-loop-rest : goal.decreases-loop-rest
decreases-loop-rest l = length l.rest
