use Rattle.std.proofs.Common.{take}
use Rattle.bk_image.proofs.Grown.{Written}
use Rattle.bk_image.proofs.writing.push_lines.Given as goal

abbrev pub invariant-loop-know_line : goal.invariant-loop-know_line
invariant-loop-know_line l = Written l.initial.bytes.items l.bytes.items (take l.know_line-index l.knows)
