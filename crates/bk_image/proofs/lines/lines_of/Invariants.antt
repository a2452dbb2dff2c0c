use Rattle.std.proofs.Common.{◌≡◌, ◌-◌}
use Rattle.bk_image.specs.Reading.{lines_at}
use Rattle.bk_image.proofs.Loop.{with_front}
use Rattle.bk_image.proofs.lines.lines_of.Given as goal

abbrev pub invariant-loop : goal.invariant-loop
invariant-loop l = with_front l.lines.items (lines_at l.total l.heading.instrs (l.heading.knows - l.counter) l.least l.rest)
    ≡ lines_at l.total l.heading.instrs l.heading.knows 0 l.bytes
