use Rattle.std.proofs.Common.{append_assoc}
use Rattle.bk_run.proofs.report_text.push_messages.Goals as goal

pub returns : goal.returns
returns c = simp append_assoc (simp (append_assoc, c.in_ok-write.ensures.bytes) at c.writeln.ensures.bytes)
