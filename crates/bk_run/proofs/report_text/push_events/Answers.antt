use Rattle.std.proofs.Common.{append_assoc}
use Rattle.bk_run.proofs.report_text.push_events.Goals as goal

pub returns : goal.returns
returns c = simp append_assoc c.writeln.ensures.bytes
