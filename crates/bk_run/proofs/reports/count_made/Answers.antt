use Rattle.std.proofs.Common.{◌+◌, ◌*◌, length, arith}
use Rattle.bk_run.proofs.CountBounds.{at_most_higher}
use Rattle.bk_run.proofs.reports.count_made.Goals as goal

pub returns-clause-grows : goal.returns-clause-grows
returns-clause-grows c = λ n h.
    at_most_higher (n + 1) (n + 1) (16 * n + length c.args.sent.now) (16 * (n + 1)) c.count_messages.new.counts (omega arith)
    (omega arith)
    (c.count_messages.ensures.grows (n + 1) (16 * n) (c.add_event.ensures.grows n (16 * n) h))
