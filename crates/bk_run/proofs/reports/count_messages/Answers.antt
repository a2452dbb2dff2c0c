use Rattle.std.proofs.Common.{◌≡◌, ◌+◌, ◌^◌, length, drop, sym, subst, arith}
use Rattle.bk_run.specs.Report.{count_sent}
use Rattle.bk_run.specs.declared.counts.Counts.{Counts}
use Rattle.bk_run.proofs.CountBounds.{at_most_higher, count_sent-next}
use Rattle.bk_run.proofs.reports.count_messages.Goals as goal

pub add_message-requires : goal.add_message-requires
add_message-requires c =
    at_most_higher (2 ^ 63) (2 ^ 63) (2 ^ 63 + c.loop-message.message-index) (2 ^ 63 + 16) c.loop-message.counts (omega arith) (omega arith)
    (c.loop-message.invariant.grows (2 ^ 63) (2 ^ 63) c.requires.room)

pub loop-message-preserved : goal.loop-message-preserved
loop-message-preserved c = record {
  value = subst (λ (counts : Counts). count_sent counts (drop (c.loop-message.message-index + 1) c.args.messages.now)
      ≡ count_sent c.args.counts.now c.args.messages.now) (sym c.add_message.ensures.value)
      (count_sent-next c.args.messages.now c.loop-message.message-index c.message-item.result c.loop-message.counts
      (count_sent c.args.counts.now c.args.messages.now) c.loop-message-test.true c.message-item.is c.loop-message.invariant.value);
  grows = λ e m h.
      at_most_higher e e ((m + c.loop-message.message-index) + 1) (m + (c.loop-message.message-index + 1)) c.add_message.new.self
      (omega arith) (omega arith)
      (c.add_message.ensures.grows e (m + c.loop-message.message-index) (c.loop-message.invariant.grows e m h));
}

pub returns-clause-grows : goal.returns-clause-grows
returns-clause-grows c = λ e m h.
    at_most_higher e e (m + c.loop-message.message-index) (m + length c.args.messages.now) c.loop-message.counts (omega arith) (omega arith)
    (c.loop-message.invariant.grows e m h)
