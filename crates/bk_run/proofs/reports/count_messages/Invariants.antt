use Rattle.std.proofs.Common.{◌≡◌, ◌+◌, ℕ, drop}
use Rattle.bk_run.specs.CountBounds.{IsAtMost}
use Rattle.bk_run.specs.Report.{count_sent}
use Rattle.bk_run.proofs.reports.count_messages.Given as goal

abbrev pub invariant-loop-message : goal.invariant-loop-message
invariant-loop-message l = record {
  value : count_sent l.counts (drop l.message-index l.messages) ≡ count_sent l.initial.counts l.messages;
  grows : (e n : ℕ) → IsAtMost e n l.initial.counts → IsAtMost e (n + l.message-index) l.counts;
}
