-- How large the counts of a report are.
use Rattle.std.specs.Prelude.{ℕ, ◌≤◌}
use Rattle.bk_run.specs.declared.counts.Counts.{Counts}

-- each count of events is at most the one number, and each count of messages at most the other
pub record IsAtMost (events messages : ℕ) (counts : Counts) : Type 0 where
  pub issue : counts.issue ≤ events
  pub command : counts.command ≤ events
  pub fill : counts.fill ≤ events
  pub memory : counts.memory ≤ events
  pub engine : counts.engine ≤ events
  pub requests : counts.requests ≤ messages
  pub commands : counts.commands ≤ messages
  pub fills : counts.fills ≤ messages
  pub responses : counts.responses ≤ messages
  pub memouts : counts.memouts ≤ messages
  pub memins : counts.memins ≤ messages
