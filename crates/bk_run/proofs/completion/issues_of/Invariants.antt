use Rattle.std.proofs.Common.{◌≡◌, ◌++◌, ℕ, drop}
use Rattle.bk_system.specs.Runs.{issued_by}
use Rattle.bk_run.proofs.completion.issues_of.Given as goal

abbrev pub invariant-loop-event : goal.invariant-loop-event
invariant-loop-event l = (c : ℕ) → issued_by c l.issues.items ++ issued_by c (drop l.event-index l.events) ≡ issued_by c l.events
