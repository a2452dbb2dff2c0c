use Rattle.std.proofs.Common.{◌≡◌, ◌++◌, drop}
use Rattle.bk_system.specs.Runs.{completed_by}
use Rattle.bk_run.proofs.completion.completed_by.Given as goal

abbrev pub invariant-loop-done : goal.invariant-loop-done
invariant-loop-done l = l.completed.items ++ completed_by l.cache (drop l.done-index l.history) ≡ completed_by l.cache l.history
