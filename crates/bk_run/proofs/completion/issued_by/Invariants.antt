use Rattle.std.proofs.Common.{◌≡◌, ◌++◌, drop}
use Rattle.bk_system.specs.Runs.{issued_by}
use Rattle.bk_run.proofs.completion.issued_by.Given as goal

abbrev pub invariant-loop-event : goal.invariant-loop-event
invariant-loop-event l = l.issued.items ++ issued_by l.cache (drop l.event-index l.events) ≡ issued_by l.cache l.events
