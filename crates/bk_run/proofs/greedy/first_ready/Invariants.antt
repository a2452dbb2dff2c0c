use Rattle.std.proofs.Common.{◌≡◌, ℕ, ◌<◌, ◌≤◌, None}
use Rattle.bk_run.specs.Greedy.{ready_operation}
use Rattle.bk_system.specs.Systems.{state_of}
use Rattle.bk_run.proofs.greedy.first_ready.Given as goal

abbrev pub invariant-loop : goal.invariant-loop
invariant-loop l = record {
  far : l.counter ≤ l.start;
  none : (i : ℕ) → i < l.start
      → ready_operation l.hardware.config l.program (state_of l.hardware) l.trace.lines i ≡ None;
}
