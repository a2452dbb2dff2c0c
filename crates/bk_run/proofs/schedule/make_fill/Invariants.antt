use Rattle.std.proofs.Common.{◌≡◌, ℕ, ◌<◌, ◌≤◌, None}
use Rattle.bk_system.specs.Numbering.{receiver_at, sender_at}
use Rattle.bk_system.specs.Systems.{state_of}
use Rattle.bk_run.specs.Greedy.{fill_event}
use Rattle.bk_run.proofs.schedule.make_fill.Given as goal

abbrev pub invariant-loop : goal.invariant-loop
invariant-loop l = record {
  config : l.hardware.config ≡ l.initial.hardware.config;
  state : state_of l.hardware ≡ state_of l.initial.hardware;
  far : l.counter ≤ l.start;
  none : (i : ℕ) → i < l.start
      → fill_event l.initial.hardware.config l.program (state_of l.initial.hardware) (receiver_at i) (sender_at i) ≡ None;
}
