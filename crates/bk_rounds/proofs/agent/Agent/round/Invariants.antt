use Rattle.std.proofs.Common.{◌≡◌, ◌+◌, ◌≤◌, ◌⊎◌, length}
use Rattle.std.specs.Fn.{FnReturnsAt}
use Rattle.bk_system.specs.Systems.{state_of}
use Rattle.bk_rounds.specs.Agents.{Works, IsSame}
use Rattle.bk_rounds.specs.Tasks.{task_of}
use Rattle.bk_rounds.specs.Work.{IsSent}
use Rattle.bk_rounds.proofs.agent.Agent.round.Given as goal

abbrev pub invariant-loop : goal.invariant-loop
invariant-loop g l = record {
  same : IsSame l.fn.self l.self;
  works : Works (task_of (FnReturnsAt g.F.Fn l.victim.pick) l.program l.trace) (state_of l.fn.self.hardware) l.self;
  waits : IsSent l.fn.self.hardware.config l.fn.self.number (state_of l.self.hardware);
  made : (l.left ≡ 64) ⊎ (1 ≤ length l.self.entries.items);
  some_left : 1 ≤ l.left;
  patient : 1 ≤ l.patience;
  count : l.left + l.patience + l.counter ≡ 192;
}
