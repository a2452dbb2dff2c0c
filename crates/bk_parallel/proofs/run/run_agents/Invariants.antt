use Rattle.std.specs.Fn.{FnReturnsAt}
use Rattle.bk_rounds.specs.Tasks.{task_of}
use Rattle.bk_parallel.proofs.WholeRuns.{SoFar}
use Rattle.bk_parallel.proofs.run.run_agents.Given as goal

abbrev pub invariant-loop : goal.invariant-loop
invariant-loop g l = SoFar (task_of (FnReturnsAt g.F.Fn l.fn.victim.pick) l.fn.program l.fn.trace) l.events.items l.agents.items
