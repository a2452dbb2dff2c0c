use Rattle.bk_parallel.proofs.Emptying.{Emptied}
use Rattle.bk_parallel.proofs.team.journals_of.Given as goal

abbrev pub invariant-loop-place : goal.invariant-loop-place
invariant-loop-place l = Emptied l.fn.config l.fn.agents l.agents l.journals.items l.place
