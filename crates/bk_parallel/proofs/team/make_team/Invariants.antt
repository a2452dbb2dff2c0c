use Rattle.bk_parallel.proofs.Making.{AreNew}
use Rattle.bk_parallel.proofs.team.make_team.Given as goal

abbrev pub invariant-loop-number : goal.invariant-loop-number
invariant-loop-number l = AreNew l.config l.number l.agents.items
