use Rattle.std.proofs.Common.{◌≡◌, ◌++◌}
use Rattle.bk_parallel.specs.Teams.{IsTeam}
use Rattle.bk_parallel.specs.ClosesOne.{at_end, at_beginning, KeepsEnds, IsMoved}
use Rattle.bk_parallel.proofs.closing.hand_over.Given as goal

abbrev pub invariant-loop : goal.invariant-loop
invariant-loop g l = record {
  team : IsTeam l.fn.config l.agents;
  ends : KeepsEnds l.fn.agents l.agents;
  moved : IsMoved l.fn.config l.fn.channel l.fn.agents l.agents (at_end l.fn.config l.agents l.fn.channel)
      (at_beginning l.fn.config l.agents l.fn.channel);
  rest : at_end l.fn.config l.agents l.fn.channel ++ at_beginning l.fn.config l.agents l.fn.channel
      ≡ at_end l.fn.config l.fn.agents l.fn.channel ++ at_beginning l.fn.config l.fn.agents l.fn.channel;
}
