use Rattle.std.proofs.Common.{◌∙◌}
use Rattle.bk_net.proofs.Keeps.{keeps_rest, knows_rest}
use Rattle.bk_net.proofs.Left.{keeps_both, answers}
use Rattle.bk_net.proofs.closed.Closed.next.Goals as goal

pub pop_as-requires-clause-rule : goal.pop_as-requires-clause-rule
pop_as-requires-clause-rule g c = let h = c.self.invariant in (keeps_rest _ _ h.1.0 h.1.1, knows_rest _ _ h.1.0 h.1.1)

pub invariant_of-self : goal.invariant_of-self
invariant_of-self g c =
    let same = c.pop_as.ensures.queue in
    let old = c.self.invariant in
    let new = keeps_both _ _ _ old.1 c.pop_as.ensures.rule in
    ((same.0 ∙ old.0.0, same.2 ∙ old.0.1), new)

pub returns : goal.returns
returns g c = rw (← c.self.view_is) (answers _ _ _ c.pop_as.ensures.rule)
