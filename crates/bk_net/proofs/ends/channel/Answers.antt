use Rattle.std.proofs.Common.{ap}
use Rattle.bk_net.proofs.Keeps.{begins, forks}
use Rattle.bk_net.proofs.ends.channel.Goals as goal

pub ruled-requires-clause-rule : goal.ruled-requires-clause-rule
ruled-requires-clause-rule c = begins

pub another-other-requires-clause-rule : goal.another-other-requires-clause-rule
another-other-requires-clause-rule c =
    let new = c.in_ok-queue.ensures.3 in
    forks _ _ (ap (λ v. v.may_send) new) (ap (λ v. v.may_take) new)
