-- After the last way it is the oldest of all.
use Rattle.std.proofs.Common.{◌≡◌, ℕ, length, subst, arith}
use Rattle.bk_lce.proofs.Ages.{IsOldestBelow, oldest_of_all}
use Rattle.bk_lce.proofs.policy.of_greatest_age.Goals as goal

pub returns-clause-oldest : goal.returns-clause-oldest
returns-clause-oldest c =
    let all : c.loop-way.way ≡ length c.args.views.now = omega (arith, c.loop-way.auto.way-end, c.requires.some) in
    oldest_of_all c.args.views.now c.loop-way.oldest
    (subst (λ (n : ℕ). IsOldestBelow c.args.views.now n c.loop-way.oldest) all c.loop-way.invariant)
