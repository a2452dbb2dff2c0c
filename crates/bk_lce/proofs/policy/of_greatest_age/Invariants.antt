-- The oldest of the ways so far.
use Rattle.bk_lce.proofs.Ages.{IsOldestBelow}
use Rattle.bk_lce.proofs.policy.of_greatest_age.Given as goal

abbrev pub invariant-loop-way : goal.invariant-loop-way
invariant-loop-way l = IsOldestBelow l.views l.way l.oldest
