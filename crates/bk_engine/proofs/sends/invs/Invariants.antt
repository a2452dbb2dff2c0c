-- The caches so far have been sent their invalidations.
use Rattle.std.proofs.Common.{◌≡◌, ◌≤◌}
use Rattle.arrayvec.specs.ArrayVec.{array_vec_len}
use Rattle.bk_base.specs.Counting.{join_below}
use Rattle.bk_engine.specs.Sends.{inv_to}
use Rattle.bk_engine.proofs.sends.invs.Given as goal

abbrev pub invariant-loop-cache : goal.invariant-loop-cache
invariant-loop-cache l = record {
  sent : l.sent.items ≡ join_below l.cache (inv_to l.held l.with_owner l.summary);
  few : array_vec_len l.sent ≤ l.cache;
}
