-- The ages of the ways so far are in the word.
use Rattle.std.proofs.Common.{◌≡◌, ℕ, ◌<◌, ◌*◌, ◌/◌, ◌%◌, ◌^◌}
use Rattle.bk_lce.proofs.Aged.{age_seen}
use Rattle.bk_lce.proofs.recency.ages_in.Given as goal

abbrev pub invariant-loop-place : goal.invariant-loop-place
invariant-loop-place l = record {
  ages : (w : ℕ) → w < l.ways → l.ages / 2 ^ (3 * w) % 8 ≡ age_seen l.ways l.place l.word w;
  rest : l.rest ≡ l.word / 2 ^ (3 * l.place);
}
