-- No way so far is the one that is looked for.
use Rattle.std.proofs.Common.{◌≡◌, ◌/◌, ◌^◌, ◌*◌}
use Rattle.bk_lce.specs.Lists.{digits, times}
use Rattle.bk_lce.proofs.recency.place_in.Given as goal

abbrev pub invariant-loop-place : goal.invariant-loop-place
invariant-loop-place l = record {
  none : times l.way (digits l.place l.word) ≡ 0;
  rest : l.rest ≡ l.word / 2 ^ (3 * l.place);
}
