-- One digit more that isn't the way.
use Rattle.std.proofs.Common.{◌≢◌, ◌*◌, ◌/◌, ◌%◌, ◌^◌, ap, sym, ◌∙◌}
use Rattle.std.proofs.Math.Nat.{div-one}
use Rattle.bk_lce.proofs.Moved.{none_first, none_more}
use Rattle.bk_lce.proofs.Packed.{rest_more}
use Rattle.bk_lce.proofs.recency.place_in.Goals as goal

pub loop-place-init : goal.loop-place-init
loop-place-init c = record { none = none_first c.args.way c.args.word; rest = sym (div-one c.args.word) }

pub loop-place-preserved : goal.loop-place-preserved
loop-place-preserved c =
    let other : c.args.word / 2 ^ (3 * c.loop-place.place) % 8 ≢ c.args.way =
    λ e. c.if-rest-way.false (ap (λ x. x % 8) c.loop-place.invariant.rest ∙ e) in
    record {
      none = none_more c.loop-place.place c.args.way c.args.word c.loop-place.invariant.none other;
      rest = ap (λ x. x / 8) c.loop-place.invariant.rest ∙ rest_more c.args.word c.loop-place.place;
    }
