-- The digit of the way at each place is written once, since the way stands in the list once.
use Rattle.std.proofs.Common.{◌*◌, ◌/◌, ◌%◌, ◌^◌, ◌<◌, ap, sym, ◌∙◌, arith}
use Rattle.std.specs.Int.Bits.{bit_or}
use Rattle.std.proofs.Math.Nat.{div-one}
use Rattle.bk_lce.proofs.Aged.{ages_more, ages_none, digit_is}
use Rattle.bk_lce.proofs.Packed.{rest_more}
use Rattle.bk_lce.proofs.recency.ages_in.Goals as goal

pub loop-place-init : goal.loop-place-init
loop-place-init c = record { ages = λ w l. ages_none c.args.ways c.args.word w; rest = sym (div-one c.args.word) }

pub loop-place-preserved : goal.loop-place-preserved
loop-place-preserved c =
    let below : c.loop-place.place < 8 = omega arith in
    record {
      ages = λ w l.
          ap (λ b. bit_or c.loop-place.ages b / 2 ^ (3 * w) % 8)
          (digit_is c.loop-place.place c.loop-place.rest below
          ∙ ap (λ r. c.loop-place.place * 2 ^ (3 * (r % 8))) c.loop-place.invariant.rest)
          ∙ ages_more c.args.ways c.loop-place.place c.args.word c.loop-place.ages w c.loop-place-test.true c.requires.ways
          (c.requires.listed.once w l) (c.loop-place.invariant.ages w l);
      rest = ap (λ x. x / 8) c.loop-place.invariant.rest ∙ rest_more c.args.word c.loop-place.place;
    }
