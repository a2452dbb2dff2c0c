use Rattle.std.proofs.Common.{arith, ap, take, drop, length, ◌-◌, ◌++◌, ◌∙◌}
use Rattle.bk_outer.proofs.Taken.{taken-take, rest-is, length-rest}
use Rattle.bk_outer.proofs.sink.write_all.Goals as goal

pub loop-written-preserved : goal.loop-written-preserved
loop-written-preserved g c =
    let text = c.args.text.now in
    let written = c.loop-written.written in
    let count = c.in-Ok.count in
    let taken = g.K.Sink.taken in
    record {
      bound = omega (arith, length-rest text written, c.in-Ok.ensures.bound);
      taken = c.in-Ok.ensures.takes
          ∙ (ap (λ o. o ++ take count (take (length text - written) (drop written text))) c.loop-written.invariant.taken
          ∙ (ap (λ xs. (taken c.args.sink.now ++ take written text) ++ take count xs) (rest-is text written)
          ∙ taken-take (taken c.args.sink.now) text written count));
      kept = omega (arith, c.in-Ok.ensures.faults_kept);
      last = λ h. c.in-Ok.ensures.faults_last (c.loop-written.invariant.last h);
      first = λ h. absurd (omega (arith, c.in-Ok.ensures.some));
    }
