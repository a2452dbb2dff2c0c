use Rattle.std.proofs.Common.{◌≡◌, ◌-◌, ◌/◌, ◌+◌, ◌^◌, ap, ◌∙◌, arith}
use Rattle.std.proofs.lemmas.Nat.{shr-shr}
use Rattle.bk_dir.proofs.segment.above.Goals as goal

pub returns : goal.returns
returns c =
    let e : 1 + (63 - c.args.from) ≡ 64 - c.args.from = omega arith in
    shr-shr c.args.field 1 (63 - c.args.from) ∙ ap (λ k. c.args.field / 2 ^ k) e
