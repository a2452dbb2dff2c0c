use Rattle.std.proofs.Common.{length, drop, sym}
use Rattle.std.proofs.lemmas.Slice.Eq.{starts_is}
use Rattle.bk_run.proofs.Prefixes.{same-Decides}
use Rattle.bk_run.proofs.completion.is_prefix.Goals as goal

pub returns : goal.returns
returns c =
    let d = starts_is same-Decides c.args.ys.now c.args.xs.now c.starts_with.result c.starts_with.ensures.value in
    (λ h. (drop (length c.args.xs.now) c.args.ys.now, sym (d.0 h)), λ p. d.1 p.0 (sym p.1))
