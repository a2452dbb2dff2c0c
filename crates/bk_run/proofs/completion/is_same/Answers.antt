use Rattle.std.proofs.lemmas.Slice.Eq.{slice_eq-Decides}
use Rattle.bk_run.proofs.Prefixes.{same-Decides}
use Rattle.bk_run.proofs.completion.is_same.Goals as goal

pub returns : goal.returns
returns c = slice_eq-Decides same-Decides c.args.xs.now c.args.ys.now c.eq.result c.eq.ensures
