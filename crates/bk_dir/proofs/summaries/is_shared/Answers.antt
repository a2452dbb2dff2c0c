use Rattle.std.proofs.Common.{ℕ, ap, ◌∙◌}
use Rattle.std.specs.Prelude.{◌==◌}
use Rattle.bk_dir.proofs.Codes.{shared_in}
use Rattle.bk_dir.proofs.summaries.is_shared.Goals as goal

pub returns : goal.returns
returns c = ap (λ (n : ℕ). n == 1) c.code_in.ensures.value ∙ shared_in c.args.field c.requires
