use Rattle.std.proofs.Common.{ap}
use Rattle.bk_asm.specs.Kept.{in_order}
use Rattle.bk_asm.proofs.LabelPlaces.{shown}
use Rattle.bk_asm.proofs.labels.Labels.new.Goals as goal

pub returns : goal.returns
returns c = ap (λ entries. in_order (shown entries)) c.new.ensures.empty
