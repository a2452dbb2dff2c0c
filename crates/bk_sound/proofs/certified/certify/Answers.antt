use Rattle.std.proofs.Common.{refl}
use Rattle.bk_sound.proofs.Certifies.{certified}
use Rattle.bk_sound.proofs.certified.certify.Goals as goal

pub invariant_of-result : goal.invariant_of-result
invariant_of-result c = certified c.args.image (c.in-Ok.ensures.made) (c.in-Ok.ensures.ok.0 refl)

pub returns-in-Ok-clause-sound : goal.returns-in-Ok-clause-sound
returns-in-Ok-clause-sound c = (certified c.args.image (c.in-Ok.ensures.made) (c.in-Ok.ensures.ok.0 refl)).sound

pub returns-in-Ok-clause-actions : goal.returns-in-Ok-clause-actions
returns-in-Ok-clause-actions c = (certified c.args.image (c.in-Ok.ensures.made) (c.in-Ok.ensures.ok.0 refl)).actions

pub returns-in-Ok-clause-bounded : goal.returns-in-Ok-clause-bounded
returns-in-Ok-clause-bounded c = (certified c.args.image (c.in-Ok.ensures.made) (c.in-Ok.ensures.ok.0 refl)).bounded
