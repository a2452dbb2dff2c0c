-- An accepted image has what a certified one has.
use Rattle.bk_image.specs.Images.{Parts}
use Rattle.bk_check.specs.Accepted.{Accepted, IsMade}
use Rattle.bk_bound.proofs.TraceBounds.{bounded}
use Rattle.bk_sound.specs.Certified.{IsCertified}
use Rattle.bk_sound.proofs.Acts.{acts}
use Rattle.bk_sound.proofs.Images.{sound}

pub certified : (image : Parts) → IsMade image → Accepted image → IsCertified image
certified image made accepted = record {
  accepted = accepted;
  sound = λ k es profile lawful. sound k image profile made accepted es lawful;
  actions = λ k es choice profile lawful. acts k image profile made accepted es lawful choice;
  bounded = bounded image made accepted;
}
