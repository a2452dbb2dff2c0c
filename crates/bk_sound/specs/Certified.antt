-- What a certified image has.
use Rattle.bk_image.specs.Images.{Parts}
use Rattle.bk_check.specs.Accepted.{Accepted}
use Rattle.bk_bound.specs.Bound.{IsBounded}
use Rattle.bk_sound.specs.Sound.{IsSound}
use Rattle.bk_sound.specs.Actions.{ActsAsPermitted}

-- It is accepted; so every run of it is sound, each event of its engine is a permitted action, and the run is bounded.
pub record IsCertified (image : Parts) : Type 0 where
  pub accepted : Accepted image
  pub sound : IsSound image.instrs
  pub actions : ActsAsPermitted image.instrs
  pub bounded : IsBounded image.instrs
