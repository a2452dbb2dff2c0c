-- When a mask fits another, an edge, or a place of an image.
use Rattle.std.specs.Prelude.{◌≡◌, ℕ, ◌<◌, ◌==◌, Bool, true, length, Option, Some}
use Rattle.bk_know.specs.declared.sets.Sets.{Sets}
use Rattle.bk_know.specs.Sets.{within}
use Rattle.bk_image.specs.Images.{Parts}
use Rattle.bk_know.specs.declared.values.TheConstants.{STAGE_CLOSING}
use Rattle.bk_check.specs.Accepted.{sets_at}
use Rattle.bk_order.specs.Below.{Below}

-- the engine's grant is sent
abbrev pub is_closing : Sets → Bool
is_closing e = e.stage == STAGE_CLOSING

-- A mask fits another that it is below. In Closing owner, others and victim are loose: debts that are paid change them, and no obligation
-- asks for them there.
abbrev pub Fits : Sets → Sets → Type 0
Fits e sets = Below (is_closing e) e sets

-- an edge is there, and a mask fits what it leads in
pub record Leads (edge : Option Sets) (e : Sets) : Type 0 where
  pub next : Sets
  pub is : edge ≡ Some next
  pub fits : Fits e next

-- an edge is there, and a mask is within what it leads in
pub record LeadsOver (edge : Option Sets) (sets : Sets) : Type 0 where
  pub next : Sets
  pub is : edge ≡ Some next
  pub below : within sets next ≡ true

-- a place of an image, with its sets, which a mask fits
pub record Stands (image : Parts) (p : ℕ) (e : Sets) : Type 0 where
  pub within : p < length image.instrs
  pub sets : Sets
  pub at : sets_at image p ≡ Some sets
  pub fits : Fits e sets
