-- The laws of the order of masks.
use Rattle.std.specs.Prelude.{◌≡◌, ℕ, ◌+◌, ◌<◌, true, false, length, slice_get, Some, None}
use Rattle.bk_isa.specs.declared.form.Form.{Form}
use Rattle.bk_know.specs.declared.sets.Sets.{Sets}
use Rattle.bk_know.specs.Sets.{within, union, any_empty}
use Rattle.bk_image.specs.Images.{Parts}
use Rattle.bk_flow.specs.Flow.{start, fall, jump, target}
use Rattle.bk_check.specs.Obligations.{unmet_here}
use Rattle.bk_check.specs.Accepted.{Accepted}
use Rattle.bk_order.specs.Fits.{Fits, Leads, LeadsOver, Stands}

-- `within` is an order, with the union as the least mask above two
pub record MasksAreOrdered : Type 0 where
  pub itself : (sets : Sets) → within sets sets ≡ true
  pub chain : (sets wider u : Sets) → within sets wider ≡ true → within wider u ≡ true → within sets u ≡ true
  pub same : (sets wider : Sets) → within sets wider ≡ true → within wider sets ≡ true → sets ≡ wider
  pub left : (sets wider : Sets) → within sets (union sets wider) ≡ true
  pub right : (sets wider : Sets) → within wider (union sets wider) ≡ true
  pub least : (sets wider u : Sets) → within sets u ≡ true → within wider u ≡ true → within (union sets wider) u ≡ true

-- what is owed at an instruction, and met by a mask, is met by each one within it, and by each one that fits it
pub record ObligationsGoDown : Type 0 where
  pub within : (f : Form) (sets wider : Sets) → within sets wider ≡ true → any_empty sets ≡ false → unmet_here f wider ≡ None
      → unmet_here f sets ≡ None
  pub fits : (f : Form) (e sets : Sets) → Fits e sets → any_empty e ≡ false → unmet_here f sets ≡ None → unmet_here f e ≡ None

-- Where an edge of a mask exists, it exists of each mask above, and leads over it. What fits that edge fits this one too, where the
-- instruction's obligations are met.
pub record FlowIsMonotone : Type 0 where
  pub falls : (f : Form) (sets wider r : Sets) → within sets wider ≡ true → any_empty sets ≡ false → fall f sets ≡ Some r
      → LeadsOver (fall f wider) r
  pub jumps : (f : Form) (sets wider r : Sets) → within sets wider ≡ true → any_empty sets ≡ false → jump f sets ≡ Some r
      → LeadsOver (jump f wider) r
  pub falls_fit : (f : Form) (e sets next : Sets) → Fits e sets → any_empty e ≡ false → any_empty next ≡ false
      → unmet_here f sets ≡ None
      → Leads (fall f e) next → Leads (fall f sets) next
  pub jumps_fit : (f : Form) (e sets next : Sets) → Fits e sets → any_empty e ≡ false → any_empty next ≡ false
      → unmet_here f sets ≡ None
      → Leads (jump f e) next → Leads (jump f sets) next

-- In an accepted image: what enters at the start fits the sets of place 0. A mask that fits the sets of a place meets the obligations
-- of the
-- instruction there; and what its edge leads to fits the sets of the place where the edge ends, which has an instruction too.
pub record AcceptedCarries (image : Parts) : Type 0 where
  pub start : 0 < length image.instrs → Stands image 0 start
  pub meets : (p : ℕ) (e : Sets) (f : Form) → Stands image p e → slice_get image.instrs p ≡ Some f → any_empty e ≡ false
      → unmet_here f e ≡ None
  pub falls : (p : ℕ) (e next : Sets) (f : Form) → Stands image p e → slice_get image.instrs p ≡ Some f → any_empty e ≡ false
      → any_empty next ≡ false → Leads (fall f e) next → Stands image (p + 1) next
  pub jumps : (p to : ℕ) (e next : Sets) (f : Form) → Stands image p e → slice_get image.instrs p ≡ Some f → any_empty e ≡ false
      → any_empty next ≡ false → target f ≡ Some to → Leads (jump f e) next → Stands image to next

abbrev pub AcceptedImagesCarry : Type 0
AcceptedImagesCarry = (image : Parts) → Accepted image → AcceptedCarries image
