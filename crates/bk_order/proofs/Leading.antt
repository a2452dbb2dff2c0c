-- When an edge is there, and a mask fits what it leads in.
use Rattle.std.proofs.Common.{◌≡◌, ◌==◌, Bool, true, false, sym, subst}
use Rattle.bk_know.specs.declared.sets.Sets.{Sets}
use Rattle.bk_flow.specs.Flow.{existing}
use Rattle.bk_order.specs.Below.{Below}
use Rattle.bk_order.specs.Fits.{is_closing, Fits, Leads}
use Rattle.bk_order.proofs.Subsets.{itself}
use Rattle.bk_order.proofs.Filled.{Filled, filled-some}
use Rattle.bk_order.proofs.Belows.{part_itself, filled_up, below_itself}
use Rattle.bk_order.proofs.Flows.{existing-some}

-- the fields that are loose once the grant is sent
pub record Loose (sets : Sets) : Type 0 where
  pub owner : (sets.owner == 0) ≡ false
  pub others : (sets.others == 0) ≡ false
  pub victim : (sets.victim == 0) ≡ false

pub filled-loose : (sets : Sets) → Filled sets → Loose sets
filled-loose sets h = assumption h

-- an edge is there where a mask fits it
pub leads : (sets e : Sets) → Filled e → Fits e sets → Leads (existing sets) e
leads sets e h f = record { next = sets; is = existing-some sets (filled-some sets (filled_up (is_closing e) e sets f h)); fits = f }

-- the same mask fits
pub fits-itself : (sets : Sets) → Loose sets → Fits sets sets
fits-itself sets h =
    let owner = part_itself (is_closing sets) sets.owner h.owner in
    let others = part_itself (is_closing sets) sets.others h.others in
    let victim = part_itself (is_closing sets) sets.victim h.victim in
    search itself

pub fits-path : (e sets : Sets) → e ≡ sets → Loose e → Fits e sets
fits-path e sets p h = subst (Fits e) p (fits-itself e h)

pub leads-path : (sets e : Sets) → e ≡ sets → Filled e → Leads (existing sets) e
leads-path sets e p h = leads sets e h (fits-path e sets p (filled-loose e h))

-- in Closing a mask fits one that is the same but for the loose fields
pub fits-closing : (sets e : Sets) → is_closing e ≡ true → e ≡ record sets { owner = e.owner; others = e.others; victim = e.victim }
    → Loose sets → Fits e sets
fits-closing sets e c p l =
    let same = subst (λ (x : Sets). Below false e x) p (below_itself e) in
    let below : Below true e sets = assumption (same, l) in
    subst (λ (x : Bool). Below x e sets) (sym c) below

pub leads-closing : (sets e : Sets) → is_closing e ≡ true → e
    ≡ record sets { owner = e.owner; others = e.others; victim = e.victim }
    → Filled e → Loose sets
    → Leads (existing sets) e
leads-closing sets e c p h l = leads sets e h (fits-closing sets e c p l)
