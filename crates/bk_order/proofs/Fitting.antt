-- A mask that fits another: obligations fall to it, and where its edges lead, those of the other lead too.
use Rattle.std.proofs.Common.{◌≡◌, ℕ, ◌==◌, Bool, true, false, ◌&&◌, refl, subst, Option, None, Some}
use Rattle.std.specs.Prelude.{if◌then◌else◌}
use Rattle.std.proofs.lemmas.Bool.{and_parts, eqb-true, eq-eqb}
use Rattle.bk_isa.specs.declared.form.Form.{Form}
use Rattle.bk_isa.specs.declared.form.Form.TheVariants as forms
use Rattle.bk_know.specs.declared.sets.Sets.{Sets}
use Rattle.bk_know.specs.Sets.{within, any_empty}
use Rattle.bk_isa.specs.declared.operand.TheConstants.{WHOSE_OWN, WHOSE_OWNER}
use Rattle.bk_know.specs.declared.values.TheConstants.{STAGE_HELD, STAGE_CLOSING, SUMM_SUM}
use Rattle.bk_flow.specs.Flow.{lacks, idle_with, left, fall, jump, existing, keep_values, lose_values}
use Rattle.bk_check.specs.Obligations.{is_summed, unmet_here, obligation_23}
use Rattle.bk_order.specs.Below.{Below}
use Rattle.bk_order.specs.Fits.{is_closing, Fits, Leads, LeadsOver}
use Rattle.bk_order.specs.Order.{ObligationsGoDown, FlowIsMonotone}
use Rattle.bk_order.proofs.Subsets.{itself, one-down, lacks-down}
use Rattle.bk_order.proofs.Filled.{filled, filled-some}
use Rattle.bk_order.proofs.Belows.{filled_up, from_within, to_within, below_as, below_chain}
use Rattle.bk_order.proofs.Meets.{Met, met}
use Rattle.bk_order.proofs.Tests.{implied}
use Rattle.bk_order.proofs.Obliged.{whole_at, whole-by, unmet_down}
use Rattle.bk_order.proofs.Flows.{reads_aside, Edge, existing-is, edge-up, idle_with-up, fall-up, jump-up}

-- FITS

-- one after the other
pub fits-chain : (a b sets : Sets) → any_empty a ≡ false → Fits a b → Fits b sets → Fits a sets
fits-chain a b sets some p q =
    below_chain (is_closing a) (is_closing b) a b sets (one-down 3 a.stage b.stage p.stage (filled a some).stage) p q

-- what fits a mask fits each mask that this one is within
pub fits-within : (e sets wider : Sets) → Fits e sets → within sets wider ≡ true → Fits e wider
fits-within e sets wider f w = below_chain (is_closing e) false e sets wider (λ i. absurd (cc)) f (from_within sets wider w)

-- and what it fits has values too
pub fits-some : (e sets : Sets) → Fits e sets → any_empty e ≡ false → any_empty sets ≡ false
fits-some e sets f some = filled-some sets (filled_up (is_closing e) e sets f (filled e some))

-- EDGES HAVE VALUES

some-edge : (sets r : Sets) → existing sets ≡ Some r → any_empty r ≡ false
some-edge sets r q = let i = existing-is sets r q in subst (λ (z : Sets). any_empty z ≡ false) i.1 i.0

pub fall-some : (f : Form) (sets r : Sets) → fall f sets ≡ Some r → any_empty r ≡ false
fall-some (forms.Bi to) sets r q = absurd (cc)
fall-some (forms.Bk k v to) sets r q = some-edge (lose_values sets k v) r q
fall-some f sets r q = some-edge (left f sets) r q

pub jump-some : (f : Form) (sets r : Sets) → jump f sets ≡ Some r → any_empty r ≡ false
jump-some (forms.Bk k v to) sets r q = some-edge (keep_values sets k v) r q
jump-some f sets r q = some-edge sets r q

-- THE STAGE STAYS CLOSING, but by `fin`

abbrev is_fin : Form → Bool
is_fin forms.Fin = true
is_fin _ = false

stage-of : (b : Bool) (p q : Sets) (n : ℕ) → p.stage ≡ n → q.stage ≡ n → (if b then p else q).stage ≡ n
stage-of true p q n i j = i
stage-of false p q n i j = j

not-closing : (n : ℕ) (P : Type 0) → n ≡ STAGE_CLOSING → lacks n STAGE_CLOSING ≡ true → P
not-closing n P i e = absurd (let no = subst (λ m. lacks m STAGE_CLOSING ≡ true) i e in cc)

left-closing : (sets : Sets) (f : Form) → sets.stage ≡ STAGE_CLOSING → obligation_23 f sets ≡ true → is_fin f ≡ false
    → (left f sets).stage ≡ STAGE_CLOSING
left-closing sets (forms.Wds a x) i o e = stage-of (a == WHOSE_OWN) _ _ STAGE_CLOSING i i
left-closing sets (forms.Stwb a x) i o e = stage-of (a == WHOSE_OWN) _ _ STAGE_CLOSING i (stage-of (a == WHOSE_OWNER) _ _ STAGE_CLOSING i i)
left-closing sets (forms.Blk x) i o e = refl
left-closing sets forms.Wake i o e = refl
left-closing sets (forms.Tr x y) i o e = refl
left-closing sets forms.Ucblk i o e = refl
left-closing sets forms.Ucdone i o e = refl
left-closing sets forms.Done i o e = refl
left-closing sets (forms.Popq a) i o e = not-closing sets.stage _ i o
left-closing sets forms.Defer i o e = not-closing sets.stage _ i o
left-closing sets forms.Fin i o e = absurd (cc)
left-closing sets f i o e = i

edge-closing : (sets r : Sets) → existing sets ≡ Some r → sets.stage ≡ STAGE_CLOSING → r.stage ≡ STAGE_CLOSING
edge-closing sets r q i = subst (λ (z : Sets). z.stage ≡ STAGE_CLOSING) (existing-is sets r q).1 i

fall-closing : (sets r : Sets) (f : Form) → sets.stage ≡ STAGE_CLOSING → obligation_23 f sets ≡ true → is_fin f ≡ false
    → fall f sets ≡ Some r → r.stage ≡ STAGE_CLOSING
fall-closing sets r (forms.Bi to) i o e q = absurd (cc)
fall-closing sets r (forms.Bk k v to) i o e q = edge-closing (lose_values sets k v) r q i
fall-closing sets r f i o e q = edge-closing (left f sets) r q (left-closing sets f i o e)

jump-closing : (sets r : Sets) (f : Form) → sets.stage ≡ STAGE_CLOSING → jump f sets ≡ Some r → r.stage ≡ STAGE_CLOSING
jump-closing sets r (forms.Bk k v to) i q = edge-closing (keep_values sets k v) r q i
jump-closing sets r f i q = edge-closing sets r q i

-- WHERE EDGES LEAD

-- what is below an edge fits it, where the stage stays Closing
refit : (b : Bool) (r : Sets) (edge : Option Sets) → any_empty r ≡ false → (b ≡ true → r.stage ≡ STAGE_CLOSING)
    → Edge b r edge
    → Leads edge r
refit b r edge some closing q =
    record {
      next = q.to;
      is = q.exists;
      fits = below_as b (is_closing r) r q.to (λ i. eq-eqb r.stage STAGE_CLOSING (closing i)) (filled r some) q.below;
    }

-- what fits a mask fits where that one leads
over : (edge : Option Sets) (r next : Sets) → any_empty next ≡ false → Fits next r → Leads edge r → Leads edge next
over edge r next some f l = record { next = l.next; is = l.is; fits = fits-chain next r l.next some f l.fits }

-- the upper mask, with the lower one's owner, others and victim
abbrev beside : Sets → Sets → Sets
beside sets wider = record wider { owner = sets.owner; others = sets.others; victim = sets.victim }

below-beside : (test : Bool) (sets wider : Sets) → Below test sets wider → Below false sets (beside sets wider)
below-beside test sets wider b = search (itself, b)

-- `fin` leaves nothing of the loose fields
fin-leads : (test : Bool) (sets wider r : Sets) → Below test sets wider → fall forms.Fin sets ≡ Some r
    → Leads (fall forms.Fin wider) r
fin-leads test sets wider r b q =
    refit false r (fall forms.Fin wider) (fall-some forms.Fin sets r q) (λ i. absurd (cc))
    (edge-up false (idle_with sets) (idle_with wider) r q
    (λ _. idle_with-up false sets (beside sets wider) (below-beside test sets wider b)))

module _ (e sets : Sets) (fits : Fits e sets) (some : any_empty e ≡ false) where
  closing : is_closing e ≡ true → e.stage ≡ STAGE_CLOSING
  closing i = eqb-true e.stage STAGE_CLOSING i

  whole-in : (b : Bool) → is_closing e ≡ b → lacks e.stage STAGE_CLOSING ≡ true → b ≡ false
  whole-in false i o = refl
  whole-in true i o = not-closing e.stage _ (closing i) o

  -- what reads owner, others or victim doesn't stand in Closing
  reads-whole : (f : Form) → Met f sets → reads_aside f ≡ true → is_closing e ≡ false
  reads-whole (forms.Inv a) m r = whole_at (is_closing e) e sets fits (filled e some) (forms.Inv a) closing m.o11 refl
  reads-whole (forms.Popq a) m r = whole-in (is_closing e) refl (lacks-down e.stage sets.stage STAGE_CLOSING fits.stage m.o23)
  reads-whole (forms.Bk k v to) m r =
      let summed = implied (is_summed k) ((sets.stage == STAGE_HELD) && (sets.summ == SUMM_SUM)) r (and_parts _ _ m.o10).1 in
      whole-by (is_closing e) e.stage closing (one-down 2 e.stage sets.stage fits.stage (filled e some).stage (and_parts _ _ summed).0)
  reads-whole f m r = absurd (cc)

  unmet-down : (f : Form) → unmet_here f sets ≡ None → unmet_here f e ≡ None
  unmet-down f o = unmet_down (is_closing e) e sets fits (filled e some) f closing o

  fall-leads : (f : Form) (r : Sets) → unmet_here f sets ≡ None → fall f e ≡ Some r → Leads (fall f sets) r
  fall-leads forms.Fin r o q = fin-leads (is_closing e) e sets r fits q
  fall-leads f r o q =
      refit (is_closing e) r (fall f sets) (fall-some f e r q) (λ i. fall-closing e r f (closing i) (met f e (unmet-down f o)).o23 refl q)
      (fall-up (is_closing e) e sets fits (filled e some) f r (reads-whole f (met f sets o)) q)

  jump-leads : (f : Form) (r : Sets) → unmet_here f sets ≡ None → jump f e ≡ Some r → Leads (jump f sets) r
  jump-leads f r o q =
      refit (is_closing e) r (jump f sets) (jump-some f e r q) (λ i. jump-closing e r f (closing i) q)
      (jump-up (is_closing e) e sets fits (filled e some) f r (reads-whole f (met f sets o)) q)

-- THE LAWS

-- obligations fall to a mask that fits
pub obligations-fall : (f : Form) (e sets : Sets) → Fits e sets → any_empty e ≡ false → unmet_here f sets ≡ None
    → unmet_here f e ≡ None
obligations-fall f e sets fits some o = unmet-down e sets fits some f o

-- where its edge leads, that of the other leads
pub falls-lead : (f : Form) (e sets next : Sets) → Fits e sets → any_empty e ≡ false → any_empty next ≡ false
    → unmet_here f sets ≡ None
    → Leads (fall f e) next → Leads (fall f sets) next
falls-lead f e sets next fits some there o l = over (fall f sets) l.next next there l.fits (fall-leads e sets fits some f l.next o l.is)

pub jumps-lead : (f : Form) (e sets next : Sets) → Fits e sets → any_empty e ≡ false → any_empty next ≡ false
    → unmet_here f sets ≡ None
    → Leads (jump f e) next → Leads (jump f sets) next
jumps-lead f e sets next fits some there o l = over (jump f sets) l.next next there l.fits (jump-leads e sets fits some f l.next o l.is)

-- and for masks within each other
module _ (f : Form) (sets wider : Sets) (p : within sets wider ≡ true) (some : any_empty sets ≡ false) where
  pub unmet-within : unmet_here f wider ≡ None → unmet_here f sets ≡ None
  unmet-within o = unmet_down false sets wider (from_within sets wider p) (filled sets some) f (λ i. absurd (cc)) o

  over-edge : (r : Sets) (edge : Option Sets) → Edge false r edge → LeadsOver edge r
  over-edge r edge q = record { next = q.to; is = q.exists; below = to_within r q.to q.below }

  pub fall-within : (r : Sets) → fall f sets ≡ Some r → LeadsOver (fall f wider) r
  fall-within r q = over-edge r (fall f wider) (fall-up false sets wider (from_within sets wider p) (filled sets some) f r (λ i. refl) q)

  pub jump-within : (r : Sets) → jump f sets ≡ Some r → LeadsOver (jump f wider) r
  jump-within r q = over-edge r (jump f wider) (jump-up false sets wider (from_within sets wider p) (filled sets some) f r (λ i. refl) q)

pub obligations-go-down : ObligationsGoDown
obligations-go-down = record { within = unmet-within; fits = obligations-fall }

pub flow-is-monotone : FlowIsMonotone
flow-is-monotone =
    record {
      falls = λ f s t r p some. fall-within f s t p some r;
      jumps = λ f s t r p some. jump-within f s t p some r;
      falls_fit = falls-lead;
      jumps_fit = jumps-lead;
    }
