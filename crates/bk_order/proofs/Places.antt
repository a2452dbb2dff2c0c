-- From place to place of an accepted image.
use Rattle.std.proofs.Common.{◌≡◌, ℕ, ◌+◌, ◌<◌, true, false, get_or, refl, sym, ap, ◌∙◌, subst, length, Option, Some, None}
use Rattle.std.specs.Prelude.{nat_lt, slice_get}
use Rattle.std.proofs.lemmas.Bool.{and_parts, ltb-true}
use Rattle.std.proofs.lemmas.Option.{slice_get-get_or}
use Rattle.bk_isa.specs.declared.form.Form.{Form}
use Rattle.bk_isa.specs.declared.form.Form.TheVariants.{Defer}
use Rattle.bk_image.specs.Images.{Parts, known}
use Rattle.bk_know.specs.declared.sets.Sets.{Sets}
use Rattle.bk_know.specs.Sets.{any_empty}
use Rattle.bk_flow.specs.Flow.{start, fall, jump, target}
use Rattle.bk_check.specs.Obligations.{unmet_here}
use Rattle.bk_check.specs.Accepted.{Accepted, or_else, fall_into, sets_at, fits_line, is_some_sets, unmet, unmet_of, unmet_at, obligation_1, obligation_2, obligation_2_target, obligation_3, obligation_4, obligation_4_target}
use Rattle.bk_check.proofs.Steps.{fall_into-more, unmet_at-sets}
use Rattle.bk_order.specs.Fits.{Fits, Leads, Stands}
use Rattle.bk_order.specs.Order.{AcceptedImagesCarry}
use Rattle.bk_order.proofs.Belows.{from_within}
use Rattle.bk_order.proofs.Meets.{first-met}
use Rattle.bk_order.proofs.Tests.{implied}
use Rattle.bk_order.proofs.Fitting.{fits-within, obligations-fall, falls-lead, jumps-lead}

-- what is owed at a place
pub record Owed (image : Parts) (p : ℕ) (f : Form) (sets : Sets) : Type 0 where
  pub first : obligation_1 p sets ≡ true
  pub second : obligation_2 image p f sets ≡ true
  pub third : obligation_3 image p f sets ≡ true
  pub fourth : obligation_4 image p f sets ≡ true
  pub here : unmet_here f sets ≡ None

pub owed : (image : Parts) (p : ℕ) (f : Form) (sets : Sets) → unmet_at image p ≡ None → slice_get image.instrs p ≡ Some f
    → sets_at image p ≡ Some sets
    → Owed image p f sets
owed image p f sets met i j =
    let all : unmet image p f sets ≡ None = sym (unmet_at-sets image p f sets i j) ∙ met in
    let m1 = first-met (obligation_1 p sets) 1 _ all in
    let m2 = first-met (obligation_2 image p f sets) 2 _ m1.1 in
    let m3 = first-met (obligation_3 image p f sets) 3 _ m2.1 in
    let m4 = first-met (obligation_4 image p f sets) 4 (unmet_here f sets) m3.1 in
    record { first = m1.0; second = m2.0; third = m3.0; fourth = m4.0; here = m4.1 }

-- what leads into a place fits the sets there: its know line, or where there is none what falls in
stands-on : (image : Parts) (p : ℕ) (line : Option Sets) (next e : Sets) → nat_lt p (length image.instrs) ≡ true
    → known image.knows p ≡ line
    → or_else line (fall_into image p) ≡ or_else line (Some next) → fits_line (Some next) line ≡ true → Fits e next
    → Stands image p e
stands-on image p None next e l k i w f =
    record {
      within = ltb-true p (length image.instrs) l;
      sets = next;
      at = ap (λ (o : Option Sets). or_else o (fall_into image p)) k ∙ i;
      fits = f;
    }
stands-on image p (Some line) next e l k i w f =
    record {
      within = ltb-true p (length image.instrs) l;
      sets = line;
      at = ap (λ (o : Option Sets). or_else o (fall_into image p)) k;
      fits = fits-within e next line f w;
    }

-- to the next place
pub falls-to : (image : Parts) (p : ℕ) (f : Form) (sets e : Sets) → Owed image p f sets → slice_get image.instrs p ≡ Some f
    → sets_at image p ≡ Some sets
    → Leads (fall f sets) e → Stands image (p + 1) e
falls-to image p f sets e o i j l =
    stands-on image (p + 1) (known image.knows (p + 1)) l.next e
    (implied (is_some_sets (fall f sets)) (nat_lt (p + 1) (length image.instrs)) (ap is_some_sets l.is) (and_parts _ _ o.second).0) refl
    (ap (or_else (known image.knows (p + 1))) (fall_into-more image p f sets i j ∙ l.is))
    (subst (λ (x : Option Sets). fits_line x (known image.knows (p + 1)) ≡ true) l.is (and_parts _ _ o.fourth).0) l.fits

-- a branch's target has a know line
lined : (line : Option Sets) (o r : Option Sets) → is_some_sets line ≡ true → or_else line o ≡ or_else line r
lined (Some line) o r e = refl
lined None o r e = absurd (cc)

-- to a branch's target
pub jumps-to : (image : Parts) (p to : ℕ) (f : Form) (sets e : Sets) → Owed image p f sets → target f ≡ Some to
    → Leads (jump f sets) e
    → Stands image to e
jumps-to image p to f sets e o t l =
    let second = subst (λ (x : Option ℕ). obligation_2_target image x ≡ true) t (and_parts _ _ o.second).1 in
    let fourth = subst (λ (x : Option ℕ). obligation_4_target image sets f x ≡ true) t (and_parts _ _ o.fourth).1 in
    let there = and_parts (nat_lt to (length image.instrs)) (is_some_sets (known image.knows to)) second in
    stands-on image to (known image.knows to) l.next e there.0 refl
    (lined (known image.knows to) (fall_into image to) (Some l.next) there.1)
    (subst (λ (x : Option Sets). fits_line x (known image.knows to) ≡ true) l.is fourth) l.fits

-- an accepted place with an instruction has sets
sets-by : (image : Parts) (p : ℕ) (f : Form) (x : Option Sets) → unmet_of image p (Some f) x ≡ None
    → (sets : Sets) × (x ≡ Some sets)
sets-by image p f (Some sets) e = (sets, refl)
sets-by image p f None e = absurd (cc)

-- what enters at the start stands at place 0
starts : (image : Parts) → Accepted image → 0 < length image.instrs → Stands image 0 start
starts image accepted l =
    let f = get_or image.instrs 0 Defer in
    let at = slice_get-get_or image.instrs 0 Defer l in
    let s = sets-by image 0 f (sets_at image 0) (ap (λ (o : Option Form). unmet_of image 0 o (sets_at image 0)) (sym at)
    ∙ accepted 0 l) in
    record { within = l; sets = s.0; at = s.1; fits = from_within start s.0 (owed image 0 f s.0 (accepted 0 l) at s.1).first }

-- the instruction where a mask stands
module _ (image : Parts) (accepted : Accepted image) (p : ℕ) (e : Sets) (f : Form) (stands : Stands image p e)
    (at : slice_get image.instrs p ≡ Some f) where
  pub owed-there : Owed image p f stands.sets
  owed-there = owed image p f stands.sets (accepted p stands.within) at stands.at

  pub meets : any_empty e ≡ false → unmet_here f e ≡ None
  meets some = obligations-fall f e stands.sets stands.fits some owed-there.here

  pub falls : (next : Sets) → any_empty e ≡ false → any_empty next ≡ false → Leads (fall f e) next → Stands image (p + 1) next
  falls next some there l =
      falls-to image p f stands.sets next owed-there at stands.at (falls-lead f e stands.sets next stands.fits some there owed-there.here l)

  pub jumps : (to : ℕ) (next : Sets) → any_empty e ≡ false → any_empty next ≡ false → target f ≡ Some to
      → Leads (jump f e) next
      → Stands image to next
  jumps to next some there t l =
      jumps-to image p to f stands.sets next owed-there t (jumps-lead f e stands.sets next stands.fits some there owed-there.here l)

pub accepted-images-carry : AcceptedImagesCarry
accepted-images-carry image accepted = record {
  start = starts image accepted;
  meets = λ p e f stands at. meets image accepted p e f stands at;
  falls = λ p e next f stands at. falls image accepted p e f stands at next;
  jumps = λ p to e next f stands at. jumps image accepted p e f stands at to next;
}
