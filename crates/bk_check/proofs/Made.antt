-- What each image has by its types, as the pass reads it.
use Rattle.std.proofs.Common.{◌≡◌, ℕ, ◌+◌, ◌<◌, Bool, true, false, refl, subst, List, [], ◌∷◌, length, Option, Some, None, IfSome, arith}
use Rattle.std.specs.Prelude.{nat_le, ◌==◌, if◌then◌else◌, slice_get}
use Rattle.std.proofs.lemmas.Bool.{and_parts, ltb-true, eqb-true}
use Rattle.std.proofs.lemmas.Option.{slice_get_within, same_Some}
use Rattle.bk_isa.specs.declared.form.Form.{Form}
use Rattle.bk_isa.specs.Words.{IsInRange}
use Rattle.bk_know.specs.declared.sets.Sets.{Sets}
use Rattle.bk_know.specs.Sets.{any_empty}
use Rattle.bk_image.specs.Images.{Parts, Line, are_lines, known}
use Rattle.bk_check.specs.Accepted.{IsMade}

-- what is said of a value that is there
pub of_some : {A : Type 0} (P : A → Type 0) (o : Option A) (x : A) → IfSome o P → o ≡ Some x → P x
of_some P (Some y) x h e = subst P (same_Some y x e) h
of_some P None x h e = absurd (cc)

-- a know line stands at the place of an instruction
known_below : (count least : ℕ) (lines : List Line) → are_lines count least lines ≡ true → (p : ℕ) (sets : Sets)
    → known lines p ≡ Some sets → p < count
known_below count least [] h p sets e = absurd (cc)
known_below count least (k ∷ ks) h p sets e =
    let parts = and_parts _ (are_lines count (k.0 + 1) ks) h in
    here (k.0 == p) refl (ltb-true k.0 count (and_parts (nat_le least k.0) _ parts.0).1) (known_below count (k.0 + 1) ks parts.1 p sets) e
  where
    here : (b : Bool) → (k.0 == p) ≡ b → k.0 < count → (known ks p ≡ Some sets → p < count)
        → (if b then Some k.1 else known ks p) ≡ Some sets → p < count
    here true i l later e = let at = eqb-true k.0 p i in omega (arith, at, l)
    here false i l later e = later e

-- once each place is read
pub made : (image : Parts) → 0 < length image.instrs → are_lines (length image.instrs) 0 image.knows ≡ true
    → ((p : ℕ) → p < length image.instrs → (f : Form) → slice_get image.instrs p ≡ Some f → IsInRange f)
    → ((p : ℕ) → p < length image.instrs → (sets : Sets) → known image.knows p ≡ Some sets → any_empty sets ≡ false)
    → IsMade image
made image some lines forms knows = record {
  some = some;
  forms = λ p f i. forms p (slice_get_within image.instrs p f i) f i;
  knows = λ p sets k. knows p (known_below (length image.instrs) 0 image.knows lines p sets k) sets k;
}
