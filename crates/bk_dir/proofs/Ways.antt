-- The ways of a segment: those that the configuration doesn't have hold nothing.
use Rattle.std.proofs.Common.{◌≡◌, inl, inr, ℕ, zero, suc, ◌+◌, ◌-◌, ◌<◌, ◌≤◌, List, Bool, true, false, Option, Some, None, refl, ap, ◌∙◌, arith, add-zero}
use Rattle.std.specs.Prelude.{◌&&◌, ◌||◌, is_some, if◌then◌else◌}
use Rattle.std.proofs.lemmas.Bool.{cases_lt, both_ways}
use Rattle.bk_base.specs.Places.{Shape}
use Rattle.bk_base.specs.Counting.{first_below, least_below, or_else}
use Rattle.bk_base.specs.declared.config.TheConstants.{MOST_CACHES}
use Rattle.bk_dir.specs.declared.entry.Entry.{Entry}
use Rattle.bk_dir.specs.Contents.{empty_entry}
use Rattle.bk_dir.specs.Segments.{entry_in}
use Rattle.bk_dir.specs.Lists.{place_of, entries_of, AreFields}
use Rattle.bk_dir.specs.Summaries.{holds}
use Rattle.bk_dir.proofs.Lists.{entries_of-at}

or_else-none : {X : Type 0} (x : Option X) → or_else x None ≡ x
or_else-none None = refl
or_else-none (Some x) = refl

first_below-longer : {X : Type 0} (n more : ℕ) (f : ℕ → Option X) → ((i : ℕ) → n ≤ i → f i ≡ None)
    → first_below (n + more) f ≡ first_below n f
first_below-longer n zero f h = ap (λ m. first_below m f) (add-zero n)
first_below-longer n (suc more) f h =
    let e : n + suc more ≡ suc (n + more) = omega arith in
    ap (λ m. first_below m f) e ∙ ap (λ x. or_else (first_below (n + more) f) x) (h (n + more) (omega arith))
    ∙ or_else-none (first_below (n + more) f) ∙ first_below-longer n more f h

-- the least way of eight is the least of as many as there are, where no other way passes
pub least-of-eight : (n : ℕ) (test : ℕ → Bool) → n ≤ 8 → ((i : ℕ) → n ≤ i → test i ≡ false)
    → least_below 8 test ≡ least_below n test
least-of-eight n test few h =
    let e : 8 ≡ n + (8 - n) = omega arith in
    ap (λ m. least_below m test) e
    ∙ first_below-longer n (8 - n) (λ i. if test i then Some i else None) (λ i l. rw (h i l) refl)

-- a way that isn't there
entry-off : (k : Shape) (xs : List (List ℕ)) (c g w : ℕ) → AreFields k xs → c < MOST_CACHES → k.ways ≤ w
    → entries_of xs c g w ≡ empty_entry
entry-off k xs c g w fields lc l = entries_of-at xs c g w lc ∙ ap entry_in ((fields (place_of c g) w).there l)

pub holds-off : (k : Shape) (xs : List (List ℕ)) (c g tag w : ℕ) → AreFields k xs → c < MOST_CACHES → k.ways ≤ w
    → holds (entries_of xs c g w) tag ≡ false
holds-off k xs c g tag w fields lc l = ap (λ (x : Entry). holds x tag) (entry-off k xs c g w fields lc l)

-- a way that holds a block is there
pub way-there : (k : Shape) (xs : List (List ℕ)) (c g tag w : ℕ) → AreFields k xs → c < MOST_CACHES
    → holds (entries_of xs c g w) tag ≡ true
    → w < k.ways
way-there k xs c g tag w fields lc h =
    elim (cases_lt w k.ways) [
      | inl less ↦ less
      | inr more ↦ absurd (both_ways (holds (entries_of xs c g w) tag) (holds-off k xs c g tag w fields lc more) h)
    ]

-- a test of what holds a block, with a further test of it
pub also-off : (k : Shape) (xs : List (List ℕ)) (c g tag w : ℕ) (also : Bool) → AreFields k xs → c < MOST_CACHES → k.ways ≤ w
    → (holds (entries_of xs c g w) tag && also) ≡ false
also-off k xs c g tag w also fields lc l = rw (holds-off k xs c g tag w fields lc l) refl

pub some-more : (found : Option ℕ) (test : Bool) (w : ℕ)
    → (is_some found || test) ≡ is_some (or_else found (if test then Some w else None))
some-more None true w = refl
some-more None false w = refl
some-more (Some v) test w = refl
