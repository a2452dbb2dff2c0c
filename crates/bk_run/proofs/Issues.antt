-- The Issues of a list of events, by cache, as a loop collects them.
use Rattle.std.proofs.Common.{◌≡◌, ℕ, ◌+◌, ◌<◌, List, [], ◌∷◌, ◌++◌, Bool, true, false, refl, ap, sym, ◌∙◌, length, get_or, drop, append_assoc}
use Rattle.std.specs.Prelude.{◌==◌, if◌then◌else◌}
use Rattle.bk_base.specs.declared.op.Op.{Op}
use Rattle.bk_system.specs.declared.event.Event.{Event}
use Rattle.bk_system.specs.declared.event.Event.TheVariants.{Issue}
use Rattle.bk_system.specs.Runs.{issued_by}
use Rattle.bk_run.proofs.Scheduling.{drop-here}

if-append : (b : Bool) (op : Op) (zs xs ys : List Op) → zs ≡ xs ++ ys
    → (if b then op ∷ zs else zs) ≡ (if b then op ∷ xs else xs) ++ ys
if-append true op zs xs ys e = ap (λ (ops : List Op). op ∷ ops) e
if-append false op zs xs ys e = e

issued-append : (c : ℕ) (xs ys : List Event) → issued_by c (xs ++ ys) ≡ issued_by c xs ++ issued_by c ys
issued-append c [] ys = refl
issued-append c (Issue at way op ∷ xs) ys =
    if-append (at == c) op (issued_by c (xs ++ ys)) (issued_by c xs) (issued_by c ys) (issued-append c xs ys)
issued-append c (event ∷ xs) ys = issued-append c xs ys

module _ (events : List Event) (i : ℕ) (event : Event) (issues : List Event) (c : ℕ) where
  -- an event is put to those before it
  pub issues-more : i < length events → event ≡ get_or events i event
      → issued_by c issues ++ issued_by c (drop i events) ≡ issued_by c events
      → issued_by c (issues ++ event ∷ []) ++ issued_by c (drop (i + 1) events) ≡ issued_by c events
  issues-more l e so_far =
      let rest = drop (i + 1) events in
      ap (λ (ops : List Op). ops ++ issued_by c rest) (issued-append c issues (event ∷ []))
      ∙ append_assoc (issued_by c issues) (issued_by c (event ∷ [])) (issued_by c rest)
      ∙ ap (λ (ops : List Op). issued_by c issues ++ ops) (sym (issued-append c (event ∷ []) rest))
      ∙ ap (λ (es : List Event). issued_by c issues ++ issued_by c es) (sym (drop-here events i event l e)) ∙ so_far

  -- an event that no cache issues is passed over
  pub issues-same : i < length events → event ≡ get_or events i event → issued_by c (event ∷ []) ≡ []
      → issued_by c issues ++ issued_by c (drop i events) ≡ issued_by c events
      → issued_by c issues ++ issued_by c (drop (i + 1) events) ≡ issued_by c events
  issues-same l e none so_far =
      let rest = drop (i + 1) events in
      let same : issued_by c rest ≡ issued_by c (event ∷ rest) =
      sym (issued-append c (event ∷ []) rest ∙ ap (λ (ops : List Op). ops ++ issued_by c rest) none) in
      ap (λ (ops : List Op). issued_by c issues ++ ops) same
      ∙ ap (λ (es : List Event). issued_by c issues ++ issued_by c es) (sym (drop-here events i event l e)) ∙ so_far

pub no-issue : (c : ℕ) (event : Event) → ((at way : ℕ) (op : Op) → event ≡ Issue at way op → ⊥)
    → issued_by c (event ∷ []) ≡ []
no-issue c (Issue at way op) h = absurd (h at way op refl)
no-issue c event h = refl
