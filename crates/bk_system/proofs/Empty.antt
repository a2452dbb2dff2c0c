-- What is empty and idle, from what the code has tested.
use Rattle.std.proofs.Common.{◌≡◌, ◌∙◌, ℕ, ◌<◌, List, [], ◌∷◌, Bool, Option, Some, None, refl, ap, sym}
use Rattle.std.specs.Prelude.{is_none, is_some, not, slice_get, ◌&&◌}
use Rattle.std.specs.Option.{option_copied}
use Rattle.std.specs.Borrow.{Bor}
use Rattle.bk_base.specs.Counting.{all_below, is_nil}
use Rattle.bk_base.specs.Places.{Shape}
use Rattle.bk_base.specs.declared.config.TheConstants.{MOST_CACHES}
use Rattle.bk_isa.specs.declared.form.Form.{Form}
use Rattle.bk_msg.specs.declared.row.Row.{Row}
use Rattle.bk_lce.specs.declared.line.InProgress.{InProgress}
use Rattle.bk_system.specs.Events.{is_wait}
use Rattle.bk_system.specs.Numbering.{fill_place, fills_of}
use Rattle.bk_system.specs.Runs.{is_quiet}
use Rattle.bk_system.specs.State.{State}
use Rattle.bk_system.proofs.Fills.{fills-at}

pub none-some : (o : Option InProgress) (b : Bool) → b ≡ is_some o → is_none o ≡ not b
none-some None b e = ap not (sym e)
none-some (Some x) b e = ap not (sym e)

copied-some : (r : Option (Bor Row)) → is_some (option_copied r) ≡ is_some r
copied-some None = refl
copied-some (Some x) = refl

nil-first : (xs : List Row) → is_nil xs ≡ not (is_some (slice_get xs 0))
nil-first [] = refl
nil-first (x ∷ xs) = refl

-- a fill channel has a head or is empty
pub fills-nil : (q : ℕ → List Row) (to from place : ℕ) (r : Option (Bor Row)) (b : Bool) → to < MOST_CACHES → from < MOST_CACHES
    → place ≡ fill_place to from
    → option_copied r ≡ slice_get (q place) 0 → b ≡ is_some r → is_nil (fills_of q to from) ≡ not b
fills-nil q to from place r b l m p e h =
    nil-first (fills_of q to from)
    ∙ ap (λ (o : Option Row). not (is_some o)) (ap (λ (ms : List Row). slice_get ms 0) (fills-at q to from l m
    ∙ ap q (sym p)) ∙ sym e)
    ∙ ap not (copied-some r ∙ sym h)

one-below : (n : ℕ) (test : ℕ → Bool) → n ≡ 1 → all_below n test ≡ test 0
one-below n test e = rw e refl

-- the parts of quiet
pub quiet-of : (k : Shape) (program : List Form) (s : State) (requests commands responses fills memout memin waits : Bool) (n number : ℕ)
    (out answers : ℕ → Bool)
    → requests ≡ all_below k.caches (λ c. is_nil (s.request c)) → commands ≡ all_below k.caches (λ c. is_nil (s.command c))
    → responses ≡ all_below k.caches (λ c. is_nil (s.response c))
    → fills ≡ all_below k.caches (λ to. all_below k.caches (λ from. is_nil (s.fill to from)))
    → memout ≡ all_below n out → n ≡ 1 → out 0 ≡ is_nil s.memout → memin ≡ all_below number answers → number ≡ 1
    → answers 0 ≡ is_nil s.memin → waits ≡ is_wait (slice_get program s.engine.core.place)
    → (requests && commands && responses && fills && memout && memin && waits) ≡ is_quiet k program s
quiet-of k program s requests commands responses fills memout memin waits n number out answers a b c f d dn d0 e en e0 w =
    let x : memout ≡ is_nil s.memout = d ∙ one-below n out dn ∙ d0 in
    let y : memin ≡ is_nil s.memin = e ∙ one-below number answers en ∙ e0 in
    rw (a, b, c, f, x, y, w) refl
