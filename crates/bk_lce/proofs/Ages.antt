-- The oldest way among those that were looked at.
use Rattle.std.proofs.Common.{◌≡◌, ℕ, ◌+◌, ◌<◌, ◌≤◌, List, length, slice_index_or, ap, sym, subst, inl, inr, arith}
use Rattle.std.proofs.lemmas.Bool.{cases_eq}
use Rattle.std.proofs.lemmas.Option.{slice_get-get_or, get_or_from_slice_get, slice_get_within}
use Rattle.std.proofs.lemmas.List.{get_or_default}
use Rattle.bk_base.specs.declared.coh.Coh.TheVariants.{I}
use Rattle.bk_lce.specs.declared.line.WayView.{WayView}
use Rattle.bk_lce.specs.Policies.{IsOfGreatestAge}

abbrev any_view : WayView
any_view = record { state = I; age = 0 }

abbrev pub age_at : List WayView → ℕ → ℕ
age_at vs i = (slice_index_or vs i any_view).age

-- of the first n ways w is the oldest, and the least such
pub record IsOldestBelow (vs : List WayView) (n w : ℕ) : Type 0 where
  pub within : w < n
  pub greatest : (i : ℕ) → i < n → age_at vs i ≤ age_at vs w
  pub least : (i : ℕ) → i < w → age_at vs i < age_at vs w

pub oldest_of_one : (vs : List WayView) → IsOldestBelow vs 1 0
oldest_of_one vs = record {
  within = omega arith;
  greatest = λ i l. let same : i ≡ 0 = omega arith in subst (λ j. age_at vs j ≤ age_at vs 0) (sym same) (omega arith);
  least = λ i l. absurd (omega arith);
}

-- the next way is older
pub oldest_next : (vs : List WayView) (n w : ℕ) → IsOldestBelow vs n w → age_at vs w < age_at vs n → IsOldestBelow vs (n + 1) n
oldest_next vs n w h l = record {
  within = omega arith;
  greatest = λ i k. elim (cases_eq i n) [
    | inl same ↦ subst (λ j. age_at vs j ≤ age_at vs n) (sym same) (omega arith)
    | inr other ↦ omega (arith, h.greatest i (omega arith))
  ];
  least = λ i k. omega (arith, h.greatest i k);
}

-- or it isn't
pub oldest_stays : (vs : List WayView) (n w : ℕ) → IsOldestBelow vs n w → age_at vs n ≤ age_at vs w → IsOldestBelow vs (n + 1) w
oldest_stays vs n w h l = record {
  within = omega (arith, h.within);
  greatest = λ i k. elim (cases_eq i n) [
    | inl same ↦ subst (λ j. age_at vs j ≤ age_at vs w) (sym same) l
    | inr other ↦ h.greatest i (omega arith)
  ];
  least = h.least;
}

-- the age that was read
pub age_read : (vs : List WayView) (i : ℕ) (d : WayView) → i < length vs → (slice_index_or vs i d).age ≡ age_at vs i
age_read vs i d l = ap (λ (v : WayView). v.age) (get_or_default vs i d any_view l)

-- of all
pub oldest_of_all : (vs : List WayView) (w : ℕ) → IsOldestBelow vs (length vs) w → IsOfGreatestAge vs w
oldest_of_all vs w h = record {
  view = slice_index_or vs w any_view;
  is = slice_get-get_or vs w any_view h.within;
  greatest = λ i v e. subst (λ (x : WayView). x.age ≤ age_at vs w) (get_or_from_slice_get vs i v any_view e)
      (h.greatest i (slice_get_within vs i v e));
  least = λ i v l e. subst (λ (x : WayView). x.age < age_at vs w) (get_or_from_slice_get vs i v any_view e) (h.least i l);
}
