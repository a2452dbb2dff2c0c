-- What a search among know lines finds, since their places ascend.
use Rattle.std.proofs.Common.{◌≡◌, ℕ, zero, suc, ◌+◌, ◌<◌, ◌≤◌, ◌≢◌, true, List, [], ◌∷◌, length, get_or, Some, None, Result, Ok, Err, IfOk, IfErr, refl, sym, ap, ◌∙◌, arith}
use Rattle.std.specs.List.Sorted.{IsSearchInRange, IsBinarySearchResult, IsNonDecreasingBy}
use Rattle.std.specs.Ordering.{nat_cmp, ordering_index}
use Rattle.std.proofs.lemmas.Cmp.{ranked}
use Rattle.std.proofs.lemmas.List.Sorted.{IsNonDecreasingBy-from_default}
use Rattle.std.proofs.lemmas.Bool.Decides.{nat_tests}
use Rattle.bk_know.specs.Sets.{idle_base}
use Rattle.bk_image.specs.Images.{Line, are_lines, known}
use Rattle.bk_image.proofs.KnowLines.{stands_of}

-- the place of a line, and of lines past the end one that serves as any
abbrev at_end : Line
at_end = (0, idle_base)

abbrev place_of : List Line → ℕ → ℕ
place_of ks i = (get_or ks i at_end).0

least_le : (n least : ℕ) (ks : List Line) → are_lines n least ks ≡ true → (i : ℕ) → i < length ks → least ≤ place_of ks i
least_le n least [] h i lt = absurd (omega arith)
least_le n least (k ∷ ks) h zero lt = (stands_of n least k ks h).0.0
least_le n least (k ∷ ks) h (suc i) lt =
    let s = stands_of n least k ks h in
    omega (arith, s.0.0, least_le n (k.0 + 1) ks s.1 i (omega arith))

rises : (n least : ℕ) (ks : List Line) → are_lines n least ks ≡ true → (i j : ℕ) → i < j → j < length ks
    → place_of ks i < place_of ks j
rises n least [] h i j lt in_range = absurd (omega arith)
rises n least (k ∷ ks) h i zero lt in_range = absurd (omega arith)
rises n least (k ∷ ks) h zero (suc j) lt in_range =
    omega (arith, least_le n (k.0 + 1) ks (stands_of n least k ks h).1 j (omega arith))
rises n least (k ∷ ks) h (suc i) (suc j) lt in_range =
    rises n (k.0 + 1) ks (stands_of n least k ks h).1 i j (omega arith) (omega arith)

-- the line at an index is what is known at its place
known_at : (n least : ℕ) (ks : List Line) → are_lines n least ks ≡ true → (i : ℕ) → i < length ks
    → known ks (place_of ks i) ≡ Some (get_or ks i at_end).1
known_at n least [] h i lt = absurd (omega arith)
known_at n least (k ∷ ks) h zero lt = grind (arith, nat_tests)
known_at n least (k ∷ ks) h (suc i) lt =
    let s = stands_of n least k ks h in
    let above = least_le n (k.0 + 1) ks s.1 i (omega arith) in
    grind (arith, nat_tests, above, known_at n (k.0 + 1) ks s.1 i (omega arith))

-- where no line has the place, nothing is known
known_nowhere : (ks : List Line) (place : ℕ) → ((i : ℕ) → i < length ks → place_of ks i ≢ place) → known ks place ≡ None
known_nowhere [] place none = refl
known_nowhere (k ∷ ks) place none =
    grind (arith, nat_tests, none 0 (omega arith), known_nowhere ks place (λ i lt. none (suc i) (omega arith)))

module _ (n : ℕ) (ks : List Line) (ascends : are_lines n 0 ks ≡ true) (place : ℕ) where
  -- the comparisons with a place rise along the lines, as a binary search asks
  comparisons_rise : IsNonDecreasingBy (λ line. ordering_index (nat_cmp line.0 place)) ks
  comparisons_rise = IsNonDecreasingBy-from_default (λ line. ordering_index (nat_cmp line.0 place)) ks at_end (λ i j le in_range.
      let places_rise : place_of ks i ≤ place_of ks j = grind (
        arith,
        rises n 0 ks ascends i j,
        λ (same : i ≡ j). ap (place_of ks) same,
      ) in
      grind (arith, nat_tests))

  pub searched : (r : Result ℕ ℕ) → IsSearchInRange r (length ks) → IsBinarySearchResult (λ line. nat_cmp line.0 place) ks r
      → record {
        found : IfOk r (λ at. (at < length ks) × (known ks place ≡ Some (get_or ks at at_end).1));
        absent : IfErr r (λ _. known ks place ≡ None);
      }
  searched (Ok at) in_range equal =
      let same : place_of ks at ≡ place = ranked _ place _ (sym (equal at_end)) in
      record { found = (in_range, ap (λ (p : ℕ). known ks p) (sym same) ∙ known_at n 0 ks ascends at in_range); absent = tt }
  searched (Err at) in_range parted =
      let parts = parted comparisons_rise in
      record {
        found = tt;
        absent = known_nowhere ks place (λ i lt same.
            grind (
              arith,
              λ (below : i < at). ranked _ place _ (sym (parts.0 i at_end (omega arith) below)),
              λ (above : at ≤ i). ranked _ place _ (sym (parts.1 i at_end above lt)),
            ));
      }
