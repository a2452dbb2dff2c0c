-- Lists that stand for a cache that was never used.
use Rattle.std.proofs.Common.{◌≡◌, ℕ, zero, suc, ◌*◌, ◌%◌, ◌^◌, ◌<◌, ◌≤◌, IsTrue, List, replicate, slice_index_or, refl, ap, ◌∙◌, sym, subst, inl, inr, arith}
use Rattle.std.proofs.lemmas.Bool.{cases_lt}
use Rattle.std.proofs.lemmas.Bool.Decides.{nat_tests}
use Rattle.std.proofs.lemmas.List.{get_or-replicate}
use Rattle.std.proofs.lemmas.Nat.{mod_below, one_shl, pow_pos}
use Rattle.std.proofs.Math.ListN.{get_or-eq_default, length-replicate}
use Rattle.bk_base.specs.Places.{Shape, is_way_count}
use Rattle.bk_lce.specs.CacheState.{empty_line, ways_in_order, packed}
use Rattle.bk_lce.specs.Lists.{place_of, lines_of, digits, recency_of, IsListed, AreOpening, AreOrdered, AreListed}
use Rattle.bk_lce.proofs.Recent.{times-in_order}

-- a number of ways is from 1 to 8
pub way_count : (n : ℕ) → IsTrue (is_way_count n) → (1 ≤ n) × (n ≤ 8)
way_count n h = grind (arith, nat_tests)

same_everywhere : {X : Type 0} (n i : ℕ) (x : X) → slice_index_or (replicate n x) i x ≡ x
same_everywhere {X} n i x =
    elim (cases_lt i n) [
      | inl l ↦ get_or-replicate n i x x l
      | inr l ↦ get_or-eq_default (replicate n x) x {n = i} (subst (λ m. m ≤ i) (sym (length-replicate n x)) l)
    ]

-- lines that were never written
pub opening_lines_are : (ways n : ℕ) → AreOpening ways (replicate n empty_line)
unfolding lines_of
opening_lines_are ways n s w =
    let e = same_everywhere n (place_of ways s w) empty_line in
    grind (arith, nat_tests, e)

-- sets that have their ways in order
pub ordered_are : (ways n : ℕ) → AreOrdered ways (replicate n (packed (ways_in_order ways)))
ordered_are ways n s = same_everywhere n s (packed (ways_in_order ways))

-- the word of the ways in order is a part of that of eight
ordered_part : (n : ℕ) → n ≤ 8 → 16434824 % 2 ^ (3 * n) ≡ packed (ways_in_order n)
ordered_part zero l = refl
ordered_part (suc zero) l = refl
ordered_part (suc (suc zero)) l = refl
ordered_part (suc (suc (suc zero))) l = refl
ordered_part (suc (suc (suc (suc zero)))) l = refl
ordered_part (suc (suc (suc (suc (suc zero))))) l = refl
ordered_part (suc (suc (suc (suc (suc (suc zero)))))) l = refl
ordered_part (suc (suc (suc (suc (suc (suc (suc zero))))))) l = refl
ordered_part (suc (suc (suc (suc (suc (suc (suc (suc zero)))))))) l = refl
ordered_part (suc (suc (suc (suc (suc (suc (suc (suc (suc n))))))))) l = absurd (omega arith)

pub ordered_word : (n : ℕ) → n ≤ 8 → 16434824 % (1 * 2 ^ (3 * n) % 4294967296) ≡ packed (ways_in_order n)
ordered_word n l =
    let unit : 1 * 2 ^ (3 * n) % 4294967296 ≡ 2 ^ (3 * n) = one_shl (3 * n) 32 (omega arith) in
    rw unit (ordered_part n l)

-- its digits are the ways in order
digits-ordered : (n : ℕ) → n ≤ 8 → digits n (packed (ways_in_order n)) ≡ ways_in_order n
unfolding digits
digits-ordered zero l = refl
digits-ordered (suc zero) l = refl
digits-ordered (suc (suc zero)) l = refl
digits-ordered (suc (suc (suc zero))) l = refl
digits-ordered (suc (suc (suc (suc zero)))) l = refl
digits-ordered (suc (suc (suc (suc (suc zero))))) l = refl
digits-ordered (suc (suc (suc (suc (suc (suc zero)))))) l = refl
digits-ordered (suc (suc (suc (suc (suc (suc (suc zero))))))) l = refl
digits-ordered (suc (suc (suc (suc (suc (suc (suc (suc zero)))))))) l = refl
digits-ordered (suc (suc (suc (suc (suc (suc (suc (suc (suc n))))))))) l = absurd (omega arith)

-- and it has no more of them
ordered_below : (n : ℕ) → n ≤ 8 → packed (ways_in_order n) < 2 ^ (3 * n)
ordered_below n l =
    subst (λ x. x < 2 ^ (3 * n)) (ordered_part n l) (mod_below 16434824 (2 ^ (3 * n)) (pow_pos (3 * n)))

listed_ordered : (n : ℕ) → n ≤ 8 → IsListed n (packed (ways_in_order n))
listed_ordered n l = record {
  once = λ w k. rw (digits-ordered n l) (times-in_order n w k);
  below = ordered_below n l;
}

-- the recency of such sets
pub recency_ordered : (ways : ℕ) (xs : List ℕ) → ways ≤ 8 → AreOrdered ways xs → (set : ℕ)
    → recency_of ways xs set ≡ ways_in_order ways
unfolding recency_of
recency_ordered ways xs l h set = ap (digits ways) (h set) ∙ digits-ordered ways l

pub are_listed : (k : Shape) (xs : List ℕ) → k.ways ≤ 8 → AreOrdered k.ways xs → AreListed k xs
are_listed k xs l h set within = subst (λ (word : ℕ). IsListed k.ways word) (sym (h set)) (listed_ordered k.ways l)
