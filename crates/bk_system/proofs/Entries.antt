-- The entries of each cache in a history, counted.
use Rattle.std.proofs.Common.{◌≡◌, ℕ, ◌+◌, ◌<◌, ◌≤◌, List, [], ◌∷◌, ◌++◌, Bool, true, false, refl, ap, sym, subst, ◌∙◌, inl, inr, length, get_or, set, arith, length-append, get_or-set_same, get_or-set_other}
use Rattle.std.specs.Prelude.{◌==◌, if◌then◌else◌}
use Rattle.std.proofs.lemmas.Bool.{cases_eq}
use Rattle.std.proofs.lemmas.List.{get_or_default}
use Rattle.std.proofs.lemmas.Bool.Decides.{nat_tests}
use Rattle.bk_base.specs.declared.op.Op.{Op}
use Rattle.bk_base.specs.declared.op.Done.{Done}
use Rattle.bk_system.specs.Runs.{completed_by}
use Rattle.bk_system.specs.Numbering.{AreCounts}

taken-le : (b : Bool) (op : Op) (ops : List Op) (n : ℕ) → length ops ≤ n → length (if b then op ∷ ops else ops) ≤ n + 1
taken-le true op ops n l = omega arith
taken-le false op ops n l = omega arith

-- a cache has no more entries than there are
pub completed-le : (c : ℕ) (h : List Done) → length (completed_by c h) ≤ length h
completed-le c [] = omega arith
completed-le c (d ∷ h) = let l : length (if d.cache == c then d.op ∷ completed_by c h else completed_by c h)
    ≤ length h + 1 = taken-le (d.cache == c) d.op (completed_by c h) (length h) (completed-le c h) in omega arith

same-taken : (b : Bool) (op : Op) (xs ys : List Op) → (if b then op ∷ (xs ++ ys) else xs ++ ys) ≡ (if b then op ∷ xs else xs) ++ ys
same-taken true op xs ys = refl
same-taken false op xs ys = refl

-- one entry more
pub completed-append : (c : ℕ) (h : List Done) (d : Done) → completed_by c (h ++ d ∷ [])
    ≡ completed_by c h ++ (if d.cache == c then d.op ∷ [] else [])
completed-append c [] d = refl
completed-append c (e ∷ h) d = ap (λ (xs : List Op). if e.cache == c then e.op ∷ xs else xs) (completed-append c h d)
    ∙ same-taken (e.cache == c) e.op (completed_by c h) (if d.cache == c then d.op ∷ [] else [])

own : (c : ℕ) (h : List Done) (d : Done) → (d.cache == c) ≡ true
    → length (completed_by c (h ++ d ∷ [])) ≡ length (completed_by c h) + 1
own c h d e = rw (completed-append c h d, e) (length-append (completed_by c h) (d.op ∷ []))

other : (c : ℕ) (h : List Done) (d : Done) → (d.cache == c) ≡ false
    → length (completed_by c (h ++ d ∷ [])) ≡ length (completed_by c h)
other c h d e = rw (completed-append c h d, e) (length-append (completed_by c h) [] ∙ omega arith)

is-same : (a c : ℕ) → a ≡ c → (a == c) ≡ true
is-same a c e = grind (arith, nat_tests)

is-other : (a c : ℕ) → (a ≡ c → ⊥) → (a == c) ≡ false
is-other a c n = grind (arith, nat_tests)

-- counting an entry
pub counts-more : (n : ℕ) (xs : List ℕ) (h : List Done) (d : Done) → d.cache < length xs → n ≡ length xs → AreCounts n xs h
    → AreCounts n (set xs d.cache (get_or xs d.cache 0 + 1)) (h ++ d ∷ [])
counts-more n xs h d l e counts = λ c lt.
    elim (cases_eq d.cache c) [
      | inl same ↦
          let here : get_or (set xs d.cache (get_or xs d.cache 0 + 1)) d.cache 0 ≡ get_or xs d.cache 0 + 1 =
          get_or-set_same xs d.cache (get_or xs d.cache 0 + 1) 0 l in
          let was : get_or xs d.cache 0 ≡ length (completed_by d.cache h) = counts d.cache (omega arith) in
          subst (λ (number : ℕ). get_or (set xs d.cache (get_or xs d.cache 0 + 1)) number 0
          ≡ length (completed_by number (h ++ d ∷ []))) same
          (here ∙ ap (λ (i : ℕ). i + 1) was ∙ sym (own d.cache h d (is-same d.cache d.cache refl)))
      | inr differ ↦
          let there : get_or (set xs d.cache (get_or xs d.cache 0 + 1)) c 0 ≡ get_or xs c 0 =
          get_or-set_other xs d.cache c (get_or xs d.cache 0 + 1) 0 (λ (q : c ≡ d.cache). differ (sym q)) in
          there ∙ counts c lt ∙ sym (other c h d (is-other d.cache c differ))
    ]

-- a cache's count is at most the number of entries
pub count-le : (xs : List ℕ) (h : List Done) (n c number : ℕ) → AreCounts n xs h → c < n → n ≡ length xs
    → number ≡ get_or xs c number
    → number ≤ length h
count-le xs h n c number counts l e is =
    let read : number ≡ get_or xs c 0 = is ∙ get_or_default xs c number 0 (omega arith) in
    let bound : length (completed_by c h) ≤ length h = completed-le c h in
    let same : get_or xs c 0 ≡ length (completed_by c h) = counts c l in
    omega arith

-- the count of the entry's own cache, one more
pub counts-one : (n : ℕ) (xs : List ℕ) (h : List Done) (d : Done) (number : ℕ) → d.cache < length xs → n ≡ length xs
    → number ≡ get_or xs d.cache number → AreCounts n xs h → AreCounts n (set xs d.cache (number + 1)) (h ++ d ∷ [])
counts-one n xs h d number l e is counts =
    let read : number ≡ get_or xs d.cache 0 = is ∙ get_or_default xs d.cache number 0 l in
    rw read (counts-more n xs h d l e counts)
