-- Lists in order: what each pair has, from the front on, and that elements in order stand in one order alone where those that tie do.
use Rattle.std.proofs.Common.{◌≡◌, suc, Bool, true, false, cond, not, ◌&&◌, List, [], ◌∷◌, sym, refl, ap, ◌∙◌, arith}
use Rattle.std.specs.List.{AllPairs, AllByRecursion, filter}
use Rattle.std.specs.List.Sorted.{ties}
use Rattle.std.specs.Cmp.{IsStrictWeakOrder}
use Rattle.std.proofs.lemmas.Bool.{both_ways}
use Rattle.std.proofs.lemmas.List.Elements.{recursion_from_All}

module _ {X : Type 0} (P : X → X → Type 0) where
  -- the first has it with each of the rest
  pub pairs-head : (x : X) (xs : List X) → AllPairs P (x ∷ xs) → AllByRecursion (P x) xs
  pairs-head x xs pairs = recursion_from_All (P x) xs (λ i d within. pairs 0 (suc i) d (omega arith) (omega arith))

  -- and the rest have it among themselves
  pub pairs-tail : (x : X) (xs : List X) → AllPairs P (x ∷ xs) → AllPairs P xs
  pairs-tail x xs pairs = λ i j d before within. pairs (suc i) (suc j) d (omega arith) (omega arith)

module _ {X : Type 0} where
  pub all_along : (P Q : X → Type 0) → ((x : X) → P x → Q x) → (xs : List X) → AllByRecursion P xs → AllByRecursion Q xs
  all_along P Q each [] all = tt
  all_along P Q each (x ∷ xs) all = (each x all.0, all_along P Q each xs all.1)

  pub filter-yes : (p : X → Bool) (x : X) (xs : List X) → p x ≡ true → filter p (x ∷ xs) ≡ x ∷ filter p xs
  filter-yes p x xs passes = ap (λ (b : Bool). cond b (x ∷ filter p xs) (filter p xs)) passes

  pub filter-no : (p : X → Bool) (x : X) (xs : List X) → p x ≡ false → filter p (x ∷ xs) ≡ filter p xs
  filter-no p x xs fails = ap (λ (b : Bool). cond b (x ∷ filter p xs) (filter p xs)) fails

  pub not_nil : (x : X) (xs : List X) → x ∷ xs ≡ [] → ⊥
  not_nil x xs h = absurd (cc (h))

module _ {X : Type 0} (lt : X → X → Bool) (order : IsStrictWeakOrder lt) where
  -- no element is less than one before it
  abbrev pub Rises : List X → Type 0
  Rises xs = AllPairs (λ x y. lt y x ≡ false) xs

  abbrev pub SameTies : List X → List X → Type 0
  SameTies xs ys = (u : X) → filter (ties lt u) xs ≡ filter (ties lt u) ys

  ties_itself : (x : X) → ties lt x x ≡ true
  ties_itself x = ap (λ (b : Bool). not b && not b) (whether (lt x x) refl)
    where
      whether : (b : Bool) → lt x x ≡ b → lt x x ≡ false
      whether true e = order.one_way x x e
      whether false e = e

  less_than_later : (x y z : X) → lt x y ≡ true → lt z y ≡ false → lt x z ≡ true
  less_than_later x y z less rises = whether (lt x z) refl
    where
      whether : (b : Bool) → lt x z ≡ b → lt x z ≡ true
      whether true e = e
      whether false e = absurd (both_ways (lt x y) (order.chain x z y e rises) less)

  none_ties : (x : X) (ys : List X) → AllByRecursion (λ y. lt x y ≡ true) ys → filter (ties lt x) ys ≡ []
  none_ties x [] less = refl
  none_ties x (y ∷ ys) less = filter-no (ties lt x) y ys (ap (λ (b : Bool). not b && not (lt y x)) less.0) ∙ none_ties x ys less.1

  -- the first of two lists with the same ties can't be less than that of the other
  not_less_first : (x y : X) (xs ys : List X) → lt x y ≡ true → Rises (y ∷ ys)
      → filter (ties lt x) (x ∷ xs) ≡ filter (ties lt x) (y ∷ ys) → ⊥
  not_less_first x y xs ys less rises same =
      let later = all_along (λ z. lt z y ≡ false) (λ z. lt x z ≡ true) (λ z. less_than_later x y z less) ys (pairs-head
      (λ a b. lt b a ≡ false) y ys rises) in
      not_nil x (filter (ties lt x) xs) (sym (filter-yes (ties lt x) x xs (ties_itself x)) ∙ same
      ∙ none_ties x (y ∷ ys) (less, later))

  -- without a first element that both have
  tails_same : (x : X) (xs ys : List X) → SameTies (x ∷ xs) (x ∷ ys) → SameTies xs ys
  tails_same x xs ys same u = whether (ties lt u x) refl
    where
      whether : (b : Bool) → ties lt u x ≡ b → filter (ties lt u) xs ≡ filter (ties lt u) ys
      whether true e =
          let both : x ∷ filter (ties lt u) xs ≡ x ∷ filter (ties lt u) ys = sym (filter-yes (ties lt u) x xs e) ∙ same u
          ∙ filter-yes (ties lt u) x ys e in
          cc (both)
      whether false e = sym (filter-no (ties lt u) x xs e) ∙ same u ∙ filter-no (ties lt u) x ys e

  -- two lists that rise, and in which those that tie with any element are the same in the same order, are the same
  pub one_order : (xs ys : List X) → Rises xs → Rises ys → SameTies xs ys → xs ≡ ys
  one_order [] [] a b same = refl
  one_order [] (y ∷ ys) a b same = absurd (not_nil y (filter (ties lt y) ys) (sym (filter-yes (ties lt y) y ys (ties_itself y))
      ∙ sym (same y)))
  one_order (x ∷ xs) [] a b same = absurd (not_nil x (filter (ties lt x) xs) (sym (filter-yes (ties lt x) x xs (ties_itself x))
      ∙ same x))
  one_order (x ∷ xs) (y ∷ ys) a b same =
      whether (one_order xs ys (pairs-tail (λ u v. lt v u ≡ false) x xs a) (pairs-tail
      (λ u v. lt v u ≡ false) y ys b)) (lt x y) (lt y x) refl refl
    where
      whether : (SameTies xs ys → xs ≡ ys) → (p q : Bool) → lt x y ≡ p → lt y x ≡ q → x ∷ xs ≡ y ∷ ys
      whether again true q less e = absurd (not_less_first x y xs ys less b (same x))
      whether again false true e less = absurd (not_less_first y x ys xs less a (sym (same y)))
      whether again false false e f =
          let tie : ties lt x y ≡ true = λ i. not (e i) && not (f i) in
          let both : x ∷ filter (ties lt x) xs ≡ y ∷ filter (ties lt x) ys = sym (filter-yes (ties lt x) x xs (ties_itself x))
          ∙ same x ∙ filter-yes (ties lt x) y ys tie in
          let first : x ≡ y = cc (both) in
          let rest = again (tails_same x xs ys (λ u. same u ∙ ap (λ (z : X). filter (ties lt u) (z ∷ ys)) (sym first))) in
          ap (λ (z : X). z ∷ xs) first ∙ ap (λ zs. y ∷ zs) rest
