-- One more know line that was written.
use Rattle.std.proofs.Common.{◌≡◌, ℕ, ◌+◌, ◌<◌, List, [], ◌∷◌, ◌++◌, length, get_or, take, sym, ap, subst, ◌∙◌, append_assoc}
use Rattle.std.specs.List.{flat_map, AllByRecursion}
use Rattle.std.proofs.lemmas.List.{take_more}
use Rattle.std.proofs.lemmas.List.Concat.{flat_map-append}
use Rattle.bk_image.specs.Images.{Line}
use Rattle.bk_image.specs.Spelling.{line, HasMask}

each_more : (ks : List Line) (line : Line) → AllByRecursion HasMask ks → HasMask line → AllByRecursion HasMask (ks ++ line ∷ [])
each_more [] line all one = (one, tt)
each_more (first ∷ ks) line all one = (all.0, each_more ks line all.1 one)

-- what was written before, and that the lines so far have masks
abbrev pub Written : List ℕ → List ℕ → List Line → Type 0
Written before bytes ks = (bytes ≡ before ++ flat_map line ks) × AllByRecursion HasMask ks

pub one_more : (before bytes new : List ℕ) (ks : List Line) (i : ℕ) (k : Line) → i < length ks → k ≡ get_or ks i k
    → Written before bytes (take i ks)
    → new ≡ bytes ++ line k → HasMask k → Written before new (take (i + 1) ks)
one_more before bytes new ks i k lt is written more one =
    let grows : take (i + 1) ks ≡ take i ks ++ k ∷ [] = take_more ks i k lt ∙ ap (λ (x : Line). take i ks ++ x ∷ []) (sym is) in
    let joined : flat_map line (take i ks ++ k ∷ []) ≡ flat_map line (take i ks) ++ line k =
    flat_map-append line (take i ks) (k ∷ []) in
    let whole : new ≡ before ++ flat_map line (take i ks ++ k ∷ []) = more ∙ ap (λ (x : List ℕ). x ++ line k) written.0
    ∙ append_assoc before (flat_map line (take i ks)) (line k) ∙ ap (λ (x : List ℕ). before ++ x) (sym joined) in
    subst (λ (xs : List Line). Written before new xs) (sym grows) (whole, each_more (take i ks) k written.1 one)
