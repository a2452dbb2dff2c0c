-- Reading the front of a file.
use Rattle.std.proofs.Common.{◌≡◌, ℕ, ◌+◌, ◌≤◌, List, [], ◌++◌, length, Option, None, Some, take, ap, subst, ◌∙◌, arith}
use Rattle.std.specs.Option.{IfSome, option_map}
use Rattle.std.proofs.lemmas.List.{take_all, length-take}

-- a front that is shorter than what was asked for is all there is
pub all-front : (n limit : ℕ) (start front : List ℕ) (rest : Option (List ℕ)) → n ≡ limit + 1 → start ≡ []
    → length front ≤ limit
    → IfSome (option_map (take n) rest) (λ xs. front ≡ start ++ xs) → IfSome rest (λ xs. front ≡ xs)
all-front n limit start front None asked empty short e = tt
all-front n limit start front (Some xs) asked empty short e =
    let is : front ≡ take n xs = e ∙ ap (λ s. s ++ take n xs) empty in
    is ∙ take_all n xs (omega (arith, length-take n xs, ap length is))

pub all-read : {F : Type 0} (remaining : F → Option (List ℕ)) (file inner : F) (n limit : ℕ) (start front : List ℕ)
    → inner ≡ file
    → n ≡ limit + 1 → start ≡ [] → length front ≤ limit
    → IfSome (option_map (take n) (remaining inner)) (λ xs. front ≡ start ++ xs)
    → IfSome (remaining file) (λ xs. front ≡ xs)
all-read remaining file inner n limit start front same asked empty short e =
    subst (λ r. IfSome (remaining r) (λ xs. front ≡ xs)) same (all-front n limit start front (remaining inner) asked empty short e)
