-- Words of 64 bits.
use Rattle.std.proofs.Common.{ℕ, suc, ◌^◌, ◌<◌, List, [], ◌∷◌, get_or}
use Rattle.std.specs.List.{AllByRecursion}
use Rattle.bk_msg.specs.Spelling.{IsWord}

pub are_words : (xs : List ℕ) → ((i : ℕ) → get_or xs i 0 < 2 ^ 64) → AllByRecursion IsWord xs
are_words [] h = tt
are_words (x ∷ xs) h = (h 0, are_words xs (λ i. h (suc i)))
