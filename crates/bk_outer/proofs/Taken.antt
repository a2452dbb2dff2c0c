-- What a sink has after one more piece of a text.
use Rattle.std.proofs.Common.{◌≡◌, ℕ, ◌+◌, ◌-◌, List, length, ◌++◌, take, drop, ap, sym, ◌∙◌, append_assoc, arith}
use Rattle.std.proofs.Math.Seq.{take-add}
use Rattle.std.proofs.lemmas.List.{take_all, length-drop}

-- a piece after the first n bytes of a text
pub taken-take : (before text : List ℕ) (n number : ℕ)
    → (before ++ take n text) ++ take number (drop n text) ≡ before ++ take (n + number) text
taken-take before text n number =
    append_assoc before (take n text) (take number (drop n text)) ∙ ap (λ xs. before ++ xs) (sym (take-add n number text))

-- the rest of a text, as a slice
pub rest-is : (text : List ℕ) (n : ℕ) → take (length text - n) (drop n text) ≡ drop n text
rest-is text n = take_all (length text - n) (drop n text) (omega (arith, length-drop n text))

pub length-rest : (text : List ℕ) (n : ℕ) → length (take (length text - n) (drop n text)) ≡ length text - n
length-rest text n = ap length (rest-is text n) ∙ length-drop n text
