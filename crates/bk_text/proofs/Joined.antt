-- What was joined with a separator is cut there again.
use Rattle.std.proofs.Common.{◌≡◌, ℕ, zero, suc, ◌+◌, ◌-◌, ◌<◌, Bool, true, false, not, cond, List, [], ◌∷◌, ◌++◌}
use Rattle.std.proofs.Common.{length, get_or, take, refl, ap, ◌∙◌, append_assoc, arith}
use Rattle.std.specs.Prelude.{◌==◌}
use Rattle.std.specs.List.{list_all, slice_split, onto_first, position_or_len}
use Rattle.std.specs.Str.Lines.{lines, lines_of_parts}
use Rattle.std.proofs.lemmas.Bool.{and_parts, and_from}
use Rattle.std.proofs.lemmas.List.Splits.{length-slice_split}
use Rattle.bk_text.proofs.Cuts.{lines_of_parts-cons}

-- ---- bytes that pass a test

-- what passes one test passes one that follows from it
pub implied : (p q : ℕ → Bool) → ((b : ℕ) → p b ≡ true → q b ≡ true) → (bytes : List ℕ) → list_all p bytes ≡ true
    → list_all q bytes ≡ true
implied p q h [] e = refl
implied p q h (b ∷ bytes) e =
    let t = and_parts (p b) (list_all p bytes) e in
    and_from (q b) (list_all q bytes) (h b t.0) (implied p q h bytes t.1)

-- a test of each byte of two texts, one behind the other
pub all_append : (p : ℕ → Bool) (xs ys : List ℕ) → list_all p xs ≡ true → list_all p ys ≡ true
    → list_all p (xs ++ ys) ≡ true
all_append p [] ys a b = b
all_append p (x ∷ xs) ys a b =
    let t = and_parts (p x) (list_all p xs) a in
    and_from (p x) (list_all p (xs ++ ys)) t.0 (all_append p xs ys t.1 b)

fails : (b : Bool) → not b ≡ true → b ≡ false
fails true e = absurd cc
fails false e = refl

-- ---- cuts

-- a separator behind bytes of which none is one
pub split_at : (p : ℕ → Bool) (separator : ℕ) (rest : List ℕ) → p separator ≡ true → (bytes : List ℕ)
    → list_all (λ b. not (p b)) bytes ≡ true
    → slice_split p (bytes ++ separator ∷ rest) ≡ bytes ∷ slice_split p rest
split_at p separator rest is [] e = ap (λ t. cond t ([] ∷ slice_split p rest) (onto_first separator (slice_split p rest))) is
split_at p separator rest is (b ∷ bytes) e =
    let t = and_parts (not (p b)) (list_all (λ b. not (p b)) bytes) e in
    let behind = slice_split p (bytes ++ separator ∷ rest) in
    ap (λ t. cond t ([] ∷ behind) (onto_first b behind)) (fails (p b) t.0) ∙ ap (onto_first b) (split_at p separator rest is bytes t.1)

-- no byte is a separator
pub split_none : (p : ℕ → Bool) (bytes : List ℕ) → list_all (λ b. not (p b)) bytes ≡ true
    → slice_split p bytes ≡ bytes ∷ []
split_none p [] e = refl
split_none p (b ∷ bytes) e =
    let t = and_parts (not (p b)) (list_all (λ b. not (p b)) bytes) e in
    ap (λ t. cond t ([] ∷ slice_split p bytes) (onto_first b (slice_split p bytes))) (fails (p b) t.0)
    ∙ ap (onto_first b) (split_none p bytes t.1)

-- no byte passes, so the first that does is behind the last
pub position_none : (p : ℕ → Bool) (bytes : List ℕ) → list_all (λ b. not (p b)) bytes ≡ true
    → position_or_len p bytes ≡ length bytes
position_none p [] e = refl
position_none p (b ∷ bytes) e =
    let t = and_parts (not (p b)) (list_all (λ b. not (p b)) bytes) e in
    ap (λ t. cond (not t) (1 + position_or_len p bytes) 0) (fails (p b) t.0) ∙ omega (arith, position_none p bytes t.1)

-- ---- lines

-- no byte of a line is a carriage return
no_return : (p : ℕ → Bool) → ((b : ℕ) → p b ≡ true → (b == 13) ≡ false) → (bytes : List ℕ) (i : ℕ)
    → list_all p bytes ≡ true
    → (get_or bytes i 0 == 13) ≡ false
no_return p h [] i e = refl
no_return p h (b ∷ bytes) zero e = h b (and_parts (p b) (list_all p bytes) e).0
no_return p h (b ∷ bytes) (suc i) e = no_return p h bytes i (and_parts (p b) (list_all p bytes) e).1

-- a line that LF ends, where each byte passes a test that neither a line feed nor a carriage return passes
pub line_again : (p : ℕ → Bool) → ((b : ℕ) → p b ≡ true → not (b == 10) ≡ true)
    → ((b : ℕ) → p b ≡ true → (b == 13) ≡ false)
    → (bytes rest : List ℕ) → list_all p bytes ≡ true → lines ((bytes ++ 10 ∷ []) ++ rest) ≡ bytes ∷ lines rest
line_again p feed return bytes rest e =
    let some : 0 < length (slice_split (λ b. b == 10) rest) = omega (arith, length-slice_split (λ b. b == 10) rest) in
    ap lines (append_assoc bytes (10 ∷ []) rest)
    ∙ ap lines_of_parts (split_at (λ b. b == 10) 10 rest refl bytes (implied p (λ b. not (b == 10)) feed bytes e))
    ∙ lines_of_parts-cons bytes (slice_split (λ b. b == 10) rest) some
    ∙ ap (λ t. cond t (take (length bytes - 1) bytes) bytes ∷ lines rest) (no_return p return bytes (length bytes - 1) e)
