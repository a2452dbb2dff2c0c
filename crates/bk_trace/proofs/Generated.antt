-- Drawing one operation after the other.
use Rattle.std.proofs.Common.{◌≡◌, ℕ, suc, ◌+◌, List, [], ◌∷◌, ◌++◌, refl, sym, ap, ◌∙◌, append_assoc}
use Rattle.std.proofs.lemmas.List.{append-nil}
use Rattle.bk_base.specs.Places.{Shape}
use Rattle.bk_base.specs.declared.op.Op.{Op}
use Rattle.bk_trace.specs.Generator.{drawn, operation_of_draws, generated}

one_more : (k : Shape) (i number count n : ℕ) → n ≡ suc count → generated k i number n
    ≡ operation_of_draws k number (drawn i) (drawn (drawn i)) (drawn (drawn (drawn i))) (drawn (drawn (drawn (drawn i))))
    ∷ generated k (drawn (drawn (drawn (drawn i)))) (number + 1) count
unfolding generated
one_more k x number m n e = rw e refl

pub draws_on : (k : Shape) (i y number count n : ℕ) (front more : List (ℕ × Op)) (line : ℕ × Op) (whole : List (ℕ × Op))
    → n ≡ suc count
    → y ≡ drawn (drawn (drawn (drawn i)))
    → line ≡ operation_of_draws k number (drawn i) (drawn (drawn i)) (drawn (drawn (drawn i))) (drawn (drawn (drawn (drawn i))))
    → more ≡ front ++ line ∷ []
    → front ++ generated k i number n ≡ whole → more ++ generated k y (number + 1) count ≡ whole
draws_on k i y number count n front more line whole e behind is pushed so_far =
    ap (λ l. l ++ generated k y (number + 1) count) pushed ∙ append_assoc front (line ∷ []) (generated k y (number + 1) count)
    ∙ ap (λ l. front ++ l ∷ generated k y (number + 1) count) is
    ∙ ap (λ z. front ++ operation_of_draws k number (drawn i) (drawn (drawn i)) (drawn (drawn (drawn i)))
    (drawn (drawn (drawn (drawn i))))
    ∷ generated k z (number + 1) count) behind
    ∙ ap (λ l. front ++ l) (sym (one_more k i number count n e)) ∙ so_far

pub draws_end : (k : Shape) (i number n : ℕ) (front whole : List (ℕ × Op)) → n ≡ 0 → front ++ generated k i number n ≡ whole
    → front ≡ whole
unfolding generated
draws_end k x number n front whole e so_far =
    let nothing : front ++ generated k x number n ≡ front = rw e (append-nil front) in
    sym nothing ∙ so_far
