-- Texts that are written piece by piece.
use Rattle.std.proofs.Common.{◌≡◌, ℕ, ◌+◌, List, ◌++◌, refl, ap, ◌∙◌, add-one, append_assoc}
use Rattle.bk_base.specs.Counting.{join_below}

-- one piece more follows those before it
pub join-more : (n : ℕ) (f : ℕ → List ℕ) (front before after : List ℕ) → before ≡ front ++ join_below n f
    → after ≡ before ++ f n
    → after ≡ front ++ join_below (n + 1) f
join-more n f front before after so_far more =
    more ∙ ap (λ (text : List ℕ). text ++ f n) so_far ∙ append_assoc front (join_below n f) (f n) ∙ rw (add-one) refl
