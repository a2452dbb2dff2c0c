-- Bytes against the rules of their places.
use Rattle.std.proofs.Common.{◌≡◌, ℕ, ◌<◌, List, [], ◌∷◌, length, None, refl, arith}
use Rattle.std.proofs.lemmas.List.{nil_from_length}
use Rattle.bk_msg.specs.declared.table.Rule.{Rule}
use Rattle.bk_msg.specs.Reading.{first_fault}

pub no_bytes : (place : ℕ) (rules : List Rule) → first_fault place rules [] ≡ None
no_bytes place [] = refl
no_bytes place (rule ∷ rules) = refl

pub no_bytes_left : (place : ℕ) (rules : List Rule) (rest : List ℕ) → length rest < 1 → first_fault place rules rest ≡ None
no_bytes_left place rules rest lt =
    let none : rest ≡ [] = nil_from_length rest (omega (arith, lt)) in
    rw none (no_bytes place rules)
