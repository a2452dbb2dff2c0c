-- Bytes that the rules of their places admit.
use Rattle.std.proofs.Common.{◌≡◌, ℕ, ◌+◌, Bool, true, false, cond, List, [], ◌∷◌, Option, Some, None, refl, sym, ap, ◌∙◌}
use Rattle.bk_msg.specs.declared.fault.MsgFault.{MsgFault}
use Rattle.bk_msg.specs.declared.table.Rule.{Rule}
use Rattle.bk_msg.specs.Table.{admits, fault_at}
use Rattle.bk_msg.specs.Reading.{first_fault}

-- each byte is admitted, as far as the bytes and the rules go
abbrev pub AllAdmitted : List Rule → List ℕ → Type 0
AllAdmitted [] bytes = Unit {0}
AllAdmitted (rule ∷ rules) [] = Unit {0}
AllAdmitted (rule ∷ rules) (b ∷ bytes) = (admits rule b ≡ true) × AllAdmitted rules bytes

first_passes : (b : Bool) (rest : Option MsgFault) (fault : MsgFault) → cond b rest (Some fault) ≡ None
    → (b ≡ true) × (rest ≡ None)
first_passes true rest fault e = (refl, e)
first_passes false rest fault e = absurd cc

pub admitted-from_none : (place : ℕ) (rules : List Rule) (bytes : List ℕ) → first_fault place rules bytes ≡ None
    → AllAdmitted rules bytes
admitted-from_none place [] bytes e = tt
admitted-from_none place (rule ∷ rules) [] e = tt
admitted-from_none place (rule ∷ rules) (b ∷ bytes) e =
    let h = first_passes (admits rule b) (first_fault (place + 1) rules bytes) (fault_at rule place) e in
    (h.0, admitted-from_none (place + 1) rules bytes h.1)

pub none-from_admitted : (place : ℕ) (rules : List Rule) (bytes : List ℕ) → AllAdmitted rules bytes
    → first_fault place rules bytes ≡ None
none-from_admitted place [] bytes h = refl
none-from_admitted place (rule ∷ rules) [] h = refl
none-from_admitted place (rule ∷ rules) (b ∷ bytes) h = rw h.0 (none-from_admitted (place + 1) rules bytes h.1)

-- the first fault of equal rules and bytes
pub same_fault : (rules_a rules_b : List Rule) (a b : List ℕ) (x y : Option MsgFault) → x ≡ first_fault 1 rules_a a
    → rules_a ≡ rules_b
    → a ≡ b → x ≡ y → first_fault 1 rules_b b ≡ y
same_fault rules_a rules_b a b x y is r t e =
    sym (ap (λ (rules : List Rule). first_fault 1 rules a) r ∙ ap (λ (bytes : List ℕ). first_fault 1 rules_b bytes) t)
    ∙ (sym is ∙ e)
