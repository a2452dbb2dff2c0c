-- The first byte that isn't admitted.
use Rattle.std.proofs.Common.{◌≡◌, ℕ, suc, ◌+◌, ◌<◌, false, List, [], ◌∷◌, ◌++◌, length, get_or, take, Option, Some, refl, subst, arith, inl, inr}
use Rattle.std.proofs.lemmas.Bool.{eqb-true, cases_Bool}
use Rattle.bk_msg.specs.declared.fault.MsgFault.{MsgFault}
use Rattle.bk_msg.specs.declared.fault.MsgFault.TheVariants as faults
use Rattle.bk_msg.specs.declared.table.Rule.{Rule}
use Rattle.bk_msg.specs.declared.table.Rule.TheVariants.{Reserved, Cache, Way, Only, State, Aligned, Any}
use Rattle.bk_msg.specs.Table.{admits, fault_at}
use Rattle.bk_msg.specs.Reading.{first_fault}
use Rattle.bk_msg.proofs.Admitted.{AllAdmitted}

-- a fault of a byte at a place: a reserved one where only 0 may stand at that place of the bytes
abbrev pub IsFaultAt : ℕ → ℕ → List Rule → MsgFault → Type 0
IsFaultAt place i rules (faults.Kind number) = ⊥
IsFaultAt place i rules (faults.Field at) = at ≡ place + i
IsFaultAt place i rules (faults.Reserved at) = (at ≡ place + i)
    × ((bytes : List ℕ) → AllAdmitted rules bytes → get_or bytes i 0 ≡ 0)
IsFaultAt place i rules (faults.Short needed) = ⊥

pub record IsFirst (place : ℕ) (rules : List Rule) (bytes : List ℕ) (fault : MsgFault) : Type 0 where
  pub index : ℕ
  pub fault-is : IsFaultAt place index rules fault
  pub within : index < length bytes
  pub few : index < length rules
  pub before : AllAdmitted rules (take index bytes)
  pub none : (rest : List ℕ) → AllAdmitted rules (take (suc index) bytes ++ rest) → ⊥

only_zero : (rules : List Rule) (bytes : List ℕ) → AllAdmitted (Reserved ∷ rules) bytes → get_or bytes 0 0 ≡ 0
only_zero rules [] h = refl
only_zero rules (b ∷ bytes) h = eqb-true b 0 h.0

at_rule : (place : ℕ) (rule : Rule) (rules : List Rule) → IsFaultAt place 0 (rule ∷ rules) (fault_at rule place)
at_rule place Reserved rules = (omega arith, only_zero rules)
at_rule place Cache rules = omega arith
at_rule place Way rules = omega arith
at_rule place (Only n) rules = omega arith
at_rule place (State states) rules = omega arith
at_rule place (Aligned unit) rules = omega arith
at_rule place Any rules = omega arith

behind : (rule : Rule) (rules : List Rule) (i : ℕ) → ((bytes : List ℕ) → AllAdmitted rules bytes → get_or bytes i 0 ≡ 0)
    → (bytes : List ℕ)
    → AllAdmitted (rule ∷ rules) bytes → get_or bytes (suc i) 0 ≡ 0
behind rule rules i h [] all = refl
behind rule rules i h (b ∷ bytes) all = h bytes all.1

later : (place i : ℕ) (rule : Rule) (rules : List Rule) (fault : MsgFault) → IsFaultAt (place + 1) i rules fault
    → IsFaultAt place (suc i) (rule ∷ rules) fault
later place i rule rules (faults.Kind number) h = absurd h
later place i rule rules (faults.Field at) h = omega (arith, h)
later place i rule rules (faults.Reserved at) h = (omega (arith, h.0), behind rule rules i h.1)
later place i rule rules (faults.Short needed) h = absurd h

abbrev some : MsgFault → Option MsgFault
some x = Some x

same_some : (x y : MsgFault) → some x ≡ some y → x ≡ y
same_some x y e = cc

here : (place : ℕ) (rule : Rule) (rules : List Rule) (b : ℕ) (bytes : List ℕ) (fault : MsgFault) → admits rule b ≡ false
    → fault_at rule place ≡ fault → IsFirst place (rule ∷ rules) (b ∷ bytes) fault
here place rule rules b bytes fault off e =
    record {
      index = 0;
      fault-is = subst (λ (f : MsgFault). IsFaultAt place 0 (rule ∷ rules) f) e (at_rule place rule rules);
      within = omega arith;
      few = omega arith;
      before = tt;
      none = λ rest h. absurd (cc (off, h.0));
    }

pub is_first : (place : ℕ) (rules : List Rule) (bytes : List ℕ) (fault : MsgFault) → first_fault place rules bytes ≡ Some fault
    → IsFirst place rules bytes fault
is_first place [] bytes fault e = absurd cc
is_first place (rule ∷ rules) [] fault e = absurd cc
is_first place (rule ∷ rules) (b ∷ bytes) fault e =
    elim (cases_Bool (admits rule b)) [
      | inl on ↦
          let e2 : first_fault (place + 1) rules bytes ≡ Some fault = rw on at e in
          let p = is_first (place + 1) rules bytes fault e2 in
          record {
            index = suc p.index;
            fault-is = later place p.index rule rules fault p.fault-is;
            within = omega (arith, p.within);
            few = omega (arith, p.few);
            before = (on, p.before);
            none = λ rest h. p.none rest h.1;
          }
      | inr off ↦ let e2 : some (fault_at rule place) ≡ some fault = rw off at e
          in here place rule rules b bytes fault off (same_some _ _ e2)
    ]
