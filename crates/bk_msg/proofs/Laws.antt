-- What each fault says of the bytes, and when each comes.
use Rattle.std.proofs.Common.{◌≡◌, ℕ, suc, ◌+◌, ◌<◌, Bool, true, false, cond, ltb, List, [], ◌∷◌, ◌++◌, length, get_or, take, drop, Option, Some, None, Ok, Err, refl, sym, ap, subst, ◌∙◌, arith}
use Rattle.std.specs.Prelude.{slice_index}
use Rattle.std.proofs.lemmas.Bool.{ltb-true}
use Rattle.std.proofs.lemmas.List.{append-nil, length-take}
use Rattle.bk_msg.specs.declared.fault.MsgFault.{MsgFault}
use Rattle.bk_msg.specs.declared.fault.MsgFault.TheVariants as faults
use Rattle.bk_msg.specs.declared.kind.Kind.{Kind}
use Rattle.bk_msg.specs.declared.row.Row.{Row}
use Rattle.bk_msg.specs.declared.row.Row.TheVariants.{Done}
use Rattle.bk_msg.specs.Kinds.{kind_code, kind_of_code}
use Rattle.bk_msg.specs.Table.{rules_of, size_of, layout_of}
use Rattle.bk_msg.specs.Fields.{fields_of}
use Rattle.bk_msg.specs.Spelling.{spelling, text, IsMessage}
use Rattle.bk_msg.specs.Reading.{first_fault, fields_at, message_at, after_kind, decode}
use Rattle.bk_msg.specs.Fields.{row_of}
use Rattle.bk_msg.specs.Faults.{IsFrontOf, IsFront, IsLeastBad, MustBeZero, IsFaultOf}
use Rattle.bk_msg.proofs.Admitted.{AllAdmitted, admitted-from_none}
use Rattle.bk_msg.proofs.Bad.{IsFirst, is_first}
use Rattle.bk_msg.proofs.Completion.{is_front}
use Rattle.bk_msg.proofs.Messages.{text_admitted}
use Rattle.bk_msg.proofs.Numbers.{kind_again, kind_found}
use Rattle.bk_msg.proofs.Parts.{IsBytes, IsBytes-take}

-- ---- the first byte tells the rules of the others

abbrev just : Kind → Option Kind
just kind = Some kind

same_kind : (j kind : Kind) → just j ≡ just kind → j ≡ kind
same_kind j kind e = cc

admitted_of : (m : Row) (k : Kind) → IsMessage m → kind_of_code (slice_index (spelling m) 0) ≡ Some k
    → AllAdmitted (rules_of (layout_of k)) (drop 1 (spelling m))
admitted_of m k message kind =
    let f = fields_of m in
    let all : AllAdmitted (rules_of (layout_of f.kind)) (drop 1 (text f ++ [])) = text_admitted f (layout_of f.kind) [] message in
    let plain : AllAdmitted (rules_of (layout_of f.kind)) (drop 1 (text f)) =
    subst (λ (bytes : List ℕ). AllAdmitted (rules_of (layout_of f.kind)) (drop 1 bytes)) (append-nil (text f)) all in
    let same : f.kind ≡ k = same_kind f.kind k (sym (kind_again f.kind) ∙ kind) in
    subst (λ (j : Kind). AllAdmitted (rules_of (layout_of j)) (drop 1 (spelling m))) same plain

first_byte : (a b : List ℕ) → a ≡ b → slice_index a 0 ≡ slice_index b 0
first_byte a b e = ap (λ (text : List ℕ). slice_index text 0) e

-- ---- a message, for what begins all of them

abbrev some_row : Row
some_row = Done 0xf0 0 0

some_message : IsMessage some_row
some_message = record {
  from = refl;
  to = refl;
  way = refl;
  state = refl;
  peer = refl;
  peer_way = refl;
  peer_state = refl;
  below = omega arith;
  aligned = refl;
  payload = tt;
}

pub nothing_is_front : IsFront []
nothing_is_front = (some_row, record { message = some_message; rest = spelling some_row; parts = refl })

-- ---- the faults

no_kind_front : (b : ℕ) → kind_of_code b ≡ None → IsFront (b ∷ []) → ⊥
no_kind_front b none front =
    let r = front.0 in
    let head : slice_index (spelling r) 0 ≡ b = first_byte _ _ front.1.parts in
    let code : kind_of_code (slice_index (spelling r) 0) ≡ Some (fields_of r).kind = kind_again (fields_of r).kind in
    let none2 : kind_of_code (slice_index (spelling r) 0) ≡ None = ap kind_of_code head ∙ none in
    absurd (cc (code, none2))

bad_kind : (b : ℕ) (rest : List ℕ) → kind_of_code b ≡ None → IsLeastBad (b ∷ rest) 0
bad_kind b rest none = record { within = omega arith; before = nothing_is_front; none = no_kind_front b none }

front_at : (kind : Kind) (b : ℕ) (rest : List ℕ) (i : ℕ) → IsBytes (b ∷ rest) → b ≡ kind_code kind → i < 15
    → AllAdmitted (rules_of (layout_of kind)) (take i rest) → IsFront (b ∷ take i rest)
front_at kind b rest i fits code lt h =
    let bytes : IsBytes (b ∷ take i rest) = IsBytes-take (suc i) (b ∷ rest) fits in
    let coded : IsBytes (kind_code kind ∷ take i rest) = subst (λ (n : ℕ). IsBytes (n ∷ take i rest)) code bytes in
    let p = is_front kind (take i rest) coded h (omega (arith, length-take i rest, lt)) in
    subst (λ (n : ℕ). IsFront (n ∷ take i rest)) (sym code) (p.row, p.front)

none_at : (k : Kind) (b : ℕ) (rest : List ℕ) (i : ℕ) → kind_of_code b ≡ Some k
    → ((more : List ℕ) → AllAdmitted (rules_of (layout_of k)) (take (suc i) rest ++ more) → ⊥)
    → IsFront (b ∷ take (suc i) rest) → ⊥
none_at k b rest i kind none front =
    let r = front.0 in
    let head : slice_index (spelling r) 0 ≡ b = first_byte _ _ front.1.parts in
    let all : AllAdmitted (rules_of (layout_of k)) (drop 1 (spelling r)) =
    admitted_of r k front.1.message (ap kind_of_code head ∙ kind) in
    none front.1.rest (subst (λ (text : List ℕ). AllAdmitted (rules_of (layout_of k)) (drop 1 text)) front.1.parts all)

least_bad : (k : Kind) (b : ℕ) (rest : List ℕ) (fault : MsgFault) (p : IsFirst 1 (rules_of (layout_of k)) rest fault)
    → IsBytes (b ∷ rest)
    → kind_of_code b ≡ Some k → IsLeastBad (b ∷ rest) (suc p.index)
least_bad k b rest fault p fits kind =
    let next : suc p.index + 1 ≡ suc (suc p.index) = omega arith in
    record {
      within = omega (arith, p.within);
      before = front_at k b rest p.index fits (kind_found b k kind) (omega (arith, p.few)) p.before;
      none = λ front. none_at k b rest p.index kind p.none (subst (λ (n : ℕ). IsFront (take n (b ∷ rest))) next front);
    }

must_be_zero : (k : Kind) (b : ℕ) (rest : List ℕ) (i : ℕ) → kind_of_code b ≡ Some k
    → ((bytes : List ℕ) → AllAdmitted (rules_of (layout_of k)) bytes → get_or bytes i 0 ≡ 0) → MustBeZero (b ∷ rest) (suc i)
must_be_zero k b rest i kind h r message same = h (drop 1 (spelling r)) (admitted_of r k message (ap kind_of_code same ∙ kind))

bad_byte : (k : Kind) (b : ℕ) (rest : List ℕ) (fault : MsgFault) → IsFirst 1 (rules_of (layout_of k)) rest fault
    → IsBytes (b ∷ rest)
    → kind_of_code b ≡ Some k → IsFaultOf (b ∷ rest) fault
bad_byte k b rest (faults.Kind number) p fits kind = absurd p.fault-is
bad_byte k b rest (faults.Field at) p fits kind =
    let place : suc p.index ≡ at = omega (arith, p.fault-is) in
    subst (λ (n : ℕ). IsLeastBad (b ∷ rest) n) place (least_bad k b rest (faults.Field at) p fits kind)
bad_byte k b rest (faults.Reserved at) p fits kind =
    let place : suc p.index ≡ at = omega (arith, p.fault-is.0) in (
      subst (λ (n : ℕ). IsLeastBad (b ∷ rest) n) place (least_bad k b rest (faults.Reserved at) p fits kind),
      subst (λ (n : ℕ). MustBeZero (b ∷ rest) n) place (must_be_zero k b rest p.index kind p.fault-is.1),
    )
bad_byte k b rest (faults.Short needed) p fits kind = absurd p.fault-is

cut_off : (k : Kind) (b : ℕ) (rest : List ℕ) → IsBytes (b ∷ rest) → kind_of_code b ≡ Some k
    → AllAdmitted (rules_of (layout_of k)) rest
    → suc (length rest) < size_of (layout_of k) → IsFaultOf (b ∷ rest) (faults.Short (size_of (layout_of k)))
cut_off k b rest fits kind h lt =
    let code = kind_found b k kind in
    let p = is_front k rest (subst (λ (n : ℕ). IsBytes (n ∷ rest)) code fits) h (omega (arith, lt)) in
    (p.row, subst (λ (n : ℕ). IsFrontOf p.row (n ∷ rest)) (sym code) p.front, lt, sym p.size)

tested_err : (b : Bool) (d : MsgFault) (y : Row × ℕ) (fault : MsgFault) → cond b (Err d) (Ok y) ≡ Err fault
    → (b ≡ true) × (d ≡ fault)
tested_err true d y fault e = (refl, cc)
tested_err false d y fault e = absurd cc

fault_at_kind : (k : Kind) (b : ℕ) (rest : List ℕ) (o : Option MsgFault) (fault : MsgFault) → IsBytes (b ∷ rest)
    → kind_of_code b ≡ Some k
    → first_fault 1 (rules_of (layout_of k)) rest ≡ o → message_at k (b ∷ rest) o ≡ Err fault → IsFaultOf (b ∷ rest) fault
fault_at_kind k b rest (Some d) fault fits kind first e =
    let same : d ≡ fault = cc in
    subst (λ (x : MsgFault). IsFaultOf (b ∷ rest) x) same
    (bad_byte k b rest d (is_first 1 (rules_of (layout_of k)) rest d first) fits kind)
fault_at_kind k b rest None fault fits kind first e =
    let t = tested_err (ltb (length (b ∷ rest)) (size_of (layout_of k))) (faults.Short (size_of (layout_of k)))
    (row_of (fields_at k (b ∷ rest)), size_of (layout_of k)) fault e in
    subst (λ (x : MsgFault). IsFaultOf (b ∷ rest) x) t.1
    (cut_off k b rest fits kind (admitted-from_none 1 (rules_of (layout_of k)) rest first) (ltb-true _ _ t.0))

fault_of_kind : (o : Option Kind) (b : ℕ) (rest : List ℕ) (fault : MsgFault) → IsBytes (b ∷ rest) → kind_of_code b ≡ o
    → after_kind o b rest ≡ Err fault → IsFaultOf (b ∷ rest) fault
fault_of_kind None b rest fault fits kind e =
    let same : faults.Kind b ≡ fault = cc in
    subst (λ (x : MsgFault). IsFaultOf (b ∷ rest) x) same (bad_kind b rest kind, refl)
fault_of_kind (Some k) b rest fault fits kind e =
    fault_at_kind k b rest (first_fault 1 (rules_of (layout_of k)) rest) fault fits kind refl e

-- what each fault says
pub is_fault : (bytes : List ℕ) (fault : MsgFault) → IsBytes bytes → decode bytes ≡ Err fault → IsFaultOf bytes fault
unfolding decode
is_fault [] fault fits e =
    let same : faults.Short 1 ≡ fault = cc in
    subst (λ (x : MsgFault). IsFaultOf [] x) same refl
is_fault (b ∷ rest) fault fits e = fault_of_kind (kind_of_code b) b rest fault fits refl e
