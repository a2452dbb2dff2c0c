-- When each answer of reading comes.
use Rattle.std.proofs.Common.{refl, ◌≡◌, ℕ, ◌+◌, ◌≤◌, List, [], ◌∷◌, ◌++◌, length, take, drop, Result, Ok, Err, sym, ap, subst, ◌∙◌, append_assoc, arith, inl, inr}
use Rattle.std.specs.Prelude.{IfOk, IfErr, IsErrAnd}
use Rattle.std.proofs.lemmas.Bool.{cases_lt}
use Rattle.std.proofs.lemmas.List.{append-nil, length-append, take-append-drop, take-take}
use Rattle.bk_msg.specs.declared.fault.MsgFault.{MsgFault}
use Rattle.bk_msg.specs.declared.fault.MsgFault.TheVariants as faults
use Rattle.bk_msg.specs.declared.row.Row.{Row}
use Rattle.bk_msg.specs.declared.table.Load.{Load}
use Rattle.bk_msg.specs.declared.table.Load.TheVariants as loads
use Rattle.bk_msg.specs.Table.{size_of, load_bytes, layout_of}
use Rattle.bk_msg.specs.Fields.{fields_of}
use Rattle.bk_msg.specs.Spelling.{spelling, IsMessage, Begins}
use Rattle.bk_msg.specs.Reading.{decode}
use Rattle.bk_msg.specs.Faults.{IsFrontOf, IsFront, IsProperFront, IsLeastBad, IsFaultOf, IsShort, IsBadAt, IsCut}
use Rattle.bk_msg.proofs.Laws.{is_fault}
use Rattle.bk_msg.proofs.Messages.{IsFound, text_length, decode_again, decode_found}
use Rattle.bk_msg.proofs.Parts.{IsBytes}

abbrev Read : Type 0
Read = Result (Row × ℕ) MsgFault

-- ---- messages and their length

pub message_length : (m : Row) → IsMessage m → length (spelling m) ≡ size_of (layout_of (fields_of m).kind)
message_length m h = text_length (fields_of m) (layout_of (fields_of m).kind) h

pub load_few : (load : Load) → load_bytes load ≤ 64
load_few loads.Nothing = omega arith
load_few loads.Word = omega arith
load_few loads.Block = omega arith

pub length_bounds : (m : Row) → IsMessage m → (16 ≤ length (spelling m)) × (length (spelling m) ≤ 80)
length_bounds m h = (omega (arith, message_length m h), omega (arith, message_length m h, load_few (layout_of (fields_of m).kind).load))

abbrev reads : Row × ℕ → Read
reads x = Ok x

same_read : (x y : Row × ℕ) → reads x ≡ reads y → x ≡ y
same_read x y e = cc

-- a message that begins the bytes is read
pub begins_read : (bytes : List ℕ) (m : Row) → Begins m bytes → decode bytes ≡ Ok (m, length (spelling m))
begins_read bytes m h = ap decode h.parts ∙ decode_again m h.rest h.message

-- two messages that begin the same bytes are one
pub same_message : (bytes : List ℕ) (a b : Row) → Begins a bytes → Begins b bytes → a ≡ b
same_message bytes a b ha hb =
    ap (λ (x : Row × ℕ). x.0) (same_read (a, length (spelling a)) (
      b,
      length (spelling b),
    ) (sym (begins_read bytes a ha) ∙ begins_read bytes b hb))

-- ---- fronts

pub front_of_front : (m : Row) (bytes : List ℕ) (n : ℕ) → IsFrontOf m bytes → IsFrontOf m (take n bytes)
front_of_front m bytes n h = record {
  message = h.message;
  rest = drop n bytes ++ h.rest;
  parts = h.parts ∙ (ap (λ (text : List ℕ). text ++ h.rest) (sym (take-append-drop n bytes))
      ∙ append_assoc (take n bytes) (drop n bytes) h.rest);
}

no_front : (bytes : List ℕ) (place : ℕ) (m : Row) → IsLeastBad bytes place → IsFrontOf m bytes → ⊥
no_front bytes place m h front = h.none (m, front_of_front m bytes (place + 1) front)

front_is_whole : (bytes : List ℕ) (message m : Row) → IsFrontOf message bytes → Begins m bytes
    → length (spelling message) ≤ length bytes
front_is_whole bytes message m front begins =
    let both : spelling message ≡ spelling m ++ (begins.rest ++ front.rest) = front.parts
    ∙ (ap (λ (text : List ℕ). text ++ front.rest) begins.parts ∙ append_assoc (spelling m) begins.rest front.rest) in
    let own : Begins message (spelling message) = record {
      message = front.message;
      rest = [];
      parts = sym (append-nil (spelling message));
    } in
    let other : Begins m (spelling message) = record { message = begins.message; rest = begins.rest ++ front.rest; parts = both } in
    let same : message ≡ m = same_message (spelling message) message m own other in
    omega (arith, ap length begins.parts, length-append (spelling m) begins.rest, ap (λ (sent : Row). length (spelling sent)) same)

begins_found : (bytes : List ℕ) (x : Row × ℕ) → IsFound bytes x → Begins x.0 bytes
begins_found bytes x h = record { message = h.message; rest = drop x.1 bytes; parts = h.parts }

-- ---- Short

short_fault : (bytes : List ℕ) (fault : MsgFault) → IsFaultOf bytes fault → IsProperFront bytes → IsShort fault
short_fault bytes (faults.Kind number) h front = no_front bytes 0 front.0 h.0 front.1
short_fault bytes (faults.Field place) h front = no_front bytes place front.0 h front.1
short_fault bytes (faults.Reserved place) h front = no_front bytes place front.0 h.0 front.1
short_fault bytes (faults.Short needed) h front = tt

is_short : (bytes : List ℕ) (o : Read) → IsBytes bytes → decode bytes ≡ o → IsProperFront bytes → IsErrAnd o IsShort
is_short bytes (Ok x) fits e front =
    absurd (omega (arith, front_is_whole bytes front.0 x.0 front.1 (begins_found bytes x (decode_found bytes x fits e)), front.2))
is_short bytes (Err fault) fits e front = short_fault bytes fault (is_fault bytes fault fits e) front

pub short : (bytes : List ℕ) (o : Read) → IsBytes bytes → o ≡ decode bytes → IsProperFront bytes → IsErrAnd o IsShort
short bytes o fits e front = is_short bytes o fits (sym e) front

-- ---- the least bad place

least : (bytes : List ℕ) (a b : ℕ) → IsLeastBad bytes a → IsLeastBad bytes b → b ≤ a
least bytes a b ha hb =
    elim (cases_lt a b) [
      | inl lt ↦
          let longer : IsFront (take (a + 1) (take b bytes)) =
          (hb.before.0, front_of_front hb.before.0 (take b bytes) (a + 1) hb.before.1) in
          absurd (ha.none (subst (λ (text : List ℕ). IsFront text) (take-take (a + 1) b bytes (omega (arith, lt))) longer))
      | inr le ↦ le
    ]

one_place : (bytes : List ℕ) (a b : ℕ) → IsLeastBad bytes a → IsLeastBad bytes b → a ≡ b
one_place bytes a b ha hb = omega (arith, least bytes a b ha hb, least bytes b a hb ha)

cut_is_front : (bytes : List ℕ) (place needed : ℕ) → IsLeastBad bytes place → IsCut bytes needed → ⊥
cut_is_front [] place needed h cut = absurd (omega (arith, h.within))
cut_is_front (b ∷ bytes) place needed h cut = no_front (b ∷ bytes) place cut.0 h cut.1

bad_fault : (bytes : List ℕ) (place : ℕ) (fault : MsgFault) → IsLeastBad bytes place → IsFaultOf bytes fault → IsBadAt place fault
bad_fault bytes place (faults.Kind number) h is = one_place bytes place 0 h is.0
bad_fault bytes place (faults.Field at) h is = one_place bytes place at h is
bad_fault bytes place (faults.Reserved at) h is = one_place bytes place at h is.0
bad_fault bytes place (faults.Short needed) h is = cut_is_front bytes place needed h is

is_bad : (bytes : List ℕ) (o : Read) (place : ℕ) → IsBytes bytes → decode bytes ≡ o → IsLeastBad bytes place
    → ((m : Row) → Begins m bytes → ⊥) → IsErrAnd o (IsBadAt place)
is_bad bytes (Ok x) place fits e h none = absurd (none x.0 (begins_found bytes x (decode_found bytes x fits e)))
is_bad bytes (Err fault) place fits e h none = bad_fault bytes place fault h (is_fault bytes fault fits e)

pub bad : (bytes : List ℕ) (o : Read) (place : ℕ) → IsBytes bytes → o ≡ decode bytes → IsLeastBad bytes place
    → ((m : Row) → Begins m bytes → ⊥) → IsErrAnd o (IsBadAt place)
bad bytes o place fits e h none = is_bad bytes o place fits (sym e) h none

-- ---- the clauses of reading

pub found : (bytes : List ℕ) (o : Read) → IsBytes bytes → o ≡ decode bytes
    → IfOk o (λ x. Begins x.0 bytes × (x.1 ≡ length (spelling x.0)))
found bytes (Ok x) fits e = let h = decode_found bytes x fits (sym e) in (begins_found bytes x h, h.length-is)
found bytes (Err fault) fits e = tt

pub fault : (bytes : List ℕ) (o : Read) → IsBytes bytes → o ≡ decode bytes → IfErr o (λ f. IsFaultOf bytes f)
fault bytes (Ok x) fits e = tt
fault bytes (Err f) fits e = is_fault bytes f fits (sym e)

pub append_cancel : (a bytes y : List ℕ) → a ++ bytes ≡ a ++ y → bytes ≡ y
append_cancel [] bytes y e = e
append_cancel (b ∷ a) bytes y e = append_cancel a bytes y (ap (drop 1) e)

pub one_spelling : (a b : Row) (bytes y : List ℕ) → IsMessage a → IsMessage b → spelling a ++ bytes ≡ spelling b ++ y
    → (a ≡ b) × (bytes ≡ y)
one_spelling a b bytes y ha hb e =
    let same : a ≡ b = same_message (spelling a ++ bytes) a b (record { message = ha; rest = bytes; parts = refl })
    (record { message = hb; rest = y; parts = e }) in
    (same, append_cancel (spelling b) bytes y (subst (λ (m : Row). spelling m ++ bytes ≡ spelling b ++ y) same e))
