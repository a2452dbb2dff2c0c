-- A message that is read is spelled so, and what is spelled so is read.
use Rattle.std.proofs.Common.{◌≡◌, ℕ, ◌+◌, ◌*◌, ◌%◌, ◌/◌, ◌^◌, ◌<◌, ◌≤◌, Bool, true, false, cond, eqb, ltb, List, [], ◌∷◌, ◌++◌, length, get_or, take, drop, Option, Some, None, Ok, Err, refl, sym, ap, subst, ◌∙◌, arith}
use Rattle.std.specs.List.{flat_map}
use Rattle.std.proofs.lemmas.Bool.{eqb-true, eq-eqb, ltb-false, le-ltb, lt-ltb}
use Rattle.std.proofs.lemmas.List.{take-append-drop, drop-drop, length-append}
use Rattle.bk_msg.specs.declared.fault.MsgFault.{MsgFault}
use Rattle.bk_msg.specs.declared.fault.MsgFault.TheVariants as faults
use Rattle.bk_msg.specs.declared.fields.Fields.{Fields}
use Rattle.bk_msg.specs.declared.fields.Payload.{Payload}
use Rattle.bk_msg.specs.declared.kind.Kind.{Kind}
use Rattle.bk_msg.specs.declared.row.Row.{Row}
use Rattle.bk_msg.specs.declared.table.Layout.{Layout}
use Rattle.bk_msg.specs.Kinds.{kind_code, kind_of_code}
use Rattle.bk_msg.specs.Table.{unit_bytes, load_bytes, size_of, rules_of, layout_of}
use Rattle.bk_msg.specs.Fields.{fields_of, row_of, words_of}
use Rattle.bk_msg.specs.Spelling.{word, header, text, spelling, FitsLayout, IsMessage}
use Rattle.bk_msg.specs.Reading.{first_fault, word_at, payload_at, fields_at, message_at, after_kind, decode}
use Rattle.bk_msg.proofs.Admitted.{AllAdmitted, admitted-from_none, none-from_admitted}
use Rattle.bk_msg.proofs.Numbers.{kind_again, kind_found}
use Rattle.bk_msg.proofs.Parts.{IsBytes, word_back, word_again, aligned_low, low_aligned, payload_back, payload_fits, payload_again, payload_length}
use Rattle.bk_msg.proofs.RoundTrips.{row_of-fields_of, fields_of-row_of, row_in_range}

-- what reading the fields of a kind gives
pub record IsRead (kind : Kind) (bytes : List ℕ) : Type 0 where
  pub fits : FitsLayout (layout_of kind) (fields_at kind bytes)
  pub parts : bytes ≡ text (fields_at kind bytes) ++ drop (size_of (layout_of kind)) bytes

-- Bytes 1 to 7 are fields in range as their rules say. Bytes 13 to 15 are 0, so the address is below 2^40, and its lowest byte has it
-- aligned. Spelled again, address and payload give the bytes that they were read from (`word_back`, `payload_back`).
pub is_read : (k : Kind) (bytes : List ℕ) → IsBytes bytes → get_or bytes 0 0 ≡ kind_code k
    → AllAdmitted (rules_of (layout_of k)) (drop 1 bytes) → size_of (layout_of k) ≤ length bytes → IsRead k bytes
is_read k (b0 ∷ b1 ∷ b2 ∷ b3 ∷ b4 ∷ b5 ∷ b6 ∷ b7 ∷ b8 ∷ b9 ∷ b10 ∷ b11 ∷ b12 ∷ b13 ∷ b14 ∷ b15 ∷ rest) fits
    kind h long =
    let bytes : List ℕ = b0 ∷ b1 ∷ b2 ∷ b3 ∷ b4 ∷ b5 ∷ b6 ∷ b7 ∷ b8 ∷ b9 ∷ b10 ∷ b11 ∷ b12 ∷ b13 ∷ b14
    ∷ b15 ∷ rest in
    let l = layout_of k in
    let f = fields_at k bytes in
    let a8 = h.1.1.1.1.1.1.1 in
    let a13 = a8.1.1.1.1.1 in
    let low : b8 % unit_bytes l.address ≡ 0 = eqb-true _ _ a8.0 in
    let top13 : b13 ≡ 0 = eqb-true _ _ a13.0 in
    let top14 : b14 ≡ 0 = eqb-true _ _ a13.1.0 in
    let top15 : b15 ≡ 0 = eqb-true _ _ a13.1.1.0 in
    let high = b9 + 256 * (b10 + 256 * (b11 + 256 * (b12 + 256 * (b13 + 256 * (b14 + 256 * b15))))) in
    let number : word_at 8 bytes ≡ b8 + 256 * high = omega arith in
    let below : word_at 8 bytes < 2 ^ 40 = omega (arith, fits 8, fits 9, fits 10, fits 11, fits 12) in
    let aligned : word_at 8 bytes % unit_bytes l.address ≡ 0 =
    subst (λ (n : ℕ). n % unit_bytes l.address ≡ 0) (sym number) (aligned_low l.address b8 high low) in
    let address : word f.addr ≡ b8 ∷ b9 ∷ b10 ∷ b11 ∷ b12 ∷ b13 ∷ b14 ∷ b15 ∷ [] =
    word_back 8 bytes fits (omega (arith, long)) in
    let payload : flat_map word (words_of f.payload) ≡ take (load_bytes l.load) rest = payload_back l.load bytes fits long in
    let beyond : drop (load_bytes l.load) rest ≡ drop (size_of l) bytes = drop-drop (load_bytes l.load) 16 bytes in
    let whole = λ (k0 : ℕ) (a p d : List ℕ). ((k0 ∷ b1 ∷ b2 ∷ b3 ∷ b4 ∷ b5 ∷ b6 ∷ b7 ∷ []) ++ (a ++ p)) ++ d in
    let cells : List ℕ = b8 ∷ b9 ∷ b10 ∷ b11 ∷ b12 ∷ b13 ∷ b14 ∷ b15 ∷ [] in
    let split : bytes ≡ whole b0 cells (take (load_bytes l.load) rest) (drop (load_bytes l.load) rest) =
    ap (λ (text : List ℕ). b0 ∷ b1 ∷ b2 ∷ b3 ∷ b4 ∷ b5 ∷ b6 ∷ b7 ∷ b8 ∷ b9 ∷ b10 ∷ b11 ∷ b12 ∷ b13 ∷ b14
    ∷ b15 ∷ text)
    (sym (take-append-drop (load_bytes l.load) rest)) in
    record {
      fits = record {
        from = h.0;
        to = h.1.0;
        way = h.1.1.0;
        state = h.1.1.1.0;
        peer = h.1.1.1.1.0;
        peer_way = h.1.1.1.1.1.0;
        peer_state = h.1.1.1.1.1.1.0;
        below = below;
        aligned = aligned;
        payload = payload_fits l.load bytes fits;
      };
      parts = split
          ∙ (ap (λ (d : List ℕ). whole b0 cells (take (load_bytes l.load) rest) d) beyond
          ∙ (ap (λ (p : List ℕ). whole b0 cells p (drop (size_of l) bytes)) (sym payload)
          ∙ (ap (λ (a : List ℕ). whole b0 a (flat_map word (words_of f.payload)) (drop (size_of l) bytes)) (sym address)
          ∙ ap (λ (k0 : ℕ). whole k0 (word f.addr) (flat_map word (words_of f.payload)) (drop (size_of l) bytes)) kind)));
    }
is_read k bytes fits kind h long = absurd (omega (arith, long))

-- ---- what is spelled is read

pub fields_again : (f : Fields) (rest : List ℕ) → FitsLayout (layout_of f.kind) f → fields_at f.kind (text f ++ rest) ≡ f
fields_again f rest h =
    let p = flat_map word (words_of f.payload) in
    let l = layout_of f.kind in
    let made = λ (a : ℕ) (load : Payload). record f { addr = a; payload = load } in
    let address : word_at 8 (text f ++ rest) ≡ f.addr = word_again (header f) (p ++ rest) f.addr 8 refl (omega (arith, h.below)) in
    let payload : payload_at l.load (text f ++ rest) ≡ f.payload =
    payload_again l.load f.payload (header f ++ word f.addr) rest h.payload refl in
    ap (λ (a : ℕ). made a (payload_at l.load (text f ++ rest))) address ∙ ap (λ (load : Payload). made f.addr load) payload

-- Each byte of the text is a field within its range or a byte of an address that is aligned, and these are what the rules ask.
pub text_admitted : (f : Fields) (l : Layout) (rest : List ℕ) → FitsLayout l f → AllAdmitted (rules_of l) (drop 1 (text f ++ rest))
text_admitted f l rest h =
    let low : eqb (f.addr % 256 % unit_bytes l.address) 0 ≡ true = eq-eqb _ _ (low_aligned l.address f.addr h.aligned) in
    let top : (n : ℕ) → f.addr / 2 ^ n % 256 ≡ 0 → eqb (f.addr / 2 ^ n % 256) 0 ≡ true = λ n e. eq-eqb _ _ e in (
      h.from,
      (
        h.to,
        (
          h.way,
          (
            h.state,
            (
              h.peer,
              (
                h.peer_way,
                (
                  h.peer_state,
                  (
                    low,
                    (refl, (refl, (refl, (refl, (top 40 (omega arith), (top 48 (omega arith), (top 56 (omega arith), tt))))))),
                  ),
                ),
              ),
            ),
          ),
        ),
      ),
    )

pub text_length : (f : Fields) (l : Layout) → FitsLayout l f → length (text f) ≡ size_of l
text_length f l h = omega (arith, payload_length l.load f.payload h.payload)

-- ---- reading, step by step

pub at_no_kind : (bytes : List ℕ) → 0 < length bytes → kind_of_code (get_or bytes 0 0) ≡ None
    → decode bytes ≡ Err (faults.Kind (get_or bytes 0 0))
unfolding decode
at_no_kind [] some e = absurd (omega (arith, some))
at_no_kind (b ∷ rest) some e = rw e refl

pub at_fault : (bytes : List ℕ) (kind : Kind) (fault : MsgFault) → 0 < length bytes → kind_of_code (get_or bytes 0 0) ≡ Some kind
    → first_fault 1 (rules_of (layout_of kind)) (drop 1 bytes) ≡ Some fault → decode bytes ≡ Err fault
unfolding decode
at_fault [] k fault some e h = absurd (omega (arith, some))
at_fault (b ∷ rest) k fault some e h = rw (e, h) refl

pub at_end : (bytes : List ℕ) (kind : Kind) → 0 < length bytes → kind_of_code (get_or bytes 0 0) ≡ Some kind
    → first_fault 1 (rules_of (layout_of kind)) (drop 1 bytes) ≡ None → length bytes < size_of (layout_of kind)
    → decode bytes ≡ Err (faults.Short (size_of (layout_of kind)))
unfolding decode
at_end [] k some e h lt = absurd (omega (arith, some))
at_end (b ∷ rest) k some e h lt = rw (e, h, lt-ltb _ _ lt) refl

pub at_whole : (bytes : List ℕ) (kind : Kind) → 0 < length bytes → kind_of_code (get_or bytes 0 0) ≡ Some kind
    → first_fault 1 (rules_of (layout_of kind)) (drop 1 bytes) ≡ None → size_of (layout_of kind) ≤ length bytes
    → decode bytes ≡ Ok (row_of (fields_at kind bytes), size_of (layout_of kind))
unfolding decode
at_whole [] k some e h le = absurd (omega (arith, some))
at_whole (b ∷ rest) k some e h le = rw (e, h, le-ltb _ _ le) refl

-- ---- what is spelled is read

pub decode_again : (m : Row) (rest : List ℕ) → IsMessage m → decode (spelling m ++ rest) ≡ Ok (m, length (spelling m))
decode_again m rest h =
    let f = fields_of m in
    let l = layout_of f.kind in
    let size = text_length f l h in
    let none = none-from_admitted 1 (rules_of l) (drop 1 (text f ++ rest)) (text_admitted f l rest h) in
    let read = at_whole (text f ++ rest) f.kind (omega arith) (kind_again f.kind) none (omega (arith, size, length-append (text f) rest)) in
    let row : row_of (fields_at f.kind (text f ++ rest)) ≡ m = ap row_of (fields_again f rest h) ∙ row_of-fields_of m in
    read ∙ (ap (λ (message : Row). Ok (message, size_of l)) row ∙ ap (λ (n : ℕ). Ok (m, n)) (sym size))

-- ---- what is read is spelled so

pub record IsFound (bytes : List ℕ) (x : Row × ℕ) : Type 0 where
  pub message : IsMessage x.0
  pub length-is : x.1 ≡ length (spelling x.0)
  pub parts : bytes ≡ spelling x.0 ++ drop x.1 bytes

pub found_whole : (kind : Kind) (bytes : List ℕ) → IsRead kind bytes
    → IsFound bytes (row_of (fields_at kind bytes), size_of (layout_of kind))
found_whole kind bytes h =
    let f = fields_at kind bytes in
    let back = fields_of-row_of f h.fits in
    record {
      message = row_in_range f h.fits;
      length-is = sym (ap (λ (g : Fields). length (text g)) back ∙ text_length f (layout_of kind) h.fits);
      parts = h.parts ∙ ap (λ (g : Fields). text g ++ drop (size_of (layout_of kind)) bytes) (sym back);
    }

tested : (b : Bool) (fault : MsgFault) (y x : Row × ℕ) → cond b (Err fault) (Ok y) ≡ Ok x → (b ≡ false) × (y ≡ x)
tested true fault y x e = absurd cc
tested false fault y x e = (refl, cc)

found_at : (k : Kind) (bytes : List ℕ) (o : Option MsgFault) (x : Row × ℕ) → IsBytes bytes → get_or bytes 0 0 ≡ kind_code k
    → first_fault 1 (rules_of (layout_of k)) (drop 1 bytes) ≡ o → message_at k bytes o ≡ Ok x → IsFound bytes x
found_at k bytes (Some fault) x fits kind none e = absurd cc
found_at k bytes None x fits kind none e =
    let t = tested (ltb (length bytes) (size_of (layout_of k))) (faults.Short (size_of (layout_of k))) (
      row_of (fields_at k bytes),
      size_of (layout_of k),
    ) x e in
    let read = is_read k bytes fits kind (admitted-from_none 1 (rules_of (layout_of k)) (drop 1 bytes) none) (ltb-false _ _ t.0) in
    subst (λ (y : Row × ℕ). IsFound bytes y) t.1 (found_whole k bytes read)

found_kind : (o : Option Kind) (b : ℕ) (rest : List ℕ) (x : Row × ℕ) → kind_of_code b ≡ o → IsBytes (b ∷ rest)
    → after_kind o b rest ≡ Ok x
    → IsFound (b ∷ rest) x
found_kind None b rest x is fits e = absurd cc
found_kind (Some k) b rest x is fits e =
    found_at k (b ∷ rest) (first_fault 1 (rules_of (layout_of k)) rest) x fits (kind_found b k is) refl e

pub decode_found : (bytes : List ℕ) (x : Row × ℕ) → IsBytes bytes → decode bytes ≡ Ok x → IsFound bytes x
unfolding decode
decode_found [] x fits e = absurd cc
decode_found (b ∷ rest) x fits e = found_kind (kind_of_code b) b rest x refl fits e
