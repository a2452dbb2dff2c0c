-- Bytes that are admitted as far as they go are the front of a message's spelling.
use Rattle.std.proofs.Common.{◌≡◌, ℕ, zero, suc, ◌+◌, ◌-◌, ◌≤◌, Bool, true, ltb, List, [], ◌∷◌, ◌++◌, length, take, replicate, refl, sym, ap, ◌∙◌, arith}
use Rattle.std.specs.Prelude.{◌&&◌}
use Rattle.std.proofs.lemmas.Bool.{eq-eqb, and_parts, ltb-true}
use Rattle.std.proofs.lemmas.List.{take_at, length-append, length-replicate}
use Rattle.std.proofs.Math.Seq.{take-append-add}
use Rattle.bk_msg.specs.declared.kind.Kind.{Kind}
use Rattle.bk_msg.specs.declared.kind.Kind.TheVariants.{Rd, Wr, UcRd, UcWr, Evict, Inv, StWb, StTr, Blk, StWake, UcBlk, UcDone, Done, Fill, InvAck, CohAck, Wb, NullWb, Read, Write, WriteWord, Block}
use Rattle.bk_msg.specs.declared.row.Row.{Row}
use Rattle.bk_msg.specs.declared.table.Rule.{Rule}
use Rattle.bk_msg.specs.declared.table.Rule.TheVariants.{Reserved, Cache, Way, Only, State, Aligned, Any}
use Rattle.bk_msg.specs.declared.table.States.TheVariants.{Lowered, Left, Received, Granted, Modified}
use Rattle.bk_msg.specs.declared.table.Unit.TheVariants as units
use Rattle.bk_msg.specs.Kinds.{kind_code}
use Rattle.bk_msg.specs.Table.{admits, rules_of, size_of, load_bytes, layout_of}
use Rattle.bk_msg.specs.Spelling.{spelling}
use Rattle.bk_msg.specs.Faults.{IsFrontOf}
use Rattle.bk_msg.proofs.Admitted.{AllAdmitted}
use Rattle.bk_msg.proofs.Messages.{found_whole, is_read}
use Rattle.bk_msg.proofs.Parts.{IsBytes}

-- a byte that the rule admits
abbrev witness : Rule → ℕ
witness Reserved = 0
witness Cache = 0
witness Way = 0
witness (Only n) = n
witness (State Lowered) = 0
witness (State Left) = 0
witness (State Received) = 1
witness (State Granted) = 1
witness (State Modified) = 6
witness (Aligned unit) = 0
witness Any = 0

witness_admitted : (rule : Rule) → admits rule (witness rule) ≡ true
witness_admitted Reserved = refl
witness_admitted Cache = refl
witness_admitted Way = refl
witness_admitted (Only n) = eq-eqb n n refl
witness_admitted (State Lowered) = refl
witness_admitted (State Left) = refl
witness_admitted (State Received) = refl
witness_admitted (State Granted) = refl
witness_admitted (State Modified) = refl
witness_admitted (Aligned units.Block) = refl
witness_admitted (Aligned units.Word) = refl
witness_admitted Any = refl

-- what the bytes lack, as far as the rules go
abbrev fill : List Rule → List ℕ → List ℕ
fill [] bytes = []
fill (rule ∷ rules) [] = witness rule ∷ fill rules []
fill (rule ∷ rules) (b ∷ bytes) = fill rules bytes

fill_admitted_nil : (rules : List Rule) (more : List ℕ) → AllAdmitted rules (fill rules [] ++ more)
fill_admitted_nil [] more = tt
fill_admitted_nil (rule ∷ rules) more = (witness_admitted rule, fill_admitted_nil rules more)

fill_admitted : (rules : List Rule) (bytes more : List ℕ) → AllAdmitted rules bytes
    → AllAdmitted rules (bytes ++ (fill rules bytes ++ more))
fill_admitted [] bytes more h = tt
fill_admitted (rule ∷ rules) [] more h = (witness_admitted rule, fill_admitted_nil rules more)
fill_admitted (rule ∷ rules) (b ∷ bytes) more h = (h.0, fill_admitted rules bytes more h.1)

fill_length : (rules : List Rule) (bytes : List ℕ) → length rules ≤ length bytes + length (fill rules bytes)
fill_length [] bytes = omega arith
fill_length (rule ∷ rules) [] = let h = fill_length rules [] in omega (arith, h)
fill_length (rule ∷ rules) (b ∷ bytes) = let h = fill_length rules bytes in omega (arith, h)

-- ---- the bytes that are filled in are bytes

abbrev small_witnesses : List Rule → Bool
small_witnesses [] = true
small_witnesses (rule ∷ rules) = ltb (witness rule) 256 && small_witnesses rules

-- The rules of a kind are known, and what is filled in for a rule is 0, 1, 6 or the one number that the rule admits: for each of the 22
-- kinds it computes that all are below 256.
kind_witnesses : (kind : Kind) → small_witnesses (rules_of (layout_of kind)) ≡ true
kind_witnesses Rd = refl
kind_witnesses Wr = refl
kind_witnesses UcRd = refl
kind_witnesses UcWr = refl
kind_witnesses Evict = refl
kind_witnesses Inv = refl
kind_witnesses StWb = refl
kind_witnesses StTr = refl
kind_witnesses Blk = refl
kind_witnesses StWake = refl
kind_witnesses UcBlk = refl
kind_witnesses UcDone = refl
kind_witnesses Done = refl
kind_witnesses Fill = refl
kind_witnesses InvAck = refl
kind_witnesses CohAck = refl
kind_witnesses Wb = refl
kind_witnesses NullWb = refl
kind_witnesses Read = refl
kind_witnesses Write = refl
kind_witnesses WriteWord = refl
kind_witnesses Block = refl

fill_bytes : (rules : List Rule) (bytes : List ℕ) → small_witnesses rules ≡ true → IsBytes (fill rules bytes)
fill_bytes [] bytes h i = omega arith
fill_bytes (rule ∷ rules) [] h zero = ltb-true _ _ (and_parts _ _ h).0
fill_bytes (rule ∷ rules) [] h (suc i) = fill_bytes rules [] (and_parts _ _ h).1 i
fill_bytes (rule ∷ rules) (b ∷ bytes) h i = fill_bytes rules bytes (and_parts _ _ h).1 i

IsBytes-append : (a b : List ℕ) → IsBytes a → IsBytes b → IsBytes (a ++ b)
IsBytes-append [] b ha hb i = hb i
IsBytes-append (x ∷ a) b ha hb zero = ha zero
IsBytes-append (x ∷ a) b ha hb (suc i) = IsBytes-append a b (λ j. ha (suc j)) hb i

abbrev zeros : ℕ → List ℕ
zeros n = replicate n 0

length-zeros : (n : ℕ) → length (zeros n) ≡ n
length-zeros n = length-replicate {A = ℕ} n 0

IsBytes-zeros : (n : ℕ) → IsBytes (zeros n)
IsBytes-zeros zero i = omega arith
IsBytes-zeros (suc n) zero = omega arith
IsBytes-zeros (suc n) (suc i) = IsBytes-zeros n i

-- ---- the front of a message

pub record IsFrontFor (kind : Kind) (bytes : List ℕ) : Type 0 where
  pub row : Row
  pub front : IsFrontOf row bytes
  pub size : length (spelling row) ≡ size_of (layout_of kind)

-- a front of the whole is one of its own front
shorter : (a b bytes d : List ℕ) (n : ℕ) → length bytes ≡ n → length a ≤ n → a ++ b ≡ bytes ++ d
    → bytes ≡ a ++ take (n - length a) b
shorter a b bytes d n len le e =
    let k : n ≡ length a + (n - length a) = omega (arith, le) in
    sym (take_at bytes d n len)
    ∙ (ap (take n) (sym e) ∙ (ap (λ (number : ℕ). take number (a ++ b)) k ∙ take-append-add a b (n - length a)))

-- Bytes that the rules admit can be filled up to a whole message: with the least byte that each later rule admits, and with zeros for
-- words.
pub is_front : (kind : Kind) (bytes : List ℕ) → IsBytes (kind_code kind ∷ bytes) → AllAdmitted (rules_of (layout_of kind)) bytes
    → suc (length bytes) ≤ size_of (layout_of kind) → IsFrontFor kind (kind_code kind ∷ bytes)
is_front kind bytes fits h le =
    let l = layout_of kind in
    let rules = rules_of l in
    let more = fill rules bytes ++ zeros (load_bytes l.load) in
    let whole = kind_code kind ∷ (bytes ++ more) in
    let filled = fill_admitted rules bytes (zeros (load_bytes l.load)) h in
    let byte : IsBytes whole = IsBytes-append (kind_code kind ∷ bytes) more fits
    (IsBytes-append (fill rules bytes) (zeros (load_bytes l.load)) (fill_bytes rules bytes (kind_witnesses kind))
    (IsBytes-zeros (load_bytes l.load))) in
    let long : size_of l ≤ length whole = omega (
      arith,
      fill_length rules bytes,
      length-append bytes more,
      length-append (fill rules bytes) (zeros (load_bytes l.load)),
      length-zeros (load_bytes l.load),
    ) in
    let found = found_whole kind whole (is_read kind whole byte refl filled long) in
    record {
      row = _;
      front = record {
        message = found.message;
        rest = _;
        parts = shorter (kind_code kind ∷ bytes) more (spelling _) _ (size_of l) (sym found.length-is) le found.parts;
      };
      size = sym found.length-is;
    }
