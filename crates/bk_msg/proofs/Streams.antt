-- Reading a stream message by message, of which the next is gathered in a rest.
use Rattle.std.proofs.Common.{◌≡◌, ℕ, ◌+◌, ◌<◌, ◌≤◌, Bool, true, false, cond, ltb, List, [], ◌∷◌, ◌++◌, length, take, Option, Some, None, Result, Ok, Err, refl, sym, ap, subst, ◌∙◌, append_assoc, arith}
use Rattle.std.specs.Prelude.{slice_index}
use Rattle.std.specs.List.{AllByRecursion}
use Rattle.std.proofs.lemmas.Bool.{ltb-true}
use Rattle.std.proofs.lemmas.List.{append-nil, length-append, nil_from_length, take_at}
use Rattle.std.proofs.lemmas.List.Concat.{flat_map-cons}
use Rattle.std.proofs.lemmas.Grind.{flat_map-append}
use Rattle.bk_msg.specs.declared.fault.MsgFault.{MsgFault}
use Rattle.bk_msg.specs.declared.fault.MsgFault.TheVariants as faults
use Rattle.bk_msg.specs.declared.kind.Kind.{Kind}
use Rattle.bk_msg.specs.declared.row.Row.{Row}
use Rattle.bk_msg.specs.declared.table.Rule.{Rule}
use Rattle.bk_msg.specs.Kinds.{kind_of_code}
use Rattle.bk_msg.specs.Table.{admits, fault_at, rules_of, size_of, layout_of}
use Rattle.bk_msg.specs.Fields.{fields_of, row_of}
use Rattle.bk_msg.specs.Spelling.{spelling, IsMessage, Begins}
use Rattle.bk_msg.specs.Reading.{first_fault, fields_at, message_at, after_kind, decode}
use Rattle.bk_msg.specs.Faults.{IsShort}
use Rattle.bk_msg.specs.Feeds.{spellings, IsPartial, Reads}
use Rattle.bk_msg.proofs.Bad.{is_first}
use Rattle.bk_msg.proofs.Exactly.{message_length, length_bounds, load_few, begins_read}
use Rattle.bk_msg.proofs.Numbers.{kind_again}

-- ---- a short front

abbrev Read : Type 0
Read = Result (Row × ℕ) MsgFault

-- the bytes are short of a message of their kind
pub record IsShortOf (bytes : List ℕ) (needed : ℕ) : Type 0 where
  pub below : length bytes < needed
  pub few : needed ≤ 80
  -- a message with the same first byte has that length at least
  pub least : (m : Row) → IsMessage m → (0 < length bytes → slice_index (spelling m) 0 ≡ slice_index bytes 0)
      → needed ≤ length (spelling m)

size_few : (kind : Kind) → size_of (layout_of kind) ≤ 80
size_few kind = omega (arith, load_few (layout_of kind).load)

abbrev just : Kind → Option Kind
just kind = Some kind

same_kind : (j kind : Kind) → just j ≡ just kind → j ≡ kind
same_kind j kind e = cc

short_of_kind : (k : Kind) (b : ℕ) (rest : List ℕ) → kind_of_code b ≡ Some k → length (b ∷ rest) < size_of (layout_of k)
    → IsShortOf (b ∷ rest) (size_of (layout_of k))
short_of_kind k b rest kind lt =
    record {
      below = lt;
      few = size_few k;
      least = λ m h first.
          let same : (fields_of m).kind ≡ k =
          same_kind (fields_of m).kind k (sym (kind_again (fields_of m).kind) ∙ (ap kind_of_code (first (omega arith)) ∙ kind)) in
          omega (arith, message_length m h, ap (λ (j : Kind). size_of (layout_of j)) same);
    }

tested : (b : Bool) (n needed : ℕ) (y : Row × ℕ) → cond b (Err (faults.Short n)) (Ok y) ≡ Err (faults.Short needed)
    → (b ≡ true) × (n ≡ needed)
tested true n needed y e = (refl, cc)
tested false n needed y e = absurd cc

short_at : (k : Kind) (b : ℕ) (rest : List ℕ) (o : Option MsgFault) (needed : ℕ) → kind_of_code b ≡ Some k
    → first_fault 1 (rules_of (layout_of k)) rest ≡ o → message_at k (b ∷ rest) o ≡ Err (faults.Short needed)
    → IsShortOf (b ∷ rest) needed
short_at k b rest (Some d) needed kind first e =
    let same : d ≡ faults.Short needed = cc in
    absurd (is_first 1 (rules_of (layout_of k)) rest (faults.Short needed) (first ∙ ap (λ (x : MsgFault). Some x) same)).fault-is
short_at k b rest None needed kind first e =
    let t = tested (ltb (length (b ∷ rest)) (size_of (layout_of k))) (size_of (layout_of k)) needed (
      row_of (fields_at k (b ∷ rest)),
      size_of (layout_of k),
    ) e in
    subst (λ (n : ℕ). IsShortOf (b ∷ rest) n) t.1 (short_of_kind k b rest kind (ltb-true _ _ t.0))

short_kind : (o : Option Kind) (b : ℕ) (rest : List ℕ) (needed : ℕ) → kind_of_code b ≡ o
    → after_kind o b rest ≡ Err (faults.Short needed)
    → IsShortOf (b ∷ rest) needed
short_kind None b rest needed kind e = absurd cc
short_kind (Some k) b rest needed kind e = short_at k b rest (first_fault 1 (rules_of (layout_of k)) rest) needed kind refl e

pub is_short_of : (bytes : List ℕ) (needed : ℕ) → decode bytes ≡ Err (faults.Short needed) → IsShortOf bytes needed
unfolding decode
is_short_of [] needed e =
    let one : 1 ≡ needed = cc in
    record { below = omega (arith, one); few = omega (arith, one); least = λ m h first. omega (arith, one, length_bounds m h) }
is_short_of (b ∷ rest) needed e = short_kind (kind_of_code b) b rest needed refl e

-- ---- a fault other than Short stays, whatever follows

stays_test : (test : Bool) (a b : Option MsgFault) (d fault : MsgFault) → (a ≡ Some fault → b ≡ Some fault)
    → cond test a (Some d) ≡ Some fault → cond test b (Some d) ≡ Some fault
stays_test true a b d fault h e = h e
stays_test false a b d fault h e = e

cut_is_short : (b : Bool) (n : ℕ) (y : Row × ℕ) (fault : MsgFault) → cond b (Err (faults.Short n)) (Ok y) ≡ Err fault
    → IsShort fault
cut_is_short true n y fault e = let same : faults.Short n ≡ fault = cc in subst (λ (f : MsgFault). IsShort f) same tt
cut_is_short false n y fault e = absurd cc

stays_first : (place : ℕ) (rules : List Rule) (bytes more : List ℕ) (fault : MsgFault) → first_fault place rules bytes ≡ Some fault
    → first_fault place rules (bytes ++ more) ≡ Some fault
stays_first place [] bytes more fault e = absurd cc
stays_first place (rule ∷ rules) [] more fault e = absurd cc
stays_first place (rule ∷ rules) (b ∷ bytes) more fault e = stays_test (admits rule b) (first_fault (place + 1) rules bytes)
    (first_fault (place + 1) rules (bytes ++ more)) (fault_at rule place) fault (stays_first (place + 1) rules bytes more fault) e

stays_at : (kind : Kind) (b : ℕ) (rest more : List ℕ) (o : Option MsgFault) (fault : MsgFault)
    → first_fault 1 (rules_of (layout_of kind)) rest ≡ o → message_at kind (b ∷ rest) o ≡ Err fault → (IsShort fault → ⊥)
    → message_at kind (b ∷ (rest ++ more)) (first_fault 1 (rules_of (layout_of kind)) (rest ++ more)) ≡ Err fault
stays_at kind b rest more (Some d) fault first e none = rw (stays_first 1 (rules_of (layout_of kind)) rest more d first) e
stays_at kind b rest more None fault first e none =
    absurd (none (cut_is_short (ltb (length (b ∷ rest)) (size_of (layout_of kind))) (size_of (layout_of kind))
    (row_of (fields_at kind (b ∷ rest)), size_of (layout_of kind)) fault e))

stays_kind : (o : Option Kind) (b : ℕ) (rest more : List ℕ) (fault : MsgFault) → after_kind o b rest ≡ Err fault
    → (IsShort fault → ⊥)
    → after_kind o b (rest ++ more) ≡ Err fault
stays_kind None b rest more fault e none = e
stays_kind (Some k) b rest more fault e none = stays_at k b rest more (first_fault 1 (rules_of (layout_of k)) rest) fault refl e none

pub stays_bad : (bytes more : List ℕ) (fault : MsgFault) → decode bytes ≡ Err fault → (IsShort fault → ⊥)
    → decode (bytes ++ more) ≡ Err fault
unfolding decode
stays_bad [] more fault e none = let one : faults.Short 1 ≡ fault = cc in absurd (none (subst (λ (f : MsgFault). IsShort f) one tt))
stays_bad (b ∷ rest) more fault e none = stays_kind (kind_of_code b) b rest more fault e none

-- ---- the state of reading

pub record Reading (stream : List ℕ) (before : List Row) (rest left : List ℕ) (after : List Row) : Type 0 where
  pub messages : List Row
  pub each : AllByRecursion IsMessage messages
  pub added : after ≡ before ++ messages
  pub whole : stream ≡ spellings messages ++ (rest ++ left)
  pub few : length rest ≤ 80
  -- what is gathered is one message at most
  pub one : (m : Row) → Begins m rest → rest ≡ spelling m

pub starts : (old piece : List ℕ) (before : List Row) → IsPartial old → Reading (old ++ piece) before old piece before
starts old piece before partial =
    let s = is_short_of old partial.0 partial.1 in
    record {
      messages = [];
      each = tt;
      added = sym (append-nil before);
      whole = refl;
      few = omega (arith, s.below, s.few);
      one = λ m h. absurd (cc (partial.1, begins_read old m h));
    }

pub AllByRecursion-more : (ms : List Row) (m : Row) → AllByRecursion IsMessage ms → IsMessage m
    → AllByRecursion IsMessage (ms ++ m ∷ [])
AllByRecursion-more [] m h is = (is, tt)
AllByRecursion-more (n ∷ ms) m h is = (h.0, AllByRecursion-more ms m h.1 is)

pub spellings-more : (ms : List Row) (m : Row) → spellings (ms ++ m ∷ []) ≡ spellings ms ++ spelling m
spellings-more ms m = flat_map-append spelling ms (m ∷ [])
    ∙ ap (λ (text : List ℕ). spellings ms ++ text) (flat_map-cons spelling m [] ∙ append-nil (spelling m))

pub takes_message : (stream : List ℕ) (before : List Row) (rest left : List ℕ) (after : List Row) (m : Row)
    → Reading stream before rest left after → Begins m rest → Reading stream before [] left (after ++ m ∷ [])
takes_message stream before rest left after m h begins =
    let whole : stream ≡ spellings (h.messages ++ m ∷ []) ++ left =
    h.whole ∙ (ap (λ (text : List ℕ). spellings h.messages ++ (text ++ left)) (h.one m begins)
    ∙ (sym (append_assoc (spellings h.messages) (spelling m) left)
    ∙ ap (λ (text : List ℕ). text ++ left) (sym (spellings-more h.messages m)))) in
    record {
      messages = h.messages ++ m ∷ [];
      each = AllByRecursion-more h.messages m h.each begins.message;
      added = ap (λ (rows : List Row). rows ++ m ∷ []) h.added ∙ append_assoc before h.messages (m ∷ []);
      whole = whole;
      few = omega arith;
      one = λ n other. absurd (omega (arith, ap length other.parts, length-append (spelling n) other.rest, length_bounds n other.message));
    }

-- the first byte is that of the message that begins the bytes
first_of_append : (rest front text more : List ℕ) → 0 < length rest → rest ++ front ≡ text ++ more → 0 < length text
    → slice_index text 0 ≡ slice_index rest 0
first_of_append [] front text more some e long = absurd (omega (arith, some))
first_of_append (b ∷ rest) front [] more some e long = absurd (omega (arith, long))
first_of_append (b ∷ rest) front (c ∷ text) more some e long = ap (λ (bytes : List ℕ). slice_index bytes 0) (sym e)

-- Fewer bytes than a message needs stay short of it, so taking some over from what is left changes nothing of what was read.
pub takes_bytes : (stream : List ℕ) (before : List Row) (rest left front back : List ℕ) (after : List Row) (needed : ℕ)
    → Reading stream before rest left after → decode rest ≡ Err (faults.Short needed)
    → left ≡ front ++ back → length rest + length front ≤ needed → Reading stream before (rest ++ front) back after
takes_bytes stream before rest left front back after needed h e split le =
    let s = is_short_of rest needed e in
    let long = length-append rest front in
    record {
      messages = h.messages;
      each = h.each;
      added = h.added;
      whole = h.whole ∙ (ap (λ (text : List ℕ). spellings h.messages ++ (rest ++ text)) split
          ∙ ap (λ (text : List ℕ). spellings h.messages ++ text) (sym (append_assoc rest front back)));
      few = omega (arith, long, le, s.few);
      one = λ m begins.
          let enough : needed ≤ length (spelling m) = s.least m begins.message
          (λ some. first_of_append rest front (spelling m) begins.rest some begins.parts
          (omega (arith, length_bounds m begins.message))) in
          let over : length begins.rest ≡ 0 = omega (
            arith,
            enough,
            le,
            long,
            ap length begins.parts,
            length-append (spelling m) begins.rest,
          ) in
          begins.parts ∙ (ap (λ (text : List ℕ). spelling m ++ text) (nil_from_length begins.rest over) ∙ append-nil (spelling m));
    }

-- what stands behind a rest that is no message changes nothing, where the rest isn't short
still : (rest left : List ℕ) (fault : MsgFault) → decode rest ≡ Err fault → (IsShort fault → left ≡ [])
    → decode (rest ++ left) ≡ Err fault
still rest left (faults.Short needed) e none = ap (λ (text : List ℕ). decode (rest ++ text)) (none tt)
    ∙ (ap decode (append-nil rest) ∙ e)
still rest left (faults.Kind number) e none = stays_bad rest left (faults.Kind number) e (λ h. h)
still rest left (faults.Field place) e none = stays_bad rest left (faults.Field place) e (λ h. h)
still rest left (faults.Reserved place) e none = stays_bad rest left (faults.Reserved place) e (λ h. h)

pub stops : (stream : List ℕ) (before : List Row) (rest left : List ℕ) (after : List Row) (fault : MsgFault)
    → Reading stream before rest left after → decode rest ≡ Err fault → (IsShort fault → left ≡ [])
    → Reads stream before after rest (length left) fault
stops stream before rest left after fault h e none = (
  h.messages,
  rest ++ left,
  record { whole = h.whole; each = h.each; stops = still rest left fault e none },
  h.added,
  length-append rest left,
  λ short. ap (λ (text : List ℕ). rest ++ text) (none short) ∙ append-nil rest,
)

pub put_back : (stream : List ℕ) (before : List Row) (rest left : List ℕ) (after : List Row) → Reading stream before rest left after
    → take (length before) after ≡ before
put_back stream before rest left after h = ap (take (length before)) h.added ∙ take_at before h.messages (length before) refl

pub no_short : (fault : MsgFault) → ((needed : ℕ) → fault ≡ faults.Short needed → ⊥) → IsShort fault → ⊥
no_short (faults.Kind number) none short = short
no_short (faults.Field place) none short = short
no_short (faults.Reserved place) none short = short
no_short (faults.Short needed) none short = none needed refl
