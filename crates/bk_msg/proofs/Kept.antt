-- What feeds keep, and what they make of a stream in pieces.
use Rattle.std.proofs.Common.{◌≡◌, ℕ, ◌+◌, ◌≤◌, List, [], ◌∷◌, ◌++◌, length, Option, Some, None, Result, Ok, Err, refl, sym, ap, subst, ◌∙◌, append_assoc, arith}
use Rattle.std.specs.List.{AllByRecursion}
use Rattle.std.proofs.lemmas.List.{append-nil, length-append}
use Rattle.std.proofs.lemmas.List.Concat.{flat_map-cons}
use Rattle.std.proofs.lemmas.Grind.{flat_map-append}
use Rattle.bk_msg.specs.declared.fault.MsgFault.{MsgFault}
use Rattle.bk_msg.specs.declared.fault.MsgFault.TheVariants as faults
use Rattle.bk_msg.specs.declared.row.Row.{Row}
use Rattle.bk_msg.specs.Spelling.{spelling, IsMessage}
use Rattle.bk_msg.specs.Reading.{decode}
use Rattle.bk_msg.specs.Faults.{IsShort}
use Rattle.bk_msg.specs.Feeds.{spellings, Splits, Kept, IsPartial, IsKept, new_feed, stopped, Feeds, FeedsAll, IsFedBy, Reads, joined}
use Rattle.bk_msg.proofs.Exactly.{append_cancel}
use Rattle.bk_msg.proofs.Messages.{decode_again}
use Rattle.bk_msg.proofs.Streams.{stays_bad}

-- ---- what is kept

nothing_is_partial : IsPartial []
unfolding decode
nothing_is_partial = (1, refl)

pub kept_nothing : (fed : ℕ) (rest : List ℕ) (fault : Option (ℕ × MsgFault)) → rest ≡ []
    → IsKept (record { fed = fed; rest = rest; fault = fault })
kept_nothing fed rest fault e = subst (λ (r : List ℕ). IsKept (record { fed = fed; rest = r; fault = fault })) (sym e)
    (record { within = omega arith; partial = nothing_is_partial })

-- ---- a stream splits in one way

abbrev reads : Row × ℕ → Result (Row × ℕ) MsgFault
reads x = Ok x

same_read : (x y : Row × ℕ) → reads x ≡ reads y → x ≡ y
same_read x y e = cc

abbrev fails : MsgFault → Result (Row × ℕ) MsgFault
fails x = Err x

same_error : (x y : MsgFault) → fails x ≡ fails y → x ≡ y
same_error x y e = cc

pub record Same (a b : List Row) (bytes y : List ℕ) (f g : MsgFault) : Type 0 where
  pub messages : a ≡ b
  pub rests : bytes ≡ y
  pub faults-are : f ≡ g

-- the message that begins a stream of messages
first_read : (stream : List ℕ) (m : Row) (ms : List Row) (rest : List ℕ) → IsMessage m → stream ≡ spellings (m ∷ ms) ++ rest
    → (stream ≡ spelling m ++ (spellings ms ++ rest)) × (decode stream ≡ Ok (m, length (spelling m)))
first_read stream m ms rest h e =
    let split : stream ≡ spelling m ++ (spellings ms ++ rest) = e
    ∙ (ap (λ (text : List ℕ). text ++ rest) (flat_map-cons spelling m ms) ∙ append_assoc (spelling m) (spellings ms) rest) in
    (split, ap decode split ∙ decode_again m (spellings ms ++ rest) h)

-- Two splits of one stream begin with the same message, since its first bytes tell its length; the rest follows by induction.
pub one_split : (a b : List Row) (stream bytes y : List ℕ) (f g : MsgFault) → Splits stream a bytes f → Splits stream b y g
    → Same a b bytes y f g
one_split [] [] stream bytes y f g h k =
    let same : bytes ≡ y = sym h.whole ∙ k.whole in
    record { messages = refl; rests = same; faults-are = same_error f g (sym h.stops ∙ (ap decode same ∙ k.stops)) }
one_split [] (n ∷ b) stream bytes y f g h k =
    let other = first_read stream n b y k.each.0 k.whole in
    absurd (cc (sym (ap decode h.whole ∙ h.stops) ∙ other.1))
one_split (m ∷ a) [] stream bytes y f g h k =
    let other = first_read stream m a bytes h.each.0 h.whole in
    absurd (cc (sym (ap decode k.whole ∙ k.stops) ∙ other.1))
one_split (m ∷ a) (n ∷ b) stream bytes y f g h k =
    let p = first_read stream m a bytes h.each.0 h.whole in
    let q = first_read stream n b y k.each.0 k.whole in
    let row : m ≡ n = ap (λ (z : Row × ℕ). z.0) (same_read (m, length (spelling m)) (n, length (spelling n)) (sym p.1 ∙ q.1)) in
    let after : spellings a ++ bytes
    ≡ spellings b ++ y = append_cancel (spelling n) _ _
    (subst (λ (message : Row). spelling message ++ (spellings a ++ bytes) ≡ spelling n ++ (spellings b ++ y)) row (sym p.0 ∙ q.0)) in
    let s = one_split a b (spellings a ++ bytes) bytes y f g (record { whole = refl; each = h.each.1; stops = h.stops })
    (record { whole = after; each = k.each.1; stops = k.stops }) in
    record {
      messages = ap (λ (message : Row). message ∷ a) row ∙ ap (λ (rows : List Row). n ∷ rows) s.messages;
      rests = s.rests;
      faults-are = s.faults-are;
    }

-- ---- pieces

spellings-append : (a b : List Row) → spellings (a ++ b) ≡ spellings a ++ spellings b
spellings-append a b = flat_map-append spelling a b

AllByRecursion-append : (a b : List Row) → AllByRecursion IsMessage a → AllByRecursion IsMessage b → AllByRecursion IsMessage (a ++ b)
AllByRecursion-append [] b h k = k
AllByRecursion-append (m ∷ a) b h k = (h.0, AllByRecursion-append a b h.1 k)

-- messages, and then what splits into messages
splits_on : (stream piece rest after : List ℕ) (a b : List Row) (fault : MsgFault) → stream ≡ spellings a ++ rest
    → AllByRecursion IsMessage a → Splits (rest ++ piece) b after fault → Splits (stream ++ piece) (a ++ b) after fault
splits_on stream piece rest after a b fault whole each h =
    record {
      whole = ap (λ (text : List ℕ). text ++ piece) whole
          ∙ (append_assoc (spellings a) rest piece
          ∙ (ap (λ (text : List ℕ). spellings a ++ text) h.whole
          ∙ (sym (append_assoc (spellings a) (spellings b) after)
          ∙ ap (λ (text : List ℕ). text ++ after) (sym (spellings-append a b)))));
      each = AllByRecursion-append a b each h.each;
      stops = h.stops;
    }

-- What the stop says of the fault is what the split says: where bytes are missing they are kept, and where they are wrong nothing is.
fed_stop : (stream : List ℕ) (ms : List Row) (rest : List ℕ) (fault : MsgFault) → Splits stream ms rest fault
    → IsFedBy stream ms (stopped (length stream) rest fault)
fed_stop stream ms rest (faults.Short needed) h = (needed, h, refl)
fed_stop stream ms rest (faults.Kind number) h = (
  rest,
  h,
  omega (arith, ap length h.whole, length-append (spellings ms) rest),
  λ short. short,
)
fed_stop stream ms rest (faults.Field place) h = (
  rest,
  h,
  omega (arith, ap length h.whole, length-append (spellings ms) rest),
  λ short. short,
)
fed_stop stream ms rest (faults.Reserved place) h = (
  rest,
  h,
  omega (arith, ap length h.whole, length-append (spellings ms) rest),
  λ short. short,
)

pub fed_more : (stream piece : List ℕ) (a b : List Row) (fed : ℕ) (rest : List ℕ) (o : Option (ℕ × MsgFault)) (new : Kept)
    → IsFedBy stream a (record { fed = fed; rest = rest; fault = o }) → Feeds (record { fed = fed; rest = rest; fault = o }) piece b new
    → IsFedBy (stream ++ piece) (a ++ b) new
fed_more stream piece a b fed rest None new h takes =
    let split = splits_on stream piece rest takes.0 a b takes.1 h.1.whole h.1.each takes.2 in
    let count : fed + length piece ≡ length (stream ++ piece) = omega (arith, h.2, length-append stream piece) in
    let is : new ≡ stopped (length (stream ++ piece)) takes.0 takes.1 = takes.3 ∙ ap (λ (n : ℕ). stopped n takes.0 takes.1) count in
    subst (λ (kept : Kept). IsFedBy (stream ++ piece) (a ++ b) kept) (sym is) (fed_stop (stream ++ piece) (a ++ b) takes.0 takes.1 split)
fed_more stream piece a b fed rest (Some bad) new h takes =
    let same : a ≡ a ++ b = sym (append-nil a) ∙ ap (λ (rows : List Row). a ++ rows) (sym takes.0) in
    let split : Splits (stream ++ piece) a (h.0 ++ piece) bad.1 = record {
      whole = ap (λ (text : List ℕ). text ++ piece) h.1.whole ∙ append_assoc (spellings a) h.0 piece;
      each = h.1.each;
      stops = stays_bad h.0 piece bad.1 h.1.stops h.3;
    } in
    let old : IsFedBy (stream ++ piece) a (record { fed = fed; rest = rest; fault = Some bad }) = (h.0 ++ piece, split, h.2, h.3) in
    subst (λ (kept : Kept). IsFedBy (stream ++ piece) (a ++ b) kept) (sym takes.1)
    (subst (λ (rows : List Row). IsFedBy (stream ++ piece) rows (record { fed = fed; rest = rest; fault = Some bad })) same old)

pub fed_all : (pieces : List (List ℕ)) (stream : List ℕ) (a b : List Row) (old new : Kept) → IsFedBy stream a old
    → FeedsAll old pieces b new → IsFedBy (stream ++ joined pieces) (a ++ b) new
fed_all [] stream a b old new h all =
    let rows : a ≡ a ++ b = sym (append-nil a) ∙ ap (λ (ms : List Row). a ++ ms) (sym all.0) in
    let one : IsFedBy (stream ++ []) a old = subst (λ (text : List ℕ). IsFedBy text a old) (sym (append-nil stream)) h in
    let two : IsFedBy (stream ++ []) (a ++ b) old = subst (λ (ms : List Row). IsFedBy (stream ++ []) ms old) rows one in
    subst (λ (kept : Kept). IsFedBy (stream ++ []) (a ++ b) kept) (sym all.1) two
fed_all (piece ∷ pieces) stream a b old new h all =
    let first = all.0 in
    let others = all.1 in
    let between = all.2 in
    let more : IsFedBy (stream ++ piece) (a ++ first) between = fed_more stream piece a first old.fed old.rest old.fault between h all.3 in
    let whole : IsFedBy ((stream ++ piece) ++ joined pieces) ((a ++ first) ++ others) new =
    fed_all pieces (stream ++ piece) (a ++ first) others between new more all.4 in
    let bytes : (stream ++ piece) ++ joined pieces ≡ stream ++ joined (piece ∷ pieces) = append_assoc stream piece (joined pieces)
    ∙ ap (λ (text : List ℕ). stream ++ text) (sym (flat_map-cons (λ (p : List ℕ). p) piece pieces)) in
    let rows : (a ++ first) ++ others ≡ a ++ b = append_assoc a first others ∙ ap (λ (ms : List Row). a ++ ms) (sym all.5) in
    subst (λ (ms : List Row). IsFedBy (stream ++ joined (piece ∷ pieces)) ms new) rows
    (subst (λ (text : List ℕ). IsFedBy text ((a ++ first) ++ others) new) bytes whole)

pub fed_from_new : (pieces : List (List ℕ)) (ms : List Row) (new : Kept) → FeedsAll new_feed pieces ms new
    → IsFedBy (joined pieces) ms new
unfolding decode
fed_from_new pieces ms new all = fed_all pieces [] [] ms new_feed new (1, record { whole = refl; each = tt; stops = refl }, refl) all

-- ---- what reading a piece leaves

pub reads_within : (stream : List ℕ) (before after : List Row) (front : List ℕ) (left : ℕ) (fault : MsgFault)
    → Reads stream before after front left fault → length front + left ≤ length stream
reads_within stream before after front left fault h = omega (arith, h.4, ap length h.2.whole, length-append (spellings h.0) h.1)

pub reads_partial : (stream : List ℕ) (before after : List Row) (front : List ℕ) (left : ℕ) (fault : MsgFault)
    → Reads stream before after front left fault → IsShort fault → decode front ≡ Err fault
reads_partial stream before after front left fault h short = ap decode (sym (h.5 short)) ∙ h.2.stops
