-- Streams of messages, and feeds that read them in pieces.
use Rattle.std.specs.Prelude.{◌≡◌, ℕ, ◌+◌, ◌-◌, ◌≤◌, List, [], ◌∷◌, ◌++◌, length, Option, Some, None, Result, Ok, Err, MatchOption}
use Rattle.std.specs.List.{flat_map, AllByRecursion}
use Rattle.bk_msg.specs.declared.fault.MsgFault.{MsgFault}
use Rattle.bk_msg.specs.declared.fault.MsgFault.TheVariants as faults
use Rattle.bk_msg.specs.declared.feed.FeedFault.{FeedFault}
use Rattle.bk_msg.specs.declared.feed.FeedFault.TheVariants as feed_faults
use Rattle.bk_msg.specs.declared.feed.FeedEnd.{FeedEnd}
use Rattle.bk_msg.specs.declared.feed.FeedEnd.TheVariants as ends
use Rattle.bk_msg.specs.declared.row.Row.{Row}
use Rattle.bk_msg.specs.Spelling.{spelling, IsMessage}
use Rattle.bk_msg.specs.Reading.{decode}
use Rattle.bk_msg.specs.Faults.{IsShort}

-- the bytes of messages, one behind the other
abbrev pub spellings : List Row → List ℕ
spellings messages = flat_map spelling messages

-- the stream is these messages, and then a rest that begins with no message, for this reason
pub record Splits (stream : List ℕ) (messages : List Row) (rest : List ℕ) (fault : MsgFault) : Type 0 where
  pub whole : stream ≡ spellings messages ++ rest
  pub each : AllByRecursion IsMessage messages
  pub stops : decode rest ≡ Err fault

-- what a feed keeps: how many bytes it took, the rest that is no whole message yet, and the fault that it met, with its place
pub record Kept : Type 0 where
  pub fed : ℕ
  pub rest : List ℕ
  pub fault : Option (ℕ × MsgFault)

-- less than a whole message: nothing, or a front
abbrev pub IsPartial : List ℕ → Type 0
IsPartial rest = (needed : ℕ) × (decode rest ≡ Err (faults.Short needed))

-- what holds of every feed
pub record IsKept (kept : Kept) : Type 0 where
  pub within : length kept.rest ≤ kept.fed
  pub partial : IsPartial kept.rest

abbrev pub new_feed : Kept
new_feed = record { fed = 0; rest = []; fault = None }

-- what is kept after so many bytes of which the last are a rest with this fault
abbrev pub stopped : ℕ → List ℕ → MsgFault → Kept
stopped fed rest (faults.Short needed) = record { fed = fed; rest = rest; fault = None }
stopped fed rest fault = record { fed = fed; rest = []; fault = Some (fed - length rest, fault) }

-- a piece that is taken: the rest followed by the piece is these messages and a new rest
abbrev pub Takes : Kept → List ℕ → List Row → Kept → Type 0
Takes old piece messages new = (rest : List ℕ) × (fault : MsgFault) × Splits (old.rest ++ piece) messages rest fault
    × (new ≡ stopped (old.fed + length piece) rest fault)

-- what a piece adds and leaves: nothing changes once a fault was met
abbrev pub Feeds : Kept → List ℕ → List Row → Kept → Type 0
Feeds old piece messages new = MatchOption old.fault (Takes old piece messages new) (λ bad. (messages ≡ []) × (new ≡ old))

-- what is answered then: the fault that is kept
abbrev pub answer_of : Option (ℕ × MsgFault) → Result (Unit {0}) FeedFault
answer_of None = Ok tt
answer_of (Some bad) = Err (feed_faults.Bad bad.0 bad.1)

abbrev pub Fed : Result (Unit {0}) FeedFault → Kept → List ℕ → List Row → Kept → List Row → Type 0
Fed result old piece before new after = (result ≡ answer_of new.fault) × (messages : List Row) × Feeds old piece messages new
    × (after ≡ before ++ messages)

-- what a call of `feed` does: nothing where memory runs out
abbrev pub Outcome : Result (Unit {0}) FeedFault → Kept → List ℕ → List Row → Kept → List Row → Type 0
Outcome (Err feed_faults.Memory) old piece before new after = (new ≡ old) × (after ≡ before) × (old.fault ≡ None)
Outcome (Err (feed_faults.Bad place fault)) old piece before new after = Fed (Err (feed_faults.Bad place fault)) old piece before new after
Outcome (Ok done) old piece before new after = Fed (Ok done) old piece before new after

-- how a stream ends: with the fault that was met, or within a message, or behind one
abbrev pub end_of_rest : ℕ → List ℕ → Result (Unit {0}) FeedEnd
end_of_rest fed [] = Ok tt
end_of_rest fed (b ∷ rest) = Err (ends.Cut (fed - length (b ∷ rest)))

abbrev pub end_of : Option (ℕ × MsgFault) → ℕ → List ℕ → Result (Unit {0}) FeedEnd
end_of None fed rest = end_of_rest fed rest
end_of (Some bad) fed rest = Err (ends.Bad bad.0 bad.1)

abbrev pub finish_of : Kept → Result (Unit {0}) FeedEnd
finish_of kept = end_of kept.fault kept.fed kept.rest

-- messages were appended, and then comes a rest of these first bytes and so many more, which are none where it is short
abbrev pub Reads : List ℕ → List Row → List Row → List ℕ → ℕ → MsgFault → Type 0
Reads stream before after front left fault = (messages : List Row) × (rest : List ℕ) × Splits stream messages rest fault
    × (after ≡ before ++ messages) × (length rest ≡ length front + left) × (IsShort fault → rest ≡ front)

-- ---- calls, one after the other

-- these messages were appended by calls with these pieces, none of which ran out of memory

abbrev pub FeedsAll : Kept → List (List ℕ) → List Row → Kept → Type 0
FeedsAll old [] messages new = (messages ≡ []) × (new ≡ old)
FeedsAll old (piece ∷ pieces) messages new = (first : List Row) × (others : List Row) × (between : Kept)
    × Feeds old piece first between
    × FeedsAll between pieces others new × (messages ≡ first ++ others)

-- the stream that comes in these pieces
abbrev pub joined : List (List ℕ) → List ℕ
joined pieces = flat_map (λ piece. piece) pieces

-- what a feed has made of a stream: the messages that it spells up to a rest, which the feed keeps where it is short, and else its
-- place and its fault
abbrev pub IsFedBy : List ℕ → List Row → Kept → Type 0
IsFedBy stream messages kept = MatchOption kept.fault
    ((needed : ℕ) × Splits stream messages kept.rest (faults.Short needed) × (kept.fed ≡ length stream))
    (λ bad. (rest : List ℕ) × Splits stream messages rest bad.1 × (bad.0 ≡ length (spellings messages)) × (IsShort bad.1 → ⊥))
