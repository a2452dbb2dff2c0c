-- What it means that bytes begin with no message.
use Rattle.std.specs.Prelude.{◌≡◌, ℕ, ◌+◌, ◌<◌, List, [], ◌∷◌, ◌++◌, length, take, slice_index}
use Rattle.bk_msg.specs.declared.fault.MsgFault.{MsgFault}
use Rattle.bk_msg.specs.declared.fault.MsgFault.TheVariants.{Kind, Field, Reserved, Short}
use Rattle.bk_msg.specs.declared.row.Row.{Row}
use Rattle.bk_msg.specs.Spelling.{spelling, IsMessage}

-- the bytes are the front of a message's spelling, or the whole of it
pub record IsFrontOf (m : Row) (bytes : List ℕ) : Type 0 where
  pub message : IsMessage m
  pub rest : List ℕ
  pub parts : spelling m ≡ bytes ++ rest

abbrev pub IsFront : List ℕ → Type 0
IsFront bytes = (m : Row) × IsFrontOf m bytes

-- they are the front of a message's spelling, and not the whole
abbrev pub IsProperFront : List ℕ → Type 0
IsProperFront bytes = (m : Row) × IsFrontOf m bytes × (length bytes < length (spelling m))

-- the least place where the bytes leave every spelling: with this byte they are no message's front, and before it they were one's
pub record IsLeastBad (bytes : List ℕ) (place : ℕ) : Type 0 where
  pub within : place < length bytes
  pub before : IsFront (take place bytes)
  pub none : IsFront (take (place + 1) bytes) → ⊥

-- each message with the same first byte has 0 at the place
abbrev pub MustBeZero : List ℕ → ℕ → Type 0
MustBeZero bytes place = (m : Row) → IsMessage m → slice_index (spelling m) 0 ≡ slice_index bytes 0
    → slice_index (spelling m) place ≡ 0

-- the bytes end before a message does that has this length; of no byte at all one is needed to tell
abbrev pub IsCut : List ℕ → ℕ → Type 0
IsCut [] needed = needed ≡ 1
IsCut (b ∷ bytes) needed = (m : Row) × IsFrontOf m (b ∷ bytes) × (length (b ∷ bytes) < needed) × (needed ≡ length (spelling m))

-- what each fault says of the bytes
abbrev pub IsFaultOf : List ℕ → MsgFault → Type 0
IsFaultOf bytes (Kind number) = IsLeastBad bytes 0 × (number ≡ slice_index bytes 0)
IsFaultOf bytes (Field place) = IsLeastBad bytes place
IsFaultOf bytes (Reserved place) = IsLeastBad bytes place × MustBeZero bytes place
IsFaultOf bytes (Short needed) = IsCut bytes needed

abbrev pub IsShort : MsgFault → Type 0
IsShort (Short needed) = Unit {0}
IsShort _ = ⊥

-- a fault at a place
abbrev pub IsBadAt : ℕ → MsgFault → Type 0
IsBadAt place (Kind number) = place ≡ 0
IsBadAt place (Field at) = place ≡ at
IsBadAt place (Reserved at) = place ≡ at
IsBadAt place (Short needed) = ⊥
