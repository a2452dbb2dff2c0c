-- Agents that work side by side, with channels between them, whatever their channels, parts, events and messages are.
use Rattle.std.specs.Prelude.{◌≡◌, ◌↔◌, ℕ, ◌==◌, if◌then◌else◌, Bool, true, false, List, [], ◌∷◌, ◌++◌, Option, Some, None, slice_get, drop}

-- a message with a stamp beside it
pub record Packet (Message : Type 0) : Type 0 where
  pub stamp : ℕ
  pub message : Message

-- What an event does: the agent's part that it leaves, what it sends on each channel, the channel at whose head it looks, if it does, and
-- whether it takes that head off.
pub record Effect (Channel Part Message : Type 0) : Type 0 where
  pub part : Part
  pub sent : Channel → List (Packet Message)
  pub looked : Option Channel
  pub takes : Bool

-- an event that an agent has made, with its stamp and its effect
pub record Step (Channel Part Event Message : Type 0) : Type 0 where
  pub agent : ℕ
  pub stamp : ℕ
  pub event : Event
  pub effect : Effect Channel Part Message

-- What an event of an agent does, by the agent's part and the heads of all channels; None where it isn't enabled.
abbrev pub Rules : Type 0 → Type 0 → Type 0 → Type 0 → Type 0
Rules Channel Part Event Message = ℕ → Part → (Channel → Option (Packet Message)) → Event → Option (Effect Channel Part Message)

-- the packets of each channel, oldest first
abbrev pub Channels : Type 0 → Type 0 → Type 0
Channels Channel Message = Channel → List (Packet Message)

module _ {Channel Message : Type 0} where
  abbrev pub heads : Channels Channel Message → Channel → Option (Packet Message)
  heads channels channel = slice_get (channels channel) 0

module _ {Channel Part Event Message : Type 0} where
  -- what an event does hangs on no other head than the one at which it looks
  abbrev pub IsLocal : Rules Channel Part Event Message → Type 0
  IsLocal does = (n : ℕ) (part : Part) (event : Event) (seen other : Channel
      → Option (Packet Message)) (effect : Effect Channel Part Message)
      → does n part seen event ≡ Some effect → ((channel : Channel) → effect.looked ≡ Some channel
      → other channel ≡ seen channel) → does n part other event ≡ Some effect

-- a test tells whether two channels are the same
abbrev pub TellsChannels : {Channel : Type 0} → (Channel → Channel → Bool) → Type 0
TellsChannels {Channel} is_same = (channel other : Channel) → (is_same channel other ≡ true) ↔ (channel ≡ other)

module _ {Channel : Type 0} (is_same : Channel → Channel → Bool) where
  abbrev pub is_at : Option Channel → Channel → Bool
  is_at None channel = false
  is_at (Some looked) channel = is_same looked channel

module _ {Channel Part Message : Type 0} (is_same : Channel → Channel → Bool) where
  -- the channels without the head that was taken off, and with what was sent
  abbrev pub after_taking : Effect Channel Part Message → Channels Channel Message → Channels Channel Message
  after_taking effect channels channel =
      if effect.takes then (if is_at is_same effect.looked channel then drop 1
      (channels channel) else channels channel) else channels channel

  abbrev pub after_effect : Effect Channel Part Message → Channels Channel Message → Channels Channel Message
  after_effect effect channels channel = after_taking effect channels channel ++ effect.sent channel

-- the parts of all agents, with another one for agent n
abbrev pub with_part : {Part : Type 0} → (ℕ → Part) → ℕ → Part → ℕ → Part
with_part parts n part other = if n == other then part else parts other

module _ {Channel Part Event Message : Type 0} where
  -- all that steps send
  abbrev pub sent_by : List (Step Channel Part Event Message) → Channels Channel Message
  sent_by [] channel = []
  sent_by (step ∷ steps) channel = step.effect.sent channel ++ sent_by steps channel

  -- the steps of one agent among them
  abbrev pub steps_of : ℕ → List (Step Channel Part Event Message) → List (Step Channel Part Event Message)
  steps_of n [] = []
  steps_of n (step ∷ steps) = if step.agent == n then step ∷ steps_of n steps else steps_of n steps
