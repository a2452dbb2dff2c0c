-- The walks of single agents, and runs of all agents together.
use Rattle.std.specs.Prelude.{◌≡◌, ℕ, ◌≤◌, ◌<◌, Bool, List, [], ◌∷◌, Some, All, AllPairs}
use Rattle.bk_threads.specs.Agents.{Packet, Step, Rules, Channels, heads, after_taking, after_effect, with_part, sent_by}

module _ {Channel Part Event Message : Type 0} where
  -- at the channel at which a step looks stands a packet with a lesser stamp
  abbrev pub Sees : Channels Channel Message → Step Channel Part Event Message → Type 0
  Sees streams step = (channel : Channel) → step.effect.looked ≡ Some channel
      → (packet : Packet Message) × (rest : List (Packet Message)) × (streams channel ≡ packet ∷ rest) ×
      (packet.stamp < step.stamp)

module _ {Channel Part Event Message : Type 0} (is_same : Channel → Channel → Bool) where
  -- The steps of agent n, from its part on. A stream is all that its channel brings the agent while it walks, and `receiver` is the agent
  -- to which a channel leads: no other looks at it.
  abbrev pub WalksAlone : Rules Channel Part Event Message → (Channel → ℕ) → ℕ → Part → Channels Channel Message
      → List (Step Channel Part Event Message) → Type 0
  WalksAlone does receiver n part streams [] = Unit {0}
  WalksAlone does receiver n part streams (step ∷ steps) = (does n part (heads streams) step.event ≡ Some step.effect)
      × Sees streams step
      × ((channel : Channel) → step.effect.looked ≡ Some channel → receiver channel ≡ n)
      × WalksAlone does receiver n step.effect.part (after_taking is_same step.effect streams) steps

  -- steps of all agents, each on streams as in its own walk
  abbrev pub Walks : Rules Channel Part Event Message → (ℕ → Part) → Channels Channel Message → List
      (Step Channel Part Event Message) → Type 0
  Walks does parts streams [] = Unit {0}
  Walks does parts streams (step ∷ steps) = (does step.agent (parts step.agent) (heads streams) step.event ≡ Some step.effect)
      × Sees streams step
      × Walks does (with_part parts step.agent step.effect.part) (after_taking is_same step.effect streams) steps

  -- steps of all agents as one system: what a step sends is there for the next
  abbrev pub Runs : Rules Channel Part Event Message → (ℕ → Part) → Channels Channel Message
      → List (Step Channel Part Event Message)
      → Type 0
  Runs does parts channels [] = Unit {0}
  Runs does parts channels (step ∷ steps) = (does step.agent (parts step.agent) (heads channels) step.event ≡ Some step.effect)
      × Runs does (with_part parts step.agent step.effect.part) (after_effect is_same step.effect channels) steps

-- WHAT IS THERE AFTER ALL STEPS

module _ {Channel Part Event Message : Type 0} where
  abbrev pub part_after : Part → List (Step Channel Part Event Message) → Part
  part_after part [] = part
  part_after part (step ∷ steps) = part_after step.effect.part steps

  abbrev pub parts_after : (ℕ → Part) → List (Step Channel Part Event Message) → ℕ → Part
  parts_after parts [] = parts
  parts_after parts (step ∷ steps) = parts_after (with_part parts step.agent step.effect.part) steps

module _ {Channel Part Event Message : Type 0} (is_same : Channel → Channel → Bool) where
  abbrev pub streams_after : Channels Channel Message → List (Step Channel Part Event Message) → Channels Channel Message
  streams_after streams [] = streams
  streams_after streams (step ∷ steps) = streams_after (after_taking is_same step.effect streams) steps

  abbrev pub channels_after : Channels Channel Message → List (Step Channel Part Event Message) → Channels Channel Message
  channels_after channels [] = channels
  channels_after channels (step ∷ steps) = channels_after (after_effect is_same step.effect channels) steps

-- STAMPS

module _ {Channel Part Event Message : Type 0} where
  -- no stamp is below one before it
  abbrev pub AreByStamp : List (Step Channel Part Event Message) → Type 0
  AreByStamp steps = AllPairs (λ step later. step.stamp ≤ later.stamp) steps

  -- what a step sends has the step's stamp
  abbrev pub SendsItsStamp : Step Channel Part Event Message → Type 0
  SendsItsStamp step = (channel : Channel) → All (λ packet. packet.stamp ≡ step.stamp) (step.effect.sent channel)

  -- what a step and those behind it send has at least its stamp
  abbrev pub SendNothingEarlier : List (Step Channel Part Event Message) → Type 0
  SendNothingEarlier [] = Unit {0}
  SendNothingEarlier (step ∷ steps) = ((channel : Channel)
      → All (λ packet. step.stamp ≤ packet.stamp) (sent_by (step ∷ steps) channel)) × SendNothingEarlier steps
