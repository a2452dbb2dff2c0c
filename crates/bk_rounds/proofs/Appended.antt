-- A walk with one more step at its end.
use Rattle.std.proofs.Common.{◌≡◌, ℕ, ◌≤◌, Bool, List, [], ◌∷◌, ◌++◌, Some, sym, refl, ap, ◌∙◌, append_assoc, append-nil}
use Rattle.std.specs.Prelude.{All, slice_get}
use Rattle.std.proofs.lemmas.List.Quantifiers.{all_pairs_push}
use Rattle.bk_msg.specs.declared.row.Row.{Row}
use Rattle.bk_system.specs.declared.event.Event.{Event}
use Rattle.bk_agents.specs.Parts.{Part}
use Rattle.bk_threads.specs.Agents.{Packet, Step, Rules, Channels, heads, after_taking, sent_by}
use Rattle.bk_threads.specs.Walks.{WalksAlone, Sees, AreByStamp, part_after, streams_after}
use Rattle.bk_threads.specs.System.{SystemStep, messages_of}
use Rattle.bk_threads.specs.Rounds.{HoldsAlone}

module _ {Channel Part Event Message : Type 0} where
  pub part_after-more : (part : Part) (steps : List (Step Channel Part Event Message)) (step : Step Channel Part Event Message)
      → part_after part (steps ++ step ∷ []) ≡ step.effect.part
  part_after-more part [] step = refl
  part_after-more part (first ∷ steps) step = part_after-more first.effect.part steps step

  pub sent_by-more : (steps : List (Step Channel Part Event Message)) (step : Step Channel Part Event Message) (channel : Channel)
      → sent_by (steps ++ step ∷ []) channel ≡ sent_by steps channel ++ step.effect.sent channel
  sent_by-more [] step channel = append-nil (step.effect.sent channel)
  sent_by-more (first ∷ steps) step channel =
      ap (λ packets. first.effect.sent channel ++ packets) (sent_by-more steps step channel)
      ∙ sym (append_assoc (first.effect.sent channel) (sent_by steps channel) (step.effect.sent channel))

  pub by_stamp-more : (steps : List (Step Channel Part Event Message)) (step : Step Channel Part Event Message) → AreByStamp steps
      → All (λ (other : Step Channel Part Event Message). other.stamp ≤ step.stamp) steps → AreByStamp (steps ++ step ∷ [])
  by_stamp-more steps step rise all =
      all_pairs_push (λ (a : Step Channel Part Event Message). λ b. a.stamp ≤ b.stamp) steps step rise all

module _ {Channel Part Event Message : Type 0} (is_same : Channel → Channel → Bool) where
  pub streams_after-more : (streams : Channels Channel Message) (steps : List (Step Channel Part Event Message))
      (step : Step Channel Part Event Message) (channel : Channel)
      → streams_after is_same streams (steps ++ step ∷ []) channel
      ≡ after_taking is_same step.effect (streams_after is_same streams steps) channel
  streams_after-more streams [] step channel = refl
  streams_after-more streams (first ∷ steps) step channel =
      streams_after-more (after_taking is_same first.effect streams) steps step channel

  pub walks_more : (does : Rules Channel Part Event Message) (receiver : Channel → ℕ) (n : ℕ) (part : Part)
      (streams : Channels Channel Message) (steps : List (Step Channel Part Event Message)) (step : Step Channel Part Event Message)
      → WalksAlone is_same does receiver n part streams steps
      → does n (part_after part steps) (heads (streams_after is_same streams steps)) step.event ≡ Some step.effect
      → Sees (streams_after is_same streams steps) step
      → ((channel : Channel) → step.effect.looked ≡ Some channel → receiver channel ≡ n)
      → WalksAlone is_same does receiver n part streams (steps ++ step ∷ [])
  walks_more does receiver n part streams [] step walk enabled sees own = (enabled, sees, own, tt)
  walks_more does receiver n part streams (first ∷ steps) step walk enabled sees own = (
    walk.0,
    walk.1,
    walk.2,
    walks_more does receiver n first.effect.part (after_taking is_same first.effect streams) steps step walk.3 enabled sees own,
  )

-- what holds at each step of it, and at the one more
pub holds_more : (Holds : Part → Event → Type 0) (part : Part) (steps : List SystemStep) (step : SystemStep)
    → HoldsAlone Holds part steps → Holds (part_after part steps) step.event.event → HoldsAlone Holds part (steps ++ step ∷ [])
holds_more Holds part [] step alone last = (last, tt)
holds_more Holds part (first ∷ steps) step alone last = (alone.0, holds_more Holds first.effect.part steps step alone.1 last)

-- HEADS

-- the packet of which a head is the message
pub packet_there : (packets : List (Packet Row)) (ms : List Row) (m : Row) → ms ≡ messages_of packets → slice_get ms 0 ≡ Some m
    → (packet : Packet Row) × (rest : List (Packet Row)) × (packets ≡ packet ∷ rest) × (Some packet.message ≡ Some m)
packet_there [] ms m same head =
    let no : slice_get [] 0 ≡ Some m = sym (ap (λ (l : List Row). slice_get l 0) same) ∙ head in absurd (cc no)
packet_there (packet ∷ rest) ms m same head = (packet, rest, refl, sym (ap (λ (l : List Row). slice_get l 0) same) ∙ head)

-- a head stays where more comes behind it
pub head_stays : (ms more : List Row) (m : Row) → slice_get ms 0 ≡ Some m → slice_get (ms ++ more) 0 ≡ Some m
head_stays [] more m head = absurd cc
head_stays (first ∷ ms) more m head = head
