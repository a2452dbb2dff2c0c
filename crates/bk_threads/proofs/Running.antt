-- Steps in the order of their stamps are a run of all agents together.
use Rattle.std.proofs.Common.{◌≡◌, ℕ, ◌≤◌, ◌<◌, Bool, true, false, List, [], ◌∷◌, ◌++◌, Option, Some, drop, sym, refl, ap, ◌∙◌, append_assoc, arith, if◌then◌else◌}
use Rattle.std.specs.Prelude.{All, slice_get}
use Rattle.std.specs.List.{AllByRecursion}
use Rattle.std.proofs.lemmas.List.{append-nil}
use Rattle.std.proofs.lemmas.List.Elements.{All-head, All-append, All-nil, All-from_recursion, recursion_from_All}
use Rattle.bk_threads.specs.Agents.{Packet, Step, Channels, TellsChannels, heads, is_at, after_taking, after_effect, with_part, sent_by}
use Rattle.bk_threads.specs.Walks.{Sees, AreByStamp, SendsItsStamp, SendNothingEarlier}
use Rattle.bk_threads.specs.Laws.{StampsOrder, WalksRun, ChannelsAfter}
use Rattle.bk_threads.proofs.Orders.{pairs-head, pairs-tail, all_along}
use Rattle.bk_threads.proofs.Taking.{looks_there}

module _ {Message : Type 0} where
  abbrev first : List (Packet Message) → Option (Packet Message)
  first packets = slice_get packets 0

  -- A channel and what is still to be sent there are a stream that begins with a packet, and what is beyond it. So the channel begins with
  -- that packet too, where all that is still to be sent is later.
  same_head : (t : ℕ) (held coming stream beyond : List (Packet Message)) (packet : Packet Message) (rest : List (Packet Message))
      → held ++ coming ≡ stream ++ beyond
      → stream ≡ packet ∷ rest → packet.stamp < t → All (λ other. t ≤ other.stamp) coming
      → (left : List (Packet Message)) × (held ≡ packet ∷ left)
  same_head t [] [] stream beyond packet rest e begins less later = absurd (cc (e, begins))
  same_head t [] (other ∷ coming) stream beyond packet rest e begins less later =
      let same : other ≡ packet = cc (e, begins) in
      absurd (omega (
        arith,
        ap (λ (p : Packet Message). p.stamp) same,
        less,
        All-head
            (λ (p : Packet Message). t ≤ p.stamp) other coming later,
      ))
  same_head t (other ∷ held) coming stream beyond packet rest e begins less later =
      let same : other ≡ packet = cc (e, begins) in (held, ap (λ (p : Packet Message). p ∷ held) same)

  -- one head less on both sides
  without_head : (held coming stream beyond : List (Packet Message)) (packet : Packet Message) (left rest : List (Packet Message))
      → held ≡ packet ∷ left → stream ≡ packet ∷ rest
      → held ++ coming ≡ stream ++ beyond → drop 1 held ++ coming ≡ drop 1 stream ++ beyond
  without_head held coming stream beyond packet left rest a b e = rw (a, b) (ap (drop 1) (ap (λ all. all ++ coming) (sym a) ∙ e
      ∙ ap (λ all. all ++ beyond) b))

module _ {Channel Message : Type 0} where
  -- a channel and its stream begin with one packet
  abbrev BothBegin : Channels Channel Message → Channels Channel Message → Channel → Type 0
  BothBegin channels streams channel =
      (packet : Packet Message) × (left rest : List (Packet Message)) × (channels channel ≡ packet ∷ left) ×
      (streams channel ≡ packet ∷ rest)

module _ {Channel Part Event Message : Type 0} where
  -- what each channel holds and what steps send there, against its stream and what is beyond it
  abbrev Agrees : Channels Channel Message → Channels Channel Message → Channels Channel Message → List
      (Step Channel Part Event Message) → Type 0
  Agrees channels streams beyond steps = (channel : Channel)
      → channels channel ++ sent_by steps channel ≡ streams channel ++ beyond channel

  -- the channel at which the first step looks begins as its stream does
  both_begin : (channels streams beyond : Channels Channel Message) (step : Step Channel Part Event Message)
      (steps : List (Step Channel Part Event Message))
      → Agrees channels streams beyond (step ∷ steps)
      → Sees streams step → SendNothingEarlier (step ∷ steps) → (channel : Channel) → step.effect.looked ≡ Some channel
      → BothBegin channels streams channel
  both_begin channels streams beyond step steps agrees sees order channel at =
      let see = sees channel at in
      let held = same_head step.stamp (channels channel) (sent_by (step ∷ steps) channel) (streams channel)
      (beyond channel) see.0 see.1 (agrees channel) see.2 see.3 (order.0 channel) in
      (see.0, held.0, see.1, held.1, see.2)

  -- after the first step they still agree
  agrees_after : (is_same : Channel → Channel → Bool) → TellsChannels is_same → (channels streams beyond : Channels Channel Message)
      (step : Step Channel Part Event Message) (steps : List
      (Step Channel Part Event Message)) → Agrees channels streams beyond (step ∷ steps)
      → ((channel : Channel) → step.effect.looked ≡ Some channel → BothBegin channels streams channel)
      → Agrees (after_effect is_same step.effect channels) (after_taking is_same step.effect streams) beyond steps
  agrees_after is_same tells channels streams beyond step steps agrees begins channel =
      append_assoc (after_taking is_same step.effect channels channel) (step.effect.sent channel) (sent_by steps channel)
      ∙ whether step.effect.takes (is_at is_same step.effect.looked channel) (looks_there is_same tells step.effect.looked channel)
    where
      coming : List (Packet Message)
      coming = sent_by (step ∷ steps) channel

      whether : (a b : Bool) → (b ≡ true → step.effect.looked ≡ Some channel)
          → (if a then (if b then drop 1 (channels channel) else channels channel) else channels channel) ++ sent_by
          (step ∷ steps) channel
          ≡ (if a then (if b then drop 1 (streams channel) else streams channel) else streams channel) ++ beyond channel
      whether false b h = agrees channel
      whether true false h = agrees channel
      whether true true h = let b = begins channel (h refl) in
          without_head (channels channel) (sent_by (step ∷ steps) channel) (streams channel) (beyond channel) b.0 b.1 b.2 b.3 b.4
          (agrees channel)

  pub walks_run : WalksRun Channel Part Event Message
  walks_run is_same does parts channels streams beyond [] tells local walks order agrees = tt
  walks_run is_same does parts channels streams beyond (step ∷ steps) tells local walks order agrees =
      let begins = both_begin channels streams beyond step steps agrees walks.1 order in
      let same : (channel : Channel) → step.effect.looked ≡ Some channel
      → heads channels channel ≡ heads streams channel = λ channel at. let b = begins channel at in ap first b.3
      ∙ sym (ap first b.4) in (
        local step.agent (parts step.agent) step.event (heads streams) (heads channels) step.effect walks.0 same,
        walks_run is_same does (with_part parts step.agent step.effect.part) (after_effect is_same step.effect channels)
            (after_taking is_same step.effect streams) beyond steps tells local walks.2 order.1
            (agrees_after is_same tells channels streams beyond step steps agrees begins),
      )

  pub channels_hold : ChannelsAfter Channel Part Event Message
  channels_hold is_same does parts channels streams beyond [] tells walks order agrees channel = sym (append-nil (channels channel))
      ∙ agrees channel
  channels_hold is_same does parts channels streams beyond (step ∷ steps) tells walks order agrees channel =
      let begins = both_begin channels streams beyond step steps agrees walks.1 order in
      channels_hold is_same does (with_part parts step.agent step.effect.part) (after_effect is_same step.effect channels)
      (after_taking is_same step.effect streams) beyond steps tells walks.2 order.1
      (agrees_after is_same tells channels streams beyond step steps agrees begins) channel

  -- what steps send is no earlier than any stamp up to which they all are
  sent_no_earlier : (t : ℕ) (channel : Channel) (steps : List (Step Channel Part Event Message)) → AllByRecursion
      (λ step. t ≤ step.stamp) steps
      → AllByRecursion SendsItsStamp steps
      → All (λ packet. t ≤ packet.stamp) (sent_by steps channel)
  sent_no_earlier t channel [] late own = All-nil (λ (packet : Packet Message). t ≤ packet.stamp)
  sent_no_earlier t channel (step ∷ steps) late own =
      All-append (λ (packet : Packet Message). t ≤ packet.stamp) (step.effect.sent channel) (sent_by steps channel)
      (All-from_recursion (λ (packet : Packet Message). t ≤ packet.stamp) (step.effect.sent channel)
      (all_along (λ (packet : Packet Message). packet.stamp ≡ step.stamp) (λ packet. t ≤ packet.stamp)
      (λ packet e. omega (arith, e, late.0)) (step.effect.sent channel)
      (recursion_from_All (λ (packet : Packet Message). packet.stamp ≡ step.stamp) (step.effect.sent channel) (own.0 channel))))
      (sent_no_earlier t channel steps late.1 own.1)

  pub stamps_order : StampsOrder Channel Part Event Message
  stamps_order steps rise own = ordered steps rise (recursion_from_All SendsItsStamp steps own)
    where
      ordered : (steps : List (Step Channel Part Event Message)) → AreByStamp steps → AllByRecursion SendsItsStamp steps
          → SendNothingEarlier steps
      ordered [] rise own = tt
      ordered (step ∷ steps) rise own = (
        λ channel. sent_no_earlier step.stamp channel (step ∷ steps) (
          omega arith,
          pairs-head
              (λ (a : Step Channel Part Event Message). λ b. a.stamp ≤ b.stamp) step steps rise,
        ) own,
        ordered steps (pairs-tail (λ (a : Step Channel Part Event Message). λ b. a.stamp ≤ b.stamp) step steps rise) own.1,
      )
