-- What taking a head off leaves of the channels, channel by channel.
use Rattle.std.proofs.Common.{◌≡◌, Bool, true, false, List, [], ◌∷◌, ◌++◌, Option, Some, None, drop, sym, refl, ap, ◌∙◌, if◌then◌else◌}
use Rattle.bk_threads.specs.Agents.{Packet, Effect, Step, Channels, TellsChannels, is_at, after_taking}
use Rattle.bk_threads.specs.Walks.{streams_after}

module _ {Channel : Type 0} (is_same : Channel → Channel → Bool) (tells : TellsChannels is_same) where
  pub looks_there : (o : Option Channel) (channel : Channel) → is_at is_same o channel ≡ true → o ≡ Some channel
  looks_there None channel h = absurd (cc (h))
  looks_there (Some other) channel h = ap Some ((tells other channel).0 h)

module _ {Channel Part Message : Type 0} (is_same : Channel → Channel → Bool) where
  -- a channel's own packets tell what is left of it
  pub taking-same : (effect : Effect Channel Part Message) (channels others : Channels Channel Message) (channel : Channel)
      → others channel ≡ channels channel
      → after_taking is_same effect others channel ≡ after_taking is_same effect channels channel
  taking-same effect channels others channel e = whether effect.takes (is_at is_same effect.looked channel)
    where
      whether : (a b : Bool) → (if a then (if b then drop 1 (others channel) else others channel) else others channel)
          ≡ (if a then (if b then drop 1 (channels channel) else channels channel) else channels channel)
      whether false b = e
      whether true false = e
      whether true true = ap (drop 1) e

module _ {Channel Part Message : Type 0} (is_same : Channel → Channel → Bool) (tells : TellsChannels is_same) where
  -- a channel at which the event doesn't look stays as it is
  pub taking-other : (effect : Effect Channel Part Message) (channels : Channels Channel Message) (channel : Channel) →
      (effect.looked ≡ Some channel
      → ⊥)
      → after_taking is_same effect channels channel ≡ channels channel
  taking-other effect channels channel apart = whether effect.takes (is_at is_same effect.looked channel)
      (looks_there is_same tells effect.looked channel)
    where
      whether : (a b : Bool) → (b ≡ true → effect.looked ≡ Some channel)
          → (if a then (if b then drop 1 (channels channel) else channels channel) else channels channel) ≡ channels channel
      whether false b h = refl
      whether true false h = refl
      whether true true h = absurd (apart (h refl))

  -- where there is a head, what stands behind more of it stays there
  pub taking-longer : (effect : Effect Channel Part Message) (channels more : Channels Channel Message) (channel : Channel)
      → ((other : Channel) → effect.looked ≡ Some other
      → (packet : Packet Message) × (rest : List (Packet Message)) × (channels other ≡ packet ∷ rest))
      → after_taking is_same effect (λ other. channels other ++ more other) channel
      ≡ after_taking is_same effect channels channel ++ more channel
  taking-longer effect channels more channel begins = whether effect.takes (is_at is_same effect.looked channel)
      (looks_there is_same tells effect.looked channel)
    where
      whether : (a b : Bool) → (b ≡ true → effect.looked ≡ Some channel)
          → (if a then (if b then drop 1
          (channels channel ++ more channel) else channels channel ++ more channel) else channels channel ++ more channel)
          ≡ (if a then (if b then drop 1 (channels channel) else channels channel) else channels channel) ++ more channel
      whether false b h = refl
      whether true false h = refl
      whether true true h =
          let b = begins channel (h refl) in
          ap (λ packets. drop 1 (packets ++ more channel)) b.2 ∙ sym (ap (λ packets. drop 1 packets ++ more channel) b.2)

module _ {Channel Part Event Message : Type 0} (is_same : Channel → Channel → Bool) where
  pub streams-same : (streams others : Channels Channel Message) (steps : List (Step Channel Part Event Message)) (channel : Channel)
      → others channel ≡ streams channel
      → streams_after is_same others steps channel ≡ streams_after is_same streams steps channel
  streams-same streams others [] channel e = e
  streams-same streams others (step ∷ steps) channel e =
      streams-same (after_taking is_same step.effect streams) (after_taking is_same step.effect others) steps channel
      (taking-same is_same step.effect streams others channel e)
