-- No event puts a message into a channel of a cache beyond the configuration.
use Rattle.std.proofs.Common.{◌≡◌, ℕ, ◌<◌, ◌≤◌, Bool, true, false, cond, ◌==◌, refl, ap, arith, List, [], ◌∷◌, ◌++◌, drop, Option, Some, None}
use Rattle.std.specs.Prelude.{All}
use Rattle.std.proofs.lemmas.List.Elements.{All-head, All-tail}
use Rattle.bk_base.specs.Places.{Shape}
use Rattle.bk_base.specs.Tables.{put}
use Rattle.bk_msg.specs.declared.row.Row.{Row}
use Rattle.bk_msg.specs.declared.row.Row.TheVariants as rows
use Rattle.bk_msg.specs.Networks.{network_of, receiver_of}
use Rattle.bk_msg.specs.Within.{IsWithin}
use Rattle.bk_lce.specs.CacheTable.{Transition}
use Rattle.bk_engine.specs.declared.parts.Choice.{Choice}
use Rattle.bk_engine.specs.Step.{IsOutward, Outcome}
use Rattle.bk_system.specs.State.{State}
use Rattle.bk_system.specs.Events.{added_if, is_request, is_response, is_fill, is_command, requests_with, responses_with, fills_with, commands_with, heads_left, with_taken, with_outcome, without_command, without_fill}
use Rattle.bk_bridge.specs.Ranges.{NoneOutside}
use Rattle.bk_bridge.proofs.Formed.{cond-all, put-each}

module _ (k : Shape) where
  -- CHANNELS, by cache

  -- those beyond the configuration are empty
  abbrev Inside : (ℕ → List Row) → Type 0
  Inside channel = (c : ℕ) → k.caches ≤ c → channel c ≡ []

  -- no cache is both of the configuration and beyond it
  apart : {X : Type 0} (c : ℕ) → c < k.caches → k.caches ≤ c → X
  apart c l m = absurd (lem l m)
    where
      lem : c < k.caches → k.caches ≤ c → ⊥
      lem l m = omega arith

  put-inside : (channel : ℕ → List Row) (c : ℕ) (ms : List Row) → Inside channel → (k.caches ≤ c → ms ≡ [])
      → Inside (put channel c ms)
  put-inside channel c ms h g = put-each (λ i xs. k.caches ≤ i → xs ≡ []) channel c ms h g

  added-inside : (here : Bool) (c : ℕ) (m : Row) (channel : ℕ → List Row) → c < k.caches → Inside channel
      → Inside (added_if here c m channel)
  added-inside true c m channel l h = put-inside channel c _ h (apart c l)
  added-inside false c m channel l h = h

  requests-inside : (c : ℕ) (o : Option Row) (channel : ℕ → List Row) → c < k.caches → Inside channel
      → Inside (requests_with c o channel)
  requests-inside c None channel l h = h
  requests-inside c (Some m) channel l h = added-inside (is_request (network_of m)) c m channel l h

  responses-inside : (c : ℕ) (o : Option Row) (channel : ℕ → List Row) → c < k.caches → Inside channel
      → Inside (responses_with c o channel)
  responses-inside c None channel l h = h
  responses-inside c (Some m) channel l h = added-inside (is_response (network_of m)) c m channel l h

  left-inside : (channel : ℕ → List Row) (c : ℕ) → Inside channel → Inside (put channel c (drop 1 (channel c)))
  left-inside channel c h = put-inside channel c _ h (λ l. ap (drop 1) (h c l))

  -- FILLS, by receiver and sender

  record FillsInside (channel : ℕ → ℕ → List Row) : Type 0 where
    to : (to from : ℕ) → k.caches ≤ to → channel to from ≡ []
    from : (to from : ℕ) → k.caches ≤ from → channel to from ≡ []

  put-fills : (channel : ℕ → ℕ → List Row) (t number : ℕ) (ms : List Row) → FillsInside channel
      → (k.caches ≤ t → ms ≡ [])
      → (k.caches ≤ number → ms ≡ [])
      → FillsInside (put channel t (put (channel t) number ms))
  put-fills channel t number ms h p q = record {
    to = λ i j l. put-each (λ i row. k.caches ≤ i → (j : ℕ) → row j ≡ []) channel t _ (λ i l j. h.to i j l)
        (λ l j. put-each (λ j xs. xs ≡ []) (channel t) number ms (λ j. h.to t j l) (p l) j) i l j;
    from = λ i j l. put-each (λ i row. (j : ℕ) → k.caches ≤ j → row j ≡ []) channel t _ h.from
        (put-each (λ j xs. k.caches ≤ j → xs ≡ []) (channel t) number ms (h.from t) q) i j l;
  }

  -- a fill's receiver is a cache
  fill-receiver : (m : Row) → is_fill (network_of m) ≡ true → IsWithin k m → receiver_of m < k.caches
  fill-receiver (rows.Fill _ _ _ _ _ _) e w = w.1.cache
  fill-receiver m e w = absurd (cc)

  fills-inside : (c : ℕ) (o : Option Row) (channel : ℕ → ℕ → List Row) → c < k.caches
      → ((m : Row) → o ≡ Some m → IsWithin k m)
      → FillsInside channel
      → FillsInside (fills_with c o channel)
  fills-inside c None channel l w h = h
  fills-inside c (Some m) channel l w h = go (is_fill (network_of m)) refl
    where
      go : (b : Bool) → is_fill (network_of m) ≡ b
          → FillsInside (cond b
          (put channel (receiver_of m) (put (channel (receiver_of m)) c (channel (receiver_of m) c ++ m ∷ []))) channel)
      go true e = put-fills channel (receiver_of m) c _ h (apart (receiver_of m) (fill-receiver m e (w m refl))) (apart c l)
      go false e = h

  -- COMMANDS

  command-receiver : (m : Row) → is_command (network_of m) ≡ true → IsWithin k m → receiver_of m < k.caches
  command-receiver (rows.Inv _ _ _) e w = w
  command-receiver (rows.StWb _ _ _ _) e w = w
  command-receiver (rows.StTr _ _ _ _ _ _ _) e w = w.0
  command-receiver (rows.Blk _ _ _ _ _ _) e w = w.cache
  command-receiver (rows.StWake _ _ _ _ _) e w = w.cache
  command-receiver (rows.UcBlk _ _ _ _) e w = w
  command-receiver (rows.UcDone _ _ _) e w = w
  command-receiver (rows.Done _ _ _) e w = w
  command-receiver m e w = absurd (cc)

  command-inside : (m : Row) (channel : ℕ → List Row) → IsWithin k m → Inside channel
      → Inside (added_if (is_command (network_of m)) (receiver_of m) m channel)
  command-inside m channel w h = go (is_command (network_of m)) refl
    where
      go : (b : Bool) → is_command (network_of m) ≡ b → Inside (added_if b (receiver_of m) m channel)
      go true e = added-inside true (receiver_of m) m channel (command-receiver m e w) h
      go false e = h

  commands-inside : (ms : List Row) (channel : ℕ → List Row) → All (IsOutward k) ms → Inside channel
      → Inside (commands_with ms channel)
  commands-inside [] channel o h = h
  commands-inside (m ∷ ms) channel o h =
      commands-inside ms _ (All-tail (IsOutward k) m ms o) (command-inside m channel (All-head (IsOutward k) m ms o).within h)

  heads-inside : (class : ℕ) (popped : Option Choice) (channel : ℕ → List Row) → Inside channel
      → Inside (heads_left class popped channel)
  heads-inside class None channel h = h
  heads-inside class (Some choice) channel h = cond-all Inside (choice.class == class) _ channel (left-inside channel choice.source h) h

  -- STATES

  fills : (s : State) → NoneOutside k s → FillsInside s.fill
  fills s o = record { to = o.fill_to; from = o.fill_from }

  pub taken-outside : (s : State) (c : ℕ) (t : Transition) → c < k.caches → ((m : Row) → t.sent ≡ Some m → IsWithin k m)
      → NoneOutside k s
      → NoneOutside k (with_taken s c t).state
  taken-outside s c t l w o = record {
    request = requests-inside c t.sent s.request l o.request;
    command = o.command;
    response = responses-inside c t.sent s.response l o.response;
    fill_to = (fills-inside c t.sent s.fill l w (fills s o)).to;
    fill_from = (fills-inside c t.sent s.fill l w (fills s o)).from;
  }

  pub command-outside : (s : State) (c : ℕ) → NoneOutside k s → NoneOutside k (without_command s c)
  command-outside s c o = record {
    request = o.request;
    command = left-inside s.command c o.command;
    response = o.response;
    fill_to = o.fill_to;
    fill_from = o.fill_from;
  }

  pub fill-outside : (s : State) (to from : ℕ) → NoneOutside k s → NoneOutside k (without_fill s to from)
  fill-outside s to from o =
      let number = put-fills s.fill to from _ (fills s o) (λ l. ap (drop 1) (o.fill_to to from l))
      (λ l. ap (drop 1) (o.fill_from to from l)) in
      record { request = o.request; command = o.command; response = o.response; fill_to = number.to; fill_from = number.from }

  pub outcome-outside : (s : State) (out : Outcome) → All (IsOutward k) out.sent → NoneOutside k s
      → NoneOutside k (with_outcome k s out).state
  outcome-outside s out w o = record {
    request = heads-inside 3 out.popped s.request o.request;
    command = commands-inside out.sent s.command w o.command;
    response = heads-inside 1 out.popped s.response o.response;
    fill_to = o.fill_to;
    fill_from = o.fill_from;
  }
