-- The row of an event of the engine is the local row of its part.
use Rattle.std.proofs.Common.{◌≡◌, ℕ, Bool, true, false, cond, ltb, eqb, ◌&&◌, sym, refl, ap, ◌∙◌, subst, List, [], ◌∷◌, ◌++◌, drop, slice_get, Option, Some, None, is_some, option_map, option_and_then, append-nil, arith}
use Rattle.std.proofs.lemmas.Bool.Decides.{nat_tests}
use mathlib.Core.Path.{fun_ext}
use Rattle.bk_base.specs.Places.{Shape}
use Rattle.bk_base.specs.Tables.{put}
use Rattle.bk_isa.specs.declared.form.Form.{Form}
use Rattle.bk_msg.specs.declared.row.Row.{Row}
use Rattle.bk_msg.specs.declared.row.Network.{Network}
use Rattle.bk_msg.specs.declared.row.Network.TheVariants as networks
use Rattle.bk_msg.specs.Networks.{network_of, receiver_of}
use Rattle.bk_engine.specs.declared.parts.Choice.{Choice}
use Rattle.bk_engine.specs.declared.parts.TheConstants.{CLASS_RESPONSE, CLASS_REQUEST}
use Rattle.bk_engine.specs.Step.{Outcome, runs, runs_to}
use Rattle.bk_system.specs.declared.event.Event.TheVariants as events
use Rattle.bk_system.specs.State.{State}
use Rattle.bk_system.specs.Events.{Happening, first, is_choice, offered_head, heads_left, memin_left, popped_origins, origins_of, with_outcome, row}
use Rattle.bk_system.specs.Routes.{engine_number}
use Rattle.bk_agents.specs.Parts.{Part, part_of}
use Rattle.bk_system.specs.declared.channel.Channel.TheVariants as channels
use Rattle.bk_system.specs.declared.channel.Channel.{Channel}
use Rattle.bk_system.specs.Routes.{channel_in, is_same, heads_of}
use Rattle.bk_agents.specs.Local.{Local, offered, origins_at, touched_by, engine_local, is_touched, sent_on, local_row, widened}
use Rattle.bk_agents.proofs.Numbers.{engine-part}
use Rattle.bk_agents.proofs.Sending.{without_head, commands-sent, memout-sent}
use Rattle.bk_agents.proofs.Outward.{IsEngines, AreEngines, ran-outward}

-- WHAT IS OFFERED, by the channels' heads

offered-same : (s : State) (choice : Choice) → offered_head s choice ≡ offered (heads_of s) choice
offered-same s choice = go (eqb choice.class 1) (eqb choice.class 2) (eqb choice.source 0) (eqb choice.class 3)
  where
    go : (x y z u : Bool)
        → cond x (first (s.response choice.source)) (cond y (cond z (first s.memin) None) (cond u (first (s.request choice.source)) None))
        ≡ option_and_then (heads_of s) (cond x (Some (channels.Response choice.source)) (cond y (cond z (Some channels.Memin) None)
        (cond u (Some (channels.Request choice.source)) None)))
    go true y z u = refl
    go false true true u = refl
    go false true false u = refl
    go false false z true = refl
    go false false z false = refl

origins-same : (k : Shape) (s : State) (number : ℕ) (o : Option Choice)
    → popped_origins k s number o ≡ origins_at k (heads_of s) number o
origins-same k s number None = refl
origins-same k s number (Some popped) = ap (origins_of k number popped.source) (offered-same s popped)

-- WHAT IS LEFT of each channel

-- a choice has one class at the most
one-class : (n i j : ℕ) → (i ≡ j → ⊥) → eqb n i ≡ true → eqb n j ≡ false
one-class n i j other e = grind (arith, nat_tests)

-- the channel that a choice of these classes touches
abbrev touched_in : ℕ → Bool → Bool → Bool → Option Channel
touched_in source x y z = cond x (Some (channels.Response source)) (cond y (Some channels.Memin)
    (cond z (Some (channels.Request source)) None))

request-left : (choice : Choice) (o : Option Choice) (f : ℕ → List Row) (from : ℕ)
    → heads_left CLASS_REQUEST o f from
    ≡ cond (is_some o && is_touched (touched_by choice o) (channels.Request from)) (drop 1 (f from)) (f from)
request-left choice None f from = refl
request-left choice (Some popped) f from =
    go (eqb popped.class 1) (eqb popped.class 2) (eqb popped.class 3)
    (one-class popped.class 1 3 (λ e. omega (arith, e))) (one-class popped.class 2 3 (λ e. omega (arith, e)))
  where
    go : (x y z : Bool) → (x ≡ true → z ≡ false) → (y ≡ true → z ≡ false)
        → cond z (put f popped.source (drop 1 (f popped.source))) f from
        ≡ cond (is_touched (touched_in popped.source x y z) (channels.Request from)) (drop 1 (f from)) (f from)
    go true y z p q = subst (λ (b : Bool). cond b (put f popped.source (drop 1 (f popped.source))) f from ≡ f from) (sym (p refl)) refl
    go false true z p q = subst (λ (b : Bool). cond b (put f popped.source (drop 1 (f popped.source))) f from ≡ f from)
        (sym (q refl)) refl
    go false false true p q = without_head f popped.source from
    go false false false p q = refl

response-left : (choice : Choice) (o : Option Choice) (f : ℕ → List Row) (from : ℕ)
    → heads_left CLASS_RESPONSE o f from
    ≡ cond (is_some o && is_touched (touched_by choice o) (channels.Response from)) (drop 1 (f from)) (f from)
response-left choice None f from = refl
response-left choice (Some popped) f from = go (eqb popped.class 1) (eqb popped.class 2) (eqb popped.class 3)
  where
    go : (x y z : Bool)
        → cond x (put f popped.source (drop 1 (f popped.source))) f from
        ≡ cond (is_touched (touched_in popped.source x y z) (channels.Response from)) (drop 1 (f from)) (f from)
    go true y z = without_head f popped.source from
    go false true z = refl
    go false false true = refl
    go false false false = refl

memin-left : (choice : Choice) (o : Option Choice) (ms : List Row)
    → memin_left o ms ≡ cond (is_some o && is_touched (touched_by choice o) channels.Memin) (drop 1 ms) ms
memin-left choice None ms = refl
memin-left choice (Some popped) ms =
    go (eqb popped.class 1) (eqb popped.class 2) (eqb popped.class 3) (one-class popped.class 1 2 (λ e. omega (arith, e)))
  where
    go : (x y z : Bool) → (x ≡ true → y ≡ false)
        → cond y (drop 1 ms) ms ≡ cond (is_touched (touched_in popped.source x y z) channels.Memin) (drop 1 ms) ms
    go true y z p = subst (λ (b : Bool). cond b (drop 1 ms) ms ≡ ms) (sym (p refl)) refl
    go false true z p = refl
    go false false true p = refl
    go false false false p = refl

-- the engine takes no head off the channels of other networks
command-left : (choice : Choice) (o : Option Choice) (ms : List Row) (to : ℕ)
    → cond (is_some o && is_touched (touched_by choice o) (channels.Command to)) (drop 1 ms) ms ≡ ms
command-left choice None ms to = refl
command-left choice (Some popped) ms to = go (eqb popped.class 1) (eqb popped.class 2) (eqb popped.class 3)
  where
    go : (x y z : Bool) → cond (is_touched (touched_in popped.source x y z) (channels.Command to)) (drop 1 ms) ms ≡ ms
    go true y z = refl
    go false true z = refl
    go false false true = refl
    go false false false = refl

fill-left : (choice : Choice) (o : Option Choice) (ms : List Row) (to from : ℕ)
    → cond (is_some o && is_touched (touched_by choice o) (channels.Fill to from)) (drop 1 ms) ms ≡ ms
fill-left choice None ms to from = refl
fill-left choice (Some popped) ms to from = go (eqb popped.class 1) (eqb popped.class 2) (eqb popped.class 3)
  where
    go : (x y z : Bool) → cond (is_touched (touched_in popped.source x y z) (channels.Fill to from)) (drop 1 ms) ms ≡ ms
    go true y z = refl
    go false true z = refl
    go false false true = refl
    go false false false = refl

memout-left : (choice : Choice) (o : Option Choice) (ms : List Row)
    → cond (is_some o && is_touched (touched_by choice o) channels.Memout) (drop 1 ms) ms ≡ ms
memout-left choice None ms = refl
memout-left choice (Some popped) ms = go (eqb popped.class 1) (eqb popped.class 2) (eqb popped.class 3)
  where
    go : (x y z : Bool) → cond (is_touched (touched_in popped.source x y z) channels.Memout) (drop 1 ms) ms ≡ ms
    go true y z = refl
    go false true z = refl
    go false false true = refl
    go false false false = refl

-- WHAT IS SENT on the channels of others: nothing

-- no network on which the engine sends has this channel
abbrev IsOthers : ℕ → Channel → Type 0
IsOthers n channel = (x : Network) (to : ℕ) → IsEngines x → is_same (channel_in x n to) channel ≡ false

none-on : (n : ℕ) (ms : List Row) (channel : Channel) → AreEngines ms → IsOthers n channel → sent_on n channel ms ≡ []
none-on n [] channel h other = refl
none-on n (m ∷ ms) channel h other =
    ap (λ (b : Bool). cond b (m ∷ sent_on n channel ms) (sent_on n channel ms)) (other (network_of m) (receiver_of m) h.0)
    ∙ none-on n ms channel h.1 other

no-request : (n from : ℕ) → IsOthers n (channels.Request from)
no-request n from networks.Request to h = absurd h
no-request n from networks.Command to h = refl
no-request n from networks.Fill to h = absurd h
no-request n from networks.Response to h = absurd h
no-request n from networks.Memout to h = refl
no-request n from networks.Memin to h = absurd h

no-response : (n from : ℕ) → IsOthers n (channels.Response from)
no-response n from networks.Request to h = absurd h
no-response n from networks.Command to h = refl
no-response n from networks.Fill to h = absurd h
no-response n from networks.Response to h = absurd h
no-response n from networks.Memout to h = refl
no-response n from networks.Memin to h = absurd h

no-fill : (n to from : ℕ) → IsOthers n (channels.Fill to from)
no-fill n to from networks.Request at h = absurd h
no-fill n to from networks.Command at h = refl
no-fill n to from networks.Fill at h = absurd h
no-fill n to from networks.Response at h = absurd h
no-fill n to from networks.Memout at h = refl
no-fill n to from networks.Memin at h = absurd h

no-memin : (n : ℕ) → IsOthers n channels.Memin
no-memin n networks.Request to h = absurd h
no-memin n networks.Command to h = refl
no-memin n networks.Fill to h = absurd h
no-memin n networks.Response to h = absurd h
no-memin n networks.Memout to h = refl
no-memin n networks.Memin to h = absurd h

-- a channel that has lost its head or not, and on which nothing is sent
only-left : (xs ys zs : List Row) → xs ≡ ys → zs ≡ [] → xs ≡ ys ++ zs
only-left xs ys zs e h = e ∙ sym (append-nil ys) ∙ ap (λ (l : List Row). ys ++ l) (sym h)

-- one on which it sends, and from which no head is taken
only-sent : (xs ys ms zs : List Row) → ys ≡ ms → xs ≡ ms ++ zs → xs ≡ ys ++ zs
only-sent xs ys ms zs e h = h ∙ ap (λ (l : List Row). l ++ zs) (sym e)

-- THE ROW

engine-same : (k : Shape) (s : State) (n : ℕ) (choice : Choice) (outcome : Outcome) → AreEngines outcome.sent
    → with_outcome k s outcome ≡ widened s n (engine_local k (heads_of s) choice outcome)
engine-same k s n choice outcome own = λ i. record {
  state = record s {
    engine = outcome.engine;
    request = fun_ext (λ from. only-left _ _ _ (request-left choice outcome.popped s.request from)
        (none-on n outcome.sent (channels.Request from) own (no-request n from))) i;
    command = fun_ext (λ to. only-sent _ _ _ _ (command-left choice outcome.popped (s.command to) to)
        (commands-sent n outcome.sent s.command to)) i;
    response = fun_ext (λ from. only-left _ _ _ (response-left choice outcome.popped s.response from)
        (none-on n outcome.sent (channels.Response from) own (no-response n from))) i;
    fill = fun_ext (λ to. fun_ext (λ from. only-left _ _ _ (sym (fill-left choice outcome.popped (s.fill to from) to from))
        (none-on n outcome.sent (channels.Fill to from) own (no-fill n to from)))) i;
    memout = only-sent _ _ _ _ (memout-left choice outcome.popped s.memout) (memout-sent n outcome.sent s.memout) i;
    memin = only-left _ _ _ (memin-left choice outcome.popped s.memin)
        (none-on n outcome.sent channels.Memin own (no-memin n)) i;
    history = sym (append-nil s.history) i;
    taken = s.taken ++ origins-same k s 1 outcome.popped i;
    settled = s.settled ++ origins-same k s 3 outcome.popped i;
  };
  sent = outcome.sent;
}

-- where it runs
where-it-runs : (b : Bool) (h : Happening) (s : State) (n : ℕ) (local : Local) → h ≡ widened s n local
    → cond b (Some h) None ≡ option_map (widened s n) (cond b (Some local) None)
where-it-runs true h s n local e = ap Some e
where-it-runs false h s n local e = refl

-- with this message offered
abbrev can_run_at : Shape → List Form → State → Choice → Option Row → Bool
can_run_at k program s choice message =
    ltb choice.source k.caches && is_choice (slice_get program s.engine.core.place) choice && runs k s.engine program choice message

pub engine-row : (k : Shape) (program : List Form) (s : State) (choice : Choice)
    → row k program s (events.Engine choice)
    ≡ option_map (widened s (engine_number k)) (local_row k program (part_of k s (engine_number k)) (heads_of s) (events.Engine choice))
engine-row k program s choice =
    where-it-runs (can_run_at k program s choice (offered_head s choice)) _ s (engine_number k) _
    (engine-same k s (engine_number k) choice (runs_to k s.engine program choice (offered_head s choice))
    (ran-outward k s.engine (slice_get program s.engine.core.place) choice (offered_head s choice)))
    ∙ ap (λ (message : Option Row). option_map (widened s (engine_number k)) (cond (can_run_at k program s choice message)
    (Some (engine_local k (heads_of s) choice (runs_to k s.engine program choice message))) None)) (offered-same s choice)
    ∙ ap (λ (part : Part). option_map (widened s (engine_number k)) (local_row k program part (heads_of s) (events.Engine choice)))
    (sym (engine-part k s))
