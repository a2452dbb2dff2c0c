-- Agents at the opening may begin a round.
use Rattle.std.proofs.Common.{◌≡◌, ◌≢◌, inl, inr, ℕ, zero, suc, ◌+◌, ◌<◌, true, false, cond, Bool, List, [], ◌∷◌, Some, length, map, slice_get, get_or, refl, sym, ap, ◌∙◌, subst, arith}
use Rattle.std.specs.List.{All, AllPairs}
use Rattle.std.proofs.lemmas.List.Elements.{All-nil, All-cons}
use Rattle.std.proofs.lemmas.List.Kept.{AllPairs-cons}
use Rattle.std.proofs.lemmas.Option.{slice_get-get_or, slice_get_within}
use Rattle.bk_agents.specs.Held.{HoldsFirst}
use Rattle.bk_agents.specs.Parts.{part_of}
use Rattle.bk_base.specs.Places.{Shape}
use Rattle.bk_msg.specs.declared.codec.Packet as wire
use Rattle.bk_rounds.specs.declared.agent.Agent.{Agent}
use Rattle.bk_rounds.specs.declared.ends.Inlet.{Inlet}
use Rattle.bk_rounds.specs.declared.ends.Outlet.{Outlet}
use Rattle.bk_rounds.specs.Agents.{IsFresh}
use Rattle.bk_rounds.specs.Ends.{AreInlets, AreOutlets, IsInward, IsOutward, inlet_channel, outlet_channel, taken_of, sent_to, is_in}
use Rattle.bk_rounds.specs.Reading.{packets_in}
use Rattle.bk_system.specs.declared.channel.Channel.{Channel}
use Rattle.bk_system.specs.declared.channel.Channel.TheVariants.{Request, Command, Fill, Response, Memout, Memin}
use Rattle.bk_system.specs.Routes.{heads_of, channel_of, is_same, IsChannel}
use Rattle.bk_system.specs.State.{State, opening}
use Rattle.bk_system.specs.Systems.{state_of}
use Rattle.bk_parallel.specs.Rounds.{IsReady, CanWork}
use Rattle.bk_parallel.specs.Teams.{IsTeam}
use Rattle.bk_parallel.proofs.Chosen.{pairs-nil}
use Rattle.bk_parallel.proofs.WholeRuns.{none-waits, none-holds}

-- of a team, each agent that is ready
pub can-begin : (k : Shape) (agents : List Agent) → IsTeam k agents
    → ((n : ℕ) (agent : Agent) → slice_get agents n ≡ Some agent → IsReady k agent)
    → (n : ℕ) (agent : Agent) → slice_get agents n ≡ Some agent → CanWork k agent
can-begin k agents team ready n agent is =
    let member = team.each n agent is in
    record {
      number = omega (arith, member.number, slice_get_within agents n agent is, team.count);
      config = member.config;
      ready = ready n agent is;
    }

-- AN ENGINE BY ITSELF, IN A SYSTEM WITH ONE CACHE

-- one element, and two that differ
module _ {X : Type 0} where
  one-pair : (x : X) → AllPairs (λ a b. a ≢ b) (x ∷ [])
  one-pair x = AllPairs-cons (λ a b. a ≢ b) x [] (All-nil (λ b. x ≢ b)) (pairs-nil (λ a b. a ≢ b))

  two-pairs : (x y : X) → x ≢ y → AllPairs (λ a b. a ≢ b) (x ∷ y ∷ [])
  two-pairs x y differ =
      AllPairs-cons (λ a b. a ≢ b) x (y ∷ []) (All-cons (λ b. x ≢ b) y [] differ (All-nil (λ b. x ≢ b))) (one-pair y)

-- what the engine sends on are the channels to the cache and to the memory
engine-sends : (k : Shape) (channel : Channel) → k.caches ≡ 1 → IsChannel k channel → IsOutward k 1 channel
    → is_in channel (Command 0 ∷ Memout ∷ []) ≡ true
engine-sends k (Request from) one there outward = absurd (omega (arith, one, there, outward.here))
engine-sends k (Command zero) one there outward = refl
engine-sends k (Command (suc to)) one there outward = absurd (omega (arith, one, there))
engine-sends k (Fill to from) one there outward = absurd (omega (arith, one, there.1, outward.here))
engine-sends k (Response from) one there outward = absurd (omega (arith, one, there, outward.here))
engine-sends k Memout one there outward = refl
engine-sends k Memin one there outward = absurd (omega (arith, one, outward.here))

nothing-either : (b : Bool) (xs ys : List wire.Packet) → xs ≡ [] → ys ≡ [] → cond b xs ys ≡ []
nothing-either true xs ys e f = e
nothing-either false xs ys e f = f

module _ (k : Shape) (agent : Agent) (requests : Inlet) (commands memout : Outlet) (one : k.caches ≡ 1) (number : agent.number ≡ 1)
    (config : agent.hardware.config ≡ k) (state : state_of agent.hardware ≡ opening k) (entries : agent.entries.items ≡ [])
    (inlets : agent.inlets.items ≡ requests ∷ []) (outlets : agent.outlets.items ≡ commands ∷ memout ∷ [])
    (request : requests.channel ≡ Request 0) (command : commands.channel ≡ Command 0) (memory : memout.channel ≡ Memout)
    (taken : requests.receiver.taken ≡ []) (sent : commands.sender.sent ≡ []) (also : memout.sender.sent ≡ [])
  where
    takes : Request 0 ∷ [] ≡ map inlet_channel agent.inlets.items
    takes = sym (ap (map inlet_channel) inlets ∙ ap (λ (c : Channel). c ∷ []) request)

    sends : Command 0 ∷ Memout ∷ [] ≡ map outlet_channel agent.outlets.items
    sends = sym (ap (map outlet_channel) outlets ∙ ap (λ (c : Channel). c ∷ memout.channel ∷ []) command
        ∙ ap (λ (c : Channel). Command 0 ∷ c ∷ []) memory)

    are-inlets : AreInlets k 1 agent.inlets.items
    are-inlets = record {
      channels = subst (All (IsChannel k)) takes
          (All-cons (IsChannel k) (Request 0) [] (omega (arith, one)) (All-nil (IsChannel k)));
      inward = subst (All (IsInward k 1)) takes
          (All-cons (IsInward k 1) (Request 0) [] (record { here = one; elsewhere = λ e. absurd (omega (arith, e)) })
          (All-nil (IsInward k 1)));
      different = subst (AllPairs (λ channel other. channel ≢ other)) takes (one-pair (Request 0));
    }

    are-outlets : AreOutlets k 1 agent.outlets.items
    are-outlets = record {
      channels = subst (All (IsChannel k)) sends
          (All-cons (IsChannel k) (Command 0) (Memout ∷ []) (omega (arith, one))
          (All-cons (IsChannel k) Memout [] tt (All-nil (IsChannel k))));
      outward = subst (All (IsOutward k 1)) sends
          (All-cons (IsOutward k 1) (Command 0) (Memout ∷ []) (record { here = one; elsewhere = λ e. absurd (omega (arith, e)) })
          (All-cons (IsOutward k 1) Memout [] (record { here = one; elsewhere = λ e. absurd (omega (arith, e, one)) })
          (All-nil (IsOutward k 1))));
      different = subst (AllPairs (λ channel other. channel ≢ other)) sends
          (two-pairs (Command 0) Memout (λ e. absurd (cc (e))));
      whole = λ channel there outward. subst (λ (all : List Channel). is_in channel all ≡ true) sends
          (engine-sends k channel one there outward);
    }

    none-taken : (channel : Channel) → taken_of agent.inlets.items channel ≡ []
    none-taken channel = ap (λ (all : List Inlet). taken_of all channel) inlets
        ∙ nothing-either (is_same requests.channel channel) requests.receiver.taken [] taken refl

    none-sent : (channel : Channel) → sent_to agent.outlets.items channel ≡ []
    none-sent channel = ap (λ (all : List Outlet). sent_to all channel) outlets
        ∙ nothing-either (is_same commands.channel channel) commands.sender.sent (sent_to (memout ∷ []) channel) sent
        (nothing-either (is_same memout.channel channel) memout.sender.sent [] also refl)

    fresh : IsFresh agent
    fresh = record {
      took = λ channel. ap (packets_in agent.hardware.config) (none-taken channel);
      sent = λ channel. ap (packets_in agent.hardware.config) (none-sent channel);
      entries = entries;
      waits = λ channel outward. ap (λ (t : State). channel_of t channel) state ∙ none-waits k channel;
      holds = subst (λ (t : State). HoldsFirst (part_of agent.hardware.config t agent.number) (heads_of t)) (sym state)
          (subst (λ (x : Shape). HoldsFirst (part_of x (opening k) agent.number) (heads_of (opening k))) (sym config)
          (none-holds k agent.number));
    }

    pub lone-engine : CanWork k agent
    lone-engine = record {
      number = omega (arith, number, one);
      config = config;
      ready = record {
        inlets = subst (λ (i : ℕ). AreInlets k i agent.inlets.items) (sym number) are-inlets;
        outlets = subst (λ (i : ℕ). AreOutlets k i agent.outlets.items) (sym number) are-outlets;
        fresh = fresh;
      };
    }
