-- What a step of the system has to do with channels: it looks at one that ends at its agent, sends on those that begin there, and what it
-- sends has its stamp.
use Rattle.std.proofs.Common.{◌≡◌, ℕ, Bool, true, false, List, [], ◌∷◌, ◌++◌, Option, Some, option_map, sym, refl, ap, ◌∙◌, subst, ◌⊎◌, inl, inr, if◌then◌else◌}
use Rattle.std.specs.Prelude.{All}
use Rattle.std.specs.List.{AllByRecursion}
use Rattle.std.proofs.lemmas.Bool.{cases_eq}
use Rattle.std.proofs.lemmas.List.Elements.{All-from_recursion, recursion_from_All}
use Rattle.bk_base.specs.Places.{Shape}
use Rattle.bk_isa.specs.declared.form.Form.{Form}
use Rattle.bk_msg.specs.declared.row.Row.{Row}
use Rattle.bk_agents.specs.Parts.{Part, agent_of}
use Rattle.bk_system.specs.declared.channel.Channel.{Channel}
use Rattle.bk_system.specs.Routes.{channel_for, is_same, begins_at, ends_at}
use Rattle.bk_agents.specs.Local.{local_row, sent_on}
use Rattle.bk_agents.proofs.Ends.{touches-its-own, sends-from-itself}
use Rattle.bk_agents.proofs.SameChannel.{same-channel}
use Rattle.bk_threads.specs.Agents.{Packet, Effect, Channels, heads, after_taking, with_part, sent_by, steps_of}
use Rattle.bk_threads.specs.Walks.{Walks, SendsItsStamp, streams_after}
use Rattle.bk_threads.specs.System.{SystemStep, message_of, packets_of, system_rules}
use Rattle.bk_threads.proofs.Walking.{steps_of-same, steps_of-other}
use Rattle.bk_threads.proofs.Taking.{taking-other, streams-same}
use Rattle.bk_threads.proofs.SystemRunning.{has_row}
use Rattle.bk_threads.proofs.RoundSteps.{HasItsStamp}

pub record KeepsToItsChannels (k : Shape) (step : SystemStep) : Type 0 where
  pub looks : (channel : Channel) → step.effect.looked ≡ Some channel → ends_at k channel ≡ step.agent
  pub sends : (channel : Channel) → (begins_at k channel ≡ step.agent → ⊥) → step.effect.sent channel ≡ []
  pub stamped : SendsItsStamp step

-- on a channel that begins elsewhere it sends nothing
none_there : (k : Shape) (a n : ℕ) (channel : Channel) (ms : List Row) → a ≡ n → (begins_at k channel ≡ n → ⊥)
    → AllByRecursion (λ m. begins_at k (channel_for a m) ≡ a) ms → sent_on n channel ms ≡ []
none_there k a n channel [] own apart from = refl
none_there k a n channel (m ∷ ms) own apart from =
    whether (is_same (channel_for n m) channel) refl (none_there k a n channel ms own apart from.1)
  where
    whether : (b : Bool) → is_same (channel_for n m) channel ≡ b → sent_on n channel ms ≡ []
        → (if b then m ∷ sent_on n channel ms else sent_on n channel ms) ≡ []
    whether true e rest =
        let there : channel_for n m ≡ channel = (same-channel (channel_for n m) channel).0 e in
        absurd (apart (ap (begins_at k) (sym there) ∙ subst (λ (i : ℕ). begins_at k (channel_for i m) ≡ i) own from.0))
    whether false e rest = rest

all_stamped : (stamp t : ℕ) (ms : List Row) → stamp ≡ t
    → AllByRecursion (λ (packet : Packet Row). packet.stamp ≡ t) (packets_of stamp ms)
all_stamped stamp t [] e = tt
all_stamped stamp t (m ∷ ms) e = (e, all_stamped stamp t ms e)

keeps : (k : Shape) (program : List Form) (part : Part) (streams : Channels Channel Row) (step : SystemStep)
    → system_rules k program step.agent part (heads streams) step.event ≡ Some step.effect → HasItsStamp step
    → KeepsToItsChannels k step
keeps k program part streams step e stamp =
    let seen : Channel → Option Row = λ channel. option_map message_of (heads streams channel) in
    let row = has_row k step.agent step.event (local_row k program part seen step.event.event) step.effect e in record {
      looks = λ channel at.
          touches-its-own k program part seen step.event.event row.local row.found channel
          (ap (λ (f : Effect Channel Part Row). f.looked) row.same ∙ at) ∙ row.own;
      sends = λ channel apart.
          ap (λ (f : Effect Channel Part Row). f.sent channel) (sym row.same)
          ∙ ap (packets_of step.event.stamp) (none_there k (agent_of k step.event.event) step.agent channel row.local.sent row.own apart
          (recursion_from_All (λ (m : Row). begins_at k (channel_for (agent_of k step.event.event) m) ≡ agent_of k step.event.event)
          row.local.sent (sends-from-itself k program part seen step.event.event row.local row.found)));
      stamped = λ channel.
          subst (λ (f : Effect Channel Part Row). All (λ packet. packet.stamp ≡ step.stamp) (f.sent channel)) row.same
          (All-from_recursion (λ (packet : Packet Row). packet.stamp ≡ step.stamp)
          (packets_of step.event.stamp (sent_on step.agent channel row.local.sent))
          (all_stamped step.event.stamp step.stamp (sent_on step.agent channel row.local.sent) stamp));
    }

pub all_keep : (k : Shape) (program : List Form) (parts : ℕ → Part) (streams : Channels Channel Row) (steps : List SystemStep)
    → Walks is_same (system_rules k program) parts streams steps → AllByRecursion HasItsStamp steps
    → AllByRecursion (KeepsToItsChannels k) steps
all_keep k program parts streams [] walks stamps = tt
all_keep k program parts streams (step ∷ steps) walks stamps = (
  keeps k program (parts step.agent) streams step walks.0 stamps.0,
  all_keep k program (with_part parts step.agent step.effect.part) (after_taking is_same step.effect streams) steps walks.2 stamps.1,
)

-- what goes on a channel, the agent where it begins has sent
pub sent_alone : (k : Shape) (channel : Channel) (steps : List SystemStep) → AllByRecursion (KeepsToItsChannels k) steps
    → sent_by steps channel ≡ sent_by (steps_of (begins_at k channel) steps) channel
sent_alone k channel [] keep = refl
sent_alone k channel (step ∷ steps) keep =
    whether (cases_eq step.agent (begins_at k channel)) (sent_alone k channel steps keep.1)
  where
    whether : (step.agent ≡ begins_at k channel) ⊎ (step.agent ≡ begins_at k channel → ⊥)
        → sent_by steps channel ≡ sent_by (steps_of (begins_at k channel) steps) channel
        → sent_by (step ∷ steps) channel ≡ sent_by (steps_of (begins_at k channel) (step ∷ steps)) channel
    whether (inl same) rest =
        ap (λ more. step.effect.sent channel ++ more) rest
        ∙ sym (ap (λ all. sent_by all channel) (steps_of-same (begins_at k channel) step steps same))
    whether (inr apart) rest =
        ap (λ first. first ++ sent_by steps channel) (keep.0.sends channel (λ at. apart (sym at))) ∙ rest
        ∙ sym (ap (λ all. sent_by all channel) (steps_of-other (begins_at k channel) step steps apart))

-- and what is left of its stream, the agent at its end has left
pub left_alone : (k : Shape) (streams : Channels Channel Row) (channel : Channel) (steps : List SystemStep)
    → AllByRecursion (KeepsToItsChannels k) steps
    → streams_after is_same streams steps channel ≡ streams_after is_same streams (steps_of (ends_at k channel) steps) channel
left_alone k streams channel [] keep = refl
left_alone k streams channel (step ∷ steps) keep =
    whether (cases_eq step.agent (ends_at k channel)) (left_alone k (after_taking is_same step.effect streams) channel steps keep.1)
  where
    whether : (step.agent ≡ ends_at k channel) ⊎ (step.agent ≡ ends_at k channel → ⊥)
        → streams_after is_same (after_taking is_same step.effect streams) steps channel
        ≡ streams_after is_same (after_taking is_same step.effect streams) (steps_of (ends_at k channel) steps) channel
        → streams_after is_same streams (step ∷ steps) channel
        ≡ streams_after is_same streams (steps_of (ends_at k channel) (step ∷ steps)) channel
    whether (inl same) rest =
        rest ∙ sym (ap (λ all. streams_after is_same streams all channel) (steps_of-same (ends_at k channel) step steps same))
    whether (inr apart) rest =
        rest
        ∙ streams-same is_same streams (after_taking is_same step.effect streams) (steps_of (ends_at k channel) steps) channel
        (taking-other is_same same-channel step.effect streams channel (λ at. apart (sym (keep.0.looks channel at))))
        ∙ sym (ap (λ all. streams_after is_same streams all channel) (steps_of-other (ends_at k channel) step steps apart))
