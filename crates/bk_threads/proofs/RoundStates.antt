-- The states of a run of the system's agents: the parts and the channels that it leaves, and what holds on the way.
use Rattle.std.proofs.Common.{◌≡◌, ℕ, List, [], ◌∷◌, Option, Some, map, option_map, sym, refl, ap, ◌∙◌, subst, ◌⊎◌, inl, inr}
use Rattle.std.specs.Prelude.{slice_get}
use Rattle.std.proofs.lemmas.Bool.{cases_eq}
use Rattle.std.proofs.lemmas.Option.{slice_get-map}
use Rattle.bk_base.specs.Places.{Shape}
use Rattle.bk_isa.specs.declared.form.Form.{Form}
use Rattle.bk_msg.specs.declared.row.Row.{Row}
use Rattle.bk_system.specs.declared.event.Event.{Event}
use Rattle.bk_system.specs.State.{State}
use Rattle.bk_system.specs.Runs.{state_after_row, after, run_from}
use Rattle.bk_agents.specs.Parts.{Part, part_of, agent_of}
use Rattle.bk_system.specs.declared.channel.Channel.{Channel}
use Rattle.bk_system.specs.Routes.{channel_of, heads_of, is_same}
use Rattle.bk_agents.specs.Local.{local_row, widened}
use Rattle.bk_agents.proofs.Heads.{one-head-counts}
use Rattle.bk_agents.proofs.EventRows.{rows-local}
use Rattle.bk_agents.proofs.EventParts.{parts-stay}
use Rattle.bk_agents.proofs.Tight.{channels-grow}
use Rattle.bk_threads.specs.Agents.{Effect, Channels, heads, after_effect, with_part, steps_of}
use Rattle.bk_threads.specs.Walks.{Runs, parts_after, channels_after}
use Rattle.bk_threads.specs.System.{SystemStep, message_of, messages_of, system_rules, step_event}
use Rattle.bk_threads.specs.Rounds.{HoldsAlone, HoldsFrom}
use Rattle.bk_threads.proofs.Walking.{with_part-same, with_part-other, steps_of-same, steps_of-other}
use Rattle.bk_threads.proofs.SystemRunning.{has_row, parts_same, channels_same}

-- a state has these parts and channels
pub record Has (k : Shape) (s : State) (parts : ℕ → Part) (channels : Channels Channel Row) : Type 0 where
  pub part : (n : ℕ) → part_of k s n ≡ parts n
  pub content : (channel : Channel) → channel_of s channel ≡ messages_of (channels channel)

-- a step is its agent's, and leaves the state with the parts and the channels that its effect says
record Leads (k : Shape) (program : List Form) (s : State) (parts : ℕ → Part) (channels : Channels Channel Row) (step : SystemStep)
    : Type 0 where
  own : agent_of k step.event.event ≡ step.agent
  has : Has k (after k program s step.event.event) (with_part parts step.agent step.effect.part)
      (after_effect is_same step.effect channels)

leads : (k : Shape) (program : List Form) (s : State) (parts : ℕ → Part) (channels : Channels Channel Row) (step : SystemStep)
    → Has k s parts channels → system_rules k program step.agent (parts step.agent) (heads channels) step.event ≡ Some step.effect
    → Leads k program s parts channels step
leads k program s parts channels step has e =
    let event : Event = step.event.event in
    let seen : Channel → Option Row = λ channel. option_map message_of (heads channels channel) in
    let row = has_row k step.agent step.event (local_row k program (parts step.agent) seen event) step.effect e in
    let there : local_row k program (parts step.agent) (heads_of s) event ≡ Some row.local =
    one-head-counts k program (parts step.agent) seen (heads_of s) event row.local row.found
    (λ channel at. ap (λ (ms : List Row). slice_get ms 0) (has.content channel) ∙ slice_get-map message_of (channels channel) 0) in
    let here : local_row k program (part_of k s (agent_of k event)) (heads_of s) event ≡ Some row.local =
    ap (λ (part : Part). local_row k program part (heads_of s) event) (has.part (agent_of k event) ∙ ap parts row.own) ∙ there in
    let goes : after k program s event ≡ (widened s (agent_of k event) row.local).state =
    ap (state_after_row s) (rows-local k program s event ∙ ap (option_map (widened s (agent_of k event))) here) in record {
      own = row.own;
      has = record {
        part = λ n.
            ap (λ (later : State). part_of k later n) goes ∙ parts-stay k program s event row.local here n
            ∙ parts_same parts (part_of k s) (agent_of k event) step.agent row.local.part step.effect.part row.own
            (ap (λ (f : Effect Channel Part Row). f.part) row.same) has.part n;
        content = λ channel.
            ap (λ (later : State). channel_of later channel) goes ∙ channels-grow s (agent_of k event) row.local channel
            ∙ channels_same (channel_of s) channels (agent_of k event) step.agent step.event.stamp row.local step.effect row.own row.same
            has.content channel;
      };
    }

-- a run of the agents leaves their parts and channels
pub run_leads : (k : Shape) (program : List Form) (s : State) (parts : ℕ → Part) (channels : Channels Channel Row)
    (steps : List SystemStep) → Has k s parts channels → Runs is_same (system_rules k program) parts channels steps
    → Has k (run_from k program s (map step_event steps)) (parts_after parts steps) (channels_after is_same channels steps)
run_leads k program s parts channels [] has runs = has
run_leads k program s parts channels (step ∷ steps) has runs =
    run_leads k program (after k program s step.event.event) (with_part parts step.agent step.effect.part)
    (after_effect is_same step.effect channels) steps (leads k program s parts channels step has runs.0).has runs.1

-- what holds at each agent's own steps holds on the way
pub holds_along : (Holds : Part → Event → Type 0) (k : Shape) (program : List Form) (s : State) (parts : ℕ → Part)
    (channels : Channels Channel Row) (steps : List SystemStep) → Has k s parts channels
    → Runs is_same (system_rules k program) parts channels steps → ((n : ℕ) → HoldsAlone Holds (parts n) (steps_of n steps))
    → HoldsFrom Holds k program s (map step_event steps)
holds_along Holds k program s parts channels [] has runs alone = tt
holds_along Holds k program s parts channels (step ∷ steps) has runs alone =
    let lead = leads k program s parts channels step has runs.0 in
    let mine : HoldsAlone Holds (parts step.agent) (step ∷ steps_of step.agent steps) =
    subst (HoldsAlone Holds (parts step.agent)) (steps_of-same step.agent step steps refl) (alone step.agent) in (
      subst (λ (part : Part). Holds part step.event.event)
          (sym (has.part (agent_of k step.event.event) ∙ ap parts lead.own)) mine.0,
      holds_along Holds k program (after k program s step.event.event) (with_part parts step.agent step.effect.part)
          (after_effect is_same step.effect channels) steps lead.has runs.1 (λ n. whether n (cases_eq step.agent n) mine.1),
    )
  where
    whether : (n : ℕ) → (step.agent ≡ n) ⊎ (step.agent ≡ n → ⊥)
        → HoldsAlone Holds step.effect.part (steps_of step.agent steps)
        → HoldsAlone Holds (with_part parts step.agent step.effect.part n) (steps_of n steps)
    whether n (inl same) rest =
        subst (λ (m : ℕ). HoldsAlone Holds (with_part parts step.agent step.effect.part m) (steps_of m steps)) same
        (subst (λ (part : Part). HoldsAlone Holds part (steps_of step.agent steps))
        (sym (with_part-same parts step.agent step.effect.part)) rest)
    whether n (inr apart) rest =
        subst (λ (part : Part). HoldsAlone Holds part (steps_of n steps))
        (sym (with_part-other parts step.agent step.effect.part n apart))
        (subst (HoldsAlone Holds (parts n)) (steps_of-other n step steps apart) (alone n))
