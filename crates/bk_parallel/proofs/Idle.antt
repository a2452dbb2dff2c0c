-- Where no agent has an event that is enabled, by its own hardware, none is enabled in the system.
use Rattle.std.proofs.Common.{◌≡◌, ℕ, zero, suc, ◌<◌, Bool, Option, Some, None, refl, sym, ap, ◌∙◌, subst, List, arith, is_some, option_map, slice_get, length}
use Rattle.std.specs.Prelude.{if◌then◌else◌, option_and_then}
use Rattle.bk_base.specs.Counting.{or_else, first_below}
use Rattle.bk_base.specs.Places.{Shape}
use Rattle.bk_base.specs.declared.op.Op.{Op}
use Rattle.bk_engine.specs.declared.parts.TheConstants.{CLASS_NONE, CLASS_RESPONSE, CLASS_MEMORY, CLASS_REQUEST}
use Rattle.bk_isa.specs.declared.form.Form.{Form}
use Rattle.bk_msg.specs.declared.row.Row.{Row}
use Rattle.bk_system.specs.declared.channel.Channel.{Channel}
use Rattle.bk_system.specs.declared.event.Event.{Event}
use Rattle.bk_system.specs.declared.event.Event.TheVariants.{Issue, Command, Fill, Memory, Engine}
use Rattle.bk_system.specs.Routes.{heads_of, ends_at, engine_number, memory_number}
use Rattle.bk_system.specs.Runs.{is_enabled, completed_by}
use Rattle.bk_system.specs.State.{State}
use Rattle.bk_run.specs.Greedy.{next_operation, ready_operation, if_enabled, issue_with, engine_event, fill_event, choice_of, least_other, IsEnd}
use Rattle.bk_run.specs.Schedule.{least_engine}
use Rattle.bk_trace.specs.Traces.{operations_of}
use Rattle.bk_agents.specs.Local.{Local, local_row, widened}
use Rattle.bk_agents.specs.Parts.{Part, CachePart, part_of, agent_of}
use Rattle.bk_agents.proofs.Ends.{touches-its-own}
use Rattle.bk_agents.proofs.EventRows.{rows-local}
use Rattle.bk_agents.proofs.Heads.{one-head-counts}
use Rattle.bk_agents.proofs.Numbers.{cache-part}
use Rattle.bk_rounds.specs.Tasks.{least_delivery_to, IsIdle}
use Rattle.bk_parallel.specs.Teams.{IsAgent}

-- ANSWERS

some-mapped : {X Y : Type 0} (f : X → Y) (o : Option X) → is_some (option_map f o) ≡ is_some o
some-mapped f None = refl
some-mapped f (Some x) = refl

or_else-same : {X : Type 0} {a b later rest : Option X} → a ≡ b → later ≡ rest → or_else a later ≡ or_else b rest
or_else-same {b = b} {later = later} e h = ap (λ o. or_else o later) e ∙ ap (or_else b) h

first_below-same : {X : Type 0} (n : ℕ) (f g : ℕ → Option X) → ((i : ℕ) → f i ≡ g i) → first_below n f ≡ first_below n g
first_below-same zero f g h = refl
first_below-same (suc n) f g h = or_else-same (first_below-same n f g h) (h n)

first_below-all : {X : Type 0} (n : ℕ) (f : ℕ → Option X) → ((i : ℕ) → i < n → f i ≡ None) → first_below n f ≡ None
first_below-all zero f h = refl
first_below-all (suc n) f h = or_else-same (first_below-all n f (λ i l. h i (omega (arith, l)))) (h n (omega arith))

or_else-none : {X : Type 0} (a b : Option X) → or_else a b ≡ None → (a ≡ None) × (b ≡ None)
or_else-none None b h = (refl, h)
or_else-none (Some x) b h = absurd (cc)

then-same : {X Y : Type 0} (f g : X → Option Y) (o u : Option X) → o ≡ u → ((x : X) → f x ≡ g x)
    → option_and_then f o ≡ option_and_then g u
then-same f g o None e h = ap (option_and_then f) e
then-same f g o (Some x) e h = ap (option_and_then f) e ∙ h x

-- ONE AGENT

-- Two states have the same part of an agent, and the same heads in the channels that lead to it.
pub record Agree (k : Shape) (own s : State) (n : ℕ) : Type 0 where
  pub part : part_of k own n ≡ part_of k s n
  pub heads : (channel : Channel) → ends_at k channel ≡ n → heads_of own channel ≡ heads_of s channel

module _ (k : Shape) (program : List Form) (own s : State) where
  abbrev local_in : State → ℕ → Event → Option Local
  local_in t n event = local_row k program (part_of k t n) (heads_of t) event

  -- a row in the one is a row in the other
  given : (part : Part) (heads others : Channel → Option Row) (event : Event) (local : Local)
      → ((channel : Channel) → ends_at k channel ≡ agent_of k event → others channel ≡ heads channel)
      → local_row k program part heads event ≡ Some local → local_row k program part others event ≡ Some local
  given part heads others event local same e =
      one-head-counts k program part heads others event local e
      (λ channel touched. same channel (touches-its-own k program part heads event local e channel touched))

  alike : (part : Part) (heads others : Channel → Option Row) (event : Event) (o u : Option Local)
      → ((channel : Channel) → ends_at k channel ≡ agent_of k event → heads channel ≡ others channel)
      → local_row k program part heads event ≡ o → local_row k program part others event ≡ u → is_some o ≡ is_some u
  alike part heads others event None None same e h = refl
  alike part heads others event (Some local) u same e h =
      ap is_some (sym (given part heads others event local (λ channel ends. sym (same channel ends)) e) ∙ h)
  alike part heads others event None (Some local) same e h =
      let there = given part others heads event local same h in absurd (cc (there, e))

  -- so each of its events is enabled in both or in none
  pub same-enabled : (event : Event) → Agree k own s (agent_of k event)
      → is_enabled k program own event ≡ is_enabled k program s event
  same-enabled event agree =
      let n = agent_of k event in
      ap is_some (rows-local k program own event)
      ∙ some-mapped (widened own n) (local_in own n event)
      ∙ ap (λ (part : Part). is_some (local_row k program part (heads_of own) event)) agree.part
      ∙ alike (part_of k s n) (heads_of own) (heads_of s) event (local_row k program (part_of k s n) (heads_of own) event)
      (local_in s n event) agree.heads refl refl
      ∙ sym (some-mapped (widened s n) (local_in s n event))
      ∙ sym (ap is_some (rows-local k program s event))

  same-if : (event : Event) → Agree k own s (agent_of k event) → if_enabled k program own event ≡ if_enabled k program s event
  same-if event agree = ap (λ (b : Bool). if b then Some event else None) (same-enabled event agree)

  module _ (operations : List (ℕ × Op)) where
    completed_in : Part → ℕ
    completed_in (CachePart cache completed) = completed
    completed_in part = 0

    same-ready : (c : ℕ) → c < k.caches → Agree k own s c
        → ready_operation k program own operations c ≡ ready_operation k program s operations c
    same-ready c l agree =
        let parts : CachePart (own.caches c) (length (completed_by c own.history))
        ≡ CachePart (s.caches c) (length (completed_by c s.history)) =
        sym (cache-part k own c l) ∙ agree.part ∙ cache-part k s c l in
        let many : length (completed_by c own.history) ≡ length (completed_by c s.history) = cc (parts) in
        then-same {Y = ℕ × Op} (λ op. if is_enabled k program own (Issue c 0 op) then Some (c, op) else None)
        (λ op. if is_enabled k program s (Issue c 0 op) then Some (c, op) else None)
        (next_operation own operations c) (next_operation s operations c)
        (ap (slice_get (operations_of c operations)) many)
        (λ op. ap (λ (b : Bool). if b then Some (c, op) else None) (same-enabled (Issue c 0 op) agree))

    same-delivery : (c : ℕ) → Agree k own s c → least_delivery_to k program own c ≡ least_delivery_to k program s c
    same-delivery c agree =
        or_else-same (same-if (Command c) agree)
        (first_below-same k.caches (fill_event k program own c) (fill_event k program s c) (λ from. same-if (Fill c from) agree))

    same-engine : Agree k own s (engine_number k) → least_engine k program own ≡ least_engine k program s
    same-engine agree =
        let same : (class source : ℕ) → engine_event k program own class source ≡ engine_event k program s class source =
        λ class source. same-if (Engine (choice_of class source)) agree in
        or_else-same (same CLASS_NONE 0)
        (or_else-same (first_below-same k.caches (engine_event k program own CLASS_RESPONSE) (engine_event k program s CLASS_RESPONSE)
        (same CLASS_RESPONSE))
        (or_else-same (same CLASS_MEMORY 0)
        (first_below-same k.caches (engine_event k program own CLASS_REQUEST) (engine_event k program s CLASS_REQUEST)
        (same CLASS_REQUEST))))

    -- an agent that is idle by the one is idle by the other
    pub same-idle : (n : ℕ) → Agree k own s n → IsIdle k program operations own n → IsIdle k program operations s n
    same-idle n agree idle = record {
      issue = λ l. sym (same-ready n l agree) ∙ idle.issue l;
      delivery = λ l. sym (same-delivery n agree) ∙ idle.delivery l;
      engine = λ e. sym (same-engine (subst (Agree k own s) e agree)) ∙ idle.engine e;
      memory = λ e. sym (same-if Memory (subst (Agree k own s) e agree)) ∙ idle.memory e;
    }

-- ALL AGENTS

-- the least event but for Issue, in the parts of agents
module _ (k : Shape) (program : List Form) (operations : List (ℕ × Op)) (s : State)
    (idle : (n : ℕ) → IsAgent k n → IsIdle k program operations s n) where
  cache-idle : (c : ℕ) → c < k.caches → IsIdle k program operations s c
  cache-idle c l = idle c (omega (arith, l))

  delivery-none : (c : ℕ) → c < k.caches
      → (if_enabled k program s (Command c) ≡ None) × (first_below k.caches (fill_event k program s c) ≡ None)
  delivery-none c l = or_else-none (if_enabled k program s (Command c)) (first_below k.caches (fill_event k program s c))
      ((cache-idle c l).delivery l)

  other-none : least_other k program s ≡ None
  other-none =
      let e0 = engine_event k program s CLASS_NONE 0 in
      let d1 = first_below k.caches (engine_event k program s CLASS_RESPONSE) in
      let e2 = engine_event k program s CLASS_MEMORY 0 in
      let d3 = first_below k.caches (engine_event k program s CLASS_REQUEST) in
      let h0 = or_else-none e0 (or_else d1 (or_else e2 d3)) ((idle (engine_number k) (omega arith)).engine refl) in
      let h1 = or_else-none d1 (or_else e2 d3) h0.1 in
      let h2 = or_else-none e2 d3 h1.1 in
      or_else-same h0.0 (or_else-same h1.0 (or_else-same h2.0 (or_else-same h2.1
      (or_else-same (first_below-all k.caches (λ c. if_enabled k program s (Command c)) (λ c l. (delivery-none c l).0))
      (or_else-same (first_below-all k.caches (λ to. first_below k.caches (fill_event k program s to)) (λ to l. (delivery-none to l).1))
      ((idle (memory_number k) (omega arith)).memory refl))))))

  -- Where no agent has an event that is enabled, there is none.
  pub all-idle : IsEnd k program s operations
  all-idle =
      or_else-same (ap (option_map (issue_with 0))
      (first_below-all k.caches (ready_operation k program s operations) (λ c l. (cache-idle c l).issue l))) other-none
