-- The head that an agent holds after its event stands first in its channel.
use Rattle.std.proofs.Common.{◌≡◌, Bool, true, false, ltb, ◌&&◌, refl, sym, ap, ◌∙◌, subst, length, slice_get, Option, Some, None, is_none, is_some, option_and_then}
use Rattle.std.proofs.lemmas.Option.{same_Some}
use Rattle.bk_base.specs.Places.{Shape}
use Rattle.bk_isa.specs.declared.form.Form.{Form}
use Rattle.bk_isa.specs.declared.form.Form.TheVariants.{Wfq, Popq, Defer}
use Rattle.bk_msg.specs.declared.row.Row.{Row}
use Rattle.bk_engine.specs.declared.parts.Choice.{Choice}
use Rattle.bk_engine.specs.declared.parts.Head.{Head}
use Rattle.bk_engine.specs.Changes.{after_wait}
use Rattle.bk_engine.specs.Engine.{EngineState}
use Rattle.bk_engine.specs.Sends.{sends}
use Rattle.bk_engine.specs.Step.{ran_at}
use Rattle.bk_engine.specs.Stops.{stop_at}
use Rattle.bk_system.specs.declared.event.Event.TheVariants as events
use Rattle.bk_system.specs.Events.{is_choice}
use Rattle.bk_agents.specs.Parts.{Part, CachePart, EnginePart, MemoryPart}
use Rattle.bk_system.specs.declared.channel.Channel.TheVariants as channels
use Rattle.bk_system.specs.declared.channel.Channel.{Channel}
use Rattle.bk_agents.specs.Held.{held_head, HoldsFirst}
use Rattle.bk_agents.specs.Laws.{HoldsOn}
use Rattle.bk_agents.specs.Local.{Local, cache_local, memory_local, engine_local, offered_channel, popped_channel, offered, touched_by, is_touched}
use Rattle.bk_agents.proofs.CoreHeads.{serves-head, popped-none}
use Rattle.bk_agents.proofs.HeadsThere.{wait-message}
use Rattle.bk_agents.proofs.SomeRow.{of-some, of-test, both}
use Rattle.bk_agents.proofs.Touched.{offered-popped}

-- each head that an event doesn't take off is there later
abbrev Stay : (Channel → Option Row) → (Channel → Option Row) → Bool → Option Channel → Type 0
Stay heads later pops touched = (channel : Channel) (m : Row) → heads channel ≡ Some m
    → (pops && is_touched touched channel) ≡ false
    → later channel ≡ Some m

-- a message that is offered is the head of a channel
of-channel : (o : Option Channel) (heads : Channel → Option Row) (m : Row) → option_and_then heads o ≡ Some m
    → (channel : Channel) × (o ≡ Some channel) × (heads channel ≡ Some m)
of-channel None heads m e = absurd cc
of-channel (Some channel) heads m e = (channel, refl, e)

-- what `wfq` looks at stays in its channel
waited : (engine : EngineState) (choice : Choice) (heads later : Channel → Option Row) (m : Row) (head : Head) (channel : Channel)
    → offered heads choice ≡ Some m → Stay heads later false None
    → (after_wait engine.core choice (offered heads choice)).head ≡ Some head → popped_channel head.choice ≡ Some channel
    → later channel ≡ Some head.message
waited engine choice heads later m head channel o stay e h =
    let same : record { choice = choice; message = m } ≡ head =
    same_Some (record { choice = choice; message = m }) head
    (ap (λ (message : Option Row). (after_wait engine.core choice message).head) (sym o) ∙ e) in
    let from = of-channel (offered_channel choice) heads m o in
    let at : from.0 ≡ channel =
    same_Some from.0 channel
    (sym (offered-popped choice from.0 from.1) ∙ ap (λ (x : Head). popped_channel x.choice) same ∙ h) in
    stay channel m (ap heads (sym at) ∙ from.2) refl ∙ ap (λ (x : Head). Some x.message) same

holds : (k : Shape) (engine : EngineState) (form : Option Form) (choice : Choice) (heads later : Channel → Option Row)
    → is_none (stop_at k engine form choice (offered heads choice)) ≡ true
    → HoldsFirst (EnginePart engine) heads
    → Stay heads later (is_some (ran_at k engine form choice (offered heads choice)).popped)
    (touched_by choice (ran_at k engine form choice (offered heads choice)).popped)
    → HoldsFirst (EnginePart (ran_at k engine form choice (offered heads choice)).engine) later
holds k engine None choice heads later runs first stay head channel e h = absurd cc
holds k engine (Some (Wfq classes)) choice heads later runs first stay head channel e h =
    let m = wait-message k engine (Some (Wfq classes)) choice (offered heads choice) refl runs in
    waited engine choice heads later m.0 head channel m.1 stay e h
holds k engine (Some (Popq mark)) choice heads later runs first stay head channel e h =
    let no : None ≡ Some head = sym (popped-none engine.core engine.core.head refl) ∙ e in absurd (cc no)
holds k engine (Some Defer) choice heads later runs first stay head channel e h = absurd cc
holds k engine (Some f) choice heads later runs first stay head channel e h =
    stay channel head.message
    (first head channel (sym (serves-head engine.core (length (sends k engine f)) f) ∙ e) h) refl

-- a part that isn't the engine's holds none
holds-none : (part : Part) (later : Channel → Option Row) → held_head part ≡ None → HoldsFirst part later
holds-none part later none head channel e h = let no : None ≡ Some head = sym none ∙ e in absurd (cc no)

by-engine : (k : Shape) (engine : EngineState) (form : Option Form) (choice : Choice) (heads later : Channel → Option Row)
    → (ltb choice.source k.caches && is_choice form choice && is_none (stop_at k engine form choice (offered heads choice))) ≡ true
    → HoldsFirst (EnginePart engine) heads
    → Stay heads later (is_some (ran_at k engine form choice (offered heads choice)).popped)
    (touched_by choice (ran_at k engine form choice (offered heads choice)).popped)
    → HoldsFirst (EnginePart (ran_at k engine form choice (offered heads choice)).engine) later
by-engine k engine form choice heads later runs first stay =
    holds k engine form choice heads later
    (both (ltb choice.source k.caches && is_choice form choice) (is_none (stop_at k engine form choice (offered heads choice))) runs).1
    first stay

pub holds-on : HoldsOn
holds-on k program (CachePart cache completed) heads later (events.Issue c way op) local e first stay =
    let row = of-some (cache_local completed None) _ local e in
    holds-none local.part later (ap (λ (l : Local). held_head l.part) (sym row.2))
holds-on k program (CachePart cache completed) heads later (events.Command c) local e first stay =
    let row = of-some (cache_local completed (Some (channels.Command c))) _ local e in
    holds-none local.part later (ap (λ (l : Local). held_head l.part) (sym row.2))
holds-on k program (CachePart cache completed) heads later (events.Fill to from) local e first stay =
    let row = of-some (cache_local completed (Some (channels.Fill to from))) _ local e in
    holds-none local.part later (ap (λ (l : Local). held_head l.part) (sym row.2))
holds-on k program (MemoryPart memory) heads later events.Memory local e first stay =
    let row = of-some (memory_local memory) (heads channels.Memout) local e in
    holds-none local.part later (ap (λ (l : Local). held_head l.part) (sym row.2))
holds-on k program (EnginePart engine) heads later (events.Engine choice) local e first stay =
    let form = slice_get program engine.core.place in
    let outcome = ran_at k engine form choice (offered heads choice) in
    let row = of-test (ltb choice.source k.caches && is_choice form choice && is_none (stop_at k engine form choice (offered heads choice)))
    (engine_local k heads choice outcome) local e in
    subst (λ (l : Local). Stay heads later l.pops l.touched → HoldsFirst l.part later) row.1
    (by-engine k engine form choice heads later row.0 first) stay
holds-on k program part heads later event local e first stay = absurd cc
