-- The channel that a local row touches has a head.
use Rattle.std.proofs.Common.{◌≡◌, ℕ, Bool, true, false, cond, ltb, eqb, ◌&&◌, refl, sym, ap, ◌∙◌, subst, slice_get, Option, Some, None, is_none, option_map, option_and_then}
use Rattle.std.proofs.lemmas.Option.{same_Some}
use Rattle.bk_base.specs.Places.{Shape}
use Rattle.bk_isa.specs.declared.form.Form.{Form}
use Rattle.bk_isa.specs.declared.form.Form.TheVariants.{Wfq, Popq}
use Rattle.bk_msg.specs.declared.row.Row.{Row}
use Rattle.bk_lce.specs.CacheTable as table
use Rattle.bk_lce.specs.CacheTable.{Transition}
use Rattle.bk_engine.specs.declared.parts.Choice.{Choice}
use Rattle.bk_engine.specs.declared.parts.Head.{Head}
use Rattle.bk_engine.specs.Engine.{EngineState}
use Rattle.bk_engine.specs.Step.{choice_of, ran_at}
use Rattle.bk_engine.specs.Stops.{wait_stop, stop_at}
use Rattle.bk_system.specs.declared.event.Event.TheVariants as events
use Rattle.bk_system.specs.Events.{is_wait, is_choice}
use Rattle.bk_agents.specs.Parts.{CachePart, EnginePart, MemoryPart}
use Rattle.bk_system.specs.declared.channel.Channel.TheVariants as channels
use Rattle.bk_system.specs.declared.channel.Channel.{Channel}
use Rattle.bk_agents.specs.Held.{HoldsFirst}
use Rattle.bk_agents.specs.Laws.{TouchesAHead}
use Rattle.bk_agents.specs.Local.{Local, cache_local, memory_local, engine_local, popped_channel, offered, touched_by}
use Rattle.bk_agents.proofs.Heads.{no-class}
use Rattle.bk_agents.proofs.SomeRow.{of-some, of-test, both}
use Rattle.bk_agents.proofs.Touched.{cache-touched}

abbrev IsThere : (Channel → Option Row) → Channel → Type 0
IsThere heads channel = (m : Row) × (heads channel ≡ Some m)

-- A CACHE, THE MEMORY: a row is of a message

of-message : (f : Row → Option Transition) (o : Option Row) (t : Transition) → option_and_then f o ≡ Some t
    → (m : Row) × (o ≡ Some m)
of-message f None t e = absurd cc
of-message f (Some m) t e = (m, refl)

if-there : (b : Bool) (o : Option Transition) (t : Transition) → cond b o None ≡ Some t → o ≡ Some t
if-there true o t e = e
if-there false o t e = absurd cc

by-cache : (completed : ℕ) (at channel : Channel) (f : Row → Option Transition) (b : Bool) (heads : Channel → Option Row)
    (local : Local)
    → option_map (cache_local completed (Some at)) (cond b (option_and_then f (heads at)) None) ≡ Some local
    → local.touched ≡ Some channel
    → IsThere heads channel
by-cache completed at channel f b heads local e h =
    let row = of-some (cache_local completed (Some at)) (cond b (option_and_then f (heads at)) None) local e in
    subst (IsThere heads) (same_Some at channel (ap (λ (l : Local). l.touched) row.2 ∙ h))
    (of-message f (heads at) row.0 (if-there b (option_and_then f (heads at)) row.0 row.1))

by-memory : (memory : ℕ → ℕ) (channel : Channel) (heads : Channel → Option Row) (local : Local)
    → option_map (memory_local memory) (heads channels.Memout) ≡ Some local → local.touched ≡ Some channel → IsThere heads channel
by-memory memory channel heads local e h =
    let row = of-some (memory_local memory) (heads channels.Memout) local e in
    subst (IsThere heads) (same_Some channels.Memout channel (ap (λ (l : Local). l.touched) row.2 ∙ h)) (row.0, row.1)

-- THE ENGINE

-- a head that is taken off is the one that it holds
from-head : (o : Option Head) (popped : Choice) → choice_of o ≡ Some popped
    → (head : Head) × (o ≡ Some head) × (head.choice ≡ popped)
from-head None popped e = absurd cc
from-head (Some head) popped e = (head, refl, same_Some head.choice popped e)

pops-held : (k : Shape) (engine : EngineState) (form : Option Form) (choice : Choice) (message : Option Row) (popped : Choice)
    → (ran_at k engine form choice message).popped ≡ Some popped
    → (head : Head) × (engine.core.head ≡ Some head) × (head.choice ≡ popped)
pops-held k engine None choice message popped e = absurd cc
pops-held k engine (Some (Popq mark)) choice message popped e = from-head engine.core.head popped e
pops-held k engine (Some f) choice message popped e = absurd cc

-- `wfq` runs only where it is offered a message
waits-for : (o : Option Head) (classes : ℕ) (choice : Choice) (message : Option Row)
    → is_none (wait_stop o classes choice message) ≡ true
    → (m : Row) × (message ≡ Some m)
waits-for (Some head) classes choice message e = absurd cc
waits-for None classes choice None e = absurd cc
waits-for None classes choice (Some m) e = (m, refl)

pub wait-message : (k : Shape) (engine : EngineState) (form : Option Form) (choice : Choice) (message : Option Row)
    → is_wait form ≡ true
    → is_none (stop_at k engine form choice message) ≡ true → (m : Row) × (message ≡ Some m)
wait-message k engine None choice message w e = absurd cc
wait-message k engine (Some (Wfq classes)) choice message w e = waits-for engine.core.head classes choice message e
wait-message k engine (Some f) choice message w e = absurd cc

by-engine : (k : Shape) (engine : EngineState) (form : Option Form) (choice : Choice) (heads : Channel → Option Row) (channel : Channel)
    → (ltb choice.source k.caches && is_choice form choice && is_none (stop_at k engine form choice (offered heads choice))) ≡ true
    → HoldsFirst (EnginePart engine) heads
    → (o : Option Choice) → (ran_at k engine form choice (offered heads choice)).popped ≡ o → touched_by choice o ≡ Some channel
    → IsThere heads channel
by-engine k engine form choice heads channel runs first (Some popped) e h =
    let held = pops-held k engine form choice (offered heads choice) popped e in
    (held.0.message, first held.0 channel held.1 (ap popped_channel held.2 ∙ h))
by-engine k engine form choice heads channel runs first None e h = go (is_wait form) refl tests.1
  where
    stopped : Bool
    stopped = is_none (stop_at k engine form choice (offered heads choice))

    tests : (stopped ≡ true) × (is_choice form choice ≡ true)
    tests =
        let t = both (ltb choice.source k.caches && is_choice form choice) stopped runs in
        (t.1, (both (ltb choice.source k.caches) (is_choice form choice) t.0).1)

    go : (b : Bool) → is_wait form ≡ b → cond b true (eqb choice.class 0 && eqb choice.source 0) ≡ true → IsThere heads channel
    go true w i =
        let m = wait-message k engine form choice (offered heads choice) w tests.0 in
        (m.0, ap (option_and_then heads) (sym h) ∙ m.1)
    go false w i = let no : None ≡ Some channel = sym (no-class choice i) ∙ h in absurd (cc no)

pub touches-a-head : TouchesAHead
touches-a-head k program (CachePart cache completed) heads (events.Issue c way op) local e first channel h =
    let no : None ≡ Some channel = sym (cache-touched completed None _ local e) ∙ h in absurd (cc no)
touches-a-head k program (CachePart cache completed) heads (events.Command c) local e first channel h =
    by-cache completed (channels.Command c) channel (table.command k cache c) true heads local e h
touches-a-head k program (CachePart cache completed) heads (events.Fill to from) local e first channel h =
    by-cache completed (channels.Fill to from) channel (table.fill k cache to) (ltb from k.caches) heads local e h
touches-a-head k program (MemoryPart memory) heads events.Memory local e first channel h = by-memory memory channel heads local e h
touches-a-head k program (EnginePart engine) heads (events.Engine choice) local e first channel h =
    let form = slice_get program engine.core.place in
    let outcome = ran_at k engine form choice (offered heads choice) in
    let row = of-test (ltb choice.source k.caches && is_choice form choice && is_none (stop_at k engine form choice (offered heads choice)))
    (engine_local k heads choice outcome) local e in
    by-engine k engine form choice heads channel row.0 first outcome.popped refl (ap (λ (l : Local). l.touched) row.1 ∙ h)
touches-a-head k program part heads event local e first channel h = absurd cc
