-- A local row looks at no head but that of the channel that it touches.
use Rattle.std.proofs.Common.{◌≡◌, ℕ, Bool, true, false, cond, ltb, eqb, ◌&&◌, refl, sym, ap, ◌∙◌, List, slice_get, Option, Some, None, is_none, is_some, option_map, option_and_then}
use Rattle.std.proofs.lemmas.Bool.{eqb-true}
use Rattle.bk_base.specs.Places.{Shape}
use Rattle.bk_isa.specs.declared.form.Form.{Form}
use Rattle.bk_isa.specs.declared.form.Form.TheVariants.{Wfq}
use Rattle.bk_msg.specs.declared.row.Row.{Row}
use Rattle.bk_lce.specs.CacheTable as table
use Rattle.bk_lce.specs.CacheTable.{Transition}
use Rattle.bk_engine.specs.declared.parts.Choice.{Choice}
use Rattle.bk_engine.specs.declared.heads.TheConstants.{HEAD_REQUEST, HEAD_COH_ACK}
use Rattle.bk_engine.specs.Engine.{EngineState}
use Rattle.bk_engine.specs.Step.{ran_at}
use Rattle.bk_engine.specs.Stops.{stop_at}
use Rattle.bk_system.specs.declared.event.Event.TheVariants as events
use Rattle.bk_system.specs.declared.event.Origin.{Origin}
use Rattle.bk_system.specs.Events.{is_wait, is_choice, origins_of}
use Rattle.bk_agents.specs.Parts.{CachePart, EnginePart, MemoryPart}
use Rattle.bk_system.specs.declared.channel.Channel.TheVariants as channels
use Rattle.bk_system.specs.declared.channel.Channel.{Channel}
use Rattle.bk_agents.specs.Laws.{OneHeadCounts}
use Rattle.bk_agents.specs.Local.{Local, cache_local, memory_local, engine_local, offered_channel, offered, touched_by, origins_at}
use Rattle.bk_agents.proofs.SomeRow.{of-some, of-test, both}
use Rattle.bk_agents.proofs.Touched.{cache-touched, offered-popped}

-- the heads are the same where this channel is, if it is one
abbrev SameAt : (Channel → Option Row) → (Channel → Option Row) → Option Channel → Type 0
SameAt heads others o = (channel : Channel) → o ≡ Some channel → others channel ≡ heads channel

-- A CACHE: the head of one channel

by-head : (completed : ℕ) (channel : Channel) (step : Option Row → Option Transition) (heads others : Channel → Option Row)
    (local : Local)
    → option_map (cache_local completed (Some channel)) (step (heads channel)) ≡ Some local → SameAt heads others local.touched
    → option_map (cache_local completed (Some channel)) (step (others channel)) ≡ Some local
by-head completed channel step heads others local e same =
    ap (λ (o : Option Row). option_map (cache_local completed (Some channel)) (step o))
    (same channel (cache-touched completed (Some channel) (step (heads channel)) local e)) ∙ e

-- THE MEMORY

by-access : (memory : ℕ → ℕ) (heads others : Channel → Option Row) (local : Local)
    → option_map (memory_local memory) (heads channels.Memout) ≡ Some local → SameAt heads others local.touched
    → option_map (memory_local memory) (others channels.Memout) ≡ Some local
by-access memory heads others local e same =
    let row = of-some (memory_local memory) (heads channels.Memout) local e in
    ap (option_map (memory_local memory)) (same channels.Memout (ap (λ (l : Local). l.touched) (sym row.2))) ∙ e

-- THE ENGINE: at `wfq` the head that is offered, at `popq` that of the channel from which the engine's head is taken off

-- what a choice offers hangs on the channel that it offers
offered-at : (o : Option Channel) (heads others : Channel → Option Row) → SameAt heads others o
    → option_and_then others o ≡ option_and_then heads o
offered-at None heads others same = refl
offered-at (Some channel) heads others same = same channel refl

-- `wfq` takes no head off
pub wait-pops : (k : Shape) (engine : EngineState) (form : Option Form) (choice : Choice) (message : Option Row) → is_wait form ≡ true
    → (ran_at k engine form choice message).popped ≡ None
wait-pops k engine None choice message w = absurd cc
wait-pops k engine (Some (Wfq classes)) choice message w = refl
wait-pops k engine (Some f) choice message w = absurd cc

-- at another instruction the choice offers no channel
pub no-class : (choice : Choice) → (eqb choice.class 0 && eqb choice.source 0) ≡ true → offered_channel choice ≡ None
no-class choice e =
    ap (λ (n : ℕ). cond (eqb n 1) (Some (channels.Response choice.source))
    (cond (eqb n 2) (cond (eqb choice.source 0) (Some channels.Memin) None)
    (cond (eqb n 3) (Some (channels.Request choice.source)) None)))
    (eqb-true choice.class 0 (both (eqb choice.class 0) (eqb choice.source 0) e).0)

-- the local row of an instruction, where this is offered and these are the origins of a popped head
abbrev row_with : Shape → EngineState → Option Form → Choice → Option Row → List Origin → List Origin → Option Local
row_with k engine form choice message taken settled =
    cond (ltb choice.source k.caches && is_choice form choice && is_none (stop_at k engine form choice message))
    (Some (record {
      part = EnginePart (ran_at k engine form choice message).engine;
      sent = (ran_at k engine form choice message).sent;
      touched = touched_by choice (ran_at k engine form choice message).popped;
      pops = is_some (ran_at k engine form choice message).popped;
      done = None;
      taken = taken;
      settled = settled;
    }))
    None

-- with the origins that the heads say
abbrev row_of : Shape → EngineState → Option Form → Choice → (Channel → Option Row) → Option Row → Option Local
row_of k engine form choice heads message = row_with k engine form choice message
    (origins_at k heads HEAD_REQUEST (ran_at k engine form choice message).popped)
    (origins_at k heads HEAD_COH_ACK (ran_at k engine form choice message).popped)

-- the origin of a popped head hangs on the channel that is touched
origins-at : (k : Shape) (choice : Choice) (number : ℕ) (o : Option Choice) (heads others : Channel → Option Row)
    → SameAt heads others (touched_by choice o)
    → origins_at k others number o ≡ origins_at k heads number o
origins-at k choice number None heads others same = refl
origins-at k choice number (Some popped) heads others same =
    ap (origins_of k number popped.source)
    (offered-at (offered_channel popped) heads others (λ channel e. same channel (offered-popped popped channel e)))

by-form : (k : Shape) (engine : EngineState) (form : Option Form) (choice : Choice) (heads others : Channel → Option Row) (local : Local)
    → row_of k engine form choice heads (offered heads choice) ≡ Some local → SameAt heads others local.touched
    → row_of k engine form choice others (offered others choice) ≡ Some local
by-form k engine form choice heads others local e same =
    ap (row_of k engine form choice others) same-offer
    ∙ ap (λ (l : List Origin). row_with k engine form choice message l (origins_at k others HEAD_COH_ACK popped))
    (origins-at k choice HEAD_REQUEST popped heads others same-touched)
    ∙ ap (λ (l : List Origin). row_with k engine form choice message (origins_at k heads HEAD_REQUEST popped) l)
    (origins-at k choice HEAD_COH_ACK popped heads others same-touched)
    ∙ e
  where
    message : Option Row
    message = offered heads choice

    popped : Option Choice
    popped = (ran_at k engine form choice message).popped

    runs : Bool
    runs = is_none (stop_at k engine form choice message)

    told : ((ltb choice.source k.caches && is_choice form choice && runs) ≡ true)
        × (engine_local k heads choice (ran_at k engine form choice message) ≡ local)
    told = of-test (ltb choice.source k.caches && is_choice form choice && runs) _ local e

    same-touched : SameAt heads others (touched_by choice popped)
    same-touched channel h = same channel (ap (λ (l : Local). l.touched) (sym told.1) ∙ h)

    chosen : is_choice form choice ≡ true
    chosen = (both (ltb choice.source k.caches) (is_choice form choice)
        (both (ltb choice.source k.caches && is_choice form choice) runs told.0).0).1

    go : (b : Bool) → is_wait form ≡ b → (cond b true (eqb choice.class 0 && eqb choice.source 0)) ≡ true
        → SameAt heads others (offered_channel choice)
    go true w h channel i =
        same-touched channel (ap (touched_by choice) (wait-pops k engine form choice message w) ∙ i)
    go false w h channel i =
        let no : None ≡ Some channel = sym (no-class choice h) ∙ i in absurd (cc no)

    same-offer : offered others choice ≡ offered heads choice
    same-offer = offered-at (offered_channel choice) heads others (go (is_wait form) refl chosen)

pub one-head-counts : OneHeadCounts
one-head-counts k program (CachePart cache completed) heads others (events.Issue c way op) local e same = e
one-head-counts k program (CachePart cache completed) heads others (events.Command c) local e same =
    by-head completed (channels.Command c) (λ o. option_and_then (table.command k cache c) o) heads others local e same
one-head-counts k program (CachePart cache completed) heads others (events.Fill to from) local e same =
    by-head completed (channels.Fill to from) (λ o. cond (ltb from k.caches) (option_and_then (table.fill k cache to) o) None) heads others
    local e same
one-head-counts k program (MemoryPart memory) heads others events.Memory local e same = by-access memory heads others local e same
one-head-counts k program (EnginePart engine) heads others (events.Engine choice) local e same =
    by-form k engine (slice_get program engine.core.place) choice heads others local e same
one-head-counts k program part heads others event local e same = absurd cc
