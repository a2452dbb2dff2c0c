-- A list of events is tight exactly where its local rows walk.
use Rattle.std.proofs.Common.{◌≡◌, ◌↔◌, ℕ, true, false, refl, sym, ap, ◌∙◌, subst, List, [], ◌∷◌, Option, Some, None, is_some, option_map}
use mathlib.Core.Path.{fun_ext}
use Rattle.bk_base.specs.Places.{Shape}
use Rattle.bk_base.specs.Tables.{put}
use Rattle.bk_isa.specs.declared.form.Form.{Form}
use Rattle.bk_msg.specs.declared.row.Row.{Row}
use Rattle.bk_system.specs.declared.event.Event.{Event}
use Rattle.bk_system.specs.State.{State}
use Rattle.bk_system.specs.Events.{Happening, row}
use Rattle.bk_system.specs.Runs.{IsTightFrom, state_after_row, after}
use Rattle.bk_agents.specs.Parts.{Part, part_of, agent_of}
use Rattle.bk_system.specs.declared.channel.Channel.TheVariants as channels
use Rattle.bk_system.specs.declared.channel.Channel.{Channel}
use Rattle.bk_system.specs.Routes.{channel_of, heads_of}
use Rattle.bk_agents.specs.Laws.{ChannelsGrow}
use Rattle.bk_agents.specs.Local.{Local, local_row, channel_after, widened}
use Rattle.bk_agents.specs.Walks.{Walks}
use Rattle.bk_agents.proofs.EventRows.{rows-local}
use Rattle.bk_agents.proofs.EventParts.{parts-stay}

pub channels-grow : ChannelsGrow
channels-grow s n local (channels.Request from) = refl
channels-grow s n local (channels.Command to) = refl
channels-grow s n local (channels.Fill to from) = refl
channels-grow s n local (channels.Response from) = refl
channels-grow s n local channels.Memout = refl
channels-grow s n local channels.Memin = refl

-- what an event leaves, of which this is the local row
later : Shape → State → Event → Local → State
later k s event local = (widened s (agent_of k event) local).state

-- the event's local row where it stands
abbrev local_at : Shape → List Form → State → Event → Option Local
local_at k program s event = local_row k program (part_of k s (agent_of k event)) (heads_of s) event

-- it is enabled, and leaves this
row-at : (k : Shape) (program : List Form) (s : State) (event : Event) (local : Local) → local_at k program s event ≡ Some local
    → row k program s event ≡ Some (widened s (agent_of k event) local)
row-at k program s event local e =
    rows-local k program s event ∙ ap (option_map (widened s (agent_of k event))) e

after-at : (k : Shape) (program : List Form) (s : State) (event : Event) (local : Local) → local_at k program s event ≡ Some local
    → after k program s event ≡ later k s event local
unfolding later
after-at k program s event local e = ap (state_after_row s) (row-at k program s event local e)

-- the parts and the channels of what it leaves
parts-at : (k : Shape) (program : List Form) (s : State) (event : Event) (local : Local) → local_at k program s event ≡ Some local
    → part_of k (later k s event local) ≡ put (part_of k s) (agent_of k event) local.part
unfolding later
parts-at k program s event local e = fun_ext (λ n. parts-stay k program s event local e n)

channels-at : (k : Shape) (s : State) (event : Event) (local : Local)
    → channel_of (later k s event local) ≡ channel_after (channel_of s) (agent_of k event) local
unfolding later
channels-at k s event local = fun_ext (λ channel. channels-grow s (agent_of k event) local channel)

tight : (k : Shape) (program : List Form) (s : State) (events : List Event) → Walks k program (part_of k s) (channel_of s) events
    → IsTightFrom k program s events
tight k program s [] walk = tt
tight k program s (event ∷ events) walk = (
  ap is_some (row-at k program s event walk.0 walk.1),
  subst (λ (l : State). IsTightFrom k program l events) (sym (after-at k program s event walk.0 walk.1))
      (tight k program (later k s event walk.0) events
      (subst (λ (parts : ℕ → Part). Walks k program parts (channel_of (later k s event walk.0)) events)
      (sym (parts-at k program s event walk.0 walk.1))
      (subst (λ (contents : Channel → List Row). Walks k program (put (part_of k s) (agent_of k event) walk.0.part) contents events)
      (sym (channels-at k s event walk.0)) walk.2))),
)

-- where an event has a row it has a local one
local-of : (f : Local → Happening) (o : Option Local) (h : Option Happening) → h ≡ option_map f o → is_some h ≡ true
    → (local : Local) × (o ≡ Some local)
local-of f (Some local) h e t = (local, refl)
local-of f None h e t = let no : false ≡ true = sym (ap is_some e) ∙ t in absurd (cc no)

walks : (k : Shape) (program : List Form) (s : State) (events : List Event) → IsTightFrom k program s events
    → Walks k program (part_of k s) (channel_of s) events
walks k program s [] t = tt
walks k program s (event ∷ events) t =
    let found = local-of (widened s (agent_of k event)) (local_at k program s event) (row k program s event)
    (rows-local k program s event) t.0 in
    let rest : Walks k program (part_of k (later k s event found.0)) (channel_of (later k s event found.0)) events =
    walks k program (later k s event found.0) events
    (subst (λ (l : State). IsTightFrom k program l events) (after-at k program s event found.0 found.1) t.1) in (
      found.0,
      found.1,
      subst (λ (contents : Channel → List Row). Walks k program (put (part_of k s) (agent_of k event) found.0.part) contents events)
          (channels-at k s event found.0)
          (subst (λ (parts : ℕ → Part). Walks k program parts (channel_of (later k s event found.0)) events)
          (parts-at k program s event found.0 found.1) rest),
    )

pub walks-tight : (k : Shape) (program : List Form) (s : State) (events : List Event)
    → Walks k program (part_of k s) (channel_of s) events ↔ IsTightFrom k program s events
walks-tight k program s events = (tight k program s events, walks k program s events)
