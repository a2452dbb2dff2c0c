-- What holds of local rows.
use Rattle.std.specs.Prelude.{◌≡◌, ◌↔◌, ℕ, false, ◌&&◌, List, Option, Some, option_map, All}
use Rattle.bk_base.specs.Places.{Shape}
use Rattle.bk_base.specs.Tables.{put}
use Rattle.bk_isa.specs.declared.form.Form.{Form}
use Rattle.bk_msg.specs.declared.row.Row.{Row}
use Rattle.bk_system.specs.declared.event.Event.{Event}
use Rattle.bk_system.specs.State.{State}
use Rattle.bk_system.specs.Events.{row}
use Rattle.bk_system.specs.Runs.{IsTightFrom}
use Rattle.bk_agents.specs.Parts.{Part, part_of, agent_of}
use Rattle.bk_system.specs.declared.channel.Channel.{Channel}
use Rattle.bk_system.specs.Routes.{channel_of, channel_for, heads_of, begins_at, ends_at}
use Rattle.bk_agents.specs.Local.{Local, local_row, is_touched, channel_after, widened}
use Rattle.bk_agents.specs.Walks.{Walks}
use Rattle.bk_agents.specs.Held.{HoldsFirst}

-- an event's row is the local row of its agent, in the system
abbrev pub RowsAreLocal : Type 0
RowsAreLocal = (k : Shape) (program : List Form) (s : State) (event : Event)
    → row k program s event
    ≡ option_map (widened s (agent_of k event)) (local_row k program (part_of k s (agent_of k event)) (heads_of s) event)

-- of the agents' parts it changes its own, as the local row says, and no other
abbrev pub PartsStay : Type 0
PartsStay = (k : Shape) (program : List Form) (s : State) (event : Event) (local : Local)
    → local_row k program (part_of k s (agent_of k event)) (heads_of s) event ≡ Some local
    → (n : ℕ) → part_of k (widened s (agent_of k event) local).state n ≡ put (part_of k s) (agent_of k event) local.part n

-- each channel is what was left in it, and then what was sent on it
abbrev pub ChannelsGrow : Type 0
ChannelsGrow = (s : State) (n : ℕ) (local : Local) (channel : Channel)
    → channel_of (widened s n local).state channel ≡ channel_after (channel_of s) n local channel

-- a list of events is tight exactly where each has a local row, by the parts and the channels that those before it leave
abbrev pub WalksAreTight : Type 0
WalksAreTight = (k : Shape) (program : List Form) (s : State) (events : List Event)
    → Walks k program (part_of k s) (channel_of s) events ↔ IsTightFrom k program s events

-- an event looks at the head of the channel that it touches alone: with the same one, and any others, its local row is the same
abbrev pub OneHeadCounts : Type 0
OneHeadCounts = (k : Shape) (program : List Form) (part : Part) (heads others : Channel → Option Row) (event : Event) (local : Local)
    → local_row k program part heads event ≡ Some local
    → ((channel : Channel) → local.touched ≡ Some channel → others channel ≡ heads channel)
    → local_row k program part others event ≡ Some local

-- The channel that it touches has a head, where the head that its agent holds stands first in its channel. `popq` alone wants that: it
-- takes off a head that an earlier `wfq` looked at.
abbrev pub TouchesAHead : Type 0
TouchesAHead = (k : Shape) (program : List Form) (part : Part) (heads : Channel → Option Row) (event : Event) (local : Local)
    → local_row k program part heads event ≡ Some local → HoldsFirst part heads
    → (channel : Channel) → local.touched ≡ Some channel → (m : Row) × (heads channel ≡ Some m)

-- and what the agent then holds stands first too, at any later heads, where each head that it doesn't take off is still there
abbrev pub HoldsOn : Type 0
HoldsOn = (k : Shape) (program : List Form) (part : Part) (heads later : Channel → Option Row) (event : Event) (local : Local)
    → local_row k program part heads event ≡ Some local → HoldsFirst part heads
    → ((channel : Channel) (m : Row) → heads channel ≡ Some m → (local.pops && is_touched local.touched channel) ≡ false
    → later channel ≡ Some m)
    → HoldsFirst local.part later

-- the channel that it touches ends at its agent
abbrev pub TouchesItsOwn : Type 0
TouchesItsOwn = (k : Shape) (program : List Form) (part : Part) (heads : Channel → Option Row) (event : Event) (local : Local)
    → local_row k program part heads event ≡ Some local
    → (channel : Channel) → local.touched ≡ Some channel → ends_at k channel ≡ agent_of k event

-- what it sends goes on channels that begin at its agent
abbrev pub SendsFromItself : Type 0
SendsFromItself = (k : Shape) (program : List Form) (part : Part) (heads : Channel → Option Row) (event : Event) (local : Local)
    → local_row k program part heads event ≡ Some local
    → All (λ m. begins_at k (channel_for (agent_of k event) m) ≡ agent_of k event) local.sent
