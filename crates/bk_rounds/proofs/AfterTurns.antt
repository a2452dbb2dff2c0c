-- The work of an agent after each part of a turn: packets were taken, an event was made or none, messages were sent.
use Rattle.std.proofs.Common.{◌≡◌, ℕ, ◌+◌, List, [], ◌∷◌, ◌++◌, Bool, true, false, refl, sym, subst, ◌∙◌, ◌⊎◌, inl, inr}
use Rattle.std.specs.Global.{Vec}
use Rattle.bk_base.specs.Places.{Shape}
use Rattle.bk_msg.specs.declared.row.Row.{Row}
use Rattle.bk_system.specs.declared.channel.Channel.{Channel}
use Rattle.bk_system.specs.Queues.{EachWithin}
use Rattle.bk_agents.specs.Held.{HoldsFirst}
use Rattle.bk_agents.specs.Parts.{part_of}
use Rattle.bk_system.specs.Routes.{channel_of, heads_of, IsChannel}
use Rattle.bk_system.specs.State.{State}
use Rattle.bk_system.specs.Systems.{state_of}
use Rattle.bk_threads.specs.declared.merging.Stamped.{Stamped}
use Rattle.bk_threads.specs.Agents.{Packet, sent_by}
use Rattle.bk_threads.specs.System.{packets_of}
use Rattle.bk_rounds.specs.declared.agent.Agent.{Agent}
use Rattle.bk_rounds.specs.declared.ends.Inlet.{Inlet}
use Rattle.bk_rounds.specs.declared.ends.Outlet.{Outlet}
use Rattle.bk_rounds.specs.Agents.{Works, IsFresh}
use Rattle.bk_rounds.specs.Ends.{took, sent, IsOutward}
use Rattle.bk_rounds.specs.Moves.{Takes, Sends, Notes}
use Rattle.bk_rounds.specs.Tasks.{Task}
use Rattle.bk_rounds.specs.Work.{IsWork, IsSent}
use Rattle.bk_rounds.proofs.Works.{work-begins, work-sends}
use Rattle.bk_rounds.proofs.WorkTakes.{work-takes, is-sent-takes}
use Rattle.bk_rounds.proofs.WorkMakes.{work-makes}

-- the ends and the number that an agent has don't matter, where they are as before
same-ends : (task : Task) (begun s : State) (n other clock : ℕ) (inlets others : Vec Inlet) (outlets more : Vec Outlet)
    (entries : List Stamped)
    → other ≡ n → others ≡ inlets → more ≡ outlets
    → IsWork task n begun s (took task.config inlets.items) (sent task.config outlets.items) clock entries
    → IsWork task other begun s (took task.config others.items) (sent task.config more.items) clock entries
same-ends task begun s n other clock inlets others outlets more entries number in_same out_same work =
    subst (λ (i : ℕ). IsWork task i begun s (took task.config others.items) (sent task.config more.items) clock entries) (sym number)
    (subst (λ (v : Vec Inlet). IsWork task n begun s (took task.config v.items) (sent task.config more.items) clock entries)
    (sym in_same)
    (subst (λ (v : Vec Outlet). IsWork task n begun s (took task.config inlets.items) (sent task.config v.items) clock entries)
    (sym out_same) work))

-- A ROUND BEGINS

pub fresh-works : (task : Task) (agent : Agent) → task.config ≡ agent.hardware.config → IsFresh agent
    → Works task (state_of agent.hardware) agent
fresh-works task agent config fresh =
    subst (λ (es : List Stamped). IsWork task agent.number (state_of agent.hardware) (state_of agent.hardware)
    (took task.config agent.inlets.items) (sent task.config agent.outlets.items) agent.clock es) (sym fresh.entries)
    (work-begins task agent.number (state_of agent.hardware) (took task.config agent.inlets.items)
    (sent task.config agent.outlets.items) agent.clock
    (λ channel. subst (λ (k : Shape). took k agent.inlets.items channel ≡ []) (sym config) (fresh.took channel))
    (λ channel. subst (λ (k : Shape). sent k agent.outlets.items channel ≡ []) (sym config) (fresh.sent channel))
    (subst (λ (k : Shape). IsSent k agent.number (state_of agent.hardware)) (sym config) fresh.waits)
    (subst (λ (k : Shape). HoldsFirst (part_of k (state_of agent.hardware) agent.number) (heads_of (state_of agent.hardware)))
    (sym config) fresh.holds))

-- PACKETS WERE TAKEN

pub take-waits : (old new : Agent) → new.hardware.config ≡ old.hardware.config → new.number ≡ old.number
    → IsSent old.hardware.config old.number (state_of old.hardware)
    → Takes old.hardware.config old.number (state_of old.hardware) (state_of new.hardware)
    (took old.hardware.config old.inlets.items) (took old.hardware.config new.inlets.items) old.clock new.clock
    → IsSent new.hardware.config new.number (state_of new.hardware)
take-waits old new config number waits takes =
    subst (λ (k : Shape). IsSent k new.number (state_of new.hardware)) (sym config)
    (subst (λ (n : ℕ). IsSent old.hardware.config n (state_of new.hardware)) (sym number)
    (is-sent-takes old.hardware.config old.number (state_of old.hardware) (state_of new.hardware)
    (took old.hardware.config old.inlets.items) (took old.hardware.config new.inlets.items) old.clock new.clock waits takes))

pub take-works : (task : Task) (begun : State) (old new : Agent) → task.config ≡ old.hardware.config → new.number ≡ old.number
    → new.outlets ≡ old.outlets → new.entries ≡ old.entries
    → IsSent old.hardware.config old.number (state_of old.hardware)
    → Takes old.hardware.config old.number (state_of old.hardware) (state_of new.hardware)
    (took old.hardware.config old.inlets.items) (took old.hardware.config new.inlets.items) old.clock new.clock
    → Works task begun old → Works task begun new
take-works task begun old new config number outlets entries waits takes works =
    subst (λ (v : Vec Stamped). IsWork task new.number begun (state_of new.hardware) (took task.config new.inlets.items)
    (sent task.config new.outlets.items) new.clock v.items) (sym entries)
    (same-ends task begun (state_of new.hardware) old.number new.number new.clock new.inlets new.inlets old.outlets new.outlets
    old.entries.items number refl outlets
    (work-takes task old.number begun (state_of old.hardware) (state_of new.hardware) (took task.config old.inlets.items)
    (took task.config new.inlets.items) (sent task.config old.outlets.items) old.clock new.clock old.entries.items works
    (subst (λ (k : Shape). IsSent k old.number (state_of old.hardware)) (sym config) waits)
    (subst (λ (k : Shape). Takes k old.number (state_of old.hardware) (state_of new.hardware) (took k old.inlets.items)
    (took k new.inlets.items) old.clock new.clock) (sym config) takes)))

-- NO EVENT WAS MADE

pub idle-works : (task : Task) (begun : State) (old new : Agent) (stamp : ℕ) (made : Bool) → new.number ≡ old.number
    → new.inlets ≡ old.inlets → new.outlets ≡ old.outlets → made ≡ false
    → Notes task old.number stamp (state_of old.hardware) (state_of new.hardware) old.clock new.clock old.entries.items
    new.entries.items made
    → Works task begun old → Works task begun new
idle-works task begun old new stamp true number inlets outlets e notes works = absurd (cc (e))
idle-works task begun old new stamp false number inlets outlets e notes works =
    same-ends task begun (state_of new.hardware) old.number new.number new.clock old.inlets new.inlets old.outlets new.outlets
    new.entries.items number inlets outlets
    (subst (λ (es : List Stamped). IsWork task old.number begun (state_of new.hardware) (took task.config old.inlets.items)
    (sent task.config old.outlets.items) new.clock es) (sym notes.3)
    (subst (λ (t : ℕ). IsWork task old.number begun (state_of new.hardware) (took task.config old.inlets.items)
    (sent task.config old.outlets.items) t old.entries.items) (sym notes.2)
    (subst (λ (s : State). IsWork task old.number begun s (took task.config old.inlets.items)
    (sent task.config old.outlets.items) old.clock old.entries.items) (sym notes.1) works)))

pub idle-waits : (task : Task) (old new : Agent) (stamp : ℕ) (made : Bool) (k : Shape) (n : ℕ) → old.hardware.config ≡ k
    → old.number ≡ n → made ≡ false
    → Notes task old.number stamp (state_of old.hardware) (state_of new.hardware) old.clock new.clock old.entries.items
    new.entries.items made
    → IsSent old.hardware.config old.number (state_of old.hardware) → IsSent k n (state_of new.hardware)
idle-waits task old new stamp true k n config number e notes waits = absurd (cc (e))
idle-waits task old new stamp false k n config number e notes waits =
    subst (IsSent k n) (sym notes.1)
    (subst (λ (shape : Shape). IsSent shape n (state_of old.hardware)) config
    (subst (λ (i : ℕ). IsSent old.hardware.config i (state_of old.hardware)) number waits))

-- AN EVENT WAS MADE

pub make-works : (task : Task) (begun : State) (old new : Agent) (stamp : ℕ) (made : Bool) → task.config ≡ old.hardware.config
    → new.hardware.config ≡ old.hardware.config → new.number ≡ old.number → new.inlets ≡ old.inlets
    → new.outlets ≡ old.outlets
    → IsSent old.hardware.config old.number (state_of old.hardware) → made ≡ true → stamp ≡ old.clock + 1
    → Notes task old.number stamp (state_of old.hardware) (state_of new.hardware) old.clock new.clock old.entries.items
    new.entries.items made
    → ((channel : Channel) → EachWithin new.hardware.config (channel_of (state_of new.hardware) channel))
    → Works task begun old → Works task begun new
make-works task begun old new stamp false config kept number inlets outlets waits e next notes within works = absurd (cc (e))
make-works task begun old new stamp true config kept number inlets outlets waits e next notes within works =
    same-ends task begun (state_of new.hardware) old.number new.number new.clock old.inlets new.inlets old.outlets new.outlets
    new.entries.items number inlets outlets
    (subst (λ (es : List Stamped). IsWork task old.number begun (state_of new.hardware) (took task.config old.inlets.items)
    (sent task.config old.outlets.items) new.clock es) (sym notes.4)
    (subst (λ (t : ℕ). IsWork task old.number begun (state_of new.hardware) (took task.config old.inlets.items)
    (sent task.config old.outlets.items) t (old.entries.items ++ record { stamp = stamp; event = notes.0 } ∷ [])) (sym notes.3)
    (subst (λ (t : ℕ). IsWork task old.number begun (state_of new.hardware) (took task.config old.inlets.items)
    (sent task.config old.outlets.items) t (old.entries.items ++ record { stamp = t; event = notes.0 } ∷ [])) (sym next)
    (work-makes task old.number begun (state_of old.hardware) (state_of new.hardware) (took task.config old.inlets.items)
    (sent task.config old.outlets.items) old.clock old.entries.items notes.0 notes.1 works
    (subst (λ (k : Shape). IsSent k old.number (state_of old.hardware)) (sym config) waits) notes.2
    (subst (λ (k : Shape). (channel : Channel) → EachWithin k (channel_of (state_of new.hardware) channel)) (kept ∙ sym config)
    within)))))

-- MESSAGES WERE SENT

pub send-works : (task : Task) (begun : State) (old new : Agent) → task.config ≡ old.hardware.config → new.number ≡ old.number
    → new.inlets ≡ old.inlets → new.clock ≡ old.clock → new.entries ≡ old.entries
    → Sends old.hardware.config old.number (state_of old.hardware) (state_of new.hardware)
    (sent old.hardware.config old.outlets.items) (sent old.hardware.config new.outlets.items) old.clock
    → Works task begun old → Works task begun new
send-works task begun old new config number inlets clock entries sends works =
    subst (λ (v : Vec Stamped). IsWork task new.number begun (state_of new.hardware) (took task.config new.inlets.items)
    (sent task.config new.outlets.items) new.clock v.items) (sym entries)
    (subst (λ (t : ℕ). IsWork task new.number begun (state_of new.hardware) (took task.config new.inlets.items)
    (sent task.config new.outlets.items) t old.entries.items) (sym clock)
    (same-ends task begun (state_of new.hardware) old.number new.number old.clock old.inlets new.inlets new.outlets new.outlets
    old.entries.items number inlets refl
    (work-sends task old.number begun (state_of old.hardware) (state_of new.hardware) (took task.config old.inlets.items)
    (sent task.config old.outlets.items) (sent task.config new.outlets.items) old.clock old.entries.items works
    (subst (λ (k : Shape). Sends k old.number (state_of old.hardware) (state_of new.hardware) (sent k old.outlets.items)
    (sent k new.outlets.items) old.clock) (sym config) sends))))

-- a list that ends with packets and is empty has none
no-end : (stamp : ℕ) (packets : List (Packet Row)) (ms : List Row) → [] ≡ packets ++ packets_of stamp ms → ms ≡ []
no-end stamp packets [] e = refl
no-end stamp [] (m ∷ ms) e = absurd (cc (e))
no-end stamp (packet ∷ packets) (m ∷ ms) e = absurd (cc (e))

-- Where each channel between agents is empty, nothing waits to be sent: on the others nothing was ever sent.
pub all-sent : (task : Task) (begun : State) (agent : Agent) (k : Shape) (n : ℕ) → task.config ≡ k → agent.number ≡ n
    → Works task begun agent
    → ((channel : Channel) → IsChannel k channel → IsOutward k n channel → channel_of (state_of agent.hardware) channel ≡ [])
    → IsSent k n (state_of agent.hardware)
all-sent task begun agent k n config number works empty =
    subst (λ (shape : Shape). IsSent shape n (state_of agent.hardware)) config
    (subst (λ (i : ℕ). IsSent task.config i (state_of agent.hardware)) number here)
  where
    whether : (channel : Channel) → IsOutward task.config agent.number channel
        → IsChannel task.config channel ⊎ (sent_by works.steps channel ≡ []) → channel_of (state_of agent.hardware) channel ≡ []
    whether channel outward (inl there) =
        empty channel (subst (λ (shape : Shape). IsChannel shape channel) config there)
        (subst (λ (shape : Shape). IsOutward shape n channel) config
        (subst (λ (i : ℕ). IsOutward task.config i channel) number outward))
    whether channel outward (inr none) =
        no-end agent.clock (sent task.config agent.outlets.items channel) (channel_of (state_of agent.hardware) channel)
        (sym none ∙ works.outbox channel outward)

    here : IsSent task.config agent.number (state_of agent.hardware)
    here channel outward = whether channel outward (works.through channel)
