-- What agents have done alone is a run of them all, where it is merged by stamps.
use Rattle.std.specs.Prelude.{◌≡◌, ℕ, ◌≤◌, Bool, List, map, ◌++◌, All, AllPairs}
use Rattle.bk_base.specs.Places.{Shape}
use Rattle.bk_isa.specs.declared.form.Form.{Form}
use Rattle.bk_msg.specs.declared.row.Row.{Row}
use Rattle.bk_system.specs.declared.event.Event.{Event}
use Rattle.bk_system.specs.State.{State}
use Rattle.bk_system.specs.Runs.{IsTightFrom}
use Rattle.bk_agents.specs.Parts.{Part, part_of}
use Rattle.bk_system.specs.declared.channel.Channel.{Channel}
use Rattle.bk_system.specs.Routes.{channel_of, is_same, ends_at}
use Rattle.bk_threads.specs.declared.merging.Stamped.{Stamped}
use Rattle.bk_threads.specs.declared.merging.Journal.{Journal}
use Rattle.bk_threads.specs.Journals.{entries_of, own, IsMerge}
use Rattle.bk_threads.specs.Agents.{Step, Rules, Channels, IsLocal, TellsChannels, sent_by, steps_of}
use Rattle.bk_threads.specs.Walks.{WalksAlone, Walks, Runs, part_after, parts_after, streams_after, channels_after, AreByStamp, SendsItsStamp, SendNothingEarlier}
use Rattle.bk_threads.specs.System.{SystemStep, messages_of, system_rules, step_event}
use Rattle.bk_threads.specs.Rounds.{IsWalkOf, IsRound, ComesTo, HoldsAlone, HoldsFrom}

-- MERGES

-- there is one merge, and it hangs on what each agent's journal has, not on the order in which the journals stand
abbrev pub OneMerge : Type 0
OneMerge = (journals others : List Journal) (events more : List Event) → ((n : ℕ) → entries_of journals n ≡ entries_of others n)
    → IsMerge journals events → IsMerge others more → events ≡ more

-- where no stamp in an agent's journal is below one before it, the merge has the entries of that journal in their order
abbrev pub JournalsStand : Type 0
JournalsStand = (journals : List Journal) (events : List Event) (n : ℕ) → (merge : IsMerge journals events)
    → AllPairs (λ entry later. entry.stamp ≤ later.stamp) (entries_of journals n) → own n merge.entries ≡ entries_of journals n

-- RUNS

module _ (Channel Part Event Message : Type 0) where
  -- A walk goes on as before where more stands behind its streams.
  abbrev pub WalksGoOn : Type 0
  WalksGoOn = (is_same : Channel → Channel → Bool) (does : Rules Channel Part Event Message) (receiver : Channel
      → ℕ) (n : ℕ) (part : Part) (streams more : Channels Channel Message) (steps : List (Step Channel Part Event Message))
      → TellsChannels is_same → IsLocal does → WalksAlone is_same does receiver n part streams steps
      → WalksAlone is_same does receiver n part (λ channel. streams channel ++ more channel) steps
      × ((channel : Channel) → streams_after is_same
      (λ other. streams other ++ more other) steps channel ≡ streams_after is_same streams steps channel ++ more channel)

  -- The walks of all agents are one walk, in any order that keeps each agent's own.
  abbrev pub WalksJoin : Type 0
  WalksJoin = (is_same : Channel → Channel → Bool) (does : Rules Channel Part Event Message) (receiver : Channel → ℕ) (parts : ℕ
      → Part) (streams : Channels Channel Message) (steps : List (Step Channel Part Event Message))
      → TellsChannels is_same → IsLocal does → ((n : ℕ) → WalksAlone is_same does receiver n (parts n) streams (steps_of n steps))
      → Walks is_same does parts streams steps

  -- By stamp, no step sends anything that is earlier than one before it.
  abbrev pub StampsOrder : Type 0
  StampsOrder = (steps : List (Step Channel Part Event Message)) → AreByStamp steps → All SendsItsStamp steps
      → SendNothingEarlier steps

  -- Where each channel holds the beginning of its stream and the steps send the rest, and perhaps more, a walk is a run: a step that looks
  -- at a packet has a greater stamp, so that packet isn't among those still to be sent.
  abbrev pub WalksRun : Type 0
  WalksRun = (is_same : Channel → Channel → Bool) (does : Rules Channel Part Event Message) (parts : ℕ
      → Part) (channels streams beyond : Channels Channel Message) (steps : List (Step Channel Part Event Message))
      → TellsChannels is_same → IsLocal does → Walks is_same does parts streams steps → SendNothingEarlier steps
      → ((channel : Channel) → channels channel ++ sent_by steps channel ≡ streams channel ++ beyond channel)
      → Runs is_same does parts channels steps

  -- and then each channel holds what is left of its stream, and what was sent beyond it
  abbrev pub ChannelsAfter : Type 0
  ChannelsAfter = (is_same : Channel → Channel → Bool) (does : Rules Channel Part Event Message) (parts : ℕ
      → Part) (channels streams beyond : Channels Channel Message) (steps : List (Step Channel Part Event Message))
      → TellsChannels is_same → Walks is_same does parts streams steps → SendNothingEarlier steps
      → ((channel : Channel) → channels channel ++ sent_by steps channel ≡ streams channel ++ beyond channel)
      → (channel : Channel)
      → channels_after is_same channels steps channel ≡ streams_after is_same streams steps channel ++ beyond channel

  -- Each agent's part after all steps is the one after its own.
  abbrev pub PartsAfter : Type 0
  PartsAfter = (parts : ℕ → Part) (steps : List (Step Channel Part Event Message)) (n : ℕ)
      → parts_after parts steps n ≡ part_after (parts n) (steps_of n steps)

-- THE SYSTEM

-- a test tells its channels, and an event looks at one head alone
abbrev pub SystemIsLocal : Type 0
SystemIsLocal = (k : Shape) (program : List Form) → TellsChannels is_same × IsLocal (system_rules k program)

-- A run of its agents from the parts and the channels of a state is a list of events that is tight from there.
abbrev pub SystemRuns : Type 0
SystemRuns = (k : Shape) (program : List Form) (s : State) (channels : Channels Channel Row) (steps : List SystemStep)
    → ((channel : Channel) → messages_of (channels channel) ≡ channel_of s channel)
    → Runs is_same (system_rules k program) (part_of k s) channels steps
    → IsTightFrom k program s (map step_event steps)

-- ROUNDS

-- The merge of a round's journals is a list of events that the round comes to.
abbrev pub RoundsRun : Type 0
RoundsRun = (k : Shape) (program : List Form) (s : State) (journals : List Journal) (events : List Event)
    → (round : IsRound k program s journals) → IsMerge journals events → ComesTo k program s journals round events

-- What holds at each step of each agent alone holds at each event of the merge.
abbrev pub RoundsKeep : (Part → Event → Type 0) → Type 0
RoundsKeep Holds = (k : Shape) (program : List Form) (s : State) (journals : List Journal) (events : List Event)
    → (round : IsRound k program s journals) → IsMerge journals events → ((n : ℕ) → HoldsAlone Holds (part_of k s n) (round.steps n))
    → HoldsFrom Holds k program s events

-- A walk hangs on the streams alone that lead to its agent.
abbrev pub WalksHeed : Type 0
WalksHeed = (k : Shape) (program : List Form) (n : ℕ) (part : Part) (streams others : Channels Channel Row) (entries : List Stamped)
    (steps : List SystemStep) → ((channel : Channel) → ends_at k channel ≡ n → others channel ≡ streams channel)
    → IsWalkOf k program n part streams entries steps → IsWalkOf k program n part others entries steps
