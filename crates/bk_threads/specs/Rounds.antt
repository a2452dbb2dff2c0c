-- Rounds: each agent of the system works alone for a while, and then what all have done is put together.
use Rattle.std.specs.Prelude.{◌≡◌, ℕ, List, [], ◌∷◌, ◌++◌, map, All}
use Rattle.bk_base.specs.Places.{Shape}
use Rattle.bk_isa.specs.declared.form.Form.{Form}
use Rattle.bk_msg.specs.declared.row.Row.{Row}
use Rattle.bk_system.specs.declared.event.Event.{Event}
use Rattle.bk_system.specs.State.{State}
use Rattle.bk_system.specs.Runs.{after, run_from, IsTightFrom}
use Rattle.bk_system.specs.declared.channel.Channel.{Channel}
use Rattle.bk_agents.specs.Parts.{Part, part_of, agent_of}
use Rattle.bk_system.specs.Routes.{channel_of, is_same, begins_at, ends_at}
use Rattle.bk_threads.specs.declared.merging.Stamped.{Stamped}
use Rattle.bk_threads.specs.declared.merging.Journal.{Journal}
use Rattle.bk_threads.specs.Journals.{entries_of}
use Rattle.bk_threads.specs.Agents.{Channels, sent_by}
use Rattle.bk_threads.specs.Walks.{WalksAlone, AreByStamp, part_after, streams_after}
use Rattle.bk_threads.specs.System.{SystemStep, messages_of, system_rules}

-- a step is agent n's, and its entry has its stamp
abbrev pub IsBy : ℕ → SystemStep → Type 0
IsBy n step = (step.agent ≡ n) × (step.event.stamp ≡ step.stamp)

-- the entry of a journal that a step is
abbrev pub entry_of : SystemStep → Stamped
entry_of step = step.event

-- What agent n has done alone, from its part on and on all that its channels brought it: a walk, of which each step is an entry, in order
-- and by stamp.
pub record IsWalkOf (k : Shape) (program : List Form) (n : ℕ) (part : Part) (streams : Channels Channel Row) (entries : List Stamped)
    (steps : List SystemStep) : Type 0 where
  pub alone : WalksAlone is_same (system_rules k program) (ends_at k) n part streams steps
  pub own : All (IsBy n) steps
  pub by_stamp : AreByStamp steps
  pub told : entries ≡ map entry_of steps

-- A round of all agents, from a state on. What a channel held, and then what was sent on it in the round, is what it brought to the
-- agent at its end, and then what was left in it.
pub record IsRound (k : Shape) (program : List Form) (s : State) (journals : List Journal) : Type 0 where
  pub steps : ℕ → List SystemStep  -- of each agent
  pub streams : ℕ → Channels Channel Row  -- what each agent's channels brought it
  pub held : Channels Channel Row
  pub left : Channels Channel Row
  pub walks : (n : ℕ) → IsWalkOf k program n (part_of k s n) (streams n) (entries_of journals n) (steps n)
  pub carried : (channel : Channel) → messages_of (held channel) ≡ channel_of s channel
  pub whole : (channel : Channel)
      → held channel ++ sent_by (steps (begins_at k channel)) channel ≡ streams (ends_at k channel) channel ++ left channel

-- Events that a round comes to: each was enabled where it stands; each agent has the part that its own steps left, and each channel what
-- its agent did not take and what was left.
pub record ComesTo (k : Shape) (program : List Form) (s : State) (journals : List Journal) (round : IsRound k program s journals)
    (events : List Event) : Type 0 where
  pub tight : IsTightFrom k program s events
  pub parts : (n : ℕ) → part_of k (run_from k program s events) n ≡ part_after (part_of k s n) (round.steps n)
  pub channels : (channel : Channel) → channel_of (run_from k program s events) channel
      ≡ messages_of (streams_after is_same (round.streams (ends_at k channel)) (round.steps (ends_at k channel)) channel
      ++ round.left channel)

-- A property of an agent's part and an event of it holds at each step of a walk alone,
abbrev pub HoldsAlone : (Part → Event → Type 0) → Part → List SystemStep → Type 0
HoldsAlone Holds part [] = Unit {0}
HoldsAlone Holds part (step ∷ steps) = Holds part step.event.event × HoldsAlone Holds step.effect.part steps

-- and at each event of a list, by the part that its agent has where it stands.
abbrev pub HoldsFrom : (Part → Event → Type 0) → Shape → List Form → State → List Event → Type 0
HoldsFrom Holds k program s [] = Unit {0}
HoldsFrom Holds k program s (event ∷ events) =
    Holds (part_of k s (agent_of k event)) event × HoldsFrom Holds k program (after k program s event) events
