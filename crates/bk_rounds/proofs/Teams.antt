-- The work of all agents in one round comes to a list of events.
use Rattle.std.specs.Prelude.{◌≡◌, ◌≢◌, ◌⊎◌, ℕ, ◌+◌, ◌<◌, ◌≤◌, List, [], ◌++◌}
use Rattle.bk_base.specs.Places.{Shape}
use Rattle.bk_msg.specs.declared.row.Row.{Row}
use Rattle.bk_system.specs.declared.channel.Channel.{Channel}
use Rattle.bk_system.specs.declared.event.Event.{Event}
use Rattle.bk_system.specs.Routes.{channel_of, begins_at, ends_at, IsChannel}
use Rattle.bk_system.specs.Runs.{run_from, IsTightFrom}
use Rattle.bk_system.specs.State.{State}
use Rattle.bk_agents.specs.Parts.{part_of}
use Rattle.bk_threads.specs.declared.merging.Journal.{Journal}
use Rattle.bk_threads.specs.Agents.{Channels}
use Rattle.bk_threads.specs.Journals.{entries_of}
use Rattle.bk_threads.specs.Rounds.{HoldsFrom}
use Rattle.bk_threads.specs.System.{messages_of}
use Rattle.bk_rounds.specs.Tasks.{Task, IsDue}
use Rattle.bk_rounds.specs.Work.{IsWork}

-- there is such an agent: a cache, the engine or the memory
abbrev pub IsAgent : Shape → ℕ → Type 0
IsAgent k n = n < k.caches + 2

-- The work of all agents in one round from a state on. Each began with its part of that state and with what the state has in the channels
-- that lead to it. What was sent on a channel is what was taken of it, and then what was left.
pub record IsTeamWork (task : Task) (s : State) (journals : List Journal) (begun now : ℕ → State)
    (took sent : ℕ → Channels Channel Row) (clock : ℕ → ℕ) (left : Channels Channel Row) : Type 0 where
  pub works : (n : ℕ) → IsAgent task.config n
      → IsWork task n (begun n) (now n) (took n) (sent n) (clock n) (entries_of journals n)
  pub others : (n : ℕ) → task.config.caches + 2 ≤ n → entries_of journals n ≡ []
  pub parts : (n : ℕ) → IsAgent task.config n → part_of task.config (begun n) n ≡ part_of task.config s n
  pub inboxes : (channel : Channel) → IsAgent task.config (ends_at task.config channel)
      → channel_of (begun (ends_at task.config channel)) channel ≡ channel_of s channel
  pub queues : (channel : Channel) → IsChannel task.config channel → begins_at task.config channel ≢ ends_at task.config channel
      → sent (begins_at task.config channel) channel ≡ took (ends_at task.config channel) channel ++ left channel
  pub none : (channel : Channel) → IsChannel task.config channel ⊎ (took (ends_at task.config channel) channel ≡ [])

-- What the merge of their journals is, and leaves: each agent's part is as the agent has it, and each channel between two agents holds what
-- the one at its end did not take, what was left in the queue, and what was not sent.
pub record Joins (task : Task) (s : State) (now : ℕ → State) (left : Channels Channel Row) (events : List Event) : Type 0 where
  pub tight : IsTightFrom task.config task.program s events
  pub due : HoldsFrom (IsDue task.policy task.config task.operations) task.config task.program s events
  pub parts : (n : ℕ) → IsAgent task.config n
      → part_of task.config (run_from task.config task.program s events) n ≡ part_of task.config (now n) n
  pub between : (channel : Channel) → IsChannel task.config channel → begins_at task.config channel ≢ ends_at task.config channel
      → channel_of (run_from task.config task.program s events) channel
      ≡ channel_of (now (ends_at task.config channel)) channel
      ++ (messages_of (left channel) ++ channel_of (now (begins_at task.config channel)) channel)
  pub alone : (channel : Channel) → IsAgent task.config (ends_at task.config channel)
      → (IsChannel task.config channel × (begins_at task.config channel ≢ ends_at task.config channel))
      ⊎ (channel_of (run_from task.config task.program s events) channel ≡ channel_of (now (ends_at task.config channel)) channel)
