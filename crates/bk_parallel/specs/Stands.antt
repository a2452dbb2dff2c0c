-- Between rounds the agents are together a system at a state.
use Rattle.std.specs.Prelude.{◌≡◌, ℕ, List, [], Bool, true}
use Rattle.bk_agents.specs.Held.{HoldsFirst}
use Rattle.bk_agents.specs.Parts.{part_of}
use Rattle.bk_base.specs.Places.{Shape}
use Rattle.bk_rounds.specs.declared.agent.Agent.{Agent}
use Rattle.bk_rounds.specs.Tasks.{Task, IsDue}
use Rattle.bk_rounds.specs.Work.{IsSent}
use Rattle.bk_run.specs.Greedy.{IsEnd}
use Rattle.bk_system.specs.declared.channel.Channel.{Channel}
use Rattle.bk_system.specs.declared.event.Event.{Event}
use Rattle.bk_system.specs.Routes.{channel_of, heads_of, ends_at}
use Rattle.bk_system.specs.Runs.{run_from, IsTightFrom}
use Rattle.bk_system.specs.State.{State}
use Rattle.bk_threads.specs.Rounds.{HoldsFrom}
use Rattle.bk_parallel.specs.Teams.{IsAgent, IsTeam, AreApart, state_at, entries_at}

-- Each agent has its part of the state and what the state has in the channels that lead to it; nothing waits to be sent.
pub record Stand (k : Shape) (s : State) (agents : List Agent) : Type 0 where
  pub team : IsTeam k agents
  pub apart : AreApart agents
  pub parts : (n : ℕ) → IsAgent k n → part_of k (state_at k agents n) n ≡ part_of k s n
  pub inboxes : (channel : Channel) → IsAgent k (ends_at k channel)
      → channel_of (state_at k agents (ends_at k channel)) channel ≡ channel_of s channel
  pub sent : (n : ℕ) → IsAgent k n → IsSent k n (state_at k agents n)
  pub holds : (n : ℕ) → IsAgent k n → HoldsFirst (part_of k (state_at k agents n) n) (heads_of (state_at k agents n))
  pub entries : (n : ℕ) → entries_at agents n ≡ []

-- A round has these events. Each was enabled where it stands, from the state on, and due; the agents are then together the system after
-- them. Where it is said to be the last, nothing was enabled.
pub record Advances (task : Task) (s : State) (events : List Event) (agents : List Agent) (last : Bool) : Type 0 where
  pub stand : Stand task.config (run_from task.config task.program s events) agents
  pub tight : IsTightFrom task.config task.program s events
  pub due : HoldsFrom (IsDue task.policy task.config task.operations) task.config task.program s events
  pub ended : last ≡ true → IsEnd task.config task.program s task.operations
