-- The agents of a system, each with hardware of its own: the caches by number, then the engine, then the memory.
use Rattle.std.specs.Prelude.{◌≡◌, ℕ, ◌+◌, ◌<◌, List, [], length, Option, Some, None, slice_get}
use Rattle.bk_base.specs.Places.{Shape}
use Rattle.bk_system.specs.State.{State, opening}
use Rattle.bk_system.specs.Systems.{state_of}
use Rattle.bk_threads.specs.declared.merging.Stamped.{Stamped}
use Rattle.bk_rounds.specs.declared.agent.Agent.{Agent}
use Rattle.bk_rounds.specs.declared.ends.Inlet.{Inlet}
use Rattle.bk_rounds.specs.declared.ends.Outlet.{Outlet}

-- there is an agent of this number
abbrev pub IsAgent : Shape → ℕ → Type 0
IsAgent k n = n < k.caches + 2

-- it is the one of number n
pub record IsMember (k : Shape) (n : ℕ) (agent : Agent) : Type 0 where
  pub number : agent.number ≡ n
  pub config : agent.hardware.config ≡ k

-- all of them, each at the place of its number
pub record IsTeam (k : Shape) (agents : List Agent) : Type 0 where
  pub count : length agents ≡ k.caches + 2
  pub each : (n : ℕ) (agent : Agent) → slice_get agents n ≡ Some agent → IsMember k n agent

-- WHAT THE AGENT AT A PLACE HAS: the opening state and empty lists, where there is none

abbrev pub state_in : Shape → Option Agent → State
state_in k None = opening k
state_in k (Some agent) = state_of agent.hardware

abbrev pub inlets_in : Option Agent → List Inlet
inlets_in None = []
inlets_in (Some agent) = agent.inlets.items

abbrev pub outlets_in : Option Agent → List Outlet
outlets_in None = []
outlets_in (Some agent) = agent.outlets.items

abbrev pub entries_in : Option Agent → List Stamped
entries_in None = []
entries_in (Some agent) = agent.entries.items

abbrev pub clock_in : Option Agent → ℕ
clock_in None = 0
clock_in (Some agent) = agent.clock

abbrev pub state_at : Shape → List Agent → ℕ → State
state_at k agents n = state_in k (slice_get agents n)

abbrev pub inlets_at : List Agent → ℕ → List Inlet
inlets_at agents n = inlets_in (slice_get agents n)

abbrev pub outlets_at : List Agent → ℕ → List Outlet
outlets_at agents n = outlets_in (slice_get agents n)

abbrev pub entries_at : List Agent → ℕ → List Stamped
entries_at agents n = entries_in (slice_get agents n)

abbrev pub clock_at : List Agent → ℕ → ℕ
clock_at agents n = clock_in (slice_get agents n)

-- no agent has an end of a channel
pub record AreApart (agents : List Agent) : Type 0 where
  pub inlets : (n : ℕ) → inlets_at agents n ≡ []
  pub outlets : (n : ℕ) → outlets_at agents n ≡ []

-- it has done nothing yet
pub record IsNew (k : Shape) (n : ℕ) (agent : Agent) : Type 0 where
  pub member : IsMember k n agent
  pub state : state_of agent.hardware ≡ opening k
  pub inlets : agent.inlets.items ≡ []
  pub outlets : agent.outlets.items ≡ []
  pub entries : agent.entries.items ≡ []
