-- A round of all agents side by side.
use Rattle.std.specs.Prelude.{◌≡◌, ◌≢◌, ◌≤◌, ◌+◌, Bool, true}
use Rattle.bk_base.specs.Places.{Shape}
use Rattle.bk_system.specs.Systems.{state_of}
use Rattle.bk_rounds.specs.declared.agent.Agent.{Agent}
use Rattle.bk_rounds.specs.Agents.{Works, IsFresh, IsSame}
use Rattle.bk_rounds.specs.Ends.{AreInlets, AreOutlets}
use Rattle.bk_rounds.specs.Tasks.{Task, IsIdle}
use Rattle.bk_parallel.specs.declared.sides.Ending.{Ending}
use Rattle.bk_parallel.specs.declared.sides.Ending.TheVariants.{Idle, OutOfMemory}

-- an agent may begin a round
pub record IsReady (k : Shape) (agent : Agent) : Type 0 where
  pub inlets : AreInlets k agent.number agent.inlets.items
  pub outlets : AreOutlets k agent.number agent.outlets.items
  pub fresh : IsFresh agent

-- it has made one, and if it is said to be idle, none of its events is enabled
pub record HasWorked (task : Task) (idle : Bool) (old new : Agent) : Type 0 where
  pub works : Works task (state_of old.hardware) new
  pub same : IsSame old new
  pub rests : idle ≡ true → IsIdle task.config task.program task.operations (state_of new.hardware) old.number

-- an agent of this configuration may begin one
pub record CanWork (k : Shape) (agent : Agent) : Type 0 where
  pub number : agent.number ≤ k.caches + 1
  pub config : agent.hardware.config ≡ k
  pub ready : IsReady k agent

-- Unless memory ran out, a round that ended so was made, and it may be said to be idle only where it ended idle.
abbrev pub EndsRound : Task → Ending → Agent → Agent → Type 0
EndsRound task ending old new = ending ≢ OutOfMemory → (idle : Bool) → (idle ≡ true → ending ≡ Idle)
    → HasWorked task idle old new
