-- The agents of a system by number: the caches by theirs, then the engine, then the memory. And the part of the state that each has.
use Rattle.std.specs.Prelude.{ℕ, ◌+◌, ◌==◌, nat_lt, if◌then◌else◌, length}
use Rattle.bk_base.specs.Places.{Shape}
use Rattle.bk_lce.specs.CacheState.{CacheState}
use Rattle.bk_engine.specs.Engine.{EngineState}
use Rattle.bk_system.specs.declared.event.Event.{Event}
use Rattle.bk_system.specs.declared.event.Event.TheVariants.{Issue, Command, Fill, Memory, Engine}
use Rattle.bk_system.specs.State.{State}
use Rattle.bk_system.specs.Routes.{engine_number, memory_number}
use Rattle.bk_system.specs.Runs.{completed_by}

-- What an agent has: a cache its state, and how many of its operations stand in the history; the engine its own; the memory its words.
pub data Part : Type 0 where
  CachePart : (cache : CacheState) → (completed : ℕ) → Part
  EnginePart : (engine : EngineState) → Part
  MemoryPart : (memory : ℕ → ℕ) → Part
  NoPart : Part  -- of a number that is no agent's

-- the part that a system's state has of an agent
abbrev pub part_of : Shape → State → ℕ → Part
part_of k s n =
    if nat_lt n k.caches then CachePart (s.caches n) (length (completed_by n s.history))
    else if n == engine_number k then EnginePart s.engine
    else if n == memory_number k then MemoryPart s.memory
    else NoPart

-- whose event it is
abbrev pub agent_of : Shape → Event → ℕ
agent_of k (Issue c way op) = c
agent_of k (Command c) = c
agent_of k (Fill to from) = to
agent_of k Memory = memory_number k
agent_of k (Engine choice) = engine_number k
