-- Events of the table machine, and runs of them.
use Rattle.std.specs.Prelude.{ℕ, ◌&&◌, List, [], ◌∷◌, Option, Some, None, if◌then◌else◌, nat_lt}
use Rattle.bk_base.specs.Places.{Shape}
use Rattle.bk_machine.specs.Messages.{Op}
use Rattle.bk_machine.specs.World.{World}
use Rattle.bk_machine.specs.Steps.{MachineStep, step_after}
use Rattle.bk_machine.specs.CacheSteps.{step_of_issue, step_of_command, step_of_fill, step_of_memory}
use Rattle.bk_machine.specs.Actions.{Action, Permitted, action_after}

pub data Event : Type 0 where
  Issue : (cache group : ℕ) → Op → (way : ℕ) → Event
  Command : (cache : ℕ) → Event
  Fill : (to from : ℕ) → Event
  Memory : Event
  Engine : (group : ℕ) → Action → Event

-- the step that an event of a cache or the memory is, if it is enabled; an event that names a cache outside the
-- configuration isn't
abbrev pub step_of : Shape → World → Event → Option (ℕ × MachineStep)
step_of k world (Issue c s op way) = step_of_issue k world c s way op (world.busy c)
step_of k world (Command c) = if nat_lt c k.caches then step_of_command k.ways world c (world.command c) else None
step_of k world (Fill c o) = if nat_lt c k.caches && nat_lt o k.caches then step_of_fill world c o (world.fill c o) else None
step_of k world Memory = step_of_memory world.memout
step_of k world (Engine s a) = None

abbrev pub option_step_after : World → Option (ℕ × MachineStep) → World
option_step_after world None = world
option_step_after world (Some a) = step_after a.0 a.1 world

-- one event: an event of a cache or the memory that isn't enabled changes nothing
abbrev pub event_after : Shape → World → Event → World
event_after k world (Issue c s op way) = option_step_after world (step_of k world (Issue c s op way))
event_after k world (Command c) = option_step_after world (step_of k world (Command c))
event_after k world (Fill c o) = option_step_after world (step_of k world (Fill c o))
event_after k world Memory = option_step_after world (step_of k world Memory)
event_after k world (Engine s a) = action_after s a world

-- an event of the engine is a permitted action where it stands; any other event may stand anywhere
abbrev pub MayHappen : Shape → World → Event → Type 0
MayHappen k world (Issue c s op way) = Unit {0}
MayHappen k world (Command c) = Unit {0}
MayHappen k world (Fill c o) = Unit {0}
MayHappen k world Memory = Unit {0}
MayHappen k world (Engine s a) = Permitted k s a world

-- a list of such events from a state on, and the state after it
abbrev pub Listed : Shape → List Event → World → Type 0
Listed k [] world = Unit {0}
Listed k (e ∷ es) world = MayHappen k world e × Listed k es (event_after k world e)

abbrev pub run : Shape → List Event → World → World
run k [] world = world
run k (e ∷ es) world = run k es (event_after k world e)
