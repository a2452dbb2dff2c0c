-- Each event keeps the invariant, and with it each list of events.
use Rattle.std.proofs.Common.{ℕ, List, [], ◌∷◌}
use Rattle.std.specs.Prelude.{Option, Some, None}
use Rattle.bk_base.specs.Places.{Shape}
use Rattle.bk_machine.specs.World.{World, empty_world}
use Rattle.bk_machine.specs.Steps.{MachineStep}
use Rattle.bk_machine.specs.Runs.{Event, Issue, Command, Fill, Memory, Engine, step_of, option_step_after, event_after, MayHappen, Listed, run}
use Rattle.bk_machine.specs.Invariant.{Invariant}
use Rattle.bk_machine.proofs.Law.{keeps, keeps_step, no-entry, start}
use Rattle.bk_machine.proofs.Ranges.{step_within, action_within}
use Rattle.bk_machine.proofs.Records.{step_record, action_record}
use Rattle.bk_machine.proofs.Rows.{IfFits, event_fits}
use Rattle.bk_machine.proofs.Permits.{permitted_allowed}

stepped_keeps : (k : Shape) (world : World) (o : Option (ℕ × MachineStep)) → IfFits k world o → Invariant k world
    → Invariant k (option_step_after world o)
stepped_keeps k world None f inv = inv
stepped_keeps k world (Some a) f inv = record {
  groups = keeps_step k a.0 a.1 world f inv.groups;
  ranges = step_within k a.0 a.1 world f inv.ranges;
  recorded = step_record k a.0 a.1 world inv.recorded;
}

pub event_keeps : (k : Shape) (world : World) (event : Event) → MayHappen k world event → Invariant k world
    → Invariant k (event_after k world event)
event_keeps k world (Issue c s op way) m inv =
    stepped_keeps k world (step_of k world (Issue c s op way)) (event_fits k world inv.ranges (Issue c s op way)) inv
event_keeps k world (Command c) m inv = stepped_keeps k world (step_of k world (Command c)) (event_fits k world inv.ranges (Command c)) inv
event_keeps k world (Fill c o) m inv = stepped_keeps k world (step_of k world (Fill c o)) (event_fits k world inv.ranges (Fill c o)) inv
event_keeps k world Memory m inv = stepped_keeps k world (step_of k world Memory) (event_fits k world inv.ranges Memory) inv
event_keeps k world (Engine s a) m inv = record {
  groups = keeps s a world (permitted_allowed k s world inv a m) inv.groups;
  ranges = action_within k s a world inv.ranges;
  recorded = action_record k s world inv a m;
}

pub run_keeps : (k : Shape) (es : List Event) (world : World) → Listed k es world → Invariant k world → Invariant k (run k es world)
run_keeps k [] world l inv = inv
run_keeps k (e ∷ es) world l inv = run_keeps k es (event_after k world e) l.1 (event_keeps k world e l.0 inv)

pub empty_keeps : (k : Shape) → Invariant k (empty_world k.ways)
empty_keeps k = record {
  groups = start k.ways;
  ranges = record { entries = λ s c v t h. absurd (no-entry t h); busy = λ c x e. absurd (cc e) };
  recorded = tt;
}

pub invariant : (k : Shape) (es : List Event) → Listed k es (empty_world k.ways) → Invariant k (run k es (empty_world k.ways))
invariant k es l = run_keeps k es (empty_world k.ways) l (empty_keeps k)
