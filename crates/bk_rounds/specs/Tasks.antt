-- What the agents of a system work at, which event of an agent it calls for, and when an agent has none.
use Rattle.std.specs.Prelude.{◌≡◌, ℕ, ◌<◌, List, Option, Some, None, slice_get}
use Rattle.bk_base.specs.Places.{Shape, group_of}
use Rattle.bk_base.specs.Counting.{or_else, first_below}
use Rattle.bk_base.specs.declared.op.Op.{Op}
use Rattle.bk_isa.specs.declared.form.Form.{Form}
use Rattle.bk_trace.specs.Traces.{Parts, operations_of}
use Rattle.bk_lce.specs.declared.line.WayView.{WayView}
use Rattle.bk_lce.specs.Policies.{views}
use Rattle.bk_lce.specs.CacheTable.{address_of}
use Rattle.bk_system.specs.declared.event.Event.{Event}
use Rattle.bk_system.specs.declared.event.Event.TheVariants.{Issue, Command, Memory}
use Rattle.bk_system.specs.Routes.{engine_number, memory_number}
use Rattle.bk_system.specs.State.{State}
use Rattle.bk_run.specs.Greedy.{ready_operation, if_enabled, fill_event}
use Rattle.bk_run.specs.Schedule.{least_engine}
use Rattle.bk_agents.specs.Parts.{Part, CachePart}

-- A program serves the operations of a trace in a configuration. The policy is a relation between the views of a set and a way that it may
-- answer for the victim.
pub record Task : Type 1 where
  pub policy : List WayView → ℕ → Type 0
  pub config : Shape
  pub program : List Form
  pub operations : List (ℕ × Op)

abbrev pub task_of : (List WayView → ℕ → Type 0) → List Form → Parts → Task
task_of policy program trace = record {
  policy = policy;
  config = trace.config;
  program = program;
  operations = trace.lines;
}

-- An Issue is due where it is of its cache's next operation, and has a way that the policy answers to the views of its set. Any other event
-- is.
abbrev pub IsDue : (List WayView → ℕ → Type 0) → Shape → List (ℕ × Op) → Part → Event → Type 0
IsDue policy k operations (CachePart cache completed) (Issue c way op) =
    (slice_get (operations_of c operations) completed ≡ Some op) × policy (views k cache (group_of k (address_of op))) way
IsDue policy k operations part event = Unit {0}

-- the least event by which a cache takes a message: its command, or a fill, by sender
abbrev pub least_delivery_to : Shape → List Form → State → ℕ → Option Event
least_delivery_to k program s c = or_else (if_enabled k program s (Command c)) (first_below k.caches (fill_event k program s c))

-- No event of agent n is enabled. Whether an Issue is doesn't depend on the way.
pub record IsIdle (k : Shape) (program : List Form) (operations : List (ℕ × Op)) (s : State) (n : ℕ) : Type 0 where
  pub issue : n < k.caches → ready_operation k program s operations n ≡ None
  pub delivery : n < k.caches → least_delivery_to k program s n ≡ None
  pub engine : n ≡ engine_number k → least_engine k program s ≡ None
  pub memory : n ≡ memory_number k → if_enabled k program s Memory ≡ None
