-- The greedy schedule: each event is the least enabled one, and an Issue has a way that the victim policy answers.
use Rattle.std.specs.Prelude.{◌≡◌, ℕ, ◌+◌, ◌*◌, ◌<◌, List, [], ◌∷◌, Option, Some, None, option_and_then, option_map, length, if◌then◌else◌, slice_get}
use Rattle.bk_base.specs.Places.{Shape, group_of}
use Rattle.bk_base.specs.declared.op.Op.{Op}
use Rattle.bk_isa.specs.declared.form.Form.{Form}
use Rattle.bk_engine.specs.declared.parts.Choice.{Choice}
use Rattle.bk_engine.specs.declared.parts.TheConstants.{CLASS_NONE, CLASS_RESPONSE, CLASS_MEMORY, CLASS_REQUEST}
use Rattle.bk_trace.specs.Traces.{operations_of}
use Rattle.bk_lce.specs.declared.line.WayView.{WayView}
use Rattle.bk_lce.specs.Policies.{views}
use Rattle.bk_lce.specs.CacheTable.{address_of}
use Rattle.bk_system.specs.declared.event.Event.{Event}
use Rattle.bk_system.specs.declared.event.Event.TheVariants.{Issue, Command, Fill, Memory, Engine}
use Rattle.bk_base.specs.Counting.{or_else, first_below}
use Rattle.bk_system.specs.State.{State, opening}
use Rattle.bk_system.specs.Runs.{is_enabled, after, completed_by}
use Rattle.bk_run.specs.Jobs.{Job}

-- an event, if it is enabled
abbrev pub if_enabled : Shape → List Form → State → Event → Option Event
if_enabled k program s event = if is_enabled k program s event then Some event else None

-- The next operation of a cache is number n of its own in the trace, where n is the number of its entries in the history.
abbrev pub next_operation : State → List (ℕ × Op) → ℕ → Option Op
next_operation s lines c = slice_get (operations_of c lines) (length (completed_by c s.history))

-- A cache with its next operation, where the cache may issue it. That doesn't depend on the way, so it is asked with way 0.
abbrev pub ready_operation : Shape → List Form → State → List (ℕ × Op) → ℕ → Option (ℕ × Op)
ready_operation k program s lines c =
    option_and_then (λ op. if is_enabled k program s (Issue c 0 op) then Some (c, op) else None) (next_operation s lines c)

abbrev pub issue_with : ℕ → ℕ × Op → Event
issue_with way at = Issue at.0 way at.1

abbrev pub choice_of : ℕ → ℕ → Choice
choice_of class source = record { class = class; source = source }

abbrev pub engine_event : Shape → List Form → State → ℕ → ℕ → Option Event
engine_event k program s class source = if_enabled k program s (Engine (choice_of class source))

abbrev pub fill_event : Shape → List Form → State → ℕ → ℕ → Option Event
fill_event k program s to from = if_enabled k program s (Fill to from)

-- The least enabled event but for Issue: Engine, first without a class, then responses, memory and requests, each by source;
-- Command by cache; Fill by receiver and sender; Memory.
abbrev pub least_other : Shape → List Form → State → Option Event
least_other k program s =
    or_else (engine_event k program s CLASS_NONE 0)
    (or_else (first_below k.caches (engine_event k program s CLASS_RESPONSE))
    (or_else (engine_event k program s CLASS_MEMORY 0)
    (or_else (first_below k.caches (engine_event k program s CLASS_REQUEST))
    (or_else (first_below k.caches (λ c. if_enabled k program s (Command c)))
    (or_else (first_below k.caches (λ to. first_below k.caches (fill_event k program s to)))
    (if_enabled k program s Memory))))))

-- The least enabled event: Issue by cache, with the way that is given, and then the others.
abbrev pub least_enabled : Shape → List Form → State → List (ℕ × Op) → ℕ → Option Event
least_enabled k program s lines way =
    or_else (option_map (issue_with way) (first_below k.caches (ready_operation k program s lines))) (least_other k program s)

-- the way of an Issue is one that the policy may answer to the views of the set of its address
abbrev pub IsAsked : (List WayView → ℕ → Type 0) → Shape → State → Event → Type 0
IsAsked policy k s (Issue c way op) = policy (views k (s.caches c) (group_of k (address_of op))) way
IsAsked policy k s event = Unit {0}

-- The greedy schedule takes an event: it is the least that is enabled, and an Issue has a way that the policy answers.
pub record IsLeast (policy : List WayView → ℕ → Type 0) (k : Shape) (program : List Form) (s : State) (lines : List (ℕ × Op))
    (event : Event) : Type 0 where
  pub way : ℕ
  pub within : way < k.ways
  pub least : least_enabled k program s lines way ≡ Some event
  pub asked : IsAsked policy k s event

-- No event of the greedy order is enabled. Whether one is doesn't depend on the way.
abbrev pub IsEnd : Shape → List Form → State → List (ℕ × Op) → Type 0
IsEnd k program s lines = least_enabled k program s lines 0 ≡ None

-- A list of events is greedy for a job from a state on, and from the opening state: each is the one that the schedule takes.
abbrev pub IsGreedyFrom : Job → State → List Event → Type 0
IsGreedyFrom job s [] = Unit {0}
IsGreedyFrom job s (event ∷ events) =
    IsLeast job.policy job.config job.program s job.operations event × IsGreedyFrom job (after job.config job.program s event) events

abbrev pub IsGreedy : Job → List Event → Type 0
IsGreedy job events = IsGreedyFrom job (opening job.config) events

-- How many events a run of so many instructions and operations is given.
abbrev pub budget_of : Shape → ℕ → ℕ → ℕ
budget_of k instructions operations = operations * (4 * k.caches + 32) * (instructions + 4) + instructions
