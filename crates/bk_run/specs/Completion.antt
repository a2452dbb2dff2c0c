-- What it means that a history holds all of a trace, and that a list of events with its history has done it.
use Rattle.std.specs.Prelude.{◌≡◌, ℕ, ◌<◌, List, Bool, length, IsTrue}
use Rattle.bk_base.specs.Places.{Shape}
use Rattle.bk_base.specs.declared.op.Op.{Op}
use Rattle.bk_base.specs.declared.op.Done.{Done}
use Rattle.bk_isa.specs.declared.form.Form.{Form}
use Rattle.bk_trace.specs.Traces.{operations_of}
use Rattle.bk_system.specs.declared.event.Event.{Event}
use Rattle.bk_system.specs.State.{State}
use Rattle.bk_system.specs.Runs.{completed_by, is_rested, IsInOrder}

-- each cache has completed its whole trace
abbrev pub IsWhole : Shape → List (ℕ × Op) → List Done → Type 0
IsWhole k lines history = (c : ℕ) → c < k.caches → completed_by c history ≡ operations_of c lines

-- The events are in order, their history holds the whole trace, and the system rests.
pub record IsDone (k : Shape) (lines : List (ℕ × Op)) (events : List Event) (history : List Done) (is_rested : Bool) : Type 0 where
  pub in_order : IsInOrder k lines events
  pub whole : IsWhole k lines history
  pub rested : IsTrue is_rested

-- each cache has completed as many operations as it has in the trace
abbrev pub HasAsMany : Shape → List (ℕ × Op) → List Done → Type 0
HasAsMany k lines history = (c : ℕ) → c < k.caches → length (completed_by c history) ≡ length (operations_of c lines)

-- What is to be asked after a greedy list of events, which is in order: the system rests, and each cache has completed as many operations
-- as it has.
pub record IsFinished (k : Shape) (program : List Form) (lines : List (ℕ × Op)) (s : State) : Type 0 where
  pub rested : IsTrue (is_rested k program s)
  pub as_many : HasAsMany k lines s.history
