-- Runs of a list of events, and what it means that one has done all of a trace.
use Rattle.std.specs.Prelude.{◌≡◌, ℕ, ◌<◌, List, [], ◌∷◌, ◌++◌, Bool, false, not, ◌&&◌, Option, Some, None, is_none, is_some, ◌==◌, if◌then◌else◌, slice_get, IsTrue}
use Rattle.bk_base.specs.Places.{Shape}
use Rattle.bk_base.specs.declared.op.Op.{Op}
use Rattle.bk_base.specs.declared.op.Done.{Done}
use Rattle.bk_isa.specs.declared.form.Form.{Form}
use Rattle.bk_isa.specs.declared.form.Form.TheVariants.{Wfq}
use Rattle.bk_engine.specs.declared.parts.TheConstants.{CLASS_REQUEST}
use Rattle.bk_engine.specs.Heads.{names_class}
use Rattle.bk_trace.specs.Traces.{operations_of}
use Rattle.bk_system.specs.declared.event.Event.{Event}
use Rattle.bk_system.specs.declared.event.Event.TheVariants.{Issue}
use Rattle.bk_base.specs.Counting.{all_below, is_nil}
use Rattle.bk_system.specs.State.{State, opening}
use Rattle.bk_system.specs.Events.{Happening, row, is_wait}

abbrev pub state_after_row : State → Option Happening → State
state_after_row s None = s
state_after_row s (Some happening) = happening.state

abbrev pub is_enabled : Shape → List Form → State → Event → Bool
is_enabled k program s event = is_some (row k program s event)

-- what an event leaves: its row's state, or the same one where it isn't enabled
abbrev pub after : Shape → List Form → State → Event → State
after k program s event = state_after_row s (row k program s event)

-- the state after a list of events, one at a time
abbrev pub run_from : Shape → List Form → State → List Event → State
run_from k program s [] = s
run_from k program s (event ∷ events) = run_from k program (after k program s event) events

abbrev pub run : Shape → List Form → List Event → State
run k program events = run_from k program (opening k) events

-- each event was enabled where it stands
abbrev pub IsTightFrom : Shape → List Form → State → List Event → Type 0
IsTightFrom k program s [] = Unit {0}
IsTightFrom k program s (event ∷ events) = IsTrue (is_enabled k program s event) × IsTightFrom k program (after k program s event) events

abbrev pub IsTight : Shape → List Form → List Event → Type 0
IsTight k program events = IsTightFrom k program (opening k) events

-- Quiet: all channels are empty, and the engine stands at a `wfq`.
abbrev pub is_quiet : Shape → List Form → State → Bool
is_quiet k program s =
    all_below k.caches (λ c. is_nil (s.request c))
    && all_below k.caches (λ c. is_nil (s.command c))
    && all_below k.caches (λ c. is_nil (s.response c))
    && all_below k.caches (λ to. all_below k.caches (λ from. is_nil (s.fill to from)))
    && is_nil s.memout
    && is_nil s.memin
    && is_wait (slice_get program s.engine.core.place)

abbrev pub names_requests : Option Form → Bool
names_requests (Some (Wfq classes)) = names_class classes CLASS_REQUEST
names_requests _ = false

-- Rested: it is quiet, the `wfq` names requests, no way group is pending, and no cache has an operation in progress.
abbrev pub is_rested : Shape → List Form → State → Bool
is_rested k program s =
    is_quiet k program s
    && names_requests (slice_get program s.engine.core.place)
    && all_below k.sets (λ g. not (s.engine.directory.pending g))
    && all_below k.caches (λ c. is_none (s.caches c).busy)

-- the operations that a list of events has a cache issue, enabled or not
abbrev pub issued_by : ℕ → List Event → List Op
issued_by c [] = []
issued_by c (Issue at way op ∷ events) = if at == c then op ∷ issued_by c events else issued_by c events
issued_by c (event ∷ events) = issued_by c events

-- the operations of one cache in a history
abbrev pub completed_by : ℕ → List Done → List Op
completed_by c [] = []
completed_by c (done ∷ history) = if done.cache == c then done.op ∷ completed_by c history else completed_by c history

-- one list begins another
abbrev pub IsPrefix : List Op → List Op → Type 0
IsPrefix xs ys = (rest : List Op) × (xs ++ rest ≡ ys)

-- each cache issues its operations of the trace in order, and perhaps not all of them
abbrev pub IsInOrder : Shape → List (ℕ × Op) → List Event → Type 0
IsInOrder k lines events = (c : ℕ) → c < k.caches → IsPrefix (issued_by c events) (operations_of c lines)

-- The events do all of the trace: in order, each cache has completed its whole trace, and the system has come to rest.
pub record IsComplete (k : Shape) (program : List Form) (lines : List (ℕ × Op)) (events : List Event) : Type 0 where
  pub in_order : IsInOrder k lines events
  pub whole : (c : ℕ) → c < k.caches → completed_by c (run k program events).history ≡ operations_of c lines
  pub rested : IsTrue (is_rested k program (run k program events))
