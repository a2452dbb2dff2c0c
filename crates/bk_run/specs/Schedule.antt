-- What a call that makes an event of the schedule leaves and answers, and the parts of the greedy order in which a run looks for one.
use Rattle.std.specs.Prelude.{◌≡◌, ◌<◌, ℕ, List, Option, Some, None, Result, Ok, Err, ◌==◌, if◌then◌else◌}
use Rattle.bk_base.specs.Places.{Shape}
use Rattle.bk_base.specs.Counting.{or_else, first_below}
use Rattle.bk_base.specs.declared.op.Op.{Op}
use Rattle.bk_isa.specs.declared.form.Form.{Form}
use Rattle.bk_msg.specs.declared.row.Row.{Row}
use Rattle.bk_engine.specs.declared.parts.TheConstants.{CLASS_NONE, CLASS_RESPONSE, CLASS_MEMORY, CLASS_REQUEST}
use Rattle.bk_system.specs.declared.event.Event.{Event}
use Rattle.bk_system.specs.declared.event.Event.TheVariants.{Command, Memory}
use Rattle.bk_system.specs.State.{State}
use Rattle.bk_system.specs.Events.{row}
use Rattle.bk_run.specs.Greedy.{if_enabled, engine_event, fill_event, next_operation}

-- the call has made the event: the new state and the messages that were sent are those of its row
abbrev pub IsMade : Shape → List Form → State → State → List Row → Event → Type 0
IsMade k program old new sent event = row k program old event ≡ Some (record { state = new; sent = sent })

-- An event is wanted, or none: the call answers it and has made it. Where none is wanted, or the call fails, nothing has changed.
abbrev pub Makes : {E : Type 0} → Shape → List Form → Option Event → State → State → List Row → Result (Option Event) E
    → Type 0
Makes k program wanted old new sent (Ok (Some event)) = (wanted ≡ Some event) × IsMade k program old new sent event
Makes k program wanted old new sent (Ok None) = (wanted ≡ None) × (new ≡ old)
Makes k program wanted old new sent (Err e) = new ≡ old

-- each cache of a lower number has no operation left
abbrev pub AreThrough : State → List (ℕ × Op) → ℕ → Type 0
AreThrough s lines finished = (c : ℕ) → c < finished → next_operation s lines c ≡ None

-- the channels of the heads of a class: of responses or of requests, by cache
abbrev pub heads : State → ℕ → ℕ → List Row
heads s class = if class == CLASS_RESPONSE then s.response else s.request

-- the least Engine event that takes a head
abbrev pub least_head : Shape → List Form → State → Option Event
least_head k program s =
    or_else (first_below k.caches (engine_event k program s CLASS_RESPONSE))
    (or_else (engine_event k program s CLASS_MEMORY 0) (first_below k.caches (engine_event k program s CLASS_REQUEST)))

-- the least Engine event
abbrev pub least_engine : Shape → List Form → State → Option Event
least_engine k program s = or_else (engine_event k program s CLASS_NONE 0) (least_head k program s)

-- the least event by which a cache or the memory takes a message
abbrev pub least_fill : Shape → List Form → State → Option Event
least_fill k program s = first_below k.caches (λ to. first_below k.caches (fill_event k program s to))

abbrev pub least_delivery : Shape → List Form → State → Option Event
least_delivery k program s =
    or_else (first_below k.caches (λ c. if_enabled k program s (Command c)))
    (or_else (least_fill k program s) (if_enabled k program s Memory))
