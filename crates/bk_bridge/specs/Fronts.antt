-- The head that the engine looks at, and the channel where it stands.
use Rattle.std.specs.Prelude.{◌≡◌, ◌<◌, List, Some, IfSome}
use Rattle.bk_base.specs.Places.{Shape}
use Rattle.bk_isa.specs.declared.form.Form.{Form}
use Rattle.bk_engine.specs.declared.parts.Head.{Head}
use Rattle.bk_system.specs.declared.event.Event.{Event}
use Rattle.bk_system.specs.State.{State}
use Rattle.bk_system.specs.Events.{offered_head}
use Rattle.bk_system.specs.Runs.{after, run}

-- a head is the first message of the channel that its choice names, and that channel is one of the configuration
pub record IsFront (k : Shape) (s : State) (head : Head) : Type 0 where
  pub source : head.choice.source < k.caches
  pub first : offered_head s head.choice ≡ Some head.message

abbrev pub HoldsFront : Shape → State → Type 0
HoldsFront k s = IfSome s.engine.core.head (IsFront k s)

-- THE STATEMENTS

-- No event but the engine's own takes the head off its channel: while the engine looks at it, it stands first there.
abbrev pub EventsKeepFront : Type 0
EventsKeepFront = (k : Shape) (program : List Form) (s : State) (event : Event) → HoldsFront k s
    → HoldsFront k (after k program s event)

abbrev pub RunsHoldFront : Type 0
RunsHoldFront = (k : Shape) (program : List Form) (es : List Event) → HoldsFront k (run k program es)
