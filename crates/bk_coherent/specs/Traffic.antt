-- That the engine goes on, that each command and fill can be taken where it comes, and that nothing stands still but at rest.
use Rattle.std.specs.Prelude.{◌≡◌, ℕ, ◌<◌, false, IsTrue, is_some, List, Option, Some, slice_get}
use Rattle.bk_base.specs.Counting.{is_nil}
use Rattle.bk_base.specs.Places.{Shape}
use Rattle.bk_isa.specs.declared.form.Form.{Form}
use Rattle.bk_system.specs.State.{State}
use Rattle.bk_system.specs.Events.{command_taken, fill_taken, is_wait}
use Rattle.bk_system.specs.Runs.{is_enabled, is_quiet, is_rested}
use Rattle.bk_system.specs.declared.event.Event.TheVariants.{Command, Fill, Memory, Engine}
use Rattle.bk_engine.specs.declared.parts.TheConstants.{CLASS_NONE}
use Rattle.bk_engine.specs.declared.parts.Choice.{Choice}
use Rattle.bk_engine.specs.declared.stop.Halt.{Halt}
use Rattle.bk_engine.specs.declared.stop.Stop.TheVariants.{Halts}
use Rattle.bk_engine.specs.Stops.{stop_of}
use Rattle.bk_msg.specs.declared.row.Row.{Row}

-- the engine doesn't halt, whatever choice it is given and whatever message it is offered
abbrev pub NeverHalts : Shape → List Form → State → Type 0
NeverHalts k program s = (choice : Choice) (message : Option Row) (reason : Halt)
    → stop_of k s.engine program choice message ≡ Some (Halts reason) → ⊥

-- a command or fill that stands first in its channel has a row in its receiver's table
pub record NoneForeign (k : Shape) (s : State) : Type 0 where
  pub command : (c : ℕ) → c < k.caches → is_nil (s.command c) ≡ false → IsTrue (is_some (command_taken k s c))
  pub fill : (to from : ℕ) → to < k.caches → from < k.caches → is_nil (s.fill to from) ≡ false
      → IsTrue (is_some (fill_taken k s to from))

-- where nothing is under way and the engine waits, no group is pending and no operation in progress
abbrev pub QuietRests : Shape → List Form → State → Type 0
QuietRests k program s = IsTrue (is_quiet k program s) → IsTrue (is_rested k program s)

-- no event of a cache, of the memory or of the engine is enabled, but to issue an operation
pub record IsStuck (k : Shape) (program : List Form) (s : State) : Type 0 where
  pub command : (c : ℕ) → is_enabled k program s (Command c) ≡ false
  pub fill : (to from : ℕ) → is_enabled k program s (Fill to from) ≡ false
  pub memory : is_enabled k program s Memory ≡ false
  pub engine : (choice : Choice) → is_enabled k program s (Engine choice) ≡ false

-- nothing is stuck but where it rests
abbrev pub StuckRests : Shape → List Form → State → Type 0
StuckRests k program s = IsStuck k program s → IsTrue (is_rested k program s)

-- at each place but a `wfq` the engine can run; the choice is that of no channel
abbrev pub RunsOn : Shape → List Form → State → Type 0
RunsOn k program s = is_wait (slice_get program s.engine.core.place) ≡ false
    → IsTrue (is_enabled k program s (Engine (record { class = CLASS_NONE; source = 0 })))
