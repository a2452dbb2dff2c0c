-- In each state of a run, what names a cache, a set or a way names one of the configuration, and no other cache has messages.
use Rattle.std.specs.Prelude.{◌≡◌, ℕ, ◌<◌, ◌≤◌, List, [], true, All}
use Rattle.bk_base.specs.Places.{Shape, InProfile}
use Rattle.bk_base.specs.States.{is_readable}
use Rattle.bk_isa.specs.declared.form.Form.{Form}
use Rattle.bk_msg.specs.Within.{IsWithin}
use Rattle.bk_dir.specs.Contents.{Contents}
use Rattle.bk_engine.specs.Heads.{IsSound}
use Rattle.bk_system.specs.declared.event.Event.{Event}
use Rattle.bk_system.specs.State.{State}
use Rattle.bk_system.specs.Runs.{after, run}

-- a way of a set of a cache
pub record IsPlace (k : Shape) (c g w : ℕ) : Type 0 where
  pub cache : c < k.caches
  pub set : g < k.sets
  pub way : w < k.ways

-- a directory's valid entries are at places of the configuration: all others are I, as the table machine has them
abbrev pub IsInside : Shape → Contents → Type 0
IsInside k d = (c g w : ℕ) → is_readable (d.entries c g w).state ≡ true → IsPlace k c g w

-- no channel of a cache beyond the configuration has a message
pub record NoneOutside (k : Shape) (s : State) : Type 0 where
  pub request : (c : ℕ) → k.caches ≤ c → s.request c ≡ []
  pub command : (c : ℕ) → k.caches ≤ c → s.command c ≡ []
  pub response : (c : ℕ) → k.caches ≤ c → s.response c ≡ []
  pub fill_to : (to from : ℕ) → k.caches ≤ to → s.fill to from ≡ []
  pub fill_from : (to from : ℕ) → k.caches ≤ from → s.fill to from ≡ []

-- the messages in the channels, the channels that have some, the engine's head and request, and the directory
pub record InRange (k : Shape) (s : State) : Type 0 where
  pub request : (c : ℕ) → All (IsWithin k) (s.request c)
  pub command : (c : ℕ) → All (IsWithin k) (s.command c)
  pub response : (c : ℕ) → All (IsWithin k) (s.response c)
  pub fill : (to from : ℕ) → All (IsWithin k) (s.fill to from)
  pub memout : All (IsWithin k) s.memout
  pub memin : All (IsWithin k) s.memin
  pub outside : NoneOutside k s
  pub engine : IsSound k s.engine.core
  pub directory : IsInside k s.engine.directory

-- THE STATEMENTS

abbrev pub EventsKeepRange : Type 0
EventsKeepRange = (k : Shape) (program : List Form) (s : State) (event : Event) → InProfile k → InRange k s
    → InRange k (after k program s event)

abbrev pub RunsInRange : Type 0
RunsInRange = (k : Shape) (program : List Form) (es : List Event) → InProfile k → InRange k (run k program es)
