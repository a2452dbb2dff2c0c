-- What every run of an accepted image shows.
use Rattle.std.specs.Prelude.{List}
use Rattle.bk_base.specs.Places.{Shape, InProfile}
use Rattle.bk_isa.specs.declared.form.Form.{Form}
use Rattle.bk_system.specs.declared.event.Event.{Event}
use Rattle.bk_system.specs.Lawful.{AreLawful}
use Rattle.bk_system.specs.State.{State}
use Rattle.bk_system.specs.Runs.{run}
use Rattle.bk_coherent.specs.Coherent.{Coherent}
use Rattle.bk_coherent.specs.Traffic.{NeverHalts, RunsOn, NoneForeign, QuietRests, StuckRests}

-- A state that a run comes to.
pub record IsSoundState (k : Shape) (program : List Form) (s : State) : Type 0 where
  -- one writer or many readers, each load has answered the latest store, a group is pending exactly while a taken request isn't settled
  pub coherent : Coherent k s
  -- the engine doesn't halt, and at each place but a `wfq` it can run
  pub halts_never : NeverHalts k program s
  pub runs_on : RunsOn k program s
  -- the head of each command and fill channel has a row in its receiver's table
  pub none_foreign : NoneForeign k s
  -- where all channels are empty and the engine waits, and where nothing but an Issue is enabled, the system is at rest
  pub quiet_rests : QuietRests k program s
  pub stuck_rests : StuckRests k program s

-- So it is after every list of events, in every configuration. An event is lawful where its operation, if it has one, is at the
-- address of a word, as the type of operations has it; nothing else is asked of a list.
abbrev pub IsSound : List Form → Type 0
IsSound program = (k : Shape) (events : List Event) → InProfile k → AreLawful events → IsSoundState k program (run k program events)
