-- Every accepted image is sound.
use Rattle.std.proofs.Common.{◌≡◌, List, Option, Some, None}
use Rattle.bk_base.specs.Places.{Shape, InProfile}
use Rattle.bk_image.specs.Images.{Parts}
use Rattle.bk_check.specs.Accepted.{Accepted, IsMade}
use Rattle.bk_engine.specs.declared.stop.Halt.{Halt}
use Rattle.bk_engine.specs.declared.stop.Stop.{Stop}
use Rattle.bk_engine.specs.declared.stop.Stop.TheVariants.{Waits, Halts}
use Rattle.bk_engine.specs.Stops.{stop_of}
use Rattle.bk_system.specs.declared.event.Event.{Event}
use Rattle.bk_system.specs.Lawful.{AreLawful}
use Rattle.bk_system.specs.State.{State, opening}
use Rattle.bk_system.specs.Runs.{run}
use Rattle.bk_exact.specs.Told.{Told, untold}
use Rattle.bk_exact.specs.Runs.{IsMet}
use Rattle.bk_coherent.specs.Traffic.{NeverHalts}
use Rattle.bk_coherent.proofs.Resting.{quiet-rested}
use Rattle.bk_coherent.proofs.Stuck.{stuck-rested, engine-runs}
use Rattle.bk_coherent.proofs.Tied.{coherent, takes}
use Rattle.bk_flows.specs.Flows.{IsNoHalt}
use Rattle.bk_sound.specs.Sound.{IsSoundState}
use Rattle.bk_bound.specs.Runs.{told_from}
use Rattle.bk_bound.proofs.Follows.{Follows, reached, is-met, runs-here}

no-halt : (o : Option Stop) (reason : Halt) → IsNoHalt o → o ≡ Some (Halts reason) → ⊥
no-halt None r h e = cc
no-halt (Some (Waits c)) r h e = cc
no-halt (Some (Halts x)) r h e = h

module _ (k : Shape) (image : Parts) (profile : InProfile k) (made : IsMade image) (accepted : Accepted image) where
  module _ (s : State) (told : Told) (follows : Follows image k s told) where
    met-here : IsMet k image.instrs s told
    met-here = is-met k image profile made accepted s told follows

    never : NeverHalts k image.instrs s
    never choice message reason e =
        no-halt (stop_of k s.engine image.instrs choice message) reason
        (runs-here k image profile made accepted s told follows choice message) e

    sound-here : IsSoundState k image.instrs s
    sound-here = record {
      coherent = coherent k s told follows.tied;
      halts_never = never;
      runs_on = engine-runs k image.instrs s never profile;
      none_foreign = takes k s told follows.tied;
      quiet_rests = quiet-rested k image.instrs s told follows.tied met-here;
      stuck_rests = stuck-rested k image.instrs s never told made.forms follows.tied met-here;
    }

  pub sound : (es : List Event) → AreLawful es → IsSoundState k image.instrs (run k image.instrs es)
  sound es l =
      sound-here (run k image.instrs es) (told_from k image.instrs (opening k) untold es) (reached k image profile made accepted es l)
