-- What is told along a run.
use Rattle.std.specs.Prelude.{List, [], ◌∷◌}
use Rattle.bk_base.specs.Places.{Shape}
use Rattle.bk_isa.specs.declared.form.Form.{Form}
use Rattle.bk_system.specs.declared.event.Event.{Event}
use Rattle.bk_system.specs.State.{State}
use Rattle.bk_system.specs.Runs.{after}
use Rattle.bk_exact.specs.Told.{Told}
use Rattle.bk_exact.specs.Runs.{told_next}

-- The engine's transaction is no part of the system's state. A run tells it: there is none at the opening, and each instruction
-- changes it as its action does.
abbrev pub told_from : Shape → List Form → State → Told → List Event → Told
told_from k program s told [] = told
told_from k program s told (event ∷ events) = told_from k program (after k program s event) (told_next k program s told event) events
