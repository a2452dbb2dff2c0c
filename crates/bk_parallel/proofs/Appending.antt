-- A run that goes on: what holds of events, and of those after them, holds of the whole list.
use Rattle.std.proofs.Common.{◌≡◌, List, [], ◌∷◌, ◌++◌, refl}
use Rattle.bk_base.specs.Places.{Shape}
use Rattle.bk_isa.specs.declared.form.Form.{Form}
use Rattle.bk_agents.specs.Parts.{Part}
use Rattle.bk_system.specs.declared.event.Event.{Event}
use Rattle.bk_system.specs.Runs.{after, run_from, IsTightFrom}
use Rattle.bk_system.specs.State.{State}
use Rattle.bk_threads.specs.Rounds.{HoldsFrom}

pub run_from-append : (k : Shape) (program : List Form) (s : State) (events more : List Event)
    → run_from k program s (events ++ more) ≡ run_from k program (run_from k program s events) more
run_from-append k program s [] more = refl
run_from-append k program s (event ∷ events) more = run_from-append k program (after k program s event) events more

pub tight-append : (k : Shape) (program : List Form) (s : State) (events more : List Event) → IsTightFrom k program s events
    → IsTightFrom k program (run_from k program s events) more → IsTightFrom k program s (events ++ more)
tight-append k program s [] more h next = next
tight-append k program s (event ∷ events) more h next = (h.0, tight-append k program (after k program s event) events more h.1 next)

pub holds-append : (Holds : Part → Event → Type 0) (k : Shape) (program : List Form) (s : State) (events more : List Event)
    → HoldsFrom Holds k program s events → HoldsFrom Holds k program (run_from k program s events) more
    → HoldsFrom Holds k program s (events ++ more)
holds-append Holds k program s [] more h next = next
holds-append Holds k program s (event ∷ events) more h next =
    (h.0, holds-append Holds k program (after k program s event) events more h.1 next)
