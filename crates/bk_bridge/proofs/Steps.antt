-- Each event of a cache or the memory is a step of the machine.
use Rattle.std.proofs.Common.{◌≡◌, ℕ, subst, List, Option, Some}
use Rattle.bk_base.specs.Places.{Shape, InProfile}
use Rattle.bk_isa.specs.declared.form.Form.{Form}
use Rattle.bk_system.specs.declared.event.Event.{Event}
use Rattle.bk_system.specs.declared.event.Event.TheVariants as events
use Rattle.bk_system.specs.State.{State, opening}
use Rattle.bk_system.specs.Runs.{run}
use Rattle.bk_system.specs.Lawful.{IsLawful, AreLawful}
use Rattle.bk_machine.specs.Transactions.{Transaction}
use Rattle.bk_machine.specs.Runs as machine
use Rattle.bk_bridge.specs.Worlds.{event_of}
use Rattle.bk_bridge.specs.Formed.{WellFormed}
use Rattle.bk_bridge.specs.Steps.{IsStep}
use Rattle.bk_bridge.proofs.IssueEvent.{issue_step}
use Rattle.bk_bridge.proofs.CommandEvent.{command_step}
use Rattle.bk_bridge.proofs.FillEvent.{fill_step}
use Rattle.bk_bridge.proofs.MemoryEvent.{memory_step}
use Rattle.bk_bridge.proofs.Opening.{opens_formed}
use Rattle.bk_bridge.proofs.Keeps.{run-keeps}

some-is : {X : Type 0} (a b : X) → Some a ≡ Some b → a ≡ b
some-is a b e = cc

pub event_step : (k : Shape) (program : List Form) (s : State) (x : Option (ℕ × Transaction)) (e : Event) (event : machine.Event)
    → WellFormed k s → IsLawful e → event_of k e ≡ Some event → IsStep k program s x e event
event_step k program s x (events.Issue c way op) event f l e =
    subst (IsStep k program s x (events.Issue c way op)) (some-is _ _ e) (issue_step k program s x c op way f)
event_step k program s x (events.Command c) event f l e =
    subst (IsStep k program s x (events.Command c)) (some-is _ _ e) (command_step k program s x c f)
event_step k program s x (events.Fill to from) event f l e =
    subst (IsStep k program s x (events.Fill to from)) (some-is _ _ e) (fill_step k program s x to from f)
event_step k program s x events.Memory event f l e =
    subst (IsStep k program s x events.Memory) (some-is _ _ e) (memory_step k program s x f)
event_step k program s x (events.Engine choice) event f l e = absurd (cc e)

pub reached-step : (k : Shape) (program : List Form) (es : List Event) (x : Option (ℕ × Transaction)) (event : Event)
    (machine_event : machine.Event)
    → InProfile k → AreLawful es → IsLawful event → event_of k event ≡ Some machine_event
    → IsStep k program (run k program es) x event machine_event
reached-step k program es x event machine_event p ls l i =
    event_step k program (run k program es) x event machine_event (run-keeps k program (opening k) es (opens_formed k p) ls) l i
