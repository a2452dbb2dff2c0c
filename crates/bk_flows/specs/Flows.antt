-- That an instruction doesn't halt, and that the exact mask after it fits the flow of the exact mask before it.
use Rattle.std.specs.Prelude.{◌≡◌, true, if◌then◌else◌, List, Option, Some, None, slice_get}
use Rattle.bk_base.specs.Places.{Shape, InProfile}
use Rattle.bk_isa.specs.declared.form.Form.{Form}
use Rattle.bk_isa.specs.Words.{IsInRange}
use Rattle.bk_msg.specs.declared.row.Row.{Row}
use Rattle.bk_know.specs.declared.sets.Sets.{Sets}
use Rattle.bk_flow.specs.Flow.{fall, jump}
use Rattle.bk_check.specs.Obligations.{unmet_here}
use Rattle.bk_order.specs.Fits.{Leads}
use Rattle.bk_engine.specs.declared.parts.Choice.{Choice}
use Rattle.bk_engine.specs.declared.stop.Stop.{Stop}
use Rattle.bk_engine.specs.declared.stop.Stop.TheVariants.{Waits, Halts}
use Rattle.bk_engine.specs.Engine.{EngineState}
use Rattle.bk_engine.specs.Reads.{is_branch_taken}
use Rattle.bk_engine.specs.Stops.{form_stop}
use Rattle.bk_system.specs.declared.event.Event.TheVariants.{Engine}
use Rattle.bk_system.specs.State.{State}
use Rattle.bk_system.specs.Events.{can_run}
use Rattle.bk_system.specs.Runs.{after}
use Rattle.bk_exact.specs.Told.{Told}
use Rattle.bk_exact.specs.Exact.{exact}
use Rattle.bk_exact.specs.After.{told_after}
use Rattle.bk_exact.specs.Ties.{Tied, told_world}

-- an instruction runs, or waits for a message
abbrev pub IsNoHalt : Option Stop → Type 0
IsNoHalt None = Unit {0}
IsNoHalt (Some (Waits classes)) = Unit {0}
IsNoHalt (Some (Halts reason)) = ⊥

-- the edge that an instruction takes: where it branches, to its target, else to the next place
abbrev pub edge_of : Shape → EngineState → Form → Sets → Option Sets
edge_of k engine f sets = if is_branch_taken k engine f then jump f sets else fall f sets

-- THE STATEMENTS

-- An instruction whose obligations the exact mask meets doesn't halt.
abbrev pub NeverHalts : Type 0
NeverHalts = (k : Shape) (s : State) (told : Told) (f : Form) (choice : Choice) (message : Option Row)
    → Tied k s told → IsInRange f → unmet_here f (exact k s.engine told) ≡ None → IsNoHalt (form_stop k s.engine f choice message)

-- After such an instruction that runs, the exact mask fits what the edge that is taken leads in, and that edge exists.
abbrev pub MaskFollows : Type 0
MaskFollows = (k : Shape) (program : List Form) (s : State) (told : Told) (choice : Choice) (f : Form)
    → InProfile k → IsInRange f → Tied k s told → slice_get program s.engine.core.place ≡ Some f
    → can_run k program s choice ≡ true
    → unmet_here f (exact k s.engine told) ≡ None
    → Leads (edge_of k s.engine f (exact k s.engine told))
    (exact k (after k program s (Engine choice)).engine (told_after k s.engine.core (told_world k s told) f told))
