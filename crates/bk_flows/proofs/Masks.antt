-- The exact mask after an instruction: of the engine and the transaction that are left.
use Rattle.std.proofs.Common.{◌≡◌, ℕ, Bool, true, false, refl, sym, ap, ◌∙◌, subst, List, length, Option, Some, None, slice_get}
use Rattle.std.specs.Prelude.{nat_lt, option_map, if◌then◌else◌}
use Rattle.bk_base.specs.Places.{Shape, group_of}
use Rattle.bk_isa.specs.declared.form.Form.{Form}
use Rattle.bk_know.specs.declared.sets.Sets.{Sets}
use Rattle.bk_know.specs.Sets.{only}
use Rattle.bk_flow.specs.Flow.{existing}
use Rattle.bk_order.specs.Fits.{Leads}
use Rattle.bk_order.proofs.Filled.{Filled}
use Rattle.bk_order.proofs.Leading.{leads-path}
use Rattle.bk_msg.specs.declared.row.Row.{Row}
use Rattle.bk_dir.specs.Contents.{Contents}
use Rattle.bk_engine.specs.declared.parts.Choice.{Choice}
use Rattle.bk_engine.specs.declared.parts.Core.{Core}
use Rattle.bk_engine.specs.declared.parts.Held.{Held}
use Rattle.bk_engine.specs.Engine.{EngineState}
use Rattle.bk_engine.specs.Changes.{core_but_place, core_after, next_place, directory_after, directory_for_held, directory_for}
use Rattle.bk_engine.specs.Sends.{sends}
use Rattle.bk_engine.specs.Heads.{head_value}
use Rattle.bk_engine.specs.Reads.{flag, number_of}
use Rattle.bk_engine.specs.Step.{ran_at, runs_to}
use Rattle.bk_system.specs.declared.event.Event.TheVariants as events
use Rattle.bk_system.specs.State.{State}
use Rattle.bk_system.specs.Events.{offered_head, with_outcome, can_run}
use Rattle.bk_system.specs.Runs.{state_after_row, after}
use Rattle.bk_machine.specs.Actions.{Action, Idles}
use Rattle.bk_machine.specs.Transactions.{Transaction}
use Rattle.bk_machine.specs.World.{World}
use Rattle.bk_bridge.specs.Acting.{action_of}
use Rattle.bk_exact.specs.Told.{Told, Deferred}
use Rattle.bk_exact.specs.Exact.{exact, stage_of, gp_of}
use Rattle.bk_exact.specs.After.{action_at, served_action, transaction_after, deferred_after, told_after}
use Rattle.bk_exact.specs.Ties.{told_world}
use Rattle.bk_flows.specs.Flows.{edge_of}

-- THE STATE AFTER

-- the engine after an instruction
abbrev pub left_by : Shape → EngineState → Form → Choice → Option Row → EngineState
left_by k engine f choice message = record { core = core_after k engine f choice message; directory = directory_after k engine f }

-- it is the engine of the state after the event
pub engine-is : (k : Shape) (program : List Form) (s : State) (choice : Choice) (f : Form)
    → slice_get program s.engine.core.place ≡ Some f
    → can_run k program s choice ≡ true → (after k program s (events.Engine choice)).engine
    ≡ left_by k s.engine f choice (offered_head s choice)
engine-is k program s choice f here can =
    ap (λ (b : Bool). (state_after_row s (if b then Some (with_outcome k s (runs_to k s.engine program choice (offered_head s choice)))
    else None)).engine) can
    ∙ ap (λ (o : Option Form). (with_outcome k s (ran_at k s.engine o choice (offered_head s choice))).state.engine) here

-- THE MASK AFTER

-- an instruction that writes no entry
directory-kept : (k : Shape) (d : Contents) (f : Form) (o : Option Held) → ((h : Held) → directory_for k d h f ≡ d)
    → directory_for_held k d o f ≡ d
directory-kept k d f None q = refl
directory-kept k d f (Some h) q = q h

-- an instruction that is no action
transaction-kept : (k : Shape) (core : Core) (world : World) (f : Form) (o : Option Held) (x : Option (ℕ × Transaction))
    → ((h : Held) (other : Transaction) → action_of k core h other world f ≡ Some Idles)
    → transaction_after world (served_action k core o x world f) ≡ world.transaction
transaction-kept k core world f None x j = refl
transaction-kept k core world f (Some h) None j = refl
transaction-kept k core world f (Some h) (Some x) j =
    ap (λ (o : Option Action). transaction_after world (option_map (λ a. (group_of k h.addr, a)) o)) (j h x.1)

module _ (k : Shape) (s : State) (told : Told) (choice : Choice) (message : Option Row) where
  abbrev e : Core
  e = s.engine.core

  abbrev w : World
  w = told_world k s told

  -- the mask before an instruction, and after it
  abbrev pub m : Sets
  m = exact k s.engine told

  abbrev pub after_mask : Form → Sets
  after_mask f = exact k (left_by k s.engine f choice message) (told_after k e w f told)

  -- WHAT IS SHOWN of each instruction: the mask after it, if it has a value in each field, fits the edge that is taken
  abbrev pub Goal : Form → Type 0
  Goal f = Filled (after_mask f) → Leads (edge_of k s.engine f m) (after_mask f)

  -- the mask before it, with what a core has beside the request: head, summ, acks and flags
  abbrev pub beside : Core → Option Deferred → Sets
  beside core deferred = record m {
    stage = stage_of told.transaction deferred;
    head = only (head_value core.head);
    gp = gp_of s.engine.directory k core.head;
    summ = only core.summ;
    acks = only (number_of (nat_lt 0 core.acks));
    f0 = only (number_of (flag core 0));
    f1 = only (number_of (flag core 1));
    f2 = only (number_of (flag core 2));
    f3 = only (number_of (flag core 3));
  }

  -- an instruction that is no action, and leaves the request and the directory
  pub idle-mask : (f : Form) → action_at k e w f ≡ served_action k e e.held told.transaction w f
      → ((h : Held) (other : Transaction) → action_of k e h other w f ≡ Some Idles)
      → directory_after k s.engine f ≡ directory_for_held k s.engine.directory e.held f
      → ((h : Held) → directory_for k s.engine.directory h f ≡ s.engine.directory)
      → (core_after k s.engine f choice message).held ≡ e.held
      → after_mask f ≡ beside (core_after k s.engine f choice message) (deferred_after k e f told.deferred)
  idle-mask f i j p q held =
      λ z. exact k (record { core = record (core_after k s.engine f choice message) { held = held z }; directory = directory z })
      (record { transaction = transaction z; deferred = deferred_after k e f told.deferred })
    where
      directory : directory_after k s.engine f ≡ s.engine.directory
      directory = p ∙ directory-kept k s.engine.directory f e.held q

      transaction : transaction_after w (action_at k e w f) ≡ told.transaction
      transaction = ap (transaction_after w) i ∙ transaction-kept k e w f e.held told.transaction j

  -- one that leaves all but the registers, and branches in vain if at all
  pub quiet-leads : (f : Form) → action_at k e w f ≡ served_action k e e.held told.transaction w f
      → ((h : Held) (other : Transaction) → action_of k e h other w f ≡ Some Idles)
      → directory_after k s.engine f ≡ directory_for_held k s.engine.directory e.held f
      → ((h : Held) → directory_for k s.engine.directory h f ≡ s.engine.directory)
      → (rs : List ℕ) × (core_but_place e (length (sends k s.engine f)) f choice message ≡ record e { registers = rs })
      → deferred_after k e f told.deferred ≡ told.deferred → edge_of k s.engine f m ≡ existing m → Goal f
  quiet-leads f i j p q same d edge filled =
      subst (λ (x : Option Sets). Leads x (after_mask f)) (sym edge)
      (leads-path m (after_mask f)
      (idle-mask f i j p q (ap (λ (core : Core). core.held) same.1)
      ∙ (λ z. beside (record (same.1 z) { place = next_place k s.engine f }) (d z))) filled)

  -- both edges are the mask's
  pub same-edge : (b : Bool) → (if b then existing m else existing m) ≡ existing m
  same-edge true = refl
  same-edge false = refl
