-- An instruction that doesn't halt runs, unless it is a `wfq`.
use Rattle.std.proofs.Common.{◌≡◌, ℕ, Bool, true, false, ◌==◌, ◌&&◌, refl, Option, Some, None}
use Rattle.std.specs.Prelude.{is_none, is_some, nat_lt}
use Rattle.bk_base.specs.Places.{Shape}
use Rattle.bk_isa.specs.declared.form.Form.{Form}
use Rattle.bk_isa.specs.declared.form.Form.TheVariants as forms
use Rattle.bk_msg.specs.declared.row.Row.{Row}
use Rattle.bk_engine.specs.declared.parts.Choice.{Choice}
use Rattle.bk_engine.specs.declared.parts.Core.{Core}
use Rattle.bk_engine.specs.declared.parts.Head.{Head}
use Rattle.bk_engine.specs.declared.stop.Halt.{Halt}
use Rattle.bk_engine.specs.declared.stop.Halt.TheVariants as halts
use Rattle.bk_engine.specs.declared.stop.Stop.{Stop}
use Rattle.bk_engine.specs.declared.stop.Stop.TheVariants.{Waits, Halts}
use Rattle.bk_engine.specs.Engine.{EngineState}
use Rattle.bk_engine.specs.Heads.{head_number, head_value}
use Rattle.bk_engine.specs.Reads.{has_owner, is_of_summary}
use Rattle.bk_engine.specs.Stops.{halts_unless, pop_stop, branch_stop, entry_stop, named_entry, block_stop, request_stop, push_stop, directory_stop, form_stop}
use Rattle.bk_system.specs.Events.{is_wait}
use Rattle.bk_system.specs.State.{State}
use Rattle.bk_bridge.proofs.Formed.{cond-all}

-- an instruction doesn't halt
abbrev pub FormRuns : Shape → State → Form → Type 0
FormRuns k s f = (choice : Choice) (message : Option Row) (reason : Halt)
    → form_stop k s.engine f choice message ≡ Some (Halts reason) → ⊥

abbrev waits : Option Stop → Bool
waits (Some (Waits classes)) = true
waits o = false

abbrev Busy : Option Stop → Type 0
Busy o = waits o ≡ false

unless : (b : Bool) (r : Halt) (later : Option Stop) → Busy later → Busy (halts_unless b r later)
unless b r later h = cond-all Busy b later (Some (Halts r)) h refl

pop : (core : Core) (o : Option Head) → Busy (pop_stop core o)
pop core None = refl
pop core (Some head) =
    cond-all Busy (head_number head.message == 1) _ _ (unless (is_none core.held) halts.Request None refl)
    (cond-all Busy (head_number head.message == 2) _ _ (unless (nat_lt 0 core.acks) halts.Acks None refl)
    (cond-all Busy (head_number head.message == 4) _ _ (unless (is_none core.dirty) halts.Block None refl)
    (cond-all Busy (head_number head.message == 7) _ _ refl refl)))

branch : (core : Core) (field : ℕ) → Busy (branch_stop core field)
branch core field =
    cond-all Busy (field == 3) _ _ (unless (head_value core.head == 1) halts.Head None refl)
    (cond-all Busy (field == 4) _ _ (unless (is_some core.held) halts.Request None refl)
    (cond-all Busy (is_of_summary field) _ _ (unless (nat_lt 1 core.summ) halts.Summary None refl) refl))

request : (core : Core) → Busy (request_stop core)
request core = unless (is_some core.held) halts.Request None refl

block : (core : Core) → Busy (block_stop core)
block core = unless (is_some core.held) halts.Request _ (unless (is_some core.got) halts.Block None refl)

entry : (core : Core) (b : Bool) → Busy (entry_stop core b)
entry core b = unless (nat_lt 1 core.summ) halts.Summary _ (unless b halts.Target None refl)

push : (core : Core) (f : Form) → Busy (push_stop core f)
push core (forms.Blk _) = block core
push core forms.Ucblk = block core
push core forms.Wake = request core
push core forms.Ucdone = request core
push core forms.Done = request core
push core forms.Memrd = request core
push core forms.Memww = request core
push core forms.Memwb = unless (is_some core.dirty) halts.Block None refl
push core f = refl

directory : (k : Shape) (engine : EngineState) (f : Form) → Busy (directory_stop k engine f)
directory k engine forms.Rdw = request engine.core
directory k engine forms.Gad = unless (nat_lt 0 engine.core.summ) halts.Summary None refl
directory k engine (forms.Wde _) = request engine.core
directory k engine (forms.Wds who _) = entry engine.core (named_entry k engine.directory engine.core.held who)
directory k engine forms.Fin = request engine.core
directory k engine (forms.Inv _) = unless (nat_lt 1 engine.core.summ) halts.Summary None refl
directory k engine (forms.Stwb who _) = entry engine.core (named_entry k engine.directory engine.core.held who)
directory k engine (forms.Tr _ _) = entry engine.core (has_owner k engine.directory engine.core.held)
directory k engine f = push engine.core f

form : (k : Shape) (engine : EngineState) (f : Form) (choice : Choice) (message : Option Row) → is_wait (Some f) ≡ false
    → Busy (form_stop k engine f choice message)
form k engine (forms.Mova _) choice message e = request engine.core
form k engine (forms.Movs _) choice message e = request engine.core
form k engine (forms.Movw _) choice message e = request engine.core
form k engine (forms.Bk field _ _) choice message e = branch engine.core field
form k engine (forms.Wfq classes) choice message e = absurd (cc)
form k engine (forms.Popq _) choice message e = pop engine.core engine.core.head
form k engine forms.Defer choice message e = unless (head_value engine.core.head == 1) halts.Head None refl
form k engine f choice message e = directory k engine f

-- neither waits nor halts
pub runs-on : (k : Shape) (s : State) (f : Form) (choice : Choice) (message : Option Row) → is_wait (Some f) ≡ false → FormRuns k s f
    → form_stop k s.engine f choice message ≡ None
runs-on k s f choice message w h = go (form_stop k s.engine f choice message) refl
  where
    go : (o : Option Stop) → form_stop k s.engine f choice message ≡ o → o ≡ None
    go None e = refl
    go (Some (Waits c)) e = absurd (lem (form k s.engine f choice message w))
      where
        lem : waits (form_stop k s.engine f choice message) ≡ false → ⊥
        lem i = cc (e, i)
    go (Some (Halts r)) e = absurd (h choice message r e)
