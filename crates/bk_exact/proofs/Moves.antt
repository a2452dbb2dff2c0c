-- What an instruction does to the machine, and to what agrees with it.
use Rattle.std.proofs.Common.{◌≡◌, ℕ, true, length, Option, Some, None, refl, sym, ap, ◌∙◌, subst}
use Rattle.bk_base.specs.Places.{Shape}
use Rattle.bk_isa.specs.declared.form.Form.{Form}
use Rattle.bk_msg.specs.declared.row.Row.{Row}
use Rattle.bk_engine.specs.declared.parts.Choice.{Choice}
use Rattle.bk_engine.specs.declared.parts.Core.{Core}
use Rattle.bk_engine.specs.declared.parts.Held.{Held}
use Rattle.bk_engine.specs.Changes.{core_after}
use Rattle.bk_system.specs.State.{State}
use Rattle.bk_machine.specs.Actions.{action_after}
use Rattle.bk_machine.specs.Messages.{request_way}
use Rattle.bk_machine.specs.Transactions.{NotRead, Transaction}
use Rattle.bk_machine.specs.World.{World}
use Rattle.bk_bridge.specs.Effects.{done_by}
use Rattle.bk_exact.specs.Told.{Told, Deferred}
use Rattle.bk_exact.specs.Agrees.{KeptAlike, GotAlike, IsClosed, ServesHeld, ServesTold, AgreesWith, LeavesDeferred}
use Rattle.bk_exact.specs.After.{told_after, deferred_after}
use Rattle.bk_exact.specs.Runs.{Acts}
use Rattle.bk_exact.specs.Ties.{told_world}

-- An instruction that takes no head off is a permitted action; what it does to the machine is what the action does; and engine and
-- deferred request agree with what is told after it.
pub record Moves (k : Shape) (s : State) (told : Told) (f : Form) : Type 0 where
  pub acts : Acts k s told f
  pub alike : record (done_by k s.engine.core f (told_world k s told))
      { transaction = (action_after acts.group acts.action (told_world k s told)).transaction }
      ≡ action_after acts.group acts.action (told_world k s told)
  pub agrees : (choice : Choice) (message : Option Row)
      → AgreesWith k (core_after k s.engine f choice message) (told_after k s.engine.core (told_world k s told) f told)
  pub left : LeavesDeferred (action_after acts.group acts.action (told_world k s told)) (deferred_after k s.engine.core f told.deferred)

-- The same request is served by another core, and for another record of its transaction.
pub serves-as : (k : Shape) (core later_core : Core) (h : Held) (g : ℕ) (x other : Transaction) → ServesHeld k core h g x
    → other.cache ≡ x.cache → other.request ≡ x.request
    → later_core.acks ≡ length other.waiting → KeptAlike k g later_core.dirty other.write_back
    → GotAlike later_core.got other.reading
    → (other.written ≡ true → other.reading ≡ NotRead)
    → (other.granted ≡ true → IsClosed later_core) → ServesHeld k later_core h g other
serves-as k core later_core h g x other a i j acks kept got written closed = record {
  group = a.group;
  serves = record { cache = i ∙ a.serves.cache; request = j ∙ a.serves.request; way = ap request_way j ∙ a.serves.way };
  acks = acks;
  kept = kept;
  got = got;
  written = written;
  closed = closed;
}

-- what agrees is carried along equal requests and equal transactions
pub told-serves : (k : Shape) (core : Core) (o p : Option Held) (x y : Option (ℕ × Transaction)) → o ≡ p → x ≡ y
    → ServesTold k core p y
    → ServesTold k core o x
told-serves k core o p x y i j h = subst (λ (q : Option Held). ServesTold k core q x) (sym i) (subst (ServesTold k core p) (sym j) h)

-- while a transaction is served, no request is deferred
pub no-deferred : (world : World) (d : Option Deferred) (x : ℕ × Transaction) → LeavesDeferred world d
    → world.transaction ≡ Some x → d ≡ None
no-deferred world None x h e = refl
no-deferred world (Some d) x h e = absurd (let q = h.none in cc)

-- where none is deferred, none has to stand
pub none-left : (world : World) (d : Option Deferred) → d ≡ None → LeavesDeferred world d
none-left world d e = subst (LeavesDeferred world) (sym e) tt
