-- The exact mask has a value in each field.
use Rattle.std.proofs.Common.{◌≡◌, ℕ, ◌==◌, Bool, true, false, refl, arith, Option, Some, None}
use Rattle.std.specs.Prelude.{if◌then◌else◌}
use Rattle.bk_base.specs.Places.{Shape}
use Rattle.bk_base.specs.States.{is_readable, is_writable}
use Rattle.bk_base.specs.declared.coh.Coh.{Coh}
use Rattle.bk_know.specs.Sets.{only}
use Rattle.bk_know.specs.declared.values.TheConstants.{STAGE_HELD, STAGE_CLOSING, MEM_WRITTEN, GP_FREE}
use Rattle.bk_flow.specs.Flow.{only_debt, only_down}
use Rattle.bk_order.proofs.Filled.{Filled, filled-some}
use Rattle.bk_order.proofs.Subsets.{only-some}
use Rattle.bk_dir.specs.Contents.{Contents}
use Rattle.bk_engine.specs.declared.parts.Head.{Head}
use Rattle.bk_engine.specs.Heads.{head_value}
use Rattle.bk_engine.specs.Reads.{gp_value}
use Rattle.bk_system.specs.State.{State}
use Rattle.bk_machine.specs.Entries.{Entry}
use Rattle.bk_machine.specs.Invariant.{RecordOf}
use Rattle.bk_machine.specs.Transactions.{WriteBack, Idle, FlushAsked, FlushKept, Reading, NotRead, ReadAsked, Got, Debt, Transaction}
use Rattle.bk_exact.specs.Told.{Told, Deferred}
use Rattle.bk_exact.specs.Exact.{exact, stage_of, write_back_value, reading_value, requester_debt_value, owner_debt_value, wb_of, mem_of, dreq_of, down_of, gp_of}
use Rattle.bk_exact.specs.Runs.{ExactAreSome}
use Rattle.bk_exact.specs.Ties.{Tied, told_world}

-- either of two sets that have a value
if-some : (b : Bool) (number n : ℕ) → (number == 0) ≡ false → (n == 0) ≡ false → ((if b then number else n) == 0) ≡ false
if-some true number n p q = p
if-some false number n p q = q

-- THE FIELDS of the transaction, and gp
stage-some : (x : Option (ℕ × Transaction)) (d : Option Deferred) → (stage_of x d == 0) ≡ false
stage-some None None = refl
stage-some None (Some d) = refl
stage-some (Some x) d = if-some x.1.granted STAGE_CLOSING STAGE_HELD refl refl

gp-some : (d : Contents) (k : Shape) (o : Option Head) → (gp_of d k o == 0) ≡ false
gp-some d k o = if-some (head_value o == 1) (only (gp_value k d o)) GP_FREE (only-some (gp_value k d o)) refl

wb-some : (x : Option (ℕ × Transaction)) → (wb_of x == 0) ≡ false
wb-some None = refl
wb-some (Some x) = lem x.1.write_back
  where
    lem : (b : WriteBack) → (write_back_value b == 0) ≡ false
    lem Idle = refl
    lem FlushAsked = refl
    lem (FlushKept b) = refl

mem-some : (x : Option (ℕ × Transaction)) → (mem_of x == 0) ≡ false
mem-some None = refl
mem-some (Some x) = if-some x.1.written MEM_WRITTEN (reading_value x.1.reading) refl (lem x.1.reading)
  where
    lem : (r : Reading) → (reading_value r == 0) ≡ false
    lem NotRead = refl
    lem ReadAsked = refl
    lem (Got ws) = refl

-- what is owed to the requester's entry is a state that may be read, and to the owner's one that may not be written
debt-some : (y : Coh) → is_readable y ≡ true → (only_debt y == 0) ≡ false
debt-some y e = grind arith

down-state : (y : Coh) → is_writable y ≡ false → (only_down y == 0) ≡ false
down-state y e = grind arith

-- by the machine's record of the debts
dreq-some : (k : Shape) (x : Option (ℕ × Transaction)) (d : ℕ → ℕ → ℕ → Entry) → RecordOf k x d
    → (dreq_of x == 0) ≡ false
dreq-some k None d r = refl
dreq-some k (Some x) d r = go x.1.requester_debt refl
  where
    go : (o : Option Debt) → x.1.requester_debt ≡ o → (requester_debt_value o == 0) ≡ false
    go None i = refl
    go (Some b) i = debt-some b.entry.state (r.requester b i).holds.is_valid

down-some : (k : Shape) (x : Option (ℕ × Transaction)) (d : ℕ → ℕ → ℕ → Entry) → RecordOf k x d
    → (down_of x == 0) ≡ false
down-some k None d r = refl
down-some k (Some x) d r = go x.1.owner_debt refl
  where
    go : (o : Option Debt) → x.1.owner_debt ≡ o → (owner_debt_value o == 0) ≡ false
    go None i = refl
    go (Some b) i = down-state b.entry.state (r.owner b i).weaker

-- Most fields hold the one value that the engine has now; the others have a value in each case of the transaction. A debt has one
-- because the machine's record lets the requester be owed only a valid state, and the owner only one that may not be written.
pub exact-filled : (k : Shape) (s : State) (told : Told) → Tied k s told → Filled (exact k s.engine told)
exact-filled k s told tied = record {
  stage = stage-some told.transaction told.deferred;
  head = only-some _;
  gp = gp-some s.engine.directory k s.engine.core.head;
  kind = only-some _;
  summ = only-some _;
  own = only-some _;
  owner = only-some _;
  others = only-some _;
  victim = only-some _;
  acks = only-some _;
  wb = wb-some told.transaction;
  mem = mem-some told.transaction;
  dreq = dreq-some k told.transaction (told_world k s told).directory tied.invariant.recorded;
  down = down-some k told.transaction (told_world k s told).directory tied.invariant.recorded;
  f0 = only-some _;
  f1 = only-some _;
  f2 = only-some _;
  f3 = only-some _;
}

pub exact-some : ExactAreSome
exact-some k n told tied = filled-some (exact k n.engine told) (exact-filled k n told tied)
