-- The exact mask of a state: of each field the one value that it has.
use Rattle.std.specs.Prelude.{ℕ, ◌==◌, nat_lt, if◌then◌else◌, Option, Some, None}
use Rattle.bk_base.specs.Places.{Shape}
use Rattle.bk_dir.specs.Contents.{Contents}
use Rattle.bk_know.specs.declared.sets.Sets.{Sets}
use Rattle.bk_know.specs.Sets.{only}
use Rattle.bk_know.specs.declared.values.TheConstants.{STAGE_IDLE, STAGE_BLOCKED, STAGE_HELD, STAGE_CLOSING, GP_FREE, WB_IDLE, WB_ASKED, WB_DIRTY, MEM_IDLE, MEM_ASKED, MEM_GOT, MEM_WRITTEN, DREQ_PAID, DOWN_PAID}
use Rattle.bk_know.specs.declared.fields.TheConstants.{FIELD_OWN, FIELD_OWNER, FIELD_OTHERS, FIELD_VICTIM}
use Rattle.bk_flow.specs.Flow.{only_debt, only_down}
use Rattle.bk_engine.specs.declared.heads.TheConstants as heads
use Rattle.bk_engine.specs.declared.parts.Head.{Head}
use Rattle.bk_engine.specs.declared.parts.Held.{Held}
use Rattle.bk_engine.specs.Engine.{EngineState}
use Rattle.bk_engine.specs.Heads.{head_value}
use Rattle.bk_engine.specs.Reads.{flag, number_of, gp_value, kind_value, held_value}
use Rattle.bk_machine.specs.Transactions.{WriteBack, Idle, FlushAsked, FlushKept, Reading, NotRead, ReadAsked, Got, Debt, Transaction}
use Rattle.bk_exact.specs.Told.{Told, Deferred}

-- THE TRANSACTION'S FIELDS, where there is one

-- a request is held from its `popq` on, and closes from its grant on; where none is held the engine is idle, or blocked by a request
-- that it has deferred
abbrev pub stage_of : Option (ℕ × Transaction) → Option Deferred → ℕ
stage_of (Some x) deferred = if x.1.granted then STAGE_CLOSING else STAGE_HELD
stage_of None (Some d) = STAGE_BLOCKED
stage_of None None = STAGE_IDLE

-- the values of the fields that the engine itself doesn't keep: wb, mem, dreq and down
abbrev pub write_back_value : WriteBack → ℕ
write_back_value Idle = WB_IDLE
write_back_value FlushAsked = WB_ASKED
write_back_value (FlushKept b) = WB_DIRTY

abbrev pub reading_value : Reading → ℕ
reading_value NotRead = MEM_IDLE
reading_value ReadAsked = MEM_ASKED
reading_value (Got words) = MEM_GOT

abbrev pub requester_debt_value : Option Debt → ℕ
requester_debt_value None = DREQ_PAID
requester_debt_value (Some d) = only_debt d.entry.state

abbrev pub owner_debt_value : Option Debt → ℕ
owner_debt_value None = DOWN_PAID
owner_debt_value (Some d) = only_down d.entry.state

abbrev pub wb_of : Option (ℕ × Transaction) → ℕ
wb_of None = WB_IDLE
wb_of (Some x) = write_back_value x.1.write_back

abbrev pub mem_of : Option (ℕ × Transaction) → ℕ
mem_of None = MEM_IDLE
mem_of (Some x) = if x.1.written then MEM_WRITTEN else reading_value x.1.reading

abbrev pub dreq_of : Option (ℕ × Transaction) → ℕ
dreq_of None = DREQ_PAID
dreq_of (Some x) = requester_debt_value x.1.requester_debt

abbrev pub down_of : Option (ℕ × Transaction) → ℕ
down_of None = DOWN_PAID
down_of (Some x) = owner_debt_value x.1.owner_debt

-- whether the group of a request at the head is pending; free where the head is no request
abbrev pub gp_of : Contents → Shape → Option Head → ℕ
gp_of d k head = if head_value head == heads.HEAD_REQUEST then only (gp_value k d head) else GP_FREE

-- THE EXACT MASK: what `bk` tests of head, kind, own, owner, others, victim, acks and the flags is the engine's own field, by the number
-- of its value; where no request is held, kind, own, owner, others and victim have their first value. The stage, wb, mem, dreq and down
-- are what is told of the transaction.
abbrev pub exact_of : Shape → EngineState → Option Held → Option (ℕ × Transaction) → Option Deferred → Sets
exact_of k engine held transaction deferred = record {
  stage = stage_of transaction deferred;
  head = only (head_value engine.core.head);
  gp = gp_of engine.directory k engine.core.head;
  kind = only (kind_value held);
  summ = only engine.core.summ;
  own = only (held_value k engine.directory held FIELD_OWN);
  owner = only (held_value k engine.directory held FIELD_OWNER);
  others = only (held_value k engine.directory held FIELD_OTHERS);
  victim = only (held_value k engine.directory held FIELD_VICTIM);
  acks = only (number_of (nat_lt 0 engine.core.acks));
  wb = wb_of transaction;
  mem = mem_of transaction;
  dreq = dreq_of transaction;
  down = down_of transaction;
  f0 = only (number_of (flag engine.core 0));
  f1 = only (number_of (flag engine.core 1));
  f2 = only (number_of (flag engine.core 2));
  f3 = only (number_of (flag engine.core 3));
}

-- of the request that the engine holds
abbrev pub exact : Shape → EngineState → Told → Sets
exact k engine told = exact_of k engine engine.core.held told.transaction told.deferred
