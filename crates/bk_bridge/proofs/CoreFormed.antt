-- What an instruction leaves of the engine's own copies is well formed.
use Rattle.std.proofs.Common.{◌≡◌, ℕ, Bool, ◌∙◌, List, length, Option, Some, None, IfSome, length-set}
use Rattle.bk_base.specs.Places.{Shape, InProfile, IsAddr}
use Rattle.bk_isa.specs.declared.form.Form.{Form}
use Rattle.bk_isa.specs.declared.form.Form.TheVariants.{Add, Sub, And, Or, Xor, Shl, Shr, Addi, Not, Neg, Mov, Movi, Mova, Movs, Movw, Movk, Sf, Cf, Nf, Movf, Andf, Orf, Rdw, Gad, Fin, Wfq, Popq, Defer, Inv, Memwb}
use Rattle.bk_msg.specs.declared.row.Row.{Row}
use Rattle.bk_msg.specs.declared.row.Row.TheVariants as rows
use Rattle.bk_engine.specs.declared.parts.Choice.{Choice}
use Rattle.bk_engine.specs.declared.parts.Core.{Core}
use Rattle.bk_engine.specs.declared.parts.Head.{Head}
use Rattle.bk_engine.specs.declared.parts.Held.{Held}
use Rattle.bk_engine.specs.Engine.{EngineState}
use Rattle.bk_engine.specs.Heads.{request_of}
use Rattle.bk_engine.specs.Sends.{sends}
use Rattle.bk_engine.specs.Changes.{after_arithmetic, after_move, after_held_read, after_request_read, with_flag, after_flag, after_take, after_pop, after_wait, after_service, core_but_place, core_after, directory_after}
use Rattle.bk_bridge.specs.Formed.{IsWhole, WellFormedEngine}
use Rattle.bk_bridge.proofs.Tags.{directory_below}

-- the parts of the engine that are no directory
pub record FormedCore (core : Core) : Type 0 where
  pub head : IfSome core.head (λ h. IsWhole h.message)
  pub held : IfSome core.held (λ h. IsAddr h.addr)
  pub dirty : IfSome core.dirty (λ d. IsAddr d.addr × (length d.words ≡ 8))
  pub got : IfSome core.got (λ words. length words ≡ 8)
  pub flags : length core.flags ≡ 4

-- registers say nothing of them, and a flag that is written leaves their count
by_registers : (core : Core) (r : List ℕ) → FormedCore core → FormedCore (record core { registers = r })
by_registers core r h = record { head = h.head; held = h.held; dirty = h.dirty; got = h.got; flags = h.flags }

by_flag : (core : Core) (a : ℕ) (value : Bool) → FormedCore core → FormedCore (with_flag core a value)
by_flag core a value h = record {
  head = h.head;
  held = h.held;
  dirty = h.dirty;
  got = h.got;
  flags = length-set core.flags a value ∙ h.flags;
}

arithmetic-formed : (core : Core) (f : Form) → FormedCore core → FormedCore (after_arithmetic core f)
arithmetic-formed core (Add a b c) h = by_registers core _ h
arithmetic-formed core (Sub a b c) h = by_registers core _ h
arithmetic-formed core (And a b c) h = by_registers core _ h
arithmetic-formed core (Or a b c) h = by_registers core _ h
arithmetic-formed core (Xor a b c) h = by_registers core _ h
arithmetic-formed core (Shl a b imm) h = by_registers core _ h
arithmetic-formed core (Shr a b imm) h = by_registers core _ h
arithmetic-formed core (Addi a b imm) h = by_registers core _ h
arithmetic-formed core f h = h

moves-formed : (core : Core) (f : Form) → FormedCore core → FormedCore (after_move core f)
moves-formed core (Not a b) h = by_registers core _ h
moves-formed core (Neg a b) h = by_registers core _ h
moves-formed core (Mov a b) h = by_registers core _ h
moves-formed core (Movi a imm) h = by_registers core _ h
moves-formed core (Movk a) h = by_registers core _ h
moves-formed core f h = arithmetic-formed core f h

held_read-formed : (core : Core) (held : Held) (f : Form) → FormedCore core → FormedCore (after_held_read core held f)
held_read-formed core held (Mova a) h = by_registers core _ h
held_read-formed core held (Movs a) h = by_registers core _ h
held_read-formed core held (Movw a) h = by_registers core _ h
held_read-formed core held f h = h

request_read-formed : (core : Core) (held : Option Held) (f : Form) → FormedCore core → FormedCore (after_request_read core held f)
request_read-formed core None f h = h
request_read-formed core (Some held) f h = held_read-formed core held f h

flags-formed : (core : Core) (f : Form) → FormedCore core → FormedCore (after_flag core f)
flags-formed core (Sf a) h = by_flag core a _ h
flags-formed core (Cf a) h = by_flag core a _ h
flags-formed core (Nf a) h = by_flag core a _ h
flags-formed core (Movf a b) h = by_flag core a _ h
flags-formed core (Andf a b) h = by_flag core a _ h
flags-formed core (Orf a b) h = by_flag core a _ h
flags-formed core f h = moves-formed core f h

-- QUEUES

-- the request of a message has its address
request-addr : (source : ℕ) (m : Row) → IsWhole m → IfSome (request_of source m) (λ h. IsAddr h.addr)
request-addr source (rows.Rd from to way addr) h = h.address
request-addr source (rows.Wr from to way addr) h = h.address
request-addr source (rows.UcRd from to addr) h = h.address
request-addr source (rows.UcWr from to addr word) h = h.address
request-addr source (rows.Evict from to way addr) h = h.address
request-addr source m h = tt

took-formed : (core : Core) (held : Option Held) (m : Row) → FormedCore core → IfSome held (λ h. IsAddr h.addr) → IsWhole m
    → FormedCore (after_take core held m)
took-formed core (Some held) m h a w = record { head = h.head; held = a; dirty = h.dirty; got = h.got; flags = h.flags }
took-formed core None (rows.InvAck from to addr) h a w = record {
  head = h.head;
  held = h.held;
  dirty = h.dirty;
  got = h.got;
  flags = h.flags;
}
took-formed core None (rows.Wb from to addr words) h a w = record {
  head = h.head;
  held = h.held;
  dirty = (w.address, w.block);
  got = h.got;
  flags = h.flags;
}
took-formed core None (rows.Block from to addr words) h a w =
    record { head = h.head; held = h.held; dirty = h.dirty; got = w.block; flags = h.flags }
took-formed core None m h a w = h

popped-formed : (core : Core) (head : Option Head) → FormedCore core → IfSome head (λ h. IsWhole h.message)
    → FormedCore (after_pop core head)
popped-formed core None h w = h
popped-formed core (Some head) h w =
    took-formed (record core { head = None }) (request_of head.choice.source head.message) head.message
    (record { head = tt; held = h.held; dirty = h.dirty; got = h.got; flags = h.flags }) (request-addr head.choice.source head.message w) w

waited-formed : (core : Core) (choice : Choice) (message : Option Row) → FormedCore core → IfSome message IsWhole
    → FormedCore (after_wait core choice message)
waited-formed core choice None h w = h
waited-formed core choice (Some m) h w = record { head = w; held = h.held; dirty = h.dirty; got = h.got; flags = h.flags }

-- THE REQUEST

serves-formed : (core : Core) (sent : ℕ) (f : Form) → FormedCore core → FormedCore (after_service core sent f)
serves-formed core sent Rdw h = record { head = h.head; held = h.held; dirty = h.dirty; got = h.got; flags = h.flags }
serves-formed core sent Gad h = record { head = h.head; held = h.held; dirty = h.dirty; got = h.got; flags = h.flags }
serves-formed core sent Fin h = record { head = h.head; held = tt; dirty = h.dirty; got = tt; flags = h.flags }
serves-formed core sent (Inv a) h = record { head = h.head; held = h.held; dirty = h.dirty; got = h.got; flags = h.flags }
serves-formed core sent Memwb h = record { head = h.head; held = h.held; dirty = tt; got = h.got; flags = h.flags }
serves-formed core sent (Mova a) h = request_read-formed core core.held (Mova a) h
serves-formed core sent (Movs a) h = request_read-formed core core.held (Movs a) h
serves-formed core sent (Movw a) h = request_read-formed core core.held (Movw a) h
serves-formed core sent f h = flags-formed core f h

changed-formed : (core : Core) (sent : ℕ) (f : Form) (choice : Choice) (message : Option Row) → FormedCore core
    → IfSome message IsWhole
    → FormedCore (core_but_place core sent f choice message)
changed-formed core sent (Wfq classes) choice message h w = waited-formed core choice message h w
changed-formed core sent (Popq wp) choice message h w = popped-formed core core.head h h.head
changed-formed core sent Defer choice message h w = record { head = tt; held = h.held; dirty = h.dirty; got = h.got; flags = h.flags }
changed-formed core sent f choice message h w = serves-formed core sent f h

core-formed : (k : Shape) (engine : EngineState) (f : Form) (choice : Choice) (message : Option Row) → FormedCore engine.core
    → IfSome message IsWhole
    → FormedCore (core_after k engine f choice message)
core-formed k engine f choice message h w =
    let new : FormedCore (core_but_place engine.core (length (sends k engine f)) f choice message)
    = changed-formed engine.core (length (sends k engine f)) f choice message h w in
    record { head = new.head; held = new.held; dirty = new.dirty; got = new.got; flags = new.flags }

-- THE ENGINE

pub engine-formed : (k : Shape) (engine : EngineState) (f : Form) (choice : Choice) (message : Option Row) → InProfile k
    → WellFormedEngine k engine
    → IfSome message IsWhole
    → WellFormedEngine k (record { core = core_after k engine f choice message; directory = directory_after k engine f })
engine-formed k engine f choice message p h w =
    let new : FormedCore (core_after k engine f choice message) = core-formed k engine f choice message
    (record { head = h.head; held = h.held; dirty = h.dirty; got = h.got; flags = h.flags }) w in
    record {
      head = new.head;
      held = new.held;
      dirty = new.dirty;
      got = new.got;
      flags = new.flags;
      entries = directory_below k engine f p h.held h.entries;
    }
