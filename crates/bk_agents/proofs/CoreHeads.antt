-- The head that the engine holds, after an instruction.
use Rattle.std.proofs.Common.{◌≡◌, ℕ, refl, Option, Some, None}
use Rattle.bk_isa.specs.declared.form.Form.{Form}
use Rattle.bk_isa.specs.declared.form.Form.TheVariants.{Add, Sub, And, Or, Xor, Shl, Shr, Addi, Not, Neg, Mov, Movi, Mova, Movs, Movw, Movk, Sf, Cf, Nf, Movf, Andf, Orf, Rdw, Gad, Fin, Inv, Memwb}
use Rattle.bk_msg.specs.declared.row.Row.{Row}
use Rattle.bk_msg.specs.declared.row.Row.TheVariants as rows
use Rattle.bk_engine.specs.declared.parts.Core.{Core}
use Rattle.bk_engine.specs.declared.parts.Head.{Head}
use Rattle.bk_engine.specs.declared.parts.Held.{Held}
use Rattle.bk_engine.specs.Changes.{after_arithmetic, after_move, after_flag, after_held_read, after_request_read, after_service, after_take, after_pop}
use Rattle.bk_engine.specs.Heads.{request_of}

arithmetic-head : (core : Core) (f : Form) → (after_arithmetic core f).head ≡ core.head
arithmetic-head core (Add a b c) = refl
arithmetic-head core (Sub a b c) = refl
arithmetic-head core (And a b c) = refl
arithmetic-head core (Or a b c) = refl
arithmetic-head core (Xor a b c) = refl
arithmetic-head core (Shl a b imm) = refl
arithmetic-head core (Shr a b imm) = refl
arithmetic-head core (Addi a b imm) = refl
arithmetic-head core f = refl

moves-head : (core : Core) (f : Form) → (after_move core f).head ≡ core.head
moves-head core (Not a b) = refl
moves-head core (Neg a b) = refl
moves-head core (Mov a b) = refl
moves-head core (Movi a imm) = refl
moves-head core (Movk a) = refl
moves-head core f = arithmetic-head core f

flags-head : (core : Core) (f : Form) → (after_flag core f).head ≡ core.head
flags-head core (Sf a) = refl
flags-head core (Cf a) = refl
flags-head core (Nf a) = refl
flags-head core (Movf a b) = refl
flags-head core (Andf a b) = refl
flags-head core (Orf a b) = refl
flags-head core f = moves-head core f

held-head : (core : Core) (held : Held) (f : Form) → (after_held_read core held f).head ≡ core.head
held-head core held (Mova a) = refl
held-head core held (Movs a) = refl
held-head core held (Movw a) = refl
held-head core held f = refl

request-head : (core : Core) (o : Option Held) (f : Form) → (after_request_read core o f).head ≡ core.head
request-head core None f = refl
request-head core (Some held) f = held-head core held f

pub serves-head : (core : Core) (sent : ℕ) (f : Form) → (after_service core sent f).head ≡ core.head
serves-head core sent Rdw = refl
serves-head core sent Gad = refl
serves-head core sent Fin = refl
serves-head core sent (Inv a) = refl
serves-head core sent Memwb = refl
serves-head core sent (Mova a) = request-head core core.held (Mova a)
serves-head core sent (Movs a) = request-head core core.held (Movs a)
serves-head core sent (Movw a) = request-head core core.held (Movw a)
serves-head core sent f = flags-head core f

took-head : (core : Core) (o : Option Held) (m : Row) → (after_take core o m).head ≡ core.head
took-head core (Some held) m = refl
took-head core None (rows.InvAck c v addr) = refl
took-head core None (rows.Wb c v addr words) = refl
took-head core None (rows.Block c v addr words) = refl
took-head core None m = refl

-- a head that was popped is looked at no more
pub popped-none : (core : Core) (o : Option Head) → core.head ≡ o → (after_pop core o).head ≡ None
popped-none core None h = h
popped-none core (Some head) h = took-head (record core { head = None }) (request_of head.choice.source head.message) head.message
