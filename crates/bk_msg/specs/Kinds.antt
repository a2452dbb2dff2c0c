-- The numbers of the kinds.
use Rattle.std.specs.Prelude.{ℕ, Option, Some, None, List, [], ◌∷◌, ◌==◌, if◌then◌else◌}
use Rattle.bk_msg.specs.declared.kind.Kind.{Kind}
use Rattle.bk_msg.specs.declared.kind.Kind.TheVariants.{Rd, Wr, UcRd, UcWr, Evict, Inv, StWb, StTr, Blk, StWake, UcBlk, UcDone, Done, Fill, InvAck, CohAck, Wb, NullWb, Read, Write, WriteWord, Block}

abbrev pub kind_code : Kind → ℕ
kind_code Rd = 0x01
kind_code Wr = 0x02
kind_code UcRd = 0x03
kind_code UcWr = 0x04
kind_code Evict = 0x05
kind_code Inv = 0x11
kind_code StWb = 0x12
kind_code StTr = 0x13
kind_code Blk = 0x14
kind_code StWake = 0x15
kind_code UcBlk = 0x16
kind_code UcDone = 0x17
kind_code Done = 0x18
kind_code Fill = 0x21
kind_code InvAck = 0x31
kind_code CohAck = 0x32
kind_code Wb = 0x33
kind_code NullWb = 0x34
kind_code Read = 0x41
kind_code Write = 0x42
kind_code WriteWord = 0x43
kind_code Block = 0x44

-- each kind, in the order of the numbers
abbrev pub kinds : List Kind
kinds = Rd ∷ Wr ∷ UcRd ∷ UcWr ∷ Evict ∷ Inv ∷ StWb ∷ StTr ∷ Blk ∷ StWake ∷ UcBlk ∷ UcDone ∷ Done ∷ Fill ∷ InvAck
    ∷ CohAck ∷ Wb ∷ NullWb
    ∷ Read ∷ Write ∷ WriteWord ∷ Block ∷ []

abbrev pub with_code : ℕ → List Kind → Option Kind
with_code n [] = None
with_code n (k ∷ ks) = if n == kind_code k then Some k else with_code n ks

-- the kind with a number
abbrev pub kind_of_code : ℕ → Option Kind
kind_of_code n = with_code n kinds
