-- The network, the address and the receiver of each kind of message.
use Rattle.std.specs.Prelude.{ℕ}
use Rattle.bk_msg.specs.declared.row.Row.{Row}
use Rattle.bk_msg.specs.declared.row.Row.TheVariants.{Rd, Wr, UcRd, UcWr, Evict, Inv, StWb, StTr, Blk, StWake, UcBlk, UcDone, Done, Fill, InvAck, CohAck, Wb, NullWb, Read, Write, WriteWord, Block}
use Rattle.bk_msg.specs.declared.row.Network.{Network}
use Rattle.bk_msg.specs.declared.row.Network.TheVariants as networks

abbrev pub network_of : Row → Network
network_of (Rd _ _ _ _) = networks.Request
network_of (Wr _ _ _ _) = networks.Request
network_of (UcRd _ _ _) = networks.Request
network_of (UcWr _ _ _ _) = networks.Request
network_of (Evict _ _ _ _) = networks.Request
network_of (Inv _ _ _) = networks.Command
network_of (StWb _ _ _ _) = networks.Command
network_of (StTr _ _ _ _ _ _ _) = networks.Command
network_of (Blk _ _ _ _ _ _) = networks.Command
network_of (StWake _ _ _ _ _) = networks.Command
network_of (UcBlk _ _ _ _) = networks.Command
network_of (UcDone _ _ _) = networks.Command
network_of (Done _ _ _) = networks.Command
network_of (Fill _ _ _ _ _ _) = networks.Fill
network_of (InvAck _ _ _) = networks.Response
network_of (CohAck _ _ _) = networks.Response
network_of (Wb _ _ _ _) = networks.Response
network_of (NullWb _ _ _) = networks.Response
network_of (Read _ _ _) = networks.Memout
network_of (Write _ _ _ _) = networks.Memout
network_of (WriteWord _ _ _ _) = networks.Memout
network_of (Block _ _ _ _) = networks.Memin

-- the address that a message is about
abbrev pub address_of : Row → ℕ
address_of (Rd _ _ _ addr) = addr
address_of (Wr _ _ _ addr) = addr
address_of (UcRd _ _ addr) = addr
address_of (UcWr _ _ addr _) = addr
address_of (Evict _ _ _ addr) = addr
address_of (Inv _ _ addr) = addr
address_of (StWb _ _ _ addr) = addr
address_of (StTr _ _ _ _ _ _ addr) = addr
address_of (Blk _ _ _ _ addr _) = addr
address_of (StWake _ _ _ _ addr) = addr
address_of (UcBlk _ _ addr _) = addr
address_of (UcDone _ _ addr) = addr
address_of (Done _ _ addr) = addr
address_of (Fill _ _ _ _ addr _) = addr
address_of (InvAck _ _ addr) = addr
address_of (CohAck _ _ addr) = addr
address_of (Wb _ _ addr _) = addr
address_of (NullWb _ _ addr) = addr
address_of (Read _ _ addr) = addr
address_of (Write _ _ addr _) = addr
address_of (WriteWord _ _ addr _) = addr
address_of (Block _ _ addr _) = addr

-- who receives a message
abbrev pub receiver_of : Row → ℕ
receiver_of (Rd _ to _ _) = to
receiver_of (Wr _ to _ _) = to
receiver_of (UcRd _ to _) = to
receiver_of (UcWr _ to _ _) = to
receiver_of (Evict _ to _ _) = to
receiver_of (Inv _ to _) = to
receiver_of (StWb _ to _ _) = to
receiver_of (StTr _ to _ _ _ _ _) = to
receiver_of (Blk _ to _ _ _ _) = to
receiver_of (StWake _ to _ _ _) = to
receiver_of (UcBlk _ to _ _) = to
receiver_of (UcDone _ to _) = to
receiver_of (Done _ to _) = to
receiver_of (Fill _ to _ _ _ _) = to
receiver_of (InvAck _ to _) = to
receiver_of (CohAck _ to _) = to
receiver_of (Wb _ to _ _) = to
receiver_of (NullWb _ to _) = to
receiver_of (Read _ to _) = to
receiver_of (Write _ to _ _) = to
receiver_of (WriteWord _ to _ _) = to
receiver_of (Block _ to _ _) = to
