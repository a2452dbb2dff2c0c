-- The product's addresses, operations and messages, as the machine speaks of them: an address is its way group, the block's tag in
-- it and the word's place in the block.
use Rattle.std.specs.Prelude.{ℕ, ◌≡◌, true, List, Option, Some, None, get_or, is_some}
use Rattle.bk_base.specs.Places.{Shape, word_of, group_of, tag_at}
use Rattle.bk_base.specs.declared.op.Op.{Op as Operation}
use Rattle.bk_base.specs.declared.op.Op.TheVariants as ops
use Rattle.bk_base.specs.declared.op.Done.{Done as Completion}
use Rattle.bk_msg.specs.declared.row.Row.{Row}
use Rattle.bk_msg.specs.declared.row.Row.TheVariants as rows
use Rattle.bk_msg.specs.declared.row.Network.TheVariants as networks
use Rattle.bk_msg.specs.Networks.{network_of}
use Rattle.bk_machine.specs.Messages.{Op, whole, becomes, Load, Store, UcLoad, UcStore, Evict, Request, Rd, Wr, UcRd, UcWr, EvictRequest, ToCache, Inv, StWb, StTr, Blk, StWake, UcBlk, UcDone, EvictDone, FillMessage, Response, InvAck, CohAck, Wb, NullWb, ToMemory, Read, Write, WriteWord, MemoryBlock}
use Rattle.bk_machine.specs.Words.{Completed}

-- the words of a block by their places
abbrev pub words_of : List ℕ → ℕ → ℕ
words_of ws i = get_or ws i 0

-- an operation, with its way group
abbrev pub op_of : Shape → Operation → ℕ × Op
op_of k (ops.Load addr) = (group_of k addr, Load (tag_at k addr) (whole (word_of addr)))
op_of k (ops.Store addr value) = (group_of k addr, Store (tag_at k addr) (word_of addr) (becomes value))
op_of k (ops.UcLoad addr) = (group_of k addr, UcLoad (tag_at k addr) (whole (word_of addr)))
op_of k (ops.UcStore addr value) = (group_of k addr, UcStore (tag_at k addr) (word_of addr) (becomes value))
op_of k (ops.Evict addr) = (group_of k addr, Evict (tag_at k addr))

-- an entry of the history, with its way group
abbrev pub completed_of : Shape → Completion → ℕ × Completed
completed_of k d = let op = op_of k d.op in (op.0, record { cache = d.cache; op = op.1; answer = d.answer })

-- A message of each network, with its way group; none where it is of another network. Sender and receiver are the channel's.

abbrev pub as_request : Shape → Row → Option (ℕ × Request)
as_request k (rows.Rd _ _ way addr) = Some (group_of k addr, Rd (tag_at k addr) way)
as_request k (rows.Wr _ _ way addr) = Some (group_of k addr, Wr (tag_at k addr) way)
as_request k (rows.UcRd _ _ addr) = Some (group_of k addr, UcRd (tag_at k addr) (word_of addr))
as_request k (rows.UcWr _ _ addr word) = Some (group_of k addr, UcWr (tag_at k addr) (word_of addr) (becomes word))
as_request k (rows.Evict _ _ way addr) = Some (group_of k addr, EvictRequest (tag_at k addr) way)
as_request k m = None

-- StWake's state is always M, so the machine's message has none
abbrev pub as_command : Shape → Row → Option (ℕ × ToCache)
as_command k (rows.Inv _ _ addr) = Some (group_of k addr, Inv (tag_at k addr))
as_command k (rows.StWb _ _ state addr) = Some (group_of k addr, StWb (tag_at k addr) state)
as_command k (rows.StTr _ _ state peer peer_way peer_state addr) =
    Some (group_of k addr, StTr (tag_at k addr) state peer peer_way peer_state)
as_command k (rows.Blk _ _ way state addr words) = Some (group_of k addr, Blk (tag_at k addr) way state (words_of words))
as_command k (rows.StWake _ _ way _ addr) = Some (group_of k addr, StWake (tag_at k addr) way)
as_command k (rows.UcBlk _ _ addr word) = Some (group_of k addr, UcBlk (tag_at k addr) (word_of addr) word)
as_command k (rows.UcDone _ _ addr) = Some (group_of k addr, UcDone (tag_at k addr) (word_of addr))
as_command k (rows.Done _ _ addr) = Some (group_of k addr, EvictDone (tag_at k addr))
as_command k m = None

abbrev pub as_fill : Shape → Row → Option (ℕ × FillMessage)
as_fill k (rows.Fill _ _ way state addr words) =
    Some (group_of k addr, record { tag = tag_at k addr; way = way; state = state; words = words_of words })
as_fill k m = None

abbrev pub as_response : Shape → Row → Option (ℕ × Response)
as_response k (rows.InvAck _ _ addr) = Some (group_of k addr, InvAck (tag_at k addr))
as_response k (rows.CohAck _ _ addr) = Some (group_of k addr, CohAck (tag_at k addr))
as_response k (rows.Wb _ _ addr words) = Some (group_of k addr, Wb (tag_at k addr) (words_of words))
as_response k (rows.NullWb _ _ addr) = Some (group_of k addr, NullWb (tag_at k addr))
as_response k m = None

abbrev pub as_to_memory : Shape → Row → Option (ℕ × ToMemory)
as_to_memory k (rows.Read _ _ addr) = Some (group_of k addr, Read (tag_at k addr))
as_to_memory k (rows.Write _ _ addr words) = Some (group_of k addr, Write (tag_at k addr) (words_of words))
as_to_memory k (rows.WriteWord _ _ addr word) = Some (group_of k addr, WriteWord (tag_at k addr) (word_of addr) (becomes word))
as_to_memory k m = None

abbrev pub as_block : Shape → Row → Option (ℕ × MemoryBlock)
as_block k (rows.Block _ _ addr words) = Some (group_of k addr, record { tag = tag_at k addr; words = words_of words })
as_block k m = None

-- Each message of the product is one of the machine's, of the network that it travels in.

pub record Spoken (k : Shape) (m : Row) : Type 0 where
  pub request : network_of m ≡ networks.Request → is_some (as_request k m) ≡ true
  pub command : network_of m ≡ networks.Command → is_some (as_command k m) ≡ true
  pub fill : network_of m ≡ networks.Fill → is_some (as_fill k m) ≡ true
  pub response : network_of m ≡ networks.Response → is_some (as_response k m) ≡ true
  pub memout : network_of m ≡ networks.Memout → is_some (as_to_memory k m) ≡ true
  pub memin : network_of m ≡ networks.Memin → is_some (as_block k m) ≡ true

-- two addresses are at one place of the machine: the same way group, tag and word
pub record AtPlace (k : Shape) (a b : ℕ) : Type 0 where
  pub group : group_of k a ≡ group_of k b
  pub tag : tag_at k a ≡ tag_at k b
  pub word : word_of a ≡ word_of b
