-- The phase of a way group: where its one request that is taken and not settled stands. A phase tells what each channel of the
-- group holds, so no message needs to be counted. The machine doesn't keep phases: the invariant says that there is one.
use Rattle.std.specs.Prelude.{ℕ, Bool, true, false, ◌&&◌, List, [], ◌∷◌, ◌++◌, Option, Some, None, if◌then◌else◌, ◌==◌}
use Rattle.bk_base.specs.declared.coh.Coh.{Coh}
use Rattle.bk_base.specs.declared.coh.Coh.TheVariants.{M}
use Rattle.bk_machine.specs.Entries.{Entry, with_state, wiped_entry}
use Rattle.bk_machine.specs.Messages.{Op, Load, Store, UcLoad, UcStore, Evict, Request, ToCache, Inv, StWb, StTr, Blk, StWake, UcBlk, UcDone, EvictDone, FillMessage, Response, InvAck, CohAck, op_tag, op_word, request_of, answer_of}
use Rattle.bk_machine.specs.Transactions.{InProgress}

-- where a flush stands: none; StWb sent to the entry (cache, way) of the tag; answered, with words (Wb) or none (NullWb)
pub data Flush : Type 0 where
  NoFlush : Flush
  FlushSent : (cache way tag : ℕ) → (to : Coh) → Flush
  FlushDone : (cache tag : ℕ) → (words : Option (ℕ → ℕ)) → Flush

-- where the invalidation of one cache stands: none; Inv sent; InvAck sent
pub data Ack : Type 0 where
  NoInv InvSent InvAcked : Ack

-- a grant on its way: Blk; StWake; StTr to the owner (`old` is its new state); Fill from the owner; UcBlk; UcDone or Done
pub data Flight : Type 0 where
  ByBlock : (state : Coh) → (words : ℕ → ℕ) → Flight
  ByWake : Flight
  ByTransfer : (owner owner_way : ℕ) → (old state : Coh) → Flight
  ByFill : (from : ℕ) → (state : Coh) → (words : ℕ → ℕ) → Flight
  ByWord : (value : ℕ) → Flight
  ByDone : Flight

-- no request; one that is taken and not granted, for an operation in progress at the cache; one whose grant is on its way;
-- one whose CohAck is on its way
pub data Phase : Type 0 where
  Free : Phase
  Open : (cache : ℕ) → InProgress → Flush → (ℕ → Ack) → Phase
  Flying : (cache : ℕ) → InProgress → Flight → Phase
  Settling : (cache tag : ℕ) → Phase

-- WHAT EACH CHANNEL OF THE GROUP HOLDS, by cache

-- x where the cache is o
abbrev pub at_cache : {X : Type 0} → ℕ → ℕ → X → List X
at_cache c o x = if c == o then x ∷ [] else []

-- the StWb of a flush
abbrev pub flush_command : Flush → ℕ → List ToCache
flush_command NoFlush c = []
flush_command (FlushSent o w t x) c = at_cache c o (StWb t x)
flush_command (FlushDone o t ws) c = []

-- the Inv of an invalidation
abbrev pub inv_command : ℕ → Ack → List ToCache
inv_command t NoInv = []
inv_command t InvSent = Inv t ∷ []
inv_command t InvAcked = []

-- UcDone, or Done for an Evict
abbrev pub uncached_done : Op → ToCache
uncached_done (Load t spot) = EvictDone t
uncached_done (Store t k f) = EvictDone t
uncached_done (UcLoad t spot) = EvictDone t
uncached_done (UcStore t k f) = UcDone t k
uncached_done (Evict t) = EvictDone t

-- the command of a grant
abbrev pub flight_command : Flight → ℕ → InProgress → ℕ → List ToCache
flight_command (ByBlock x ws) r b c = at_cache c r (Blk (op_tag b.op) b.way x ws)
flight_command ByWake r b c = at_cache c r (StWake (op_tag b.op) b.way)
flight_command (ByTransfer o ow y x) r b c = at_cache c o (StTr (op_tag b.op) y r b.way x)
flight_command (ByFill o x ws) r b c = []
flight_command (ByWord v) r b c = at_cache c r (UcBlk (op_tag b.op) (op_word b.op) v)
flight_command ByDone r b c = at_cache c r (uncached_done b.op)

-- commands: at most a StWb and then an Inv, or the grant
abbrev pub commands_of : Phase → ℕ → List ToCache
commands_of Free c = []
commands_of (Open r b fl inv) c = flush_command fl c ++ inv_command (op_tag b.op) (inv c)
commands_of (Flying r b f) c = flight_command f r b c
commands_of (Settling r t) c = []

-- the Fill of a transfer
abbrev pub flight_fill : Flight → ℕ → InProgress → ℕ → ℕ → List FillMessage
flight_fill (ByBlock x ws) r b to from = []
flight_fill ByWake r b to from = []
flight_fill (ByTransfer o ow y x) r b to from = []
flight_fill (ByFill o x ws) r b to from = if to == r && from == o
    then record { tag = op_tag b.op; way = b.way; state = x; words = ws } ∷ [] else []
flight_fill (ByWord v) r b to from = []
flight_fill ByDone r b to from = []

-- fills: that of the transfer
abbrev pub fills_of : Phase → ℕ → ℕ → List FillMessage
fills_of Free to from = []
fills_of (Open r b fl inv) to from = []
fills_of (Flying r b f) to from = flight_fill f r b to from
fills_of (Settling r t) to from = []

-- the answer to a flush
abbrev pub flush_response : Flush → ℕ → List Response
flush_response NoFlush c = []
flush_response (FlushSent o w t x) c = []
flush_response (FlushDone o t ws) c = at_cache c o (answer_of t ws)

-- the answer to an invalidation
abbrev pub inv_response : ℕ → Ack → List Response
inv_response t NoInv = []
inv_response t InvSent = []
inv_response t InvAcked = InvAck t ∷ []

-- responses: at most a Wb or NullWb and then an InvAck, or the CohAck
abbrev pub responses_of : Phase → ℕ → List Response
responses_of Free c = []
responses_of (Open r b fl inv) c = flush_response fl c ++ inv_response (op_tag b.op) (inv c)
responses_of (Flying r b f) c = []
responses_of (Settling r t) c = at_cache c r (CohAck t)

-- the request of this cache is taken
abbrev pub is_taken : Phase → ℕ → Bool
is_taken Free c = false
is_taken (Open r b fl inv) c = c == r
is_taken (Flying r b f) c = c == r
is_taken (Settling r t) c = false

-- requests: a busy cache has its one request in its channel, unless it is taken
abbrev pub requests_of : Bool → Option InProgress → List Request
requests_of taken None = []
requests_of true (Some b) = []
requests_of false (Some b) = request_of b.op b.way ∷ []

-- WHAT THE COMMANDS AND FILLS ON THEIR WAY WILL MAKE OF THE ENTRY OF CACHE c AT WAY w

-- a StWb gives its entry its state
abbrev pub flush_effect : Flush → ℕ → ℕ → Entry → Entry
flush_effect NoFlush c w h = h
flush_effect (FlushSent o ow t x) c w h = if c == o && w == ow then with_state h x else h
flush_effect (FlushDone o t ws) c w h = h

-- an Inv wipes the block
abbrev pub inv_effect : ℕ → Ack → Entry → Entry
inv_effect t NoInv h = h
inv_effect t InvSent h = wiped_entry t h
inv_effect t InvAcked h = h

-- a grant makes the requester's entry the block, and a transfer lowers the owner's
abbrev pub flight_effect : Flight → ℕ → InProgress → ℕ → ℕ → Entry → Entry
flight_effect (ByBlock x ws) r b c w h = if c == r && w == b.way then record { tag = op_tag b.op; state = x } else h
flight_effect ByWake r b c w h = if c == r && w == b.way then record { tag = op_tag b.op; state = M } else h
flight_effect (ByTransfer o ow y x) r b c w h =
    if c == r && w == b.way then record { tag = op_tag b.op; state = x } else if c == o && w == ow then with_state h y else h
flight_effect (ByFill o x ws) r b c w h = if c == r && w == b.way then record { tag = op_tag b.op; state = x } else h
flight_effect (ByWord v) r b c w h = h
flight_effect ByDone r b c w h = h

-- the entry once all of it has come
abbrev pub expected_entry : Phase → ℕ → ℕ → Entry → Entry
expected_entry Free c w h = h
expected_entry (Open r b fl inv) c w h = inv_effect (op_tag b.op) (inv c) (flush_effect fl c w h)
expected_entry (Flying r b f) c w h = flight_effect f r b c w h
expected_entry (Settling r t) c w h = h
