-- Operations, and the messages of each network. Within a way group a block is its tag, and a word has a place in its block. A load
-- answers a part of its word, and a store changes its word: which part and how is the operation's own affair.
use Rattle.std.specs.Prelude.{ℕ, Bool, true, false, Option, Some, None}
use Rattle.bk_base.specs.declared.coh.Coh.{Coh}
use Rattle.bk_base.specs.States.{is_readable, is_writable}

-- what a load reads: a word, by its place, and what it answers of that word's value
pub record Spot : Type 0 where
  pub word : ℕ
  pub of : ℕ → ℕ

-- all of a word, and the change of a word to a value, whatever it was
abbrev pub whole : ℕ → Spot
whole k = record { word = k; of = λ n. n }

abbrev pub becomes : ℕ → ℕ → ℕ
becomes value n = value

pub data Op : Type 0 where
  Load : (tag : ℕ) → (spot : Spot) → Op
  Store : (tag word : ℕ) → (change : ℕ → ℕ) → Op
  UcLoad : (tag : ℕ) → (spot : Spot) → Op
  UcStore : (tag word : ℕ) → (change : ℕ → ℕ) → Op
  Evict : (tag : ℕ) → Op

-- from a cache to the engine
pub data Request : Type 0 where
  Rd : (tag way : ℕ) → Request
  Wr : (tag way : ℕ) → Request
  UcRd : (tag word : ℕ) → Request
  UcWr : (tag word : ℕ) → (change : ℕ → ℕ) → Request
  EvictRequest : (tag way : ℕ) → Request

-- from the engine to a cache: the command network
pub data ToCache : Type 0 where
  Inv : (tag : ℕ) → ToCache
  StWb : (tag : ℕ) → (to : Coh) → ToCache
  StTr : (tag : ℕ) → (to : Coh) → (peer peer_way : ℕ) → (peer_state : Coh) → ToCache
  Blk : (tag way : ℕ) → (state : Coh) → (words : ℕ → ℕ) → ToCache
  StWake : (tag way : ℕ) → ToCache
  UcBlk : (tag word value : ℕ) → ToCache
  UcDone : (tag word : ℕ) → ToCache
  EvictDone : (tag : ℕ) → ToCache

-- from a cache to another: the fill network has one kind
pub record FillMessage : Type 0 where
  pub tag : ℕ
  pub way : ℕ
  pub state : Coh
  pub words : ℕ → ℕ

-- from a cache to the engine, in answer
pub data Response : Type 0 where
  InvAck : (tag : ℕ) → Response
  CohAck : (tag : ℕ) → Response
  Wb : (tag : ℕ) → (words : ℕ → ℕ) → Response
  NullWb : (tag : ℕ) → Response

-- from the engine to the memory
pub data ToMemory : Type 0 where
  Read : (tag : ℕ) → ToMemory
  Write : (tag : ℕ) → (words : ℕ → ℕ) → ToMemory
  WriteWord : (tag word : ℕ) → (change : ℕ → ℕ) → ToMemory

-- from the memory to the engine; also a block that the engine keeps
pub record MemoryBlock : Type 0 where
  pub tag : ℕ
  pub words : ℕ → ℕ

-- the request that an operation makes, with its way
abbrev pub request_of : Op → ℕ → Request
request_of (Load t spot) w = Rd t w
request_of (Store t k f) w = Wr t w
request_of (UcLoad t spot) w = UcRd t spot.word
request_of (UcStore t k f) w = UcWr t k f
request_of (Evict t) w = EvictRequest t w

abbrev pub op_tag : Op → ℕ
op_tag (Load t spot) = t
op_tag (Store t k f) = t
op_tag (UcLoad t spot) = t
op_tag (UcStore t k f) = t
op_tag (Evict t) = t

-- the word of an operation, 0 where it has none
abbrev pub op_word : Op → ℕ
op_word (Load t spot) = spot.word
op_word (Store t k f) = k
op_word (UcLoad t spot) = spot.word
op_word (UcStore t k f) = k
op_word (Evict t) = 0

abbrev pub request_tag : Request → ℕ
request_tag (Rd t w) = t
request_tag (Wr t w) = t
request_tag (UcRd t k) = t
request_tag (UcWr t k f) = t
request_tag (EvictRequest t w) = t

-- the way of a request; that of an uncached one is 0
abbrev pub request_way : Request → ℕ
request_way (Rd t w) = w
request_way (Wr t w) = w
request_way (UcRd t k) = 0
request_way (UcWr t k f) = 0
request_way (EvictRequest t w) = w

-- Rd and Wr: the answer puts a block at the way
abbrev pub asks_block : Request → Bool
asks_block (Rd t w) = true
asks_block (Wr t w) = true
asks_block (UcRd t k) = false
asks_block (UcWr t k f) = false
asks_block (EvictRequest t w) = false

-- Rd, Wr and UcRd: those for which the engine may read memory
abbrev pub asks_read : Request → Bool
asks_read (Rd t w) = true
asks_read (Wr t w) = true
asks_read (UcRd t k) = true
asks_read (UcWr t k f) = false
asks_read (EvictRequest t w) = false

-- the states that a request may be granted: Rd any that a load may read, Wr any that a store may write
abbrev pub request_suits : Request → Coh → Bool
request_suits (Rd t w) state = is_readable state
request_suits (Wr t w) state = is_writable state
request_suits (UcRd t k) state = false
request_suits (UcWr t k f) state = false
request_suits (EvictRequest t w) state = false

-- what a cache answers to StWb: Wb with the words of a dirty copy, else NullWb
abbrev pub answer_of : ℕ → Option (ℕ → ℕ) → Response
answer_of t None = NullWb t
answer_of t (Some ws) = Wb t ws
