-- The words of caches, memory and messages against each word's latest value, and what is in the memory's channels.
use Rattle.std.specs.Prelude.{ℕ, ◌≡◌, ◌+◌, Bool, true, false, ◌&&◌, List, [], ◌∷◌, Option, Some, None, length, not, ◌||◌, suc, if◌then◌else◌, ◌==◌}
use Rattle.std.specs.Bool.{OnFalse}
use Rattle.bk_base.specs.States.{is_writable, is_dirty}
use Rattle.bk_machine.specs.Entries.{Entry, Holds, is_light}
use Rattle.bk_machine.specs.Messages.{Op, Load, Store, UcLoad, UcStore, Evict, Request, Rd, Wr, UcRd, UcWr, EvictRequest, ToMemory, Read, Write, WriteWord, MemoryBlock, op_tag, op_word, request_tag}
use Rattle.bk_machine.specs.Transactions.{InProgress, WriteBack, Idle, FlushAsked, FlushKept, Reading, NotRead, ReadAsked, Got, Transaction, is_asked}
use Rattle.bk_machine.specs.Words.{write_block, write_word}
use Rattle.bk_machine.specs.Phases.{Flush, NoFlush, FlushSent, FlushDone, Flight, ByBlock, ByWake, ByTransfer, ByFill, ByWord, ByDone, Phase, Free, Open, Flying, Settling}

-- no cache may write the tag
abbrev pub NoWriter : (ℕ → ℕ → Entry) → ℕ → Type 0
NoWriter h t = (c w : ℕ) → Holds (h c w) t → is_writable (h c w).state ≡ false

-- the caches that have it have it in S or F
abbrev pub AllLight : (ℕ → ℕ → Entry) → ℕ → Type 0
AllLight h t = (c w : ℕ) → Holds (h c w) t → is_light (h c w).state ≡ true

-- no cache has the tag
abbrev pub NoCopy : (ℕ → ℕ → Entry) → ℕ → Type 0
NoCopy h t = (c w : ℕ) → Holds (h c w) t → ⊥

-- the same words
abbrev pub SameWords : (ℕ → ℕ) → (ℕ → ℕ) → Type 0
SameWords f g = (j : ℕ) → f j ≡ g j

-- a Wb of the tag is on its way
abbrev pub flush_away : Flush → ℕ → Bool
flush_away NoFlush t = false
flush_away (FlushSent o w u x) t = false
flush_away (FlushDone o u None) t = false
flush_away (FlushDone o u (Some ws)) t = t == u

-- an uncached store into the word
abbrev pub stores_at : Op → ℕ → ℕ → Bool
stores_at (Load u spot) t number = false
stores_at (Store u j f) t number = false
stores_at (UcLoad u spot) t number = false
stores_at (UcStore u j f) t number = t == u && number == j
stores_at (Evict u) t number = false

-- a grant on its way has the word's latest value, or is to say that it was written: a Fill in M or O, a UcDone
abbrev pub flight_away : Flight → InProgress → ℕ → ℕ → Bool
flight_away (ByBlock x ws) b t j = false
flight_away ByWake b t j = false
flight_away (ByTransfer o ow y x) b t j = false
flight_away (ByFill o x ws) b t j = is_dirty x && t == op_tag b.op
flight_away (ByWord v) b t j = false
flight_away ByDone b t j = stores_at b.op t j

-- at a phase, a message on its way has the word's latest value, and memory may be behind
abbrev pub phase_away : Phase → ℕ → ℕ → Bool
phase_away Free t j = false
phase_away (Open r b fl inv) t j = flush_away fl t
phase_away (Flying r b f) t j = flight_away f b t j
phase_away (Settling r u) t j = false

-- the engine keeps the block
abbrev pub kept_away : WriteBack → ℕ → Bool
kept_away Idle t = false
kept_away FlushAsked t = false
kept_away (FlushKept b) t = t == b.tag

-- a request to write the word
abbrev pub request_at : Request → ℕ → ℕ → Bool
request_at (Rd u w) t number = false
request_at (Wr u w) t number = false
request_at (UcRd u j) t number = false
request_at (UcWr u j f) t number = t == u && number == j
request_at (EvictRequest u w) t number = false

-- the transaction has the word's latest value: it keeps the block, or has written the word and not yet answered
abbrev pub transaction_away : Option Transaction → ℕ → ℕ → Bool
transaction_away None t j = false
transaction_away (Some x) t j = kept_away x.write_back t || (x.written && not x.granted && request_at x.request t j)

-- nothing but memory has the latest value of the word
pub record AtHome (p : Phase) (transaction : Option Transaction) (h : ℕ → ℕ → Entry) (t j : ℕ) : Type 0 where
  pub clean : (c w : ℕ) → Holds (h c w) t → is_dirty (h c w).state ≡ false
  pub not_flying : phase_away p t j ≡ false
  pub not_kept : transaction_away transaction t j ≡ false

-- a Wb on its way has the latest words, and no cache may write the block
abbrev pub FlushValues : Flush → (ℕ → ℕ → Entry) → (ℕ → ℕ → ℕ) → Type 0
FlushValues NoFlush h v = Unit {0}
FlushValues (FlushSent o w u x) h v = Unit {0}
FlushValues (FlushDone o u None) h v = Unit {0}
FlushValues (FlushDone o u (Some ws)) h v = SameWords ws (v u) × NoWriter h u

-- an uncached store that is about to complete: effective memory a has what it makes of the latest v, and no cache has a copy
abbrev pub StoredAt : Op → (ℕ → ℕ → Entry) → (ℕ → ℕ → ℕ) → (ℕ → ℕ → ℕ) → Type 0
StoredAt (Load u spot) h v a = Unit {0}
StoredAt (Store u j f) h v a = Unit {0}
StoredAt (UcLoad u spot) h v a = Unit {0}
StoredAt (UcStore u j f) h v a = (a u j ≡ f (v u j)) × NoCopy h u
StoredAt (Evict u) h v a = Unit {0}

-- a grant on its way has the latest words v; a word for a UcLoad is the latest, and no cache may write it
abbrev pub FlightValues : Flight → InProgress → (ℕ → ℕ → Entry) → (ℕ → ℕ → ℕ) → (ℕ → ℕ → ℕ) → Type 0
FlightValues (ByBlock x ws) b h v a = SameWords ws (v (op_tag b.op))
FlightValues ByWake b h v a = Unit {0}
FlightValues (ByTransfer o ow y x) b h v a = Unit {0}
FlightValues (ByFill o x ws) b h v a = SameWords ws (v (op_tag b.op))
FlightValues (ByWord n) b h v a = (n ≡ v (op_tag b.op) (op_word b.op)) × NoWriter h (op_tag b.op)
FlightValues ByDone b h v a = StoredAt b.op h v a

-- the same by phase
abbrev pub PhaseValues : Phase → (ℕ → ℕ → Entry) → (ℕ → ℕ → ℕ) → (ℕ → ℕ → ℕ) → Type 0
PhaseValues Free h v a = Unit {0}
PhaseValues (Open r b fl inv) h v a = FlushValues fl h v
PhaseValues (Flying r b f) h v a = FlightValues f b h v a
PhaseValues (Settling r u) h v a = Unit {0}

-- a kept block has the latest words, and no cache may write it
abbrev pub KeptValues : WriteBack → (ℕ → ℕ → Entry) → (ℕ → ℕ → ℕ) → Type 0
KeptValues Idle h v = Unit {0}
KeptValues FlushAsked h v = Unit {0}
KeptValues (FlushKept b) h v = SameWords b.words (v b.tag) × NoWriter h b.tag

-- while a read is asked, all copies are in S or F; once it is got, its words are the latest too
abbrev pub ReadValues : Reading → ℕ → (ℕ → ℕ → Entry) → (ℕ → ℕ → ℕ) → Type 0
ReadValues NotRead t h v = Unit {0}
ReadValues ReadAsked t h v = AllLight h t
ReadValues (Got ws) t h v = SameWords ws (v t) × AllLight h t

-- once the word was changed, effective memory has what became of the latest and no cache has a copy
abbrev pub WrittenValues : Bool → Request → (ℕ → ℕ → Entry) → (ℕ → ℕ → ℕ) → (ℕ → ℕ → ℕ) → Type 0
WrittenValues false r h v a = Unit {0}
WrittenValues true (Rd t w) h v a = ⊥
WrittenValues true (Wr t w) h v a = ⊥
WrittenValues true (UcRd t k) h v a = ⊥
WrittenValues true (UcWr t k f) h v a = (a t k ≡ f (v t k)) × NoCopy h t
WrittenValues true (EvictRequest t w) h v a = ⊥

-- the values that an ungranted transaction has
pub record TransactionValues (x : Transaction) (h : ℕ → ℕ → Entry) (v a : ℕ → ℕ → ℕ) : Type 0 where
  pub kept : KeptValues x.write_back h v
  pub read : ReadValues x.reading (request_tag x.request) h v
  pub written : WrittenValues x.written x.request h v a

-- the same of a transaction, where there is one that isn't granted
abbrev pub OpenValues : Option Transaction → (ℕ → ℕ → Entry) → (ℕ → ℕ → ℕ) → (ℕ → ℕ → ℕ) → Type 0
OpenValues None h v a = Unit {0}
OpenValues (Some x) h v a = OnFalse x.granted (TransactionValues x h v a)

-- The words of caches, memory and messages, against the latest v and effective memory a: each valid copy has the latest, memory has
-- the latest where nothing else does, and what is on its way or held by the engine as above.
pub record Values (p : Phase) (transaction : Option Transaction) (h : ℕ → ℕ → Entry) (words : ℕ → ℕ → ℕ
    → ℕ) (v a : ℕ → ℕ
    → ℕ) : Type 0 where
  pub copies : (t c w j : ℕ) → Holds (h c w) t → words c w j ≡ v t j
  pub memory : (t j : ℕ) → AtHome p transaction h t j → a t j ≡ v t j
  pub flying : PhaseValues p h v a
  pub ungranted : OpenValues transaction h v a

-- THE MEMORY'S CHANNELS
-- how many Reads are in the memory's channel
abbrev pub read_count : List ToMemory → ℕ
read_count [] = 0
read_count (Read t ∷ ms) = suc (read_count ms)
read_count (Write t ws ∷ ms) = read_count ms
read_count (WriteWord t k f ∷ ms) = read_count ms

-- each Read is of t, and finds these words
abbrev pub ReadsFor : ℕ → (ℕ → ℕ) → (ℕ → ℕ → ℕ) → List ToMemory → Type 0
ReadsFor t ws m [] = Unit {0}
ReadsFor t ws m (Read u ∷ ms) = (u ≡ t) × SameWords (m t) ws × ReadsFor t ws m ms
ReadsFor t ws m (Write u xs ∷ ms) = ReadsFor t ws (write_block m u xs) ms
ReadsFor t ws m (WriteWord u k f ∷ ms) = ReadsFor t ws (write_word m u k f) ms

-- each Block is of t, with these words
abbrev pub BlocksFor : ℕ → (ℕ → ℕ) → List MemoryBlock → Type 0
BlocksFor t ws [] = Unit {0}
BlocksFor t ws (b ∷ bs) = (b.tag ≡ t) × SameWords b.words ws × BlocksFor t ws bs

-- an ungranted transaction has asked for a read
abbrev pub is_reading : Option Transaction → Bool
is_reading None = false
is_reading (Some x) = not x.granted && is_asked x.reading

-- the transaction's tag
abbrev pub transaction_tag : Option Transaction → ℕ
transaction_tag None = 0
transaction_tag (Some x) = request_tag x.request

-- One Read or Block is under way exactly while a read is asked; it is of the transaction's tag, and finds or has the latest words.
pub record MemoryChannels (transaction : Option Transaction) (m v : ℕ → ℕ
    → ℕ) (ms : List ToMemory) (bs : List MemoryBlock) : Type 0 where
  pub count : read_count ms + length bs ≡ (if is_reading transaction then 1 else 0)
  pub to : ReadsFor (transaction_tag transaction) (v (transaction_tag transaction)) m ms
  pub back : BlocksFor (transaction_tag transaction) (v (transaction_tag transaction)) bs
