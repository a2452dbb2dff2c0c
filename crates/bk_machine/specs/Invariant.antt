-- The invariant of the table machine: what holds of each way group at its phase, and of the transaction.
use Rattle.std.specs.Prelude.{ℕ, ◌≡◌, ◌≢◌, ◌<◌, ◌+◌, Bool, true, false, [], Option, Some, None, not, if◌then◌else◌, ◌==◌}
use Rattle.bk_base.specs.Places.{Shape}
use Rattle.bk_base.specs.declared.coh.Coh.{Coh}
use Rattle.bk_base.specs.States.{is_readable, is_writable, is_owner_like}
use Rattle.bk_machine.specs.Entries.{Entry, Holds, times}
use Rattle.bk_machine.specs.Messages.{Op, Load, Store, UcLoad, UcStore, Evict, Request, request_of, request_tag, request_way, asks_read}
use Rattle.bk_machine.specs.Transactions.{InProgress, WriteBack, Idle, FlushAsked, FlushKept, Debt, NotRead, Transaction, is_asked, paid_directory}
use Rattle.bk_machine.specs.Words.{RightAnswers, latest, effective}
use Rattle.bk_machine.specs.World.{World, GroupState, view}
use Rattle.bk_machine.specs.Phases.{Flush, NoFlush, FlushSent, FlushDone, Ack, NoInv, InvSent, InvAcked, Flight, ByBlock, ByWake, ByTransfer, ByFill, ByWord, ByDone, Phase, Free, Open, Flying, Settling, commands_of, fills_of, responses_of, is_taken, requests_of}
use Rattle.bk_machine.specs.Copies.{Copies}
use Rattle.bk_machine.specs.Values.{kept_away, Values, MemoryChannels}

-- CONTROL
-- the record agrees with the flush that is under way
abbrev pub flush_state : Flush → WriteBack → Type 0
flush_state NoFlush Idle = Unit {0}
flush_state NoFlush FlushAsked = ⊥
flush_state NoFlush (FlushKept b) = Unit {0}
flush_state (FlushSent o w t x) Idle = ⊥
flush_state (FlushSent o w t x) FlushAsked = Unit {0}
flush_state (FlushSent o w t x) (FlushKept b) = ⊥
flush_state (FlushDone o t ws) Idle = ⊥
flush_state (FlushDone o t ws) FlushAsked = Unit {0}
flush_state (FlushDone o t ws) (FlushKept b) = ⊥

-- a flush of the tag is under way
abbrev pub flush_on : Flush → ℕ → Bool
flush_on NoFlush t = false
flush_on (FlushSent o w u x) t = t == u
flush_on (FlushDone o u ws) t = t == u

-- how many acks of a cache are to come
abbrev pub acks_due : Ack → ℕ
acks_due NoInv = 0
acks_due InvSent = 1
acks_due InvAcked = 1

-- the open transaction's record
pub record OpenTransaction (r : ℕ) (b : InProgress) (fl : Flush) (inv : ℕ → Ack) (x : Transaction) : Type 0 where
  pub is_cache : x.cache ≡ r
  pub is_request : x.request ≡ request_of b.op b.way
  pub ungranted : x.granted ≡ false
  pub flush : flush_state fl x.write_back
  pub acks : (c : ℕ) → times c x.waiting ≡ acks_due (inv c)
  pub no_requester_debt : x.requester_debt ≡ None
  pub no_owner_debt : x.owner_debt ≡ None
  pub apart : x.written ≡ true → flush_on fl (request_tag x.request) ≡ false
  pub kept_apart : x.written ≡ true → kept_away x.write_back (request_tag x.request) ≡ false

-- the two debts are of two caches
abbrev pub DebtsApart : Option Debt → Option Debt → Type 0
DebtsApart None e = Unit {0}
DebtsApart (Some d) None = Unit {0}
DebtsApart (Some d) (Some e) = d.cache ≢ e.cache

-- the granted transaction's record: it waits for no flush, no ack and no read, and its debts are of two caches
pub record GrantedTransaction (x : Transaction) : Type 0 where
  pub granted : x.granted ≡ true
  pub no_flush : x.write_back ≡ Idle
  pub no_acks : x.waiting ≡ []
  pub not_asked : is_asked x.reading ≡ false
  pub debts_apart : DebtsApart x.requester_debt x.owner_debt

-- there is no transaction, or one that is granted
abbrev pub NoneOrGranted : Option Transaction → Type 0
NoneOrGranted None = Unit {0}
NoneOrGranted (Some x) = GrantedTransaction x

-- the transaction by phase: open where the group's phase is, else none or granted
abbrev pub TransactionAt : Phase → Option Transaction → Type 0
TransactionAt Free transaction = NoneOrGranted transaction
TransactionAt (Open r b fl inv) None = ⊥
TransactionAt (Open r b fl inv) (Some x) = OpenTransaction r b fl inv x
TransactionAt (Flying r b f) transaction = NoneOrGranted transaction
TransactionAt (Settling r t) transaction = NoneOrGranted transaction

-- the operation of the cache that holds the group is in progress
abbrev pub Taker : Phase → (ℕ → Option InProgress) → Type 0
Taker Free busy = Unit {0}
Taker (Open r b fl inv) busy = busy r ≡ Some b
Taker (Flying r b f) busy = busy r ≡ Some b
Taker (Settling r t) busy = Unit {0}

-- no request of the group is taken and unsettled
abbrev pub is_free : Phase → Bool
is_free Free = true
is_free (Open r b fl inv) = false
is_free (Flying r b f) = false
is_free (Settling r t) = false

-- While a cache waits for a block, for a Load it has no copy of it, and for a Store one at the Store's way alone, not in E or M.
abbrev pub WaitingCopies : Op → ℕ → (ℕ → Entry) → Type 0
WaitingCopies (Load t spot) w h = (v : ℕ) → Holds (h v) t → ⊥
WaitingCopies (Store t k f) w h = (v : ℕ) → Holds (h v) t → (v ≡ w) × (is_writable (h v).state ≡ false)
WaitingCopies (UcLoad t spot) w h = Unit {0}
WaitingCopies (UcStore t k f) w h = Unit {0}
WaitingCopies (Evict t) w h = Unit {0}

-- the states that an operation may be granted
abbrev pub op_suits : Op → Coh → Bool
op_suits (Load t spot) state = is_readable state
op_suits (Store t k f) state = is_writable state
op_suits (UcLoad t spot) state = false
op_suits (UcStore t k f) state = false
op_suits (Evict t) state = false

-- the operations that StWake, UcBlk, and UcDone or Done complete
abbrev pub is_store : Op → Bool
is_store (Load t spot) = false
is_store (Store t k f) = true
is_store (UcLoad t spot) = false
is_store (UcStore t k f) = false
is_store (Evict t) = false

abbrev pub is_uc_load : Op → Bool
is_uc_load (Load t spot) = false
is_uc_load (Store t k f) = false
is_uc_load (UcLoad t spot) = true
is_uc_load (UcStore t k f) = false
is_uc_load (Evict t) = false

abbrev pub ends_done : Op → Bool
ends_done (Load t spot) = false
ends_done (Store t k f) = false
ends_done (UcLoad t spot) = false
ends_done (UcStore t k f) = true
ends_done (Evict t) = true

-- the grant on its way suits the operation: the state granted, or the kind of the answer
abbrev pub flight_kind : Flight → Op → Bool
flight_kind (ByBlock x ws) op = op_suits op x
flight_kind ByWake op = is_store op
flight_kind (ByTransfer o ow y x) op = op_suits op x
flight_kind (ByFill o x ws) op = op_suits op x
flight_kind (ByWord v) op = is_uc_load op
flight_kind ByDone op = ends_done op

abbrev pub phase_kind : Phase → Bool
phase_kind Free = true
phase_kind (Open r b fl inv) = true
phase_kind (Flying r b f) = flight_kind f b.op
phase_kind (Settling r t) = true

-- A way group is good at a phase: its channels are those of the phase, the cache whose request is taken waits for it, the
-- transaction, the pending mark and the counts agree with the phase, and copies, words and memory's channels are as above. Each
-- answer of its history is right.
pub record Good (p : Phase) (part : GroupState) : Type 0 where
  pub commands : (c : ℕ) → part.command c ≡ commands_of p c
  pub fills : (c o : ℕ) → part.fill c o ≡ fills_of p c o
  pub responses : (c : ℕ) → part.response c ≡ responses_of p c
  pub requests : (c : ℕ) → part.request c ≡ requests_of (is_taken p c) (part.busy c)
  pub taker : Taker p part.busy
  pub placed : (c : ℕ) (b : InProgress) → part.busy c ≡ Some b → WaitingCopies b.op b.way (part.entries c)
  pub transaction : TransactionAt p part.transaction
  pub pending : part.pending ≡ not (is_free p)
  pub taken_count : part.taken_count ≡ part.settled_count + (if is_free p then 0 else 1)
  pub copies : Copies p (paid_directory part.transaction part.directory) part.entries
  pub values : Values p part.transaction part.entries part.words (latest part.history) (effective part.memory part.memout)
  pub channels : MemoryChannels part.transaction part.memory (latest part.history) part.memout part.memin
  pub kind : phase_kind p ≡ true
  pub answers : RightAnswers (λ t k. 0) part.history

-- THE WHOLE MACHINE

-- each way group is good at some phase
abbrev pub EveryGroup : World → Type 0
EveryGroup world = (g : ℕ) → (p : Phase) × Good p (view g world)

-- a cache and a way of the configuration
pub record WayInRange (k : Shape) (c w : ℕ) : Type 0 where
  pub cache : c < k.caches
  pub way : w < k.ways

-- what is held is held at caches and ways of the configuration, and operations are in progress there
pub record Ranges (k : Shape) (world : World) : Type 0 where
  pub entries : (g c w t : ℕ) → Holds (world.entries g c w) t → WayInRange k c w
  pub busy : (c : ℕ) (x : ℕ × InProgress) → world.busy c ≡ Some x → WayInRange k c x.1.way

-- the requester's debt is the request's place and block, in a state other than I
pub record RequesterOwes (r : ℕ) (q : Request) (debt : Debt) : Type 0 where
  pub at_cache : debt.cache ≡ r
  pub at_way : debt.way ≡ request_way q
  pub holds : Holds debt.entry (request_tag q)

-- the owner's debt is of the request's block, in a state that no one may write, at another cache, whose entry still has the block,
-- owner-like, as no other cache but the requester may
pub record OwnerOwes (k : Shape) (r : ℕ) (q : Request) (d : ℕ → ℕ → Entry) (debt : Debt) : Type 0 where
  pub other : debt.cache ≢ r
  pub tag : debt.entry.tag ≡ request_tag q
  pub weaker : is_writable debt.entry.state ≡ false
  pub range : WayInRange k debt.cache debt.way
  pub holds : Holds (d debt.cache debt.way) (request_tag q)
  pub owner_like : is_owner_like (d debt.cache debt.way).state ≡ true
  pub only : (c w : ℕ) → c ≢ r → Holds (d c w) (request_tag q) → is_owner_like (d c w).state ≡ true
      → (c ≡ debt.cache) × (w ≡ debt.way)

-- The transaction's record, and the directory that it stands over: acks are to come from caches of the configuration, only
-- Rd, Wr and UcRd read memory, and what the debts are.
pub record Recorded (k : Shape) (x : Transaction) (d : ℕ → ℕ → Entry) : Type 0 where
  pub from : (c : ℕ) → times c x.waiting ≢ 0 → c < k.caches
  pub unread : asks_read x.request ≡ false → x.reading ≡ NotRead
  pub requester : (debt : Debt) → x.requester_debt ≡ Some debt → RequesterOwes x.cache x.request debt
  pub owner : (debt : Debt) → x.owner_debt ≡ Some debt → OwnerOwes k x.cache x.request d debt

-- the same of the transaction, if there is one
abbrev pub RecordOf : Shape → Option (ℕ × Transaction) → (ℕ → ℕ → ℕ → Entry) → Type 0
RecordOf k None d = Unit {0}
RecordOf k (Some x) d = Recorded k x.1 (d x.0)

-- THE INVARIANT
pub record Invariant (k : Shape) (world : World) : Type 0 where
  pub groups : EveryGroup world
  pub ranges : Ranges k world
  pub recorded : RecordOf k world.transaction world.directory
