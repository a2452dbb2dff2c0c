-- A run of events and permitted actions, so that the law isn't empty: two caches of one way each, in way group 0. Each piece stands
-- for one operation.
use Rattle.std.specs.Prelude.{ℕ, true, false, List, [], ◌∷◌, ◌++◌, Some, None}
use Rattle.bk_base.specs.Places.{Shape}
use Rattle.bk_base.specs.Tables.{put}
use Rattle.bk_base.specs.declared.coh.Coh.{Coh}
use Rattle.bk_base.specs.declared.coh.Coh.TheVariants.{I, S, E, O}
use Rattle.bk_machine.specs.Messages.{Op, whole, becomes, Load, Store, UcLoad, UcStore, Evict, Rd, UcRd, UcWr, EvictRequest, MemoryBlock, request_tag, request_way}
use Rattle.bk_machine.specs.Transactions.{FlushAsked, FlushKept, ReadAsked, Got, Debt, Transaction, new_transaction}
use Rattle.bk_machine.specs.Words.{Completed}
use Rattle.bk_machine.specs.Actions.{Takes, Settles, CollectsAck, CollectsAnswer, CollectsBlock, Invalidates, FlushesVictim, FlushesOwn, WritesBack, ReadsMemory, WritesWord, GrantsByBlock, GrantsByTransfer, AnswersWord, AnswersStore, AnswersEvict, PaysRequester, PaysOwner, Finishes}
use Rattle.bk_machine.specs.Runs.{Event, Issue, Command, Fill, Memory, Engine}

-- HOW A TRANSACTION GOES ON

-- the words of a block that was never written
abbrev pub zeros : ℕ → ℕ
zeros i = 0

-- a flush is asked for, and its block is kept; a read is asked for, and these words have come
abbrev pub flush_asked : Transaction → Transaction
flush_asked x = record x { write_back = FlushAsked }

abbrev pub flush_kept : MemoryBlock → Transaction → Transaction
flush_kept b x = record x { write_back = FlushKept b }

abbrev pub read_asked : Transaction → Transaction
read_asked x = record x { reading = ReadAsked }

abbrev pub read_got : (ℕ → ℕ) → Transaction → Transaction
read_got ws x = record x { reading = Got ws }

-- acks are to come from these caches
abbrev pub with_waiting : List ℕ → Transaction → Transaction
with_waiting cs x = record x { waiting = cs }

-- the requester's debt, the transaction as it is granted with it, and once all debts are paid
abbrev pub debt : Coh → Transaction → Debt
debt y x = record { cache = x.cache; way = request_way x.request; entry = record { tag = request_tag x.request; state = y } }

abbrev pub with_grant : Coh → Transaction → Transaction
with_grant y x = record x { granted = true; requester_debt = Some (debt y x) }

abbrev pub with_debts_paid : Transaction → Transaction
with_debts_paid x = record x { granted = true; requester_debt = None; owner_debt = None }

-- the block that is asked for has come from memory with these words, and is granted in a state; the same where it is read first
abbrev pub grant_of_block : ℕ → (ℕ → ℕ) → Coh → Transaction → List Event
grant_of_block g ws y x = Engine g (CollectsBlock (request_tag x.request) ws [] (read_asked x))
    ∷ Engine g (GrantsByBlock ws y (read_got ws x))
    ∷ Command x.cache ∷ Engine g (PaysRequester (debt y x) (with_grant y (read_got ws x)))
    ∷ Engine g (Finishes (with_debts_paid (read_got ws x))) ∷ []

abbrev pub grant_from_memory : ℕ → (ℕ → ℕ) → Coh → Transaction → List Event
grant_from_memory g ws y x = Engine g (ReadsMemory x) ∷ Memory ∷ grant_of_block g ws y x

-- an entry of the history
abbrev pub answer : ℕ → ℕ → Op → ℕ → ℕ × Completed
answer g c op n = (g, record { cache = c; op = op; answer = n })

-- THE RUN

abbrev pub shape : Shape
shape = record { caches = 2; sets = 1; ways = 1 }

-- the words of block 0 after the store below
abbrev pub stored_words : ℕ → ℕ
stored_words = put zeros 3 5

-- Cache 0 loads word 3 of block 0, and is granted E by memory's block.
abbrev pub load_events : List Event
load_events = Issue 0 0 (Load 0 (whole 3)) 0 ∷ Engine 0 (Takes 0 (Rd 0 0) []) ∷ grant_from_memory 0 zeros E (new_transaction 0 (Rd 0 0))
    ++ Engine 0 (Settles 0 0 []) ∷ []

-- It stores into word 3 without a word to the engine: its copy goes from E to M.
abbrev pub silent_store : List Event
silent_store = Issue 0 0 (Store 0 3 (becomes 5)) 0 ∷ []

-- Cache 1 loads the word. The owner keeps the block in O and fills it in S.
abbrev pub second_load : Transaction
second_load = new_transaction 1 (Rd 0 0)

abbrev pub kept_in_o : Debt
kept_in_o = record { cache = 0; way = 0; entry = record { tag = 0; state = O } }

abbrev pub transfer_events : List Event
transfer_events = Issue 1 0 (Load 0 (whole 3)) 0 ∷ Engine 0 (Takes 1 (Rd 0 0) []) ∷ Engine 0 (GrantsByTransfer 0 0 O S second_load)
    ∷ Command 0 ∷ Fill 1 0
    ∷ Engine 0 (PaysRequester (debt S second_load) (record (with_grant S second_load) { owner_debt = Some kept_in_o }))
    ∷ Engine 0 (PaysOwner kept_in_o (record (with_debts_paid second_load) { owner_debt = Some kept_in_o }))
    ∷ Engine 0 (Finishes (with_debts_paid second_load))
    ∷ Engine 0 (Settles 1 0 []) ∷ []

-- Cache 0 loads block 1 into the same way: its block 0 is flushed and written back, the other is read behind that, and granted.
abbrev pub third_load : Transaction
third_load = new_transaction 0 (Rd 1 0)

abbrev pub written_block : MemoryBlock
written_block = record { tag = 0; words = stored_words }

abbrev pub write_back_events : List Event
write_back_events = Issue 0 0 (Load 1 (whole 0)) 0 ∷ Engine 0 (Takes 0 (Rd 1 0) []) ∷ Engine 0 (FlushesVictim third_load) ∷ Command 0
    ∷ Engine 0 (CollectsAnswer 0 0 (Some stored_words) [] (flush_asked third_load))
    ∷ Engine 0 (WritesBack written_block (flush_kept written_block third_load))
    ∷ Engine 0 (ReadsMemory third_load) ∷ Memory ∷ Memory ∷ grant_of_block 0 zeros E third_load ++ Engine 0 (Settles 0 1 []) ∷ []

-- Cache 0 stores past the caches into word 3 of block 0: cache 1's copy is invalidated before the word is written.
abbrev pub uc_store : Transaction
uc_store = new_transaction 0 (UcWr 0 3 (becomes 9))

abbrev pub word_written : Transaction
word_written = record uc_store { written = true }

abbrev pub uncached_store : List Event
uncached_store = Issue 0 0 (UcStore 0 3 (becomes 9)) 0 ∷ Engine 0 (Takes 0 (UcWr 0 3 (becomes 9)) [])
    ∷ Engine 0 (Invalidates false (1 ∷ []) uc_store) ∷ Command 1
    ∷ Engine 0 (CollectsAck 1 0 [] (with_waiting (1 ∷ []) uc_store)) ∷ Engine 0 (WritesWord 0 3 (becomes 9) uc_store)
    ∷ Engine 0 (AnswersStore 0 3 (becomes 9) word_written)
    ∷ Command 0 ∷ Memory ∷ Engine 0 (Finishes (with_debts_paid word_written)) ∷ Engine 0 (Settles 0 0 []) ∷ []

-- Cache 0 gives block 1 up.
abbrev pub evict : Transaction
evict = new_transaction 0 (EvictRequest 1 0)

abbrev pub evict_events : List Event
evict_events = Issue 0 0 (Evict 1) 0 ∷ Engine 0 (Takes 0 (EvictRequest 1 0) []) ∷ Engine 0 (FlushesOwn 0 I evict) ∷ Command 0
    ∷ Engine 0 (CollectsAnswer 0 1 None [] (flush_asked evict)) ∷ Engine 0 (AnswersEvict 1 0 evict) ∷ Command 0
    ∷ Engine 0 (Finishes (with_debts_paid evict)) ∷ Engine 0 (Settles 0 1 []) ∷ []

-- Cache 1 loads word 3 of block 0 past the caches.
abbrev pub uc_load : Transaction
uc_load = new_transaction 1 (UcRd 0 3)

abbrev pub last_words : ℕ → ℕ
last_words = put stored_words 3 9

abbrev pub uncached_load : List Event
uncached_load = Issue 1 0 (UcLoad 0 (whole 3)) 0 ∷ Engine 0 (Takes 1 (UcRd 0 3) []) ∷ Engine 0 (ReadsMemory uc_load) ∷ Memory
    ∷ Engine 0 (CollectsBlock 0 last_words [] (read_asked uc_load))
    ∷ Engine 0 (AnswersWord 0 3 last_words (read_got last_words uc_load)) ∷ Command 1
    ∷ Engine 0 (Finishes (with_debts_paid (read_got last_words uc_load))) ∷ Engine 0 (Settles 1 0 []) ∷ []

-- all of them, one after the other
abbrev pub events : List Event
events = load_events ++ silent_store ++ transfer_events ++ write_back_events ++ uncached_store ++ evict_events ++ uncached_load

-- what the operations have answered after it all
abbrev pub answers : List (ℕ × Completed)
answers = answer 0 0 (Load 0 (whole 3)) 0 ∷ answer 0 0 (Store 0 3 (becomes 5)) 0 ∷ answer 0 1 (Load 0 (whole 3)) 5
    ∷ answer 0 0 (Load 1 (whole 0)) 0
    ∷ answer 0 0 (UcStore 0 3 (becomes 9)) 0 ∷ answer 0 0 (Evict 1) 0
    ∷ answer 0 1 (UcLoad 0 (whole 3)) 9 ∷ []
