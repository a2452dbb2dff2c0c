-- A second run, of what the first has not: three caches of two ways each, in two way groups that go on at the same time. Each piece
-- stands for one operation. Block 3 of group 1 is the block that all but two of them are about.
use Rattle.std.specs.Prelude.{ℕ, true, List, [], ◌∷◌, ◌++◌, Some}
use Rattle.bk_base.specs.Places.{Shape}
use Rattle.bk_base.specs.Tables.{put}
use Rattle.bk_base.specs.declared.coh.Coh.TheVariants.{S, E, F, M}
use Rattle.bk_machine.specs.Messages.{whole, becomes, Load, Store, Rd, Wr, MemoryBlock}
use Rattle.bk_machine.specs.Transactions.{Transaction, new_transaction}
use Rattle.bk_machine.specs.Words.{Completed}
use Rattle.bk_machine.specs.Actions.{Takes, Settles, CollectsAck, CollectsAnswer, Invalidates, FlushesOwner, WritesBack, GrantsByWake, PaysRequester, Finishes, Idles}
use Rattle.bk_machine.specs.Runs.{Event, Issue, Command, Memory, Engine}
use Rattle.bk_machine.specs.Example.{zeros, flush_asked, flush_kept, with_waiting, debt, with_grant, with_debts_paid, grant_from_memory, answer}

abbrev pub shape : Shape
shape = record { caches = 3; sets = 2; ways = 2 }

-- Cache 0 stores into word 2 of the block, in its way 1, and is granted M by memory's block.
abbrev pub store_events : List Event
store_events = Issue 0 1 (Store 3 2 (becomes 7)) 1 ∷ Engine 1 (Takes 0 (Wr 3 1) [])
    ∷ grant_from_memory 1 zeros M (new_transaction 0 (Wr 3 1))

-- Before that is settled, cache 1's load of the block with the same tag in group 0 is taken. It is granted S, though no other cache
-- has the block.
abbrev pub load_beside_events : List Event
load_beside_events = Issue 1 0 (Load 3 (whole 2)) 1 ∷ Engine 0 (Takes 1 (Rd 3 1) []) ∷ Engine 1 (Settles 0 3 [])
    ∷ grant_from_memory 0 zeros S (new_transaction 1 (Rd 3 1)) ++ Engine 0 (Settles 1 3 []) ∷ []

-- Cache 2 loads the word. The owner's copy goes from M to S, its words are written back, and the block is granted F.
abbrev pub stored_block : MemoryBlock
stored_block = record { tag = 3; words = put zeros 2 7 }

abbrev pub load : Transaction
load = new_transaction 2 (Rd 3 0)

abbrev pub flush_events : List Event
flush_events = Issue 2 1 (Load 3 (whole 2)) 0 ∷ Engine 1 (Takes 2 (Rd 3 0) []) ∷ Engine 1 (FlushesOwner 0 1 S load) ∷ Command 0
    ∷ Engine 1 (CollectsAnswer 0 3 (Some stored_block.words) [] (flush_asked load))
    ∷ Engine 1 (WritesBack stored_block (flush_kept stored_block load)) ∷ Memory
    ∷ grant_from_memory 1 stored_block.words F load ++ Engine 1 (Settles 2 3 []) ∷ []

-- Cache 1 loads the word too, and is granted S beside the owner in F.
abbrev pub share_events : List Event
share_events = Issue 1 1 (Load 3 (whole 2)) 0 ∷ Engine 1 (Takes 1 (Rd 3 0) [])
    ∷ grant_from_memory 1 stored_block.words S (new_transaction 1 (Rd 3 0)) ++ Engine 1 (Settles 1 3 []) ∷ []

-- Cache 0 stores again, into its copy in S: the owner in F and the other sharer are invalidated, and the copy is woken to M.
abbrev pub store : Transaction
store = new_transaction 0 (Wr 3 1)

abbrev pub wake_events : List Event
wake_events = Issue 0 1 (Store 3 2 (becomes 8)) 0 ∷ Engine 1 (Takes 0 (Wr 3 1) [])
    ∷ Engine 1 (Invalidates true (2 ∷ 1 ∷ []) store) ∷ Command 1
    ∷ Engine 1 Idles
    ∷ Engine 1 (CollectsAck 1 3 [] (with_waiting (2 ∷ 1 ∷ []) store)) ∷ Command 2
    ∷ Engine 1 (CollectsAck 2 3 [] (with_waiting (2 ∷ []) store))
    ∷ Engine 1 (GrantsByWake 3 1 store) ∷ Command 0 ∷ Engine 1 (PaysRequester (debt M store) (with_grant M store))
    ∷ Engine 1 (Finishes (with_debts_paid store))
    ∷ Engine 1 (Settles 0 3 []) ∷ []

-- It loads another block of the group into its other way, and still has the first one.
abbrev pub both_events : List Event
both_events = Issue 0 1 (Load 4 (whole 0)) 0 ∷ Engine 1 (Takes 0 (Rd 4 0) []) ∷ grant_from_memory 1 zeros E (new_transaction 0 (Rd 4 0))
    ++ Engine 1 (Settles 0 4 [])
    ∷ Issue 0 1 (Load 3 (whole 2)) 0 ∷ []

-- all of them, one after the other
abbrev pub events : List Event
events = store_events ++ load_beside_events ++ flush_events ++ share_events ++ wake_events ++ both_events

-- what the operations have answered after it all
abbrev pub answers : List (ℕ × Completed)
answers = answer 1 0 (Store 3 2 (becomes 7)) 0 ∷ answer 0 1 (Load 3 (whole 2)) 0 ∷ answer 1 2 (Load 3 (whole 2)) 7
    ∷ answer 1 1 (Load 3 (whole 2)) 7
    ∷ answer 1 0 (Store 3 2 (becomes 8)) 0 ∷ answer 1 0 (Load 4 (whole 0)) 0
    ∷ answer 1 0 (Load 3 (whole 2)) 8 ∷ []
