-- The tables of the caches and the memory: which step an event is. An event without a step isn't enabled.
use Rattle.std.specs.Prelude.{ℕ, Bool, true, false, ◌&&◌, List, [], ◌∷◌, Option, Some, None, if◌then◌else◌, ◌==◌, nat_lt}
use Rattle.bk_base.specs.Places.{Shape}
use Rattle.bk_base.specs.declared.coh.Coh.{Coh}
use Rattle.bk_base.specs.States.{is_writable}
use Rattle.bk_machine.specs.Entries.{holds}
use Rattle.bk_machine.specs.Directory.{found_way}
use Rattle.bk_machine.specs.Messages.{Op, Load, Store, UcLoad, UcStore, Evict, ToCache, Inv, StWb, StTr, Blk, StWake, UcBlk, UcDone, EvictDone, FillMessage, ToMemory, Read, Write, WriteWord}
use Rattle.bk_machine.specs.Transactions.{InProgress}
use Rattle.bk_machine.specs.World.{World}
use Rattle.bk_machine.specs.Steps.{MachineStep, LoadHits, StoreHits, Asks, EvictIdles, InvComes, FlushComes, TransferComes, BlockLoads, BlockStores, WakeStores, WordComes, StoreComes, EvictComes, FillLoads, FillStores, MemoryReads, MemoryWrites, MemoryWritesWord}

-- a step of the group, where the test passes
abbrev pub step_if : Bool → ℕ → MachineStep → Option (ℕ × MachineStep)
step_if true g a = Some (g, a)
step_if false g a = None

-- by the way that was found, or none
abbrev pub at_way : Option ℕ → (ℕ → Option (ℕ × MachineStep)) → Option (ℕ × MachineStep) → Option (ℕ × MachineStep)
at_way None f d = d
at_way (Some v) f d = f v

-- ISSUE: an idle cache is given an operation. `way` is the victim's, for a Load or Store of a block that isn't there.
abbrev pub issue_row : ℕ → World → ℕ → ℕ → ℕ → Op → Option (ℕ × MachineStep)
issue_row ways world c g way (Load t spot) =
    at_way (found_way ways (world.entries g c) t) (λ v. Some (g, LoadHits c t v spot)) (Some (g, Asks c way (Load t spot)))
issue_row ways world c g way (Store t k f) =
    at_way (found_way ways (world.entries g c) t)
    (λ v. if is_writable (world.entries g c v).state then Some (g, StoreHits c t v k f) else Some (g, Asks c v (Store t k f)))
    (Some (g, Asks c way (Store t k f)))
issue_row ways world c g way (UcLoad t spot) = Some (g, Asks c 0 (UcLoad t spot))
issue_row ways world c g way (UcStore t k f) = Some (g, Asks c 0 (UcStore t k f))
issue_row ways world c g way (Evict t) =
    at_way (found_way ways (world.entries g c) t) (λ v. Some (g, Asks c v (Evict t))) (Some (g, EvictIdles c t))

-- the cache and the way are in range, and the cache is idle
abbrev pub step_of_issue : Shape → World → ℕ → ℕ → ℕ → Op → Option (ℕ × InProgress) → Option (ℕ × MachineStep)
step_of_issue k world c g way op None = if nat_lt c k.caches && nat_lt way k.ways then issue_row k.ways world c g way op else None
step_of_issue k world c g way op (Some b) = None

-- COMMAND: the head of a cache's command channel, by the operation in progress

-- Blk: a Load or Store of this block and way is in progress; for a Store the state is E or M
abbrev pub block_row : ℕ → ℕ → ℕ → ℕ → Coh → (ℕ → ℕ) → List (ℕ × ToCache) → Op
    → Option (ℕ × MachineStep)
block_row g c t w state ws rest (Load u spot) = step_if (u == t) g (BlockLoads c t w spot state ws rest)
block_row g c t w state ws rest (Store u k f) = step_if (u == t && is_writable state) g (BlockStores c t w k f state ws rest)
block_row g c t w state ws rest (UcLoad u spot) = None
block_row g c t w state ws rest (UcStore u k f) = None
block_row g c t w state ws rest (Evict u) = None

-- StWake: a Store of this block and way is in progress, and the entry at the way holds the block
abbrev pub wake_row : World → ℕ → ℕ → ℕ → ℕ → List (ℕ × ToCache) → Op → Option (ℕ × MachineStep)
wake_row world g c t w rest (Load u spot) = None
wake_row world g c t w rest (Store u k f) = step_if (u == t && holds (world.entries g c w) t) g (WakeStores c t w k f rest)
wake_row world g c t w rest (UcLoad u spot) = None
wake_row world g c t w rest (UcStore u k f) = None
wake_row world g c t w rest (Evict u) = None

-- UcBlk: a UcLoad of this word is in progress
abbrev pub word_row : ℕ → ℕ → ℕ → ℕ → ℕ → ℕ → List (ℕ × ToCache) → Op → Option (ℕ × MachineStep)
word_row g c t w number n rest (Load u spot) = None
word_row g c t w number n rest (Store u j f) = None
word_row g c t w number n rest (UcLoad u spot) = step_if (u == t && spot.word == number) g (WordComes c t w spot n rest)
word_row g c t w number n rest (UcStore u j f) = None
word_row g c t w number n rest (Evict u) = None

-- UcDone: a UcStore of this word is in progress
abbrev pub stored_row : ℕ → ℕ → ℕ → ℕ → ℕ → List (ℕ × ToCache) → Op → Option (ℕ × MachineStep)
stored_row g c t w number rest (Load u spot) = None
stored_row g c t w number rest (Store u j f) = None
stored_row g c t w number rest (UcLoad u spot) = None
stored_row g c t w number rest (UcStore u j f) = step_if (u == t && j == number) g (StoreComes c t w number f rest)
stored_row g c t w number rest (Evict u) = None

-- Done: an Evict of this block is in progress
abbrev pub evicted_row : ℕ → ℕ → ℕ → ℕ → List (ℕ × ToCache) → Op → Option (ℕ × MachineStep)
evicted_row g c t w rest (Load u spot) = None
evicted_row g c t w rest (Store u j f) = None
evicted_row g c t w rest (UcLoad u spot) = None
evicted_row g c t w rest (UcStore u j f) = None
evicted_row g c t w rest (Evict u) = step_if (u == t) g (EvictComes c t w rest)

-- by the operation in progress, where there is one and it is of the group
abbrev pub for_busy : ℕ → Option (ℕ × InProgress) → (InProgress → Option (ℕ × MachineStep)) → Option (ℕ × MachineStep)
for_busy g None f = None
for_busy g (Some b) f = if b.0 == g then f b.1 else None

-- Inv has a row always; StWb where the block is valid; StTr where it is and the peer is another cache
abbrev pub command_row : ℕ → World → ℕ → ℕ → List (ℕ × ToCache) → ToCache → Option (ℕ × MachineStep)
command_row ways world c g rest (Inv t) = Some (g, InvComes c t rest)
command_row ways world c g rest (StWb t x) = at_way (found_way ways (world.entries g c) t) (λ v. Some (g, FlushComes c v t x rest)) None
command_row ways world c g rest (StTr t y peer pv x) =
    at_way (found_way ways (world.entries g c) t) (λ v. if peer == c then None else Some (g, TransferComes c v t y peer pv x rest)) None
command_row ways world c g rest (Blk t v x ws) =
    for_busy g (world.busy c) (λ b. if b.way == v then block_row g c t v x ws rest b.op else None)
command_row ways world c g rest (StWake t v) =
    for_busy g (world.busy c) (λ b. if b.way == v then wake_row world g c t v rest b.op else None)
command_row ways world c g rest (UcBlk t k n) = for_busy g (world.busy c) (λ b. word_row g c t b.way k n rest b.op)
command_row ways world c g rest (UcDone t k) = for_busy g (world.busy c) (λ b. stored_row g c t b.way k rest b.op)
command_row ways world c g rest (EvictDone t) = for_busy g (world.busy c) (λ b. evicted_row g c t b.way rest b.op)

abbrev pub step_of_command : ℕ → World → ℕ → List (ℕ × ToCache) → Option (ℕ × MachineStep)
step_of_command ways world c [] = None
step_of_command ways world c (m ∷ rest) = command_row ways world c m.0 rest m.1

-- FILL: the head of a fill channel, as Blk
abbrev pub fill_row : ℕ → ℕ → ℕ → FillMessage → List (ℕ × FillMessage) → Op → Option (ℕ × MachineStep)
fill_row g c o m rest (Load u spot) = step_if (u == m.tag) g (FillLoads c o m.tag m.way spot m.state m.words rest)
fill_row g c o m rest (Store u k f) = step_if (u == m.tag && is_writable m.state) g (FillStores c o m.tag m.way k f m.state m.words rest)
fill_row g c o m rest (UcLoad u spot) = None
fill_row g c o m rest (UcStore u k f) = None
fill_row g c o m rest (Evict u) = None

abbrev pub step_of_fill : World → ℕ → ℕ → List (ℕ × FillMessage) → Option (ℕ × MachineStep)
step_of_fill world c o [] = None
step_of_fill world c o (m ∷ rest) = for_busy m.0 (world.busy c) (λ b. if b.way == m.1.way then fill_row m.0 c o m.1 rest b.op else None)

-- MEMORY: the head of its channel always has a row
abbrev pub memory_row : ℕ → List (ℕ × ToMemory) → ToMemory → ℕ × MachineStep
memory_row g rest (Read t) = (g, MemoryReads t rest)
memory_row g rest (Write t ws) = (g, MemoryWrites t ws rest)
memory_row g rest (WriteWord t k f) = (g, MemoryWritesWord t k f rest)

abbrev pub step_of_memory : List (ℕ × ToMemory) → Option (ℕ × MachineStep)
step_of_memory [] = None
step_of_memory (m ∷ rest) = Some (memory_row m.0 rest m.1)
