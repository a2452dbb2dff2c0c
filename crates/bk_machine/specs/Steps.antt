-- What the rows of the tables of caches and memory change. A row is a step; which step an event is stands in CacheSteps.
use Rattle.std.specs.Prelude.{ℕ, List, [], ◌∷◌, ◌++◌, Some, None, if◌then◌else◌, ◌==◌}
use Rattle.bk_base.specs.Tables.{put}
use Rattle.bk_base.specs.declared.coh.Coh.{Coh}
use Rattle.bk_base.specs.declared.coh.Coh.TheVariants.{M}
use Rattle.bk_base.specs.States.{is_dirty}
use Rattle.bk_machine.specs.Tables.{put2}
use Rattle.bk_machine.specs.Entries.{with_state, wiped_in_cache}
use Rattle.bk_machine.specs.Messages.{Op, Spot, Load, Store, UcLoad, UcStore, Evict, ToCache, FillMessage, InvAck, CohAck, ToMemory, op_tag, request_of, answer_of}
use Rattle.bk_machine.specs.Words.{write_block, write_word}
use Rattle.bk_machine.specs.World.{World}

-- A step of a cache or of the memory, in one way group. Where it takes a channel's head, `rest` is what is left of the channel.
pub data MachineStep : Type 0 where
  -- Issue: a Load or Store of a copy, a request, an Evict of a block that isn't there
  LoadHits : (cache tag way : ℕ) → Spot → MachineStep
  StoreHits : (cache tag way word : ℕ) → (change : ℕ → ℕ) → MachineStep
  Asks : (cache way : ℕ) → Op → MachineStep
  EvictIdles : (cache tag : ℕ) → MachineStep
  -- Command: Inv, StWb, StTr; Blk for a Load and for a Store; StWake, UcBlk, UcDone, Done
  InvComes : (cache tag : ℕ) → (rest : List (ℕ × ToCache)) → MachineStep
  FlushComes : (cache way tag : ℕ) → Coh → (rest : List (ℕ × ToCache)) → MachineStep
  TransferComes : (cache way tag : ℕ) → Coh → (peer peer_way : ℕ) → Coh → (rest : List (ℕ × ToCache)) → MachineStep
  BlockLoads : (cache tag way : ℕ) → Spot → Coh → (ℕ → ℕ) → (rest : List (ℕ × ToCache)) → MachineStep
  BlockStores : (cache tag way word : ℕ) → (change : ℕ → ℕ) → Coh → (ℕ → ℕ) → (rest : List (ℕ × ToCache))
      → MachineStep
  WakeStores : (cache tag way word : ℕ) → (change : ℕ → ℕ) → (rest : List (ℕ × ToCache)) → MachineStep
  WordComes : (cache tag way : ℕ) → Spot → (value : ℕ) → (rest : List (ℕ × ToCache)) → MachineStep
  StoreComes : (cache tag way word : ℕ) → (change : ℕ → ℕ) → (rest : List (ℕ × ToCache)) → MachineStep
  EvictComes : (cache tag way : ℕ) → (rest : List (ℕ × ToCache)) → MachineStep
  -- Fill, for a Load and for a Store
  FillLoads : (cache from tag way : ℕ) → Spot → Coh → (ℕ → ℕ) → (rest : List (ℕ × FillMessage)) → MachineStep
  FillStores : (cache from tag way word : ℕ) → (change : ℕ → ℕ) → Coh → (ℕ → ℕ) → (rest : List (ℕ × FillMessage))
      → MachineStep
  -- Memory
  MemoryReads : (tag : ℕ) → (rest : List (ℕ × ToMemory)) → MachineStep
  MemoryWrites : (tag : ℕ) → (ℕ → ℕ) → (rest : List (ℕ × ToMemory)) → MachineStep
  MemoryWritesWord : (tag word : ℕ) → (change : ℕ → ℕ) → (rest : List (ℕ × ToMemory)) → MachineStep

-- a list without a number
abbrev pub without : ℕ → List ℕ → List ℕ
without w [] = []
without w (x ∷ xs) = if w == x then without w xs else x ∷ without w xs

-- the completion of a Load or Store moves its way to the front
abbrev pub with_way_first : ℕ → ℕ → ℕ → World → World
with_way_first g c w world = record world { recency = put2 world.recency g c (w ∷ without w (world.recency g c)) }

-- an entry of the history
abbrev pub with_record : ℕ → ℕ → Op → ℕ → World → World
with_record g c op n world = record world { history = world.history ++ (g, record { cache = c; op = op; answer = n }) ∷ [] }

-- the operation in progress completes: the cache is idle, and CohAck carries the block
abbrev pub with_completion : ℕ → ℕ → Op → ℕ → World → World
with_completion g c op n world = record world {
  busy = put world.busy c None;
  response = put world.response c (world.response c ++ (g, CohAck (op_tag op)) ∷ []);
  history = world.history ++ (g, record { cache = c; op = op; answer = n }) ∷ [];
}

-- the entry at way w becomes this tag, state and words
abbrev pub with_filled_entry : ℕ → ℕ → ℕ → ℕ → Coh → (ℕ → ℕ) → World → World
with_filled_entry g c w t state ws world =
    record world {
      entries = put world.entries g (put2 (world.entries g) c w (record { tag = t; state = state }));
      words = put world.words g (put2 (world.words g) c w ws);
    }

abbrev pub with_command : ℕ → List (ℕ × ToCache) → World → World
with_command c xs world = record world { command = put world.command c xs }

-- what a step of group g changes
abbrev pub step_after : ℕ → MachineStep → World → World
-- a Load answers its part of the copy's word
step_after g (LoadHits c t v spot) world = with_record g c (Load t spot) (spot.of (world.words g c v spot.word))
    (with_way_first g c v world)
-- a Store changes its word, and the copy is in M
step_after g (StoreHits c t v k f) world = with_record g c (Store t k f) 0 (record (with_way_first g c v world) {
  entries = put world.entries g (put2 (world.entries g) c v (with_state (world.entries g c v) M));
  words = put world.words g (put2 (world.words g) c v (put (world.words g c v) k (f (world.words g c v k))));
})
-- the operation is in progress with its way, and its request is sent
step_after g (Asks c v op) world =
    record world {
      busy = put world.busy c (Some (g, record { op = op; way = v }));
      request = put world.request c (world.request c ++ (g, request_of op v) ∷ []);
    }
step_after g (EvictIdles c t) world = with_record g c (Evict t) 0 world
-- Inv: a valid entry of the block becomes I; InvAck
step_after g (InvComes c t rest) world = record world {
  entries = put world.entries g (wiped_in_cache c t (world.entries g));
  command = put world.command c rest;
  response = put world.response c (world.response c ++ (g, InvAck t) ∷ []);
}
-- StWb: the entry takes the state; Wb with the words where it was M or O, else NullWb
step_after g (FlushComes c v t x rest) world = record world {
  entries = put world.entries g (put2 (world.entries g) c v (with_state (world.entries g c v) x));
  command = put world.command c rest;
  response = put world.response c
      (world.response c ++ (g, answer_of t (if is_dirty (world.entries g c v).state then Some (world.words g c v) else None)) ∷ []);
}
-- StTr: the entry takes the state; Fill with the words, the peer's way and state to the peer
step_after g (TransferComes c v t y peer pv x rest) world = record world {
  entries = put world.entries g (put2 (world.entries g) c v (with_state (world.entries g c v) y));
  command = put world.command c rest;
  fill = put2 world.fill peer c (world.fill peer c ++ (g, record { tag = t; way = pv; state = x; words = world.words g c v }) ∷ []);
}
-- Blk, Fill: the entry becomes the block's; a Load answers its part; a Store changes its word and has M; CohAck
step_after g (BlockLoads c t v spot x ws rest) world =
    with_command c rest (with_completion g c (Load t spot) (spot.of (ws spot.word))
    (with_filled_entry g c v t x ws (with_way_first g c v world)))
step_after g (BlockStores c t v k f x ws rest) world =
    with_command c rest (with_completion g c (Store t k f) 0
    (with_filled_entry g c v t M (put ws k (f (ws k))) (with_way_first g c v world)))
-- StWake: the Store changes the copy's word, and the copy is in M; CohAck
step_after g (WakeStores c t v k f rest) world =
    with_command c rest (with_completion g c (Store t k f) 0
    (with_filled_entry g c v t M (put (world.words g c v) k (f (world.words g c v k))) (with_way_first g c v world)))
-- UcBlk, UcDone, Done: the operation completes; CohAck
step_after g (WordComes c t v spot n rest) world = with_command c rest (with_completion g c (UcLoad t spot) (spot.of n) world)
step_after g (StoreComes c t v k f rest) world = with_command c rest (with_completion g c (UcStore t k f) 0 world)
step_after g (EvictComes c t v rest) world = with_command c rest (with_completion g c (Evict t) 0 world)
step_after g (FillLoads c o t v spot x ws rest) world =
    record (with_completion g c (Load t spot) (spot.of (ws spot.word)) (with_filled_entry g c v t x ws (with_way_first g c v world))) {
      fill = put2
          world.fill c o rest;
    }
step_after g (FillStores c o t v k f x ws rest) world =
    record (with_completion g c (Store t k f) 0 (with_filled_entry g c v t M (put ws k (f (ws k))) (with_way_first g c v world))) {
      fill = put2
          world.fill c o rest;
    }
-- the memory: Read answers Block with the words; Write and WriteWord change the words
step_after g (MemoryReads t rest) world =
    record world { memout = rest; memin = world.memin ++ (g, record { tag = t; words = world.memory g t }) ∷ [] }
step_after g (MemoryWrites t ws rest) world =
    record world { memout = rest; memory = put world.memory g (write_block (world.memory g) t ws) }
step_after g (MemoryWritesWord t k f rest) world =
    record world { memout = rest; memory = put world.memory g (write_word (world.memory g) t k f) }
