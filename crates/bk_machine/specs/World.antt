-- The state of the table machine: every way group's parts, and the channels that all groups share.
use Rattle.std.specs.Prelude.{ℕ, ◌+◌, zero, suc, Bool, false, List, [], ◌∷◌, Option, Some, None, if◌then◌else◌, ◌==◌}
use Rattle.bk_machine.specs.Entries.{Entry, empty_entry}
use Rattle.bk_machine.specs.Messages.{Request, ToCache, FillMessage, Response, ToMemory, MemoryBlock}
use Rattle.bk_machine.specs.Transactions.{InProgress, Transaction}
use Rattle.bk_machine.specs.Words.{Completed}

-- Each map has a value for each number; what was never set has the opening one. What belongs to a way group is by group
-- first, or stands with the group's number. Of each channel the oldest message stands first.
pub record World : Type 0 where
  pub entries : ℕ → ℕ → ℕ → Entry  -- what the caches hold: by group, cache, way
  pub words : ℕ → ℕ → ℕ → ℕ → ℕ  -- with these words: by group, cache, way, word
  pub directory : ℕ → ℕ → ℕ → Entry  -- by group, cache, way
  pub recency : ℕ → ℕ → List ℕ  -- by group and cache: its ways, most recently used first
  pub busy : ℕ → Option (ℕ × InProgress)  -- by cache: its operation in progress
  pub pending : ℕ → Bool  -- by group
  pub memory : ℕ → ℕ → ℕ → ℕ  -- by group, tag, word
  pub request : ℕ → List (ℕ × Request)  -- by cache
  pub command : ℕ → List (ℕ × ToCache)  -- by cache
  pub fill : ℕ → ℕ → List (ℕ × FillMessage)  -- by receiver and sender
  pub response : ℕ → List (ℕ × Response)  -- by cache
  pub memout : List (ℕ × ToMemory)  -- from the engine to the memory
  pub memin : List (ℕ × MemoryBlock)  -- from the memory to the engine
  pub transaction : Option (ℕ × Transaction)  -- the one that the engine serves
  pub history : List (ℕ × Completed)  -- the operations that have completed, the oldest first
  pub taken_count : ℕ → ℕ  -- by group: how many requests were taken
  pub settled_count : ℕ → ℕ  -- by group: how many were settled

-- n numbers in order, from a first one
abbrev pub ways_from : ℕ → ℕ → List ℕ
ways_from zero n = []
ways_from (suc k) n = n ∷ ways_from k (n + 1)

-- the state at the start: nothing held, nothing under way, all words 0
abbrev pub empty_world : ℕ → World
empty_world ways = record {
  entries = λ s c w. empty_entry;
  words = λ s c w k. 0;
  directory = λ s c w. empty_entry;
  recency = λ s c. ways_from ways 0;
  busy = λ c. None;
  pending = λ s. false;
  memory = λ s t k. 0;
  request = λ c. [];
  command = λ c. [];
  fill = λ c o. [];
  response = λ c. [];
  memout = [];
  memin = [];
  transaction = None;
  history = [];
  taken_count = λ s. 0;
  settled_count = λ s. 0;
}

-- One way group of the state: the same parts without the group's number.
pub record GroupState : Type 0 where
  pub entries : ℕ → ℕ → Entry
  pub words : ℕ → ℕ → ℕ → ℕ
  pub directory : ℕ → ℕ → Entry
  pub busy : ℕ → Option InProgress
  pub pending : Bool
  pub memory : ℕ → ℕ → ℕ
  pub request : ℕ → List Request
  pub command : ℕ → List ToCache
  pub fill : ℕ → ℕ → List FillMessage
  pub response : ℕ → List Response
  pub memout : List ToMemory
  pub memin : List MemoryBlock
  pub transaction : Option Transaction
  pub history : List Completed
  pub taken_count : ℕ
  pub settled_count : ℕ

-- what a list has of one group, and a value where it is of that group
abbrev pub of_group : {X : Type 0} → ℕ → List (ℕ × X) → List X
of_group g [] = []
of_group g (x ∷ xs) = if g == x.0 then x.1 ∷ of_group g xs else of_group g xs

abbrev pub option_of_group : {X : Type 0} → ℕ → Option (ℕ × X) → Option X
option_of_group g None = None
option_of_group g (Some x) = if g == x.0 then Some x.1 else None

abbrev pub view : ℕ → World → GroupState
view g world = record {
  entries = world.entries g;
  words = world.words g;
  directory = world.directory g;
  busy = λ c. option_of_group g (world.busy c);
  pending = world.pending g;
  memory = world.memory g;
  request = λ c. of_group g (world.request c);
  command = λ c. of_group g (world.command c);
  fill = λ c o. of_group g (world.fill c o);
  response = λ c. of_group g (world.response c);
  memout = of_group g world.memout;
  memin = of_group g world.memin;
  transaction = option_of_group g world.transaction;
  history = of_group g world.history;
  taken_count = world.taken_count g;
  settled_count = world.settled_count g;
}
