-- The state of a system: what each cache, the engine with its directory, the memory and each channel hold, and what has happened.
-- Each map has a value for each number; what was never set has the opening one.
use Rattle.std.specs.Prelude.{ℕ, List, []}
use Rattle.bk_base.specs.Places.{Shape}
use Rattle.bk_base.specs.declared.op.Done.{Done}
use Rattle.bk_msg.specs.declared.row.Row.{Row}
use Rattle.bk_lce.specs.CacheState as caches
use Rattle.bk_lce.specs.CacheState.{CacheState}
use Rattle.bk_engine.specs.Engine.{EngineState, new_engine}
use Rattle.bk_system.specs.declared.event.Origin.{Origin}

pub record State : Type 0 where
  pub caches : ℕ → CacheState  -- by cache
  pub engine : EngineState
  pub memory : ℕ → ℕ  -- by address of a word
  pub request : ℕ → List Row  -- by cache; of each channel the oldest message first
  pub command : ℕ → List Row  -- by cache
  pub response : ℕ → List Row  -- by cache
  pub fill : ℕ → ℕ → List Row  -- by receiver and sender
  pub memout : List Row
  pub memin : List Row
  pub history : List Done  -- the operations that have completed, the oldest first
  pub taken : List Origin  -- of each request that was popped
  pub settled : List Origin  -- of each CohAck that was popped

-- where each run begins: caches, directory and channels are empty, and the memory's words are 0
abbrev pub opening : Shape → State
opening k = record {
  caches = λ c. caches.opening k;
  engine = new_engine;
  memory = λ a. 0;
  request = λ c. [];
  command = λ c. [];
  response = λ c. [];
  fill = λ to from. [];
  memout = [];
  memin = [];
  history = [];
  taken = [];
  settled = [];
}
