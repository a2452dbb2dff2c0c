-- The channels of one network, one for each number, and the words of a memory, as functions.
use Rattle.std.specs.Prelude.{◌≡◌, ◌≢◌, ℕ, ◌<◌, ◌≤◌, ◌%◌, ◌==◌, if◌then◌else◌, List, [], slice_index, vec_len, unwrap_or, replicate}
use Rattle.std.specs.Ordering.{nat_cmp}
use Rattle.std.specs.BTreeMap.{get}
use Rattle.bk_base.specs.Places.{block_of, word_of}
use Rattle.bk_msg.specs.declared.row.Row.{Row}
use Rattle.bk_system.specs.declared.channels.Channels.{Channels}
use Rattle.bk_system.specs.declared.memory.MainMemory.{MainMemory}
use Rattle.bk_system.specs.Queues.{queues_of, rooms_of}

-- what the channel of a number holds, the oldest message first
unfoldable pub queue : Channels → ℕ → List Row
queue channels c = queues_of channels.queues.items c

-- how many more messages the channel of a number takes without memory
unfoldable pub room : Channels → ℕ → ℕ
room channels c = rooms_of channels.queues.items c

-- how many channels there are
abbrev pub channel_count : Channels → ℕ
channel_count channels = vec_len channels.queues

-- c is the least number from `from` on, of those below count, whose channel holds a message
pub record IsNext (channel : ℕ → List Row) (count from c : ℕ) : Type 0 where
  pub low : from ≤ c
  pub there : c < count
  pub holds : channel c ≢ []
  pub before : (d : ℕ) → from ≤ d → d < c → channel d ≡ []

-- the word at an address, 0 where none was written: the memory keeps whole blocks, by their numbers
unfoldable pub word_at : MainMemory → ℕ → ℕ
word_at memory a = if a % 8 == 0 then slice_index (unwrap_or (get nat_cmp memory.blocks (block_of a)) (replicate 8 0)) (word_of a) else 0
