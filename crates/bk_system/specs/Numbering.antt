-- The parts of a system by their numbers: its caches, the channels between them, and how many operations each cache has completed.
use Rattle.std.specs.Prelude.{◌≡◌, ℕ, ◌+◌, ◌*◌, ◌/◌, ◌%◌, ◌<◌, ◌&&◌, nat_lt, if◌then◌else◌, List, [], Some, is_none, slice_get, slice_index, length}
use Rattle.std.specs.Option.{option_map_or}
use Rattle.std.specs.Int.{bit_at}
use Rattle.bk_base.specs.Places.{Shape}
use Rattle.bk_base.specs.declared.config.TheConstants.{MOST_CACHES}
use Rattle.bk_base.specs.declared.op.Done.{Done}
use Rattle.bk_msg.specs.declared.row.Row.{Row}
use Rattle.bk_lce.specs.declared.cache_arrays.CacheArrays.{CacheArrays}
use Rattle.bk_lce.specs.CacheState.{CacheState, opening}
use Rattle.bk_lce.specs.CacheArrays as caches
use Rattle.bk_system.specs.Runs.{completed_by}

-- the caches of a list, by number
unfoldable pub caches_of : Shape → List CacheArrays → ℕ → CacheState
caches_of k xs c = option_map_or caches.state_of (slice_get xs c) (opening k)

-- each cache has its place as its number, and the configuration
abbrev pub AreCaches : Shape → List CacheArrays → Type 0
AreCaches k xs = (c : ℕ) (x : CacheArrays) → slice_get xs c ≡ Some x → (x.number ≡ c) × (x.config ≡ k)

-- the bits of a word mark the caches that have no operation in progress, of so many
abbrev pub AreIdle : ℕ → ℕ → (ℕ → CacheState) → Type 0
AreIdle n word caches = (c : ℕ) → c < 64 → bit_at word c ≡ (if nat_lt c n && is_none (caches c).busy then 1 else 0)

-- the place of the fill channel to a cache from another, with room for as many senders as there are caches at the most
abbrev pub fill_place : ℕ → ℕ → ℕ
fill_place to from = to * MOST_CACHES + from

-- the receiver and the sender of the channel of a place
abbrev pub receiver_at : ℕ → ℕ
receiver_at place = place / MOST_CACHES

abbrev pub sender_at : ℕ → ℕ
sender_at place = place % MOST_CACHES

-- the fill channels, by receiver and sender
unfoldable pub fills_of : (ℕ → List Row) → ℕ → ℕ → List Row
fills_of channel to from = if nat_lt to MOST_CACHES && nat_lt from MOST_CACHES then channel (fill_place to from) else []

-- how many entries each cache has in the history
abbrev pub AreCounts : ℕ → List ℕ → List Done → Type 0
AreCounts n counts history = (c : ℕ) → c < n → slice_index counts c ≡ length (completed_by c history)
