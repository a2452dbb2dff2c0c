-- What a directory stands for, of what it keeps: a segment for each cache and set, with room for the most caches that a
-- system may have in each set, and the pending bits in one word.
use Rattle.std.specs.Prelude.{ℕ, ◌+◌, ◌*◌, Bool, nat_lt, if◌then◌else◌, List, [], slice_index_or}
use Rattle.bk_base.specs.Places.{Shape}
use Rattle.bk_base.specs.declared.config.TheConstants.{MOST_CACHES}
use Rattle.bk_dir.specs.declared.entry.Entry.{Entry}
use Rattle.bk_dir.specs.Contents.{empty_entry}
use Rattle.bk_dir.specs.Segments.{number_of, field_at, entry_in, IsField}
use Rattle.bk_dir.specs.Summaries.{has_bit}

-- the place of a segment
abbrev pub place_of : ℕ → ℕ → ℕ
place_of c set = set * MOST_CACHES + c

-- the bits of a way
abbrev pub field_in : List (List ℕ) → ℕ → ℕ → ℕ
field_in segments i w = field_at (number_of (slice_index_or segments i [])) w

-- the entries of segments, by cache, set and way
unfoldable pub entries_of : List (List ℕ) → ℕ → ℕ → ℕ → Entry
entries_of segments c set w = if nat_lt c MOST_CACHES then entry_in (field_in segments (place_of c set) w) else empty_entry

-- the pending bits of a word, by way group
unfoldable pub bits_of : ℕ → ℕ → Bool
bits_of word g = has_bit word g

-- each field of the segments is one that its way may have
abbrev pub AreFields : Shape → List (List ℕ) → Type 0
AreFields k segments = (i w : ℕ) → IsField k w (field_in segments i w)
