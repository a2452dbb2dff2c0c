-- What a cache holds: its lines, their recency, and the operation that it has begun.
use Rattle.std.specs.Prelude.{ℕ, ◌+◌, ◌*◌, List, [], ◌∷◌, Bool, not, ◌&&◌, ◌==◌, Option, None, replicate, filter}
use Rattle.bk_base.specs.Places.{Shape, group_of, tag_at}
use Rattle.bk_base.specs.Counting.{join_below, least_below}
use Rattle.bk_base.specs.States.{is_readable}
use Rattle.bk_base.specs.Tables.{put}
use Rattle.bk_base.specs.declared.coh.Coh.TheVariants.{I}
use Rattle.bk_lce.specs.declared.line.Line.{Line}
use Rattle.bk_lce.specs.declared.line.InProgress.{InProgress}

-- Each map has a value for each number; what was never written is the opening one.
pub record CacheState : Type 0 where
  pub lines : ℕ → ℕ → Line  -- by set and way
  pub recency : ℕ → List ℕ  -- by set: its ways, most recently used first
  pub busy : Option InProgress  -- the operation in progress

abbrev pub empty_line : Line
empty_line = record { tag = 0; state = I; words = replicate 8 0 }

-- the ways of a set in the order of their numbers
abbrev pub ways_in_order : ℕ → List ℕ
ways_in_order ways = join_below ways (λ w. w ∷ [])

-- A list of ways in one number, three bits for each: the way at place i of the list is added 8 ^ i times.
abbrev pub packed : List ℕ → ℕ
packed [] = 0
packed (w ∷ ws) = w + 8 * packed ws

-- a cache that was never used
abbrev pub opening : Shape → CacheState
opening k = record { lines = λ s w. empty_line; recency = λ s. ways_in_order k.ways; busy = None }

-- a line holds the block with a tag: it has the tag, in a state other than I
abbrev pub holds : Line → ℕ → Bool
holds line tag = is_readable line.state && line.tag == tag

-- the line at a way of an address's set
abbrev pub line_at : Shape → CacheState → ℕ → ℕ → Line
line_at k cache addr w = cache.lines (group_of k addr) w

-- the least way that holds the block of an address
abbrev pub found : Shape → CacheState → ℕ → Option ℕ
found k cache addr = least_below k.ways (λ w. holds (line_at k cache addr w) (tag_at k addr))

-- one line written, and all else as it was
abbrev pub with_line : CacheState → ℕ → ℕ → Line → CacheState
with_line cache set w line = record cache { lines = put cache.lines set (put (cache.lines set) w line) }

-- a way becomes the most recently used of its set
abbrev pub to_front : ℕ → List ℕ → List ℕ
to_front w ways = w ∷ filter (λ v. not (v == w)) ways

abbrev pub used : CacheState → ℕ → ℕ → CacheState
used cache set w = record cache { recency = put cache.recency set (to_front w (cache.recency set)) }
