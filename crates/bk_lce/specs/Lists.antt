-- What a cache stands for, of the lists that it keeps: a line has its place by set and way, and a word holds each set's recency list.
use Rattle.std.specs.Prelude.{◌≡◌, ℕ, zero, suc, ◌+◌, ◌*◌, ◌/◌, ◌%◌, ◌^◌, ◌<◌, nat_lt, if◌then◌else◌, ◌==◌, List, [], ◌∷◌, length, slice_index_or, Option, Some}
use Rattle.bk_base.specs.Places.{Shape}
use Rattle.bk_lce.specs.declared.line.Line.{Line}
use Rattle.bk_lce.specs.declared.line.InProgress.{InProgress}
use Rattle.bk_lce.specs.CacheState.{empty_line, ways_in_order, packed}
use Rattle.bk_lce.specs.Policies.{age_in}

abbrev pub place_of : ℕ → ℕ → ℕ → ℕ
place_of ways set w = set * ways + w

-- the lines of a list, by set and way, where a set has so many ways
unfoldable pub lines_of : ℕ → List Line → ℕ → ℕ → Line
lines_of ways xs set w = if nat_lt w ways then slice_index_or xs (place_of ways set w) empty_line else empty_line

-- the first n digits of a word in base 8, the lowest first
unfoldable pub digits : ℕ → ℕ → List ℕ
digits zero word = []
digits (suc n) word = word % 8 ∷ digits n (word / 8)

-- the word that a set has in a list; a set that isn't there has its ways in the order of their numbers
abbrev pub word_at : ℕ → List ℕ → ℕ → ℕ
word_at ways xs set = slice_index_or xs set (packed (ways_in_order ways))

-- the recency of a list of words, by set
unfoldable pub recency_of : ℕ → List ℕ → ℕ → List ℕ
recency_of ways xs set = digits ways (word_at ways xs set)

-- a word has the age of each of n ways in a list: that of way w at digit w
abbrev pub HoldsAges : ℕ → List ℕ → ℕ → Type 0
HoldsAges n ways ages = (w : ℕ) → w < n → ages / 2 ^ (3 * w) % 8 ≡ age_in ways w

-- the operation in progress has a way of the cache
abbrev pub HasWay : Shape → Option InProgress → Type 0
HasWay k o = (busy : InProgress) → o ≡ Some busy → busy.way < k.ways

-- how many times a number stands in a list
unfoldable pub times : ℕ → List ℕ → ℕ
times w [] = 0
times w (v ∷ vs) = (if v == w then 1 else 0) + times w vs

-- a word lists each way once, and no more: all bits past the list are 0
pub record IsListed (ways word : ℕ) : Type 0 where
  pub once : (w : ℕ) → w < ways → times w (digits ways word) ≡ 1
  pub below : word < 2 ^ (3 * ways)

-- each set's word lists each way of the cache once
abbrev pub AreListed : Shape → List ℕ → Type 0
AreListed k xs = (set : ℕ) → set < length xs → IsListed k.ways (word_at k.ways xs set)

-- no line was ever written
abbrev pub AreOpening : ℕ → List Line → Type 0
AreOpening ways xs = (set w : ℕ) → lines_of ways xs set w ≡ empty_line

-- each set has its ways in the order of their numbers
abbrev pub AreOrdered : ℕ → List ℕ → Type 0
AreOrdered ways xs = (set : ℕ) → word_at ways xs set ≡ packed (ways_in_order ways)
