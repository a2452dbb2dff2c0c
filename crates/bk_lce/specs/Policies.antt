-- What a victim policy is asked, which way is the oldest, what is known of a policy that may be stored, and of an operation that is
-- given with the way that a policy answers.
use Rattle.std.specs.Prelude.{◌≡◌, ℕ, ◌<◌, ◌≤◌, List, length, map, position, not, ◌==◌, unwrap_or, MatchOption, slice_get, Some, Result, nat_lt, if◌then◌else◌}
use Rattle.std.specs.Borrow.{Bor}
use Rattle.std.specs.Fn.{Shared}
use Rattle.bk_base.specs.Places.{Shape, group_of}
use Rattle.bk_base.specs.States.{is_readable}
use Rattle.bk_base.specs.declared.op.Op.{Op}
use Rattle.bk_lce.specs.declared.line.WayView.{WayView}
use Rattle.bk_lce.specs.CacheState.{CacheState, ways_in_order}
use Rattle.bk_lce.specs.declared.line.CacheStep.{CacheStep}
use Rattle.bk_lce.specs.CacheTable.{address_of, Gives, issue}

-- the age of a way: its place in the list of its set, from 0 for the most recently used
abbrev pub age_in : List ℕ → ℕ → ℕ
age_in ways w = unwrap_or (position (λ v. v == w) ways) 0

abbrev pub view_of : CacheState → ℕ → ℕ → WayView
view_of cache set w = record { state = (cache.lines set w).state; age = age_in (cache.recency set) w }

-- the state and age of each way of a set, by way
abbrev pub views : Shape → CacheState → ℕ → List WayView
views k cache set = map (view_of cache set) (ways_in_order k.ways)

-- the least way among those of the greatest age
pub record IsOfGreatestAge (vs : List WayView) (w : ℕ) : Type 0 where
  pub view : WayView
  pub is : slice_get vs w ≡ Some view
  pub greatest : (i : ℕ) (v : WayView) → slice_get vs i ≡ Some v → v.age ≤ view.age
  pub least : (i : ℕ) (v : WayView) → i < w → slice_get vs i ≡ Some v → v.age < view.age

-- the least way in I; where none is in I, the least among those of greatest age
abbrev pub IsOldest : List WayView → ℕ → Type 0
IsOldest vs w = MatchOption (position (λ v. not (is_readable v.state)) vs) (IsOfGreatestAge vs w) (λ i. w ≡ i)

-- a way where the set has it, else way 0
abbrev pub pinned : List WayView → ℕ → ℕ
pinned vs w = if nat_lt w (length vs) then w else 0

-- a list that a policy is asked about
pub record AreViews (vs : List WayView) : Type 0 where
  pub some : 1 ≤ length vs
  pub few : length vs ≤ 8

-- A policy may be asked about every set of one to eight ways, and what it answers is one of the ways. `g` is what the bound of
-- its type says of calls, as `F.Fn` under `F: Fn(&[WayView]) -> u8`.
pub record IsPolicy {F : Type 0} (g : Shared F (Bor (List WayView) × Unit {0}) ℕ) (pick : F) : Type 0 where
  pub asked : (p : Bor (List WayView)) → AreViews p.now → g.pre pick (p, tt)
  pub answers : (p : Bor (List WayView)) (w : ℕ) → AreViews p.now → g.post pick (p, tt) w → w < length p.now

-- An operation was given with the way that a policy answers to the views of the address's set. `policy` relates the views to
-- what it may answer, as `FnReturnsAt F.Fn pick`.
pub record IssuedBy {E : Type 0} (policy : List WayView → ℕ → Type 0) (k : Shape) (c : ℕ) (op : Op) (old new : CacheState)
    (result : Result CacheStep E) : Type 0 where
  pub way : ℕ
  pub answered : policy (views k old (group_of k (address_of op))) way
  pub within : way < k.ways
  pub gives : Gives (issue k old c op way) old new result
