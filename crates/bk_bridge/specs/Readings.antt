-- What the engine reads of a request in its directory is what the table machine reads there.
use Rattle.std.specs.Prelude.{◌≡◌, ℕ, ◌<◌, ◌≤◌, Bool, false, ◌==◌, Some, option_map, unwrap_or}
use Rattle.bk_base.specs.Places.{Shape}
use Rattle.bk_base.specs.Counting.{is_nil}
use Rattle.bk_dir.specs.declared.entry.Query.{Query}
use Rattle.bk_dir.specs.declared.entry.Summary.{Summary}
use Rattle.bk_dir.specs.Contents.{Contents}
use Rattle.bk_dir.specs.Summaries.{summary}
use Rattle.bk_engine.specs.Sends.{is_invalidated}
use Rattle.bk_machine.specs.Actions.{invalidation_targets}
use Rattle.bk_machine.specs.Directory as machine
use Rattle.bk_machine.specs.Entries.{Entry, times}
use Rattle.bk_bridge.specs.Worlds.{listed_of}

-- the entries of a way group, by cache and way
abbrev pub seen : Contents → ℕ → ℕ → ℕ → Entry
seen d g c w = listed_of (d.entries c g w)

-- The engine keeps a way of 0 where there is no own entry, an owner with its way, and the others as bits; the machine keeps a way where
-- there is one, the owner alone, and the others as a list.
pub record ReadsAlike (k : Shape) (d : Contents) (asked : Query) (summary : Summary) : Type 0 where
  pub own : summary.own ≡ machine.own k.ways (seen d asked.set) asked.cache asked.tag
  pub own_way : summary.own_way ≡ unwrap_or (machine.own_way k.ways (seen d asked.set) asked.cache asked.tag) 0
  pub owner : option_map (λ at. at.0) summary.owner ≡ machine.owner k.caches k.ways (seen d asked.set) asked.cache asked.tag
  pub owner_way : (at : ℕ × ℕ) → summary.owner ≡ Some at
      → machine.owner_way k.ways (seen d asked.set) asked.tag at.0 ≡ Some at.1
  pub owner_state : summary.owner_state ≡ machine.owner_state k.caches k.ways (seen d asked.set) asked.cache asked.tag
  pub no_others : (summary.others == 0) ≡ is_nil (machine.others k.caches k.ways (seen d asked.set) asked.cache asked.tag)
  pub victim : summary.victim ≡ machine.victim asked.placed (seen d asked.set) asked.cache asked.tag asked.way
  -- an invalidation is sent to the caches that stand in the machine's list once
  pub invalidated : (with_owner : Bool) (c : ℕ) → c < k.caches
      → is_invalidated with_owner summary c
      ≡ (times c (invalidation_targets with_owner (machine.owner k.caches k.ways (seen d asked.set) asked.cache asked.tag)
      (machine.others k.caches k.ways (seen d asked.set) asked.cache asked.tag)) == 1)
  -- and no other cache stands in it so
  pub nobody_else : (with_owner : Bool) (c : ℕ) → k.caches ≤ c
      → (times c (invalidation_targets with_owner (machine.owner k.caches k.ways (seen d asked.set) asked.cache asked.tag)
      (machine.others k.caches k.ways (seen d asked.set) asked.cache asked.tag)) == 1) ≡ false

-- THE STATEMENT

abbrev pub SummariesAlike : Type 0
SummariesAlike = (k : Shape) (d : Contents) (asked : Query) → ReadsAlike k d asked (summary k d asked)
