-- What the engine reads from a directory for a request: own, owner, others and victim.
use Rattle.std.specs.Prelude.{◌≡◌, ◌≢◌, ℕ, zero, suc, ◌+◌, ◌/◌, ◌%◌, ◌^◌, Bool, true, false, not, ◌&&◌, ◌==◌, if◌then◌else◌, Option, Some, None, is_some, unwrap_or}
use Rattle.bk_base.specs.Places.{Shape}
use Rattle.bk_base.specs.Counting.{first_below, least_below}
use Rattle.bk_base.specs.States.{is_readable, is_owner_like}
use Rattle.bk_base.specs.declared.coh.Coh.{Coh}
use Rattle.bk_base.specs.declared.coh.Coh.TheVariants.{I, S, E, F, M, O}
use Rattle.bk_dir.specs.declared.entry.Entry.{Entry}
use Rattle.bk_dir.specs.declared.entry.Query.{Query}
use Rattle.bk_dir.specs.declared.entry.Summary.{Summary}
use Rattle.bk_dir.specs.Contents.{Contents}

-- the entry holds the block with a tag: it has the tag, in a state other than I
abbrev pub holds : Entry → ℕ → Bool
holds entry tag = is_readable entry.state && entry.tag == tag

abbrev pub is_shared : Coh → Bool
is_shared I = false
is_shared S = true
is_shared E = false
is_shared F = false
is_shared M = false
is_shared O = false

-- the least way of a cache that holds a block
abbrev pub found : Shape → Contents → ℕ → ℕ → ℕ → Option ℕ
found k d c set tag = least_below k.ways (λ w. holds (d.entries c set w) tag)

-- the least way of a cache that holds a block and answers for it
abbrev pub owner_way : Shape → Contents → ℕ → ℕ → ℕ → Option ℕ
owner_way k d c set tag = least_below k.ways (λ w. holds (d.entries c set w) tag && is_owner_like (d.entries c set w).state)

-- whether a cache has an entry S of a block
abbrev pub shares : Shape → Contents → ℕ → ℕ → ℕ → Bool
shares k d c set tag = is_some (least_below k.ways (λ w. holds (d.entries c set w) tag && is_shared (d.entries c set w).state))

-- the state at a way, I where there is none
abbrev pub state_at : Contents → ℕ → ℕ → Option ℕ → Coh
state_at d c set None = I
state_at d c set (Some w) = (d.entries c set w).state

-- OWNER: the least cache other than the one that asks that answers for the block, with its way

abbrev pub with_cache : ℕ → Option ℕ → Option (ℕ × ℕ)
with_cache c None = None
with_cache c (Some w) = Some (c, w)

abbrev pub owner_at : Shape → Contents → Query → ℕ → Option (ℕ × ℕ)
owner_at k d query c = if c == query.cache then None else with_cache c (owner_way k d c query.set query.tag)

abbrev pub owner : Shape → Contents → Query → Option (ℕ × ℕ)
owner k d query = first_below k.caches (owner_at k d query)

abbrev pub owner_state : Contents → ℕ → Option (ℕ × ℕ) → Coh
owner_state d set None = I
owner_state d set (Some at) = (d.entries at.0 set at.1).state

-- OTHERS: the caches other than the one that asks with an entry S of the block, as bits, cache 0 in the lowest

abbrev pub is_other : Shape → Contents → Query → ℕ → Bool
is_other k d query c = not (c == query.cache) && shares k d c query.set query.tag

abbrev pub bits_below : ℕ → (ℕ → Bool) → ℕ
bits_below zero test = 0
bits_below (suc n) test = bits_below n test + (if test n then 2 ^ n else 0)

abbrev pub has_bit : ℕ → ℕ → Bool
has_bit bits c = bits / 2 ^ c % 2 == 1

-- VICTIM: the entry at the way that is set apart, where a block is to be placed there and the entry holds another one

abbrev pub victim_of : Bool → ℕ → Entry → Coh
victim_of placed tag entry = if placed && not (entry.tag == tag) then entry.state else I

-- OWN: the state of the least way of the cache that asks that holds the block, else I
abbrev pub summary : Shape → Contents → Query → Summary
summary k d query = record {
  own = state_at d query.cache query.set (found k d query.cache query.set query.tag);
  own_way = unwrap_or (found k d query.cache query.set query.tag) 0;
  owner = owner k d query;
  owner_state = owner_state d query.set (owner k d query);
  others = bits_below k.caches (is_other k d query);
  victim = victim_of query.placed query.tag (d.entries query.cache query.set query.way);
}

-- AGAIN: what a summary says of the other caches stands while their entries of the set do

-- two directories say the same of a set, for each cache but one
abbrev pub AgreeElsewhere : Contents → Contents → ℕ → ℕ → Type 0
AgreeElsewhere d later cache set = (c : ℕ) → c ≢ cache → d.entries c set ≡ later.entries c set
