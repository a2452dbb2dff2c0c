-- An instruction leaves the valid entries of the directory at places of the configuration.
use Rattle.std.proofs.Common.{◌≡◌, ℕ, ◌<◌, Bool, true, ◌&&◌, refl, sym, subst, inl, inr, mod-lt, Option, Some, None}
use Rattle.std.specs.Prelude.{nat_lt, ◌==◌}
use Rattle.bk_base.specs.Places.{Shape, InProfile, group_of, tag_at}
use Rattle.bk_base.specs.States.{is_readable}
use Rattle.bk_base.specs.declared.coh.Coh.{Coh}
use Rattle.bk_isa.specs.declared.form.Form.{Form}
use Rattle.bk_isa.specs.declared.form.Form.TheVariants.{Wde, Wds, Inv, Stwb, Popq}
use Rattle.bk_msg.specs.Within.{IsWay}
use Rattle.bk_msg.specs.declared.row.Row.{Row}
use Rattle.bk_dir.specs.declared.entry.Entry.{Entry}
use Rattle.bk_dir.specs.declared.entry.Query.{Query}
use Rattle.bk_dir.specs.declared.entry.Summary.{Summary}
use Rattle.bk_dir.specs.Contents.{Contents, with_entry, with_state}
use Rattle.bk_dir.specs.Laws.{OwnSays}
use Rattle.bk_dir.specs.Summaries.{holds}
use Rattle.bk_dir.proofs.SummaryLaws.{own-law}
use Rattle.bk_engine.specs.declared.parts.Head.{Head}
use Rattle.bk_engine.specs.declared.parts.Held.{Held}
use Rattle.bk_engine.specs.Engine.{EngineState}
use Rattle.bk_engine.specs.Heads.{head_number, IsSound}
use Rattle.bk_engine.specs.Reads.{query_of, summary_for}
use Rattle.bk_engine.specs.Sends.{is_invalidated}
use Rattle.bk_engine.specs.Changes.{wiped_entry, wiped_ways, with_invalid_block, with_state_at, with_named_state, directory_for, directory_for_held, with_message_mark, with_head_mark, directory_after}
use Rattle.bk_engine.proofs.Outward.{owner-within}
use Rattle.bk_bridge.specs.Ranges.{IsPlace, IsInside}
use Rattle.bk_bridge.proofs.Places.{sets_pos}
use Rattle.bk_bridge.proofs.Formed.{cond-all, put-each}

-- an entry that is valid is at a place
abbrev IsKept : Shape → ℕ → ℕ → ℕ → Entry → Type 0
IsKept k c g w entry = is_readable entry.state ≡ true → IsPlace k c g w

entry-inside : (k : Shape) (d : Contents) (c g w : ℕ) (entry : Entry) → IsPlace k c g w → IsInside k d
    → IsInside k (with_entry d c g w entry)
entry-inside k d c g w entry at h =
    put-each (λ c table. (g w : ℕ) → IsKept k c g w (table g w)) d.entries c _ h
    (put-each (λ g row. (w : ℕ) → IsKept k c g w (row w)) (d.entries c) g _ (h c)
    (put-each (IsKept k c g) (d.entries c g) w entry (h c g) (λ e. at)))

state-inside : (k : Shape) (d : Contents) (c g w : ℕ) (state : Coh) → IsPlace k c g w → IsInside k d
    → IsInside k (with_state d c g w state)
state-inside k d c g w state at h = entry-inside k d c g w (record { tag = (d.entries c g w).tag; state = state }) at h

-- THE PLACES OF A REQUEST

pub group-within : (k : Shape) (addr : ℕ) → InProfile k → group_of k addr < k.sets
group-within k addr p = mod-lt _ (sets_pos k p)

own-within : (k : Shape) (d : Contents) (asked : Query) (summary : Summary) → 0 < k.ways → OwnSays k d asked summary
    → summary.own_way < k.ways
own-within k d asked summary few (inl own) = own.way.within
own-within k d asked summary few (inr none) = subst (λ v. v < k.ways) (sym none.way) few

own-place : (k : Shape) (d : Contents) (held : Held) → InProfile k → 0 < k.ways → IsWay k held.source held.way
    → IsPlace k held.source (group_of k held.addr) (summary_for k d held).own_way
own-place k d held p few way = record {
  cache = way.cache;
  set = group-within k held.addr p;
  way = own-within k d (query_of k held) (summary_for k d held) few (own-law k d (query_of k held));
}

held-place : (k : Shape) (held : Held) → InProfile k → IsWay k held.source held.way
    → IsPlace k held.source (group_of k held.addr) held.way
held-place k held p way = record { cache = way.cache; set = group-within k held.addr p; way = way.way }

owner-inside : (k : Shape) (d : Contents) (held : Held) (at : Option (ℕ × ℕ)) (state : Coh) → InProfile k
    → (summary_for k d held).owner ≡ at → IsInside k d
    → IsInside k (with_state_at d (group_of k held.addr) at state)
owner-inside k d held None state p e h = h
owner-inside k d held (Some at) state p e h =
    let owner = owner-within k d (query_of k held) at e in
    state-inside k d at.0 (group_of k held.addr) at.1 state (record {
      cache = owner.cache_within;
      set = group-within k held.addr p;
      way = owner.way_within;
    }) h

named-inside : (k : Shape) (d : Contents) (held : Held) (who : ℕ) (state : Coh) → InProfile k → 0 < k.ways
    → IsWay k held.source held.way
    → IsInside k d
    → IsInside k (with_named_state k d held who state)
named-inside k d held who state p few way h =
    cond-all (IsInside k) (who == 0) _ _
    (state-inside k d held.source (group_of k held.addr) (summary_for k d held).own_way state (own-place k d held p few way) h)
    (cond-all (IsInside k) (who == 1) _ _ (owner-inside k d held (summary_for k d held).owner state p refl h)
    (state-inside k d held.source (group_of k held.addr) held.way state (held-place k held p way) h))

-- INVALIDATIONS

wiped-kept : (k : Shape) (c g w tag : ℕ) (entry : Entry) → IsKept k c g w entry → IsKept k c g w (wiped_entry tag entry)
wiped-kept k c g w tag entry h = cond-all (IsKept k c g w) (holds entry tag) _ _ (λ e. absurd (cc)) h

wiped_at-kept : (k : Shape) (c g w tag : ℕ) (row : ℕ → Entry) → IsKept k c g w (row w) → IsKept k c g w (wiped_ways k tag row w)
wiped_at-kept k c g w tag row h = cond-all (IsKept k c g w) (nat_lt w k.ways) _ _ (wiped-kept k c g w tag (row w) h) h

invalidated-inside : (k : Shape) (d : Contents) (held : Held) (with_owner : Bool) (sum : Summary) → IsInside k d
    → IsInside k (with_invalid_block k d held with_owner sum)
invalidated-inside k d held with_owner sum h c =
    let g : ℕ = group_of k held.addr in
    let row : ℕ → Entry = d.entries c g in
    cond-all (λ (table : ℕ → ℕ → Entry). (group w : ℕ) → IsKept k c group w (table group w))
    (is_invalidated with_owner sum c) _ _
    (put-each (λ group row. (w : ℕ) → IsKept k c group w (row w)) (d.entries c) g _ (h c)
    (λ w. wiped_at-kept k c g w (tag_at k held.addr) row (h c g w)))
    (h c)

-- INSTRUCTIONS

for-inside : (k : Shape) (d : Contents) (held : Held) (f : Form) → InProfile k → 0 < k.ways → IsWay k held.source held.way
    → IsInside k d
    → IsInside k (directory_for k d held f)
for-inside k d held (Wde state) p few way h =
    entry-inside k d held.source (group_of k held.addr) held.way (record { tag = tag_at k held.addr; state = state })
    (held-place k held p way) h
for-inside k d held (Wds who state) p few way h = named-inside k d held who state p few way h
for-inside k d held (Inv a) p few way h = invalidated-inside k d held (a == 1) (summary_for k d held) h
for-inside k d held (Stwb who state) p few way h = named-inside k d held who state p few way h
for-inside k d held f p few way h = h

held-inside : (k : Shape) (d : Contents) (o : Option Held) (f : Form) → InProfile k → 0 < k.ways
    → ((held : Held) → o ≡ Some held → IsWay k held.source held.way)
    → IsInside k d → IsInside k (directory_for_held k d o f)
held-inside k d None f p few way h = h
held-inside k d (Some held) f p few way h = for-inside k d held f p few (way held refl) h

marked-inside : (k : Shape) (d : Contents) (kind : ℕ) (m : Row) → IsInside k d → IsInside k (with_message_mark k d kind m)
marked-inside k d kind m h = cond-all (IsInside k) (kind == 1) _ _ h (cond-all (IsInside k) (nat_lt 1 kind && nat_lt kind 6) _ _ h h)

head-inside : (k : Shape) (d : Contents) (o : Option Head) → IsInside k d → IsInside k (with_head_mark k d o)
head-inside k d None h = h
head-inside k d (Some head) h = marked-inside k d (head_number head.message) head.message h

pub directory-inside : (k : Shape) (engine : EngineState) (f : Form) → InProfile k → 0 < k.ways → IsSound k engine.core
    → IsInside k engine.directory
    → IsInside k (directory_after k engine f)
directory-inside k engine (Popq wp) p few sound h =
    cond-all (IsInside k) (wp == 1) _ _ (head-inside k engine.directory engine.core.head h) h
directory-inside k engine f p few sound h = held-inside k engine.directory engine.core.held f p few sound.held h
