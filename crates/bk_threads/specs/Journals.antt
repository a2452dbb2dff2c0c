-- The journals of agents, and the one list of their events.
use Rattle.std.specs.Prelude.{◌≡◌, ◌≢◌, ℕ, ◌<◌, ◌≤◌, ◌==◌, if◌then◌else◌, List, [], ◌∷◌, map, filter, AllPairs, IsPermutation, ◌⊎◌}
use Rattle.std.specs.List.{flat_map}
use Rattle.bk_system.specs.declared.event.Event.{Event}
use Rattle.bk_threads.specs.declared.merging.Stamped.{Stamped}
use Rattle.bk_threads.specs.declared.merging.Journal.{Journal}
use Rattle.bk_threads.specs.declared.merging.Entry.{Entry}

abbrev pub OfDifferentAgents : List Journal → Type 0
OfDifferentAgents journals = AllPairs (λ journal other. journal.agent ≢ other.agent) journals

-- what an agent's journal has; nothing, where there is none
abbrev pub entries_of : List Journal → ℕ → List Stamped
entries_of [] n = []
entries_of (journal ∷ journals) n = if journal.agent == n then journal.entries.items else entries_of journals n

-- an agent's entry, and without the agent
abbrev pub by_agent : ℕ → Stamped → Entry
by_agent n entry = record { agent = n; stamp = entry.stamp; event = entry.event }

abbrev pub stamped : Entry → Stamped
stamped entry = record { stamp = entry.stamp; event = entry.event }

-- the entries of a journal, each with its agent, and those of all journals, journal by journal
abbrev pub with_agent : Journal → List Entry
with_agent journal = map (by_agent journal.agent) journal.entries.items

abbrev pub gathered : List Journal → List Entry
gathered journals = flat_map with_agent journals

-- one agent's own among them, without the agent
abbrev pub own : ℕ → List Entry → List Stamped
own n [] = []
own n (entry ∷ entries) = if entry.agent == n then stamped entry ∷ own n entries else own n entries

abbrev pub at_stamp : ℕ → List Stamped → List Stamped
at_stamp stamp entries = filter (λ entry. entry.stamp == stamp) entries

-- an entry may stand before another: by stamp, and at the same stamp by agent
abbrev pub MayPrecede : Entry → Entry → Type 0
MayPrecede entry later = (entry.stamp < later.stamp) ⊎ ((entry.stamp ≡ later.stamp) × (entry.agent ≤ later.agent))

abbrev pub event_of : Entry → Event
event_of entry = entry.event

-- The events are the merge of the journals: all entries by stamp and agent, what is alike in both in the order of its journal, and then
-- without stamp and agent. There is one such list (`OneMerge`).
pub record IsMerge (journals : List Journal) (events : List Event) : Type 0 where
  pub entries : List Entry
  pub whole : IsPermutation (gathered journals) entries
  pub ordered : AllPairs MayPrecede entries
  pub kept : (n stamp : ℕ) → at_stamp stamp (own n entries) ≡ at_stamp stamp (entries_of journals n)
  pub shown : events ≡ map event_of entries
