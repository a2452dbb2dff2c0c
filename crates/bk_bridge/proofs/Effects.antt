-- What an instruction does to the machine's state, the transaction aside.
use Rattle.std.proofs.Common.{◌≡◌, ℕ, ◌<◌, ◌≤◌, zero, suc, ltb, eqb, ◌&&◌, Bool, true, false, cond, refl, sym, ap, ◌∙◌, arith, List, [], ◌∷◌, ◌++◌, Option, Some, None, append-nil, inl, inr}
use Rattle.std.specs.Prelude.{if◌then◌else◌, nat_lt}
use Rattle.std.specs.List.{filter_map}
use Rattle.std.proofs.lemmas.Bool.{cond_both, cases_lt}
use Rattle.std.proofs.lemmas.Bool.Decides.{nat_tests}
use mathlib.Core.Path.{fun_ext}
use Rattle.bk_base.specs.Places.{Shape, block_start, group_of, tag_at}
use Rattle.bk_base.specs.Tables.{put}
use Rattle.bk_base.specs.Counting.{join_below}
use Rattle.bk_msg.specs.declared.row.Row.{Row}
use Rattle.bk_msg.specs.declared.row.Row.TheVariants as rows
use Rattle.bk_msg.specs.declared.row.TheConstants.{ENGINE}
use Rattle.bk_msg.specs.declared.row.Network.{Network}
use Rattle.bk_msg.specs.declared.row.Network.TheVariants as networks
use Rattle.bk_msg.specs.Networks.{network_of, receiver_of}
use Rattle.bk_dir.specs.declared.entry.Entry.{Entry as DirectoryEntry}
use Rattle.bk_base.specs.States.{is_readable}
use Rattle.bk_base.specs.declared.coh.Coh.TheVariants.{I}
use Rattle.bk_dir.specs.declared.entry.Summary.{Summary}
use Rattle.bk_dir.specs.Contents.{Contents, with_entry}
use Rattle.bk_engine.specs.Changes.{wiped_entry, wiped_ways, with_invalid_block}
use Rattle.bk_engine.specs.Sends.{is_invalidated, inv_to, invs}
use Rattle.bk_bridge.specs.Ranges.{IsInside}
use Rattle.bk_engine.specs.declared.parts.Held.{Held}
use Rattle.bk_engine.specs.Engine.{EngineState}
use Rattle.bk_system.specs.declared.event.Origin.{Origin}
use Rattle.bk_system.specs.State.{State}
use Rattle.bk_system.specs.Events.{added_if, is_command, is_memout, commands_with, memout_with, with_outcome}
use Rattle.bk_machine.specs.Tables.{put2}
use Rattle.bk_machine.specs.Entries.{Entry, times, wiped_in_caches}
use Rattle.bk_machine.specs.Entries as machine_entries
use Rattle.bk_machine.specs.Messages.{ToCache, ToMemory, Inv}
use Rattle.bk_machine.specs.Products.{as_command, as_to_memory}
use Rattle.bk_machine.specs.Transactions.{Transaction}
use Rattle.bk_machine.specs.World.{World}
use Rattle.bk_bridge.specs.Worlds.{listed_of, count_of, world_of}
use Rattle.bk_bridge.specs.Readings.{seen}
use Rattle.bk_bridge.proofs.Places.{group-start, tag-start}
use Rattle.bk_bridge.proofs.Channels.{pushed, pushed-to}

-- THE STATE AFTER AN INSTRUCTION

-- a directory, and messages that are sent, over a state
abbrev pub effect : Shape → State → Option (ℕ × Transaction) → Contents → List Row → World
effect k later x d sent = record (world_of k later x) {
  directory = λ s c w. listed_of (d.entries c s w);
  pending = d.pending;
  command = λ c. filter_map (as_command k) (commands_with sent later.command c);
  memout = filter_map (as_to_memory k) (memout_with sent later.memout);
}

-- an instruction that takes no head off
pub outcome-effect : (k : Shape) (s : State) (x : Option (ℕ × Transaction)) (engine : EngineState) (sent : List Row)
    → world_of k (with_outcome k s (record { engine = engine; sent = sent; popped = None })).state x
    ≡ effect k s x engine.directory sent
outcome-effect k s x engine sent =
    ap (λ (gs : List Origin). whole gs (s.settled ++ [])) (append-nil s.taken) ∙ ap (whole s.taken) (append-nil s.settled)
  where
    whole : List Origin → List Origin → World
    whole taken settled = record (effect k s x engine.directory sent) { taken_count = count_of taken; settled_count = count_of settled }

-- field by field
pub effect-is : (k : Shape) (later : State) (x : Option (ℕ × Transaction)) (d : Contents) (sent : List Row)
    (directory : ℕ → ℕ → ℕ → Entry) (command : ℕ → List (ℕ × ToCache)) (memout : List (ℕ × ToMemory))
    → ◌≡◌ {A = ℕ → ℕ → ℕ → Entry} (λ s c w. listed_of (d.entries c s w)) directory
    → d.pending ≡ later.engine.directory.pending
    → ◌≡◌ {A = ℕ → List (ℕ × ToCache)} (λ c. filter_map (as_command k) (commands_with sent later.command c)) command
    → filter_map (as_to_memory k) (memout_with sent later.memout) ≡ memout
    → effect k later x d sent ≡ record (world_of k later x) { directory = directory; command = command; memout = memout }
effect-is k later x d sent directory command memout e p c m =
    λ j. record (world_of k later x) { directory = e j; pending = p j; command = c j; memout = m j }

-- MESSAGES

one-command : (ms : List Row) (m : Row) (channel : ℕ → List Row) → network_of m ≡ networks.Command
    → commands_with (m ∷ ms) channel ≡ commands_with ms (put channel (receiver_of m) (channel (receiver_of m) ++ m ∷ []))
one-command ms m channel e = ap (λ (n : Network). commands_with ms (added_if (is_command n) (receiver_of m) m channel)) e

command-sent : (k : Shape) (m : Row) (y : ℕ × ToCache) (channel : ℕ → List Row) → network_of m ≡ networks.Command
    → as_command k m ≡ Some y
    → ◌≡◌ {A = ℕ → List (ℕ × ToCache)} (λ i. filter_map (as_command k) (commands_with (m ∷ []) channel i))
    (put (λ i. filter_map (as_command k) (channel i)) (receiver_of m) (filter_map (as_command k) (channel (receiver_of m)) ++ y ∷ []))
command-sent k m y channel e f =
    ap (λ (h : ℕ → List Row). λ i. filter_map (as_command k) (h i)) (one-command [] m channel e)
    ∙ pushed-to (as_command k) channel (receiver_of m) m y f

memout-sent : (k : Shape) (m : Row) (y : ℕ × ToMemory) (channel : List Row) → network_of m ≡ networks.Memout
    → as_to_memory k m ≡ Some y
    → filter_map (as_to_memory k) (memout_with (m ∷ []) channel) ≡ filter_map (as_to_memory k) channel ++ y ∷ []
memout-sent k m y channel e f =
    ap (λ (n : Network). filter_map (as_to_memory k) (cond (is_memout n) (channel ++ m ∷ []) channel)) e
    ∙ pushed (as_to_memory k) channel m y f

command-no_memout : (m : Row) (channel : List Row) → network_of m ≡ networks.Command → memout_with (m ∷ []) channel ≡ channel
command-no_memout m channel e = ap (λ (n : Network). cond (is_memout n) (channel ++ m ∷ []) channel) e

memout-no_command : (m : Row) (channel : ℕ → List Row) → network_of m ≡ networks.Memout
    → commands_with (m ∷ []) channel ≡ channel
memout-no_command m channel e = ap (λ (n : Network). added_if (is_command n) (receiver_of m) m channel) e

-- a command, with a directory that has changed in its entries alone
pub command-effect : (k : Shape) (later : State) (x : Option (ℕ × Transaction)) (d : Contents) (directory : ℕ → ℕ → ℕ
    → Entry) (m : Row) (y : ℕ × ToCache)
    → ◌≡◌ {A = ℕ → ℕ → ℕ → Entry} (λ s c w. listed_of (d.entries c s w)) directory
    → d.pending ≡ later.engine.directory.pending
    → network_of m ≡ networks.Command → as_command k m ≡ Some y
    → effect k later x d (m ∷ [])
    ≡ record (world_of k later x) {
      directory = directory;
      command = put (world_of k later x).command (receiver_of m) ((world_of k later x).command (receiver_of m) ++ y ∷ []);
    }
command-effect k later x d directory m y e p i f =
    effect-is k later x d (m ∷ []) directory _ _ e p (command-sent k m y later.command i f)
    (ap (filter_map (as_to_memory k)) (command-no_memout m later.memout i))

pub memory-effect : (k : Shape) (s : State) (x : Option (ℕ × Transaction)) (m : Row) (y : ℕ × ToMemory)
    → network_of m ≡ networks.Memout → as_to_memory k m ≡ Some y
    → effect k s x s.engine.directory (m ∷ []) ≡ record (world_of k s x) { memout = (world_of k s x).memout ++ y ∷ [] }
memory-effect k s x m y i f =
    effect-is k s x s.engine.directory (m ∷ []) _ _ _ refl refl
    (ap (λ (h : ℕ → List Row). λ c. filter_map (as_command k) (h c)) (memout-no_command m s.command i))
    (memout-sent k m y s.memout i f)

-- ENTRIES

pub entry-seen : (d : Contents) (c g w : ℕ) (entry : DirectoryEntry)
    → seen (with_entry d c g w entry) ≡ put (seen d) g (put2 (seen d g) c w (listed_of entry))
unfolding put put2
entry-seen d c s v entry = fun_ext (λ g. fun_ext (λ i. fun_ext (λ w. at g i w)))
  where
    at : (g i w : ℕ) → seen (with_entry d c s v entry) g i w ≡ put (seen d) s (put2 (seen d s) c v (listed_of entry)) g i w
    at g i w = grind (arith, nat_tests)

pub entry-effect : (k : Shape) (s : State) (x : Option (ℕ × Transaction)) (c g w : ℕ) (entry : DirectoryEntry)
    → effect k s x (with_entry s.engine.directory c g w entry) []
    ≡ record (world_of k s x) { directory = put (world_of k s x).directory g (put2 ((world_of k s x).directory g) c w (listed_of entry)) }
entry-effect k s x c g w entry =
    effect-is k s x (with_entry s.engine.directory c g w entry) [] _ _ _ (entry-seen s.engine.directory c g w entry) refl refl refl

-- INVALIDATIONS

commands-both : (ms ns : List Row) (channel : ℕ → List Row) → commands_with (ms ++ ns) channel
    ≡ commands_with ns (commands_with ms channel)
commands-both [] ns channel = refl
commands-both (m ∷ ms) ns channel = commands-both ms ns (added_if (is_command (network_of m)) (receiver_of m) m channel)

memout-both : (ms ns : List Row) (channel : List Row) → memout_with (ms ++ ns) channel ≡ memout_with ns (memout_with ms channel)
memout-both [] ns channel = refl
memout-both (m ∷ ms) ns channel = memout-both ms ns (cond (is_memout (network_of m)) (channel ++ m ∷ []) channel)

-- what a channel has after an Inv of the held request's block, if one is sent
abbrev inv_added : Shape → Held → Bool → List (ℕ × ToCache) → List (ℕ × ToCache)
inv_added k held b ms = cond b (ms ++ (group_of k held.addr, Inv (tag_at k held.addr)) ∷ []) ms

added-at : (C : ℕ → List (ℕ × ToCache)) (ys : List (ℕ × ToCache)) (n i : ℕ)
    → put C n (C n ++ ys) i ≡ cond (eqb i n && true) (C i ++ ys) (C i)
unfolding put
added-at C ys n i = grind (arith, nat_tests)

nothing : (b : Bool) (ms ys : List (ℕ × ToCache)) → ms ≡ cond (b && false) (ms ++ ys) ms
nothing true ms ys = refl
nothing false ms ys = refl

below-zero : (i : ℕ) (b : Bool) (ms ys : List (ℕ × ToCache)) → ms ≡ cond (ltb i 0 && b) (ms ++ ys) ms
below-zero i b ms ys = grind (arith, nat_tests)

same-test : (n i : ℕ) (f : ℕ → Bool) → (eqb i n && f n) ≡ (eqb i n && f i)
same-test n i f = grind (arith, nat_tests)

-- the messages for one cache, by whether an Inv is sent to it
inv-one : (k : Shape) (held : Held) (n : ℕ) (b : Bool) (channel : ℕ → List Row) (i : ℕ)
    → filter_map (as_command k) (commands_with (cond b (rows.Inv ENGINE n (block_start held.addr) ∷ []) []) channel i)
    ≡ inv_added k held (eqb i n && b) (filter_map (as_command k) (channel i))
inv-one k held n true channel i =
    ap (λ (h : ℕ → List (ℕ × ToCache)). h i)
    (pushed-to (as_command k) channel n (rows.Inv ENGINE n (block_start held.addr)) _
    (λ j. Some (group-start k held.addr j, Inv (tag-start k held.addr j))))
    ∙ added-at (λ j. filter_map (as_command k) (channel j)) ((group_of k held.addr, Inv (tag_at k held.addr)) ∷ []) n i
inv-one k held n false channel i = nothing (eqb i n) (filter_map (as_command k) (channel i)) _

inv-last : (n i : ℕ) (b : Bool) (ms ys : List (ℕ × ToCache))
    → cond (eqb i n && b) (cond (ltb i n && b) (ms ++ ys) ms ++ ys) (cond (ltb i n && b) (ms ++ ys) ms)
    ≡ cond (ltb i (suc n) && b) (ms ++ ys) ms
inv-last n i b ms ys = grind (arith, nat_tests)

invs-below : (k : Shape) (held : Held) (with_owner : Bool) (sum : Summary) (n : ℕ) (channel : ℕ → List Row) (i : ℕ)
    → filter_map (as_command k) (commands_with (join_below n (inv_to held with_owner sum)) channel i)
    ≡ inv_added k held (ltb i n && is_invalidated with_owner sum i) (filter_map (as_command k) (channel i))
invs-below k held with_owner sum zero channel i = below-zero i (is_invalidated with_owner sum i) _ _
invs-below k held with_owner sum (suc n) channel i =
    ap (λ (h : ℕ → List Row). filter_map (as_command k) (h i))
    (commands-both (join_below n (inv_to held with_owner sum)) (inv_to held with_owner sum n) channel)
    ∙ inv-one k held n (is_invalidated with_owner sum n) (commands_with (join_below n (inv_to held with_owner sum)) channel) i
    ∙ ap (λ (ms : List (ℕ × ToCache)). inv_added k held (eqb i n && is_invalidated with_owner sum n) ms)
    (invs-below k held with_owner sum n channel i)
    ∙ ap (λ (b : Bool). inv_added k held b (inv_added k held (ltb i n && is_invalidated with_owner sum i)
    (filter_map (as_command k) (channel i))))
    (same-test n i (is_invalidated with_owner sum))
    ∙ inv-last n i (is_invalidated with_owner sum i) (filter_map (as_command k) (channel i))
    ((group_of k held.addr, Inv (tag_at k held.addr)) ∷ [])

-- an Inv to each cache of a list, which are those of the configuration that it is to go to
pub invs-sent : (k : Shape) (held : Held) (with_owner : Bool) (sum : Summary) (to : List ℕ) (channel : ℕ → List Row)
    → ((c : ℕ) → (ltb c k.caches && is_invalidated with_owner sum c) ≡ eqb (times c to) 1)
    → ◌≡◌ {A = ℕ → List (ℕ × ToCache)}
    (λ i. filter_map (as_command k) (commands_with (invs k held with_owner sum) channel i))
    (λ i. cond (eqb (times i to) 1) (filter_map (as_command k) (channel i) ++ (group_of k held.addr, Inv (tag_at k held.addr)) ∷ [])
    (filter_map (as_command k) (channel i)))
invs-sent k held with_owner sum to channel e =
    fun_ext (λ i. invs-below k held with_owner sum k.caches channel i
    ∙ ap (λ (b : Bool). inv_added k held b (filter_map (as_command k) (channel i))) (e i))

inv-no_memout : (held : Held) (n : ℕ) (b : Bool) (channel : List Row)
    → memout_with (cond b (rows.Inv ENGINE n (block_start held.addr) ∷ []) []) channel ≡ channel
inv-no_memout held n true channel = refl
inv-no_memout held n false channel = refl

pub invs-no_memout : (held : Held) (with_owner : Bool) (sum : Summary) (n : ℕ) (channel : List Row)
    → memout_with (join_below n (inv_to held with_owner sum)) channel ≡ channel
invs-no_memout held with_owner sum zero channel = refl
invs-no_memout held with_owner sum (suc n) channel =
    memout-both (join_below n (inv_to held with_owner sum)) (inv_to held with_owner sum n) channel
    ∙ inv-no_memout held n (is_invalidated with_owner sum n) (memout_with (join_below n (inv_to held with_owner sum)) channel)
    ∙ invs-no_memout held with_owner sum n channel

-- the entries: those beyond the configuration are I, and stay so
abbrev Unread : DirectoryEntry → Type 0
Unread entry = is_readable entry.state ≡ false

wiped-seen : (t : ℕ) (entry : DirectoryEntry) → listed_of (wiped_entry t entry) ≡ machine_entries.wiped_entry t (listed_of entry)
wiped-seen t entry = go (is_readable entry.state && eqb entry.tag t)
  where
    go : (b : Bool) → listed_of (if b then record entry { state = I } else entry)
        ≡ cond b (record { tag = entry.tag; state = I }) (listed_of entry)
    go true = refl
    go false = refl

unread-stays : (t : ℕ) (entry : DirectoryEntry) → Unread entry → listed_of entry ≡ machine_entries.wiped_entry t (listed_of entry)
unread-stays t entry u = sym (ap (λ (b : Bool). cond (b && eqb entry.tag t) (record { tag = entry.tag; state = I }) (listed_of entry)) u)

wiped_at-seen : (k : Shape) (t w : ℕ) (row : ℕ → DirectoryEntry) → (nat_lt w k.ways ≡ false → Unread (row w))
    → listed_of (wiped_ways k t row w) ≡ machine_entries.wiped_entry t (listed_of (row w))
wiped_at-seen k t w row u =
    cond_both (nat_lt w k.ways) (wiped_entry t (row w)) (row w) (λ (entry : DirectoryEntry). listed_of entry
    ≡ machine_entries.wiped_entry t (listed_of (row w)))
    (λ i. wiped-seen t (row w)) (λ i. unread-stays t (row w) (u i))

unread : (b : Bool) → (b ≡ true → ⊥) → b ≡ false
unread true h = absurd (h refl)
unread false h = refl

beyond : (a b : ℕ) → nat_lt a b ≡ false → a < b → ⊥
beyond a b e l = grind (arith, nat_tests)

-- the row of a cache: wiped where an Inv is sent to it
row-seen : (k : Shape) (d : Contents) (c g t w : ℕ) (b : Bool) → IsInside k d
    → listed_of (cond {A = ℕ → DirectoryEntry} b (wiped_ways k t (d.entries c g)) (d.entries c g) w)
    ≡ cond b (machine_entries.wiped_entry t (listed_of (d.entries c g w))) (listed_of (d.entries c g w))
row-seen k d c g t w true inside =
    wiped_at-seen k t w (d.entries c g) (λ e. unread (is_readable (d.entries c g w).state) (λ r. beyond w k.ways e (inside c g w r).way))
row-seen k d c g t w false inside = refl

-- a cache beyond the configuration has no entry to wipe
row-beyond : (k : Shape) (d : Contents) (c g t w : ℕ) (b : Bool) → IsInside k d → k.caches ≤ c
    → listed_of (d.entries c g w) ≡ cond b (machine_entries.wiped_entry t (listed_of (d.entries c g w))) (listed_of (d.entries c g w))
row-beyond k d c g t w true inside l = unread-stays t (d.entries c g w)
    (unread (is_readable (d.entries c g w).state) (λ r. let below : c < k.caches = (inside c g w r).cache in omega arith))
row-beyond k d c g t w false inside l = refl

-- The caches that are sent an Inv are those that stand in the list once. Their entries of the block become I, and all others stay.
pub wipes-seen : (k : Shape) (d : Contents) (held : Held) (with_owner : Bool) (sum : Summary) (to : List ℕ) → IsInside k d
    → ((c : ℕ) → c < k.caches → is_invalidated with_owner sum c ≡ eqb (times c to) 1)
    → seen (with_invalid_block k d held with_owner sum)
    ≡ put (seen d) (group_of k held.addr) (wiped_in_caches to (tag_at k held.addr) (seen d (group_of k held.addr)))
unfolding put
wipes-seen k d held with_owner sum to inside e = fun_ext (λ g. fun_ext (λ c. fun_ext (λ w. at g c w)))
  where
    group : ℕ
    group = group_of k held.addr

    t : ℕ
    t = tag_at k held.addr

    -- one entry of the group
    mine : (c w : ℕ) → listed_of
        (cond {A = ℕ → DirectoryEntry} (is_invalidated with_owner sum c) (wiped_ways k t (d.entries c group)) (d.entries c group) w)
        ≡ wiped_in_caches to t (seen d group) c w
    mine c w = elim (cases_lt c k.caches) [
      | inl l ↦ row-seen k d c group t w (is_invalidated with_owner sum c) inside
          ∙ ap (λ (b : Bool). cond b (machine_entries.wiped_entry t (listed_of (d.entries c group w)))
          (listed_of (d.entries c group w))) (e c l)
      | inr l ↦ row-seen k d c group t w (is_invalidated with_owner sum c) inside
          ∙ sym (row-beyond k d c group t w (is_invalidated with_owner sum c) inside l)
          ∙ row-beyond k d c group t w (eqb (times c to) 1) inside l
    ]

    split : (b test : Bool) (c g w : ℕ)
        → listed_of (cond {A = ℕ → ℕ
        → DirectoryEntry} b (λ j. cond (eqb j group) (wiped_ways k t (d.entries c group)) (d.entries c j))
        (d.entries c) g w)
        ≡ cond (eqb g group) (listed_of (cond {A = ℕ → DirectoryEntry} b (wiped_ways k t (d.entries c group)) (d.entries c group) w))
        (listed_of (d.entries c g w))
    split true test c g w = grind (arith, nat_tests)
    split false test c g w = grind (arith, nat_tests)

    at : (g c w : ℕ) → seen (with_invalid_block k d held with_owner sum) g c w
        ≡ put (seen d) group (wiped_in_caches to t (seen d group)) g c w
    at g c w = split (is_invalidated with_owner sum c) true c g w ∙ side (eqb g group)
      where
        side : (b : Bool) → cond b
            (listed_of (cond {A = ℕ → DirectoryEntry} (is_invalidated with_owner sum c) (wiped_ways k t (d.entries c group))
            (d.entries c group) w)) (listed_of (d.entries c g w))
            ≡ cond b (wiped_in_caches to t (seen d group)) (seen d g) c w
        side true = mine c w
        side false = refl
