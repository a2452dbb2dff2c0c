-- What an agent sends goes on channels between agents of the configuration, where it is within the configuration.
use Rattle.std.proofs.Common.{◌≡◌, ◌⊎◌, inl, inr, ℕ, ◌<◌, Bool, true, false, cond, ltb, eqb, refl, sym, subst, List, [], ◌∷◌, length, slice_get, Option, Some, None, option_map, option_to_list, ltb-true}
use Rattle.std.specs.List.{AllByRecursion}
use Rattle.bk_base.specs.Places.{Shape}
use Rattle.bk_isa.specs.declared.form.Form.{Form}
use Rattle.bk_msg.specs.declared.row.Row.{Row}
use Rattle.bk_msg.specs.declared.row.Row.TheVariants as rows
use Rattle.bk_msg.specs.declared.row.Network.{Network}
use Rattle.bk_msg.specs.declared.row.Network.TheVariants as networks
use Rattle.bk_msg.specs.Networks.{network_of, receiver_of}
use Rattle.bk_msg.specs.Within.{IsWithin}
use Rattle.bk_lce.specs.CacheTable as table
use Rattle.bk_lce.specs.CacheTable.{Transition}
use Rattle.bk_engine.specs.Step.{runs_to}
use Rattle.bk_system.specs.declared.event.Event.{Event}
use Rattle.bk_system.specs.declared.event.Event.TheVariants as events
use Rattle.bk_system.specs.declared.channel.Channel.{Channel}
use Rattle.bk_system.specs.declared.channel.Channel.TheVariants as channels
use Rattle.bk_system.specs.Memory.{answer_to}
use Rattle.bk_system.specs.Queues.{EachWithin}
use Rattle.bk_system.specs.Routes.{engine_number, memory_number, channel_in, channel_for, is_same, IsChannel}
use Rattle.bk_system.specs.Runs.{completed_by}
use Rattle.bk_system.specs.State.{State}
use Rattle.bk_system.proofs.Fills.{fill-receiver}
use Rattle.bk_agents.specs.Parts.{Part, CachePart, EnginePart, MemoryPart, NoPart, part_of, agent_of}
use Rattle.bk_agents.specs.Local.{Local, cache_local, memory_local, engine_local, can_run, offered, local_row, sent_on}
use Rattle.bk_agents.proofs.EventParts.{if-own, and-own}
use Rattle.bk_agents.proofs.Outward.{IsEngines, AreEngines, ran-outward}
use Rattle.bk_agents.proofs.Own.{IsCaches, SendsOwn, MayBeOwn, issue_own, command_own, fill_own}
use Rattle.bk_agents.proofs.SameChannel.{same-channel}
use Rattle.bk_agents.proofs.SomeRow.{of-some, of-test}

-- a message within the configuration goes on a channel of it
abbrev pub GoesThrough : Shape → ℕ → Row → Type 0
GoesThrough k n m = IsWithin k m → IsChannel k (channel_for n m)

-- A CACHE

cache-goes : (k : Shape) (c : ℕ) (m : Row) (x : Network) → c < k.caches → network_of m ≡ x → IsCaches x → IsWithin k m
    → IsChannel k (channel_in x c (receiver_of m))
cache-goes k c m networks.Request l e h within = l
cache-goes k c m networks.Command l e h within = absurd h
cache-goes k c m networks.Fill l e h within = (fill-receiver k m e within, l)
cache-goes k c m networks.Response l e h within = l
cache-goes k c m networks.Memout l e h within = absurd h
cache-goes k c m networks.Memin l e h within = absurd h

cache-sends : (k : Shape) (c : ℕ) (o : Option Row) → c < k.caches → SendsOwn o → AllByRecursion (GoesThrough k c) (option_to_list o)
cache-sends k c None l h = tt
cache-sends k c (Some m) l h = (cache-goes k c m (network_of m) l refl h, tt)

own-sent : (c : ℕ) (o : Option Transition) (t : Transition) → MayBeOwn c o → o ≡ Some t → SendsOwn t.sent
own-sent c o t own e = (subst (MayBeOwn c) e own).sent

by-row : (k : Shape) (c completed : ℕ) (touched : Option Channel) (o : Option Transition) (local : Local) → c < k.caches
    → MayBeOwn c o → option_map (cache_local completed touched) o ≡ Some local → AllByRecursion (GoesThrough k c) local.sent
by-row k c completed touched o local l own e =
    let row = of-some (cache_local completed touched) o local e in
    subst (λ (x : Local). AllByRecursion (GoesThrough k c) x.sent) row.2
    (cache-sends k c row.0.sent l (own-sent c o row.0 own row.1))

-- THE ENGINE

command-receiver : (k : Shape) (m : Row) → network_of m ≡ networks.Command → IsWithin k m → receiver_of m < k.caches
command-receiver k (rows.Inv _ _ _) e w = w
command-receiver k (rows.StWb _ _ _ _) e w = w
command-receiver k (rows.StTr _ _ _ _ _ _ _) e w = w.0
command-receiver k (rows.Blk _ _ _ _ _ _) e w = w.cache
command-receiver k (rows.StWake _ _ _ _ _) e w = w.cache
command-receiver k (rows.UcBlk _ _ _ _) e w = w
command-receiver k (rows.UcDone _ _ _) e w = w
command-receiver k (rows.Done _ _ _) e w = w
command-receiver k m e w = absurd (cc e)

engine-goes : (k : Shape) (n : ℕ) (m : Row) (x : Network) → network_of m ≡ x → IsEngines x → IsWithin k m
    → IsChannel k (channel_in x n (receiver_of m))
engine-goes k n m networks.Request e h within = absurd h
engine-goes k n m networks.Command e h within = command-receiver k m e within
engine-goes k n m networks.Fill e h within = absurd h
engine-goes k n m networks.Response e h within = absurd h
engine-goes k n m networks.Memout e h within = tt
engine-goes k n m networks.Memin e h within = absurd h

engine-sends : (k : Shape) (n : ℕ) (ms : List Row) → AreEngines ms → AllByRecursion (GoesThrough k n) ms
engine-sends k n [] h = tt
engine-sends k n (m ∷ ms) h = (engine-goes k n m (network_of m) refl h.0, engine-sends k n ms h.1)

-- THE MEMORY

memory-sends : (k : Shape) (n : ℕ) (memory : ℕ → ℕ) (m : Row)
    → AllByRecursion (GoesThrough k n) (option_to_list (answer_to memory m))
memory-sends k n memory (rows.Read from to addr) = (λ within. tt, tt)
memory-sends k n memory m = tt

-- ALL AGENTS: a cache's number is below the number of caches

abbrev IsCachesNumber : Shape → ℕ → Part → Type 0
IsCachesNumber k n (CachePart cache completed) = n < k.caches
IsCachesNumber k n part = Unit {0}

part-number : (k : Shape) (s : State) (n : ℕ) → IsCachesNumber k n (part_of k s n)
part-number k s n = go (ltb n k.caches) (eqb n (engine_number k)) (eqb n (memory_number k)) refl
  where
    go : (x y z : Bool) → ltb n k.caches ≡ x
        → IsCachesNumber k n (cond x (CachePart (s.caches n) (length (completed_by n s.history)))
        (cond y (EnginePart s.engine) (cond z (MemoryPart s.memory) NoPart)))
    go true y z e = ltb-true n k.caches e
    go false true z e = tt
    go false false true e = tt
    go false false false e = tt

part-sends : (k : Shape) (program : List Form) (part : Part) (heads : Channel → Option Row) (event : Event) (local : Local)
    → IsCachesNumber k (agent_of k event) part → local_row k program part heads event ≡ Some local
    → AllByRecursion (GoesThrough k (agent_of k event)) local.sent
part-sends k program (CachePart cache completed) heads (events.Issue c way op) local l e =
    by-row k c completed None _ local l (if-own c (ltb way k.ways) _ (issue_own k cache c op way)) e
part-sends k program (CachePart cache completed) heads (events.Command c) local l e =
    by-row k c completed (Some (channels.Command c)) _ local l
    (and-own c (table.command k cache c) (heads (channels.Command c)) (command_own k cache c)) e
part-sends k program (CachePart cache completed) heads (events.Fill to from) local l e =
    by-row k to completed (Some (channels.Fill to from)) _ local l
    (if-own to (ltb from k.caches) _ (and-own to (table.fill k cache to) (heads (channels.Fill to from)) (fill_own k cache to))) e
part-sends k program (MemoryPart memory) heads events.Memory local l e =
    let row = of-some (memory_local memory) (heads channels.Memout) local e in
    subst (λ (x : Local). AllByRecursion (GoesThrough k (memory_number k)) x.sent) row.2
    (memory-sends k (memory_number k) memory row.0)
part-sends k program (EnginePart engine) heads (events.Engine choice) local l e =
    let outcome = runs_to k engine program choice (offered heads choice) in
    let row = of-test (can_run k program engine choice (offered heads choice)) (engine_local k heads choice outcome) local e in
    subst (λ (x : Local). AllByRecursion (GoesThrough k (engine_number k)) x.sent) row.1
    (engine-sends k (engine_number k) outcome.sent
    (ran-outward k engine (slice_get program engine.core.place) choice (offered heads choice)))
part-sends k program part heads event local l e = absurd cc

pub sends-through : (k : Shape) (program : List Form) (s : State) (n : ℕ) (heads : Channel → Option Row) (event : Event) (local : Local)
    → local_row k program (part_of k s n) heads event ≡ Some local → agent_of k event ≡ n
    → AllByRecursion (GoesThrough k n) local.sent
sends-through k program s n heads event local e own =
    subst (λ (i : ℕ). AllByRecursion (GoesThrough k i) local.sent) own
    (part-sends k program (part_of k s n) heads event local
    (subst (λ (i : ℕ). IsCachesNumber k i (part_of k s n)) (sym own) (part-number k s n)) e)

-- so a channel on which an agent sends is one of the configuration
pub through-channel : (k : Shape) (n : ℕ) (channel : Channel) (ms : List Row) → AllByRecursion (GoesThrough k n) ms
    → EachWithin k (sent_on n channel ms) → IsChannel k channel ⊎ (sent_on n channel ms ≡ [])
through-channel k n channel [] goes within = inr refl
through-channel k n channel (m ∷ ms) goes within =
    whether (is_same (channel_for n m) channel) refl within (through-channel k n channel ms goes.1)
  where
    whether : (b : Bool) → is_same (channel_for n m) channel ≡ b
        → EachWithin k (cond b (m ∷ sent_on n channel ms) (sent_on n channel ms))
        → (EachWithin k (sent_on n channel ms) → IsChannel k channel ⊎ (sent_on n channel ms ≡ []))
        → IsChannel k channel ⊎ (cond b (m ∷ sent_on n channel ms) (sent_on n channel ms) ≡ [])
    whether true e all rest = inl (subst (IsChannel k) ((same-channel (channel_for n m) channel).0 e) (goes.0 all.0))
    whether false e all rest = rest all
