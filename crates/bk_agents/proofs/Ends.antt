-- The channel that an event touches ends at its agent, and what it sends goes on channels that begin there.
use Rattle.std.proofs.Common.{◌≡◌, ℕ, ltb, refl, sym, ap, ◌∙◌, subst, List, [], ◌∷◌, slice_get, Option, Some, None, option_map, option_to_list}
use Rattle.std.specs.Prelude.{All}
use Rattle.std.proofs.lemmas.List.Elements.{All-cons, All-nil}
use Rattle.std.proofs.lemmas.Option.{same_Some}
use Rattle.bk_base.specs.Places.{Shape}
use Rattle.bk_msg.specs.declared.row.Row.{Row}
use Rattle.bk_msg.specs.declared.row.Row.TheVariants as rows
use Rattle.bk_msg.specs.declared.row.Network.{Network}
use Rattle.bk_msg.specs.declared.row.Network.TheVariants as networks
use Rattle.bk_msg.specs.Networks.{network_of, receiver_of}
use Rattle.bk_lce.specs.CacheTable as table
use Rattle.bk_lce.specs.CacheTable.{Transition}
use Rattle.bk_engine.specs.Step.{runs_to}
use Rattle.bk_system.specs.declared.event.Event.TheVariants as events
use Rattle.bk_system.specs.Memory.{answer_to}
use Rattle.bk_system.specs.Routes.{engine_number, memory_number}
use Rattle.bk_agents.specs.Parts.{CachePart, EnginePart, MemoryPart}
use Rattle.bk_system.specs.declared.channel.Channel.TheVariants as channels
use Rattle.bk_system.specs.declared.channel.Channel.{Channel}
use Rattle.bk_system.specs.Routes.{channel_in, channel_for, begins_at, ends_at}
use Rattle.bk_agents.specs.Laws.{TouchesItsOwn, SendsFromItself}
use Rattle.bk_agents.specs.Local.{Local, cache_local, memory_local, engine_local, can_run, offered}
use Rattle.bk_agents.proofs.EventParts.{if-own, and-own}
use Rattle.bk_agents.proofs.Outward.{IsEngines, AreEngines, ran-outward}
use Rattle.bk_agents.proofs.Own.{IsCaches, SendsOwn, MayBeOwn, issue_own, command_own, fill_own}
use Rattle.bk_agents.proofs.SomeRow.{of-some, of-test}
use Rattle.bk_agents.proofs.Touched.{cache-touched, touched-ends}

-- THE CHANNEL THAT IS TOUCHED

by-cache : (k : Shape) (completed : ℕ) (at channel : Channel) (o : Option Transition) (local : Local)
    → option_map (cache_local completed (Some at)) o ≡ Some local → local.touched ≡ Some channel
    → ends_at k channel ≡ ends_at k at
by-cache k completed at channel o local e h =
    ap (ends_at k) (same_Some channel at (sym h ∙ cache-touched completed (Some at) o local e))

pub touches-its-own : TouchesItsOwn
touches-its-own k program (CachePart cache completed) heads (events.Issue c way op) local e channel h =
    let no : None ≡ Some channel = sym (cache-touched completed None _ local e) ∙ h in absurd (cc no)
touches-its-own k program (CachePart cache completed) heads (events.Command c) local e channel h =
    by-cache k completed (channels.Command c) channel _ local e h
touches-its-own k program (CachePart cache completed) heads (events.Fill to from) local e channel h =
    by-cache k completed (channels.Fill to from) channel _ local e h
touches-its-own k program (MemoryPart memory) heads events.Memory local e channel h =
    let row = of-some (memory_local memory) (heads channels.Memout) local e in
    ap (ends_at k) (same_Some channel channels.Memout (sym h ∙ ap (λ (l : Local). l.touched) (sym row.2)))
touches-its-own k program (EnginePart engine) heads (events.Engine choice) local e channel h =
    let outcome = runs_to k engine program choice (offered heads choice) in
    let row = of-test (can_run k program engine choice (offered heads choice)) (engine_local k heads choice outcome) local e in
    touched-ends k choice outcome.popped channel (ap (λ (l : Local). l.touched) row.1 ∙ h)
touches-its-own k program part heads event local e channel h = absurd cc

-- WHAT IS SENT

abbrev From : Shape → ℕ → Row → Type 0
From k n m = begins_at k (channel_for n m) ≡ n

caches-begin : (k : Shape) (c to : ℕ) (x : Network) → IsCaches x → begins_at k (channel_in x c to) ≡ c
caches-begin k c to networks.Request h = refl
caches-begin k c to networks.Command h = absurd h
caches-begin k c to networks.Fill h = refl
caches-begin k c to networks.Response h = refl
caches-begin k c to networks.Memout h = absurd h
caches-begin k c to networks.Memin h = absurd h

cache-sends : (k : Shape) (c : ℕ) (o : Option Row) → SendsOwn o → All (From k c) (option_to_list o)
cache-sends k c None h = All-nil (From k c)
cache-sends k c (Some m) h = All-cons (From k c) m [] (caches-begin k c (receiver_of m) (network_of m) h) (All-nil (From k c))

own-sent : (c : ℕ) (o : Option Transition) (t : Transition) → MayBeOwn c o → o ≡ Some t → SendsOwn t.sent
own-sent c o t own e = (subst (MayBeOwn c) e own).sent

by-row : (k : Shape) (c completed : ℕ) (touched : Option Channel) (o : Option Transition) (local : Local) → MayBeOwn c o
    → option_map (cache_local completed touched) o ≡ Some local → All (From k c) local.sent
by-row k c completed touched o local own e =
    let row = of-some (cache_local completed touched) o local e in
    subst (λ (l : Local). All (From k c) l.sent) row.2 (cache-sends k c row.0.sent (own-sent c o row.0 own row.1))

engines-begin : (k : Shape) (to : ℕ) (x : Network) → IsEngines x → begins_at k (channel_in x (engine_number k) to) ≡ engine_number k
engines-begin k to networks.Request h = absurd h
engines-begin k to networks.Command h = refl
engines-begin k to networks.Fill h = absurd h
engines-begin k to networks.Response h = absurd h
engines-begin k to networks.Memout h = refl
engines-begin k to networks.Memin h = absurd h

engine-sends : (k : Shape) (ms : List Row) → AreEngines ms → All (From k (engine_number k)) ms
engine-sends k [] h = All-nil (From k (engine_number k))
engine-sends k (m ∷ ms) h =
    All-cons (From k (engine_number k)) m ms (engines-begin k (receiver_of m) (network_of m) h.0) (engine-sends k ms h.1)

memory-sends : (k : Shape) (memory : ℕ → ℕ) (m : Row) → All (From k (memory_number k)) (option_to_list (answer_to memory m))
memory-sends k memory (rows.Read from to addr) = All-cons (From k (memory_number k)) _ [] refl (All-nil (From k (memory_number k)))
memory-sends k memory m = All-nil (From k (memory_number k))

pub sends-from-itself : SendsFromItself
sends-from-itself k program (CachePart cache completed) heads (events.Issue c way op) local e =
    by-row k c completed None _ local (if-own c (ltb way k.ways) _ (issue_own k cache c op way)) e
sends-from-itself k program (CachePart cache completed) heads (events.Command c) local e =
    by-row k c completed (Some (channels.Command c)) _ local
    (and-own c (table.command k cache c) (heads (channels.Command c)) (command_own k cache c)) e
sends-from-itself k program (CachePart cache completed) heads (events.Fill to from) local e =
    by-row k to completed (Some (channels.Fill to from)) _ local
    (if-own to (ltb from k.caches) _ (and-own to (table.fill k cache to) (heads (channels.Fill to from)) (fill_own k cache to))) e
sends-from-itself k program (MemoryPart memory) heads events.Memory local e =
    let row = of-some (memory_local memory) (heads channels.Memout) local e in
    subst (λ (l : Local). All (From k (memory_number k)) l.sent) row.2 (memory-sends k memory row.0)
sends-from-itself k program (EnginePart engine) heads (events.Engine choice) local e =
    let outcome = runs_to k engine program choice (offered heads choice) in
    let row = of-test (can_run k program engine choice (offered heads choice)) (engine_local k heads choice outcome) local e in
    subst (λ (l : Local). All (From k (engine_number k)) l.sent) row.1
    (engine-sends k outcome.sent (ran-outward k engine (slice_get program engine.core.place) choice (offered heads choice)))
sends-from-itself k program part heads event local e = absurd cc
