-- An event changes its agent's part and no other.
use Rattle.std.proofs.Common.{◌≡◌, ℕ, ◌<◌, Bool, true, false, cond, ltb, eqb, refl, sym, ap, ◌∙◌, subst, List, length, Option, Some, None, option_map, option_and_then, ltb-true}
use Rattle.bk_base.specs.Places.{Shape}
use Rattle.bk_isa.specs.declared.form.Form.{Form}
use Rattle.bk_msg.specs.declared.row.Row.{Row}
use Rattle.bk_lce.specs.CacheTable as table
use Rattle.bk_lce.specs.CacheTable.{Transition}
use Rattle.bk_engine.specs.declared.parts.Choice.{Choice}
use Rattle.bk_engine.specs.Step.{runs_to}
use Rattle.bk_system.specs.declared.event.Event.{Event}
use Rattle.bk_system.specs.declared.event.Event.TheVariants as events
use Rattle.bk_system.specs.State.{State}
use Rattle.bk_system.specs.Events.{first}
use Rattle.bk_system.specs.Runs.{completed_by}
use Rattle.bk_system.specs.Routes.{engine_number, memory_number}
use Rattle.bk_agents.specs.Parts.{Part, CachePart, EnginePart, MemoryPart, NoPart, part_of}
use Rattle.bk_system.specs.declared.channel.Channel.TheVariants as channels
use Rattle.bk_system.specs.declared.channel.Channel.{Channel}
use Rattle.bk_system.specs.Routes.{heads_of}
use Rattle.bk_agents.specs.Laws.{PartsStay}
use Rattle.bk_agents.specs.Local.{Local, cache_local, engine_local, memory_local, can_run, offered, local_row, widened}
use Rattle.bk_agents.proofs.CacheParts.{Leaves, cache-leaves, engine-leaves, memory-leaves}
use Rattle.bk_agents.proofs.Numbers.{cache-part, engine-part, memory-part}
use Rattle.bk_agents.proofs.Own.{MayBeOwn, CompletesOwn, issue_own, command_own, fill_own}
use Rattle.bk_agents.proofs.SomeRow.{of-some, of-test}

-- what is to be shown of a step
abbrev Changes : Shape → State → ℕ → Local → Type 0
Changes k s n local = Leaves k s (widened s n local).state n local.part

own-done : (c : ℕ) (o : Option Transition) (t : Transition) → MayBeOwn c o → o ≡ Some t → CompletesOwn c t.done
own-done c o t own e = (subst (MayBeOwn c) e own).done

-- a row of a cache's table
by-row : (k : Shape) (s : State) (c : ℕ) (touched : Option Channel) (o : Option Transition) (local : Local) → c < k.caches
    → MayBeOwn c o
    → option_map (cache_local (length (completed_by c s.history)) touched) o ≡ Some local
    → Changes k s c local
by-row k s c touched o local l own e =
    let row = of-some (cache_local (length (completed_by c s.history)) touched) o local e in
    subst (Changes k s c) row.2 (cache-leaves k s c touched row.0 l (own-done c o row.0 own row.1))

pub if-own : (c : ℕ) (b : Bool) (o : Option Transition) → MayBeOwn c o → MayBeOwn c (cond b o None)
if-own c true o own = own
if-own c false o own = tt

pub and-own : (c : ℕ) (f : Row → Option Transition) (o : Option Row) → ((m : Row) → MayBeOwn c (f m))
    → MayBeOwn c (option_and_then f o)
and-own c f None own = tt
and-own c f (Some m) own = own m

-- WHOSE EVENT IT IS: a part that is no cache's has no row for one of these

abbrev IsOfCache : Event → Type 0
IsOfCache (events.Issue c way op) = Unit {0}
IsOfCache (events.Command c) = Unit {0}
IsOfCache (events.Fill to from) = Unit {0}
IsOfCache events.Memory = ⊥
IsOfCache (events.Engine choice) = ⊥

none-else : (k : Shape) (program : List Form) (s : State) (heads : Channel → Option Row) (event : Event) (x y : Bool) → IsOfCache event
    → local_row k program (cond x (EnginePart s.engine) (cond y (MemoryPart s.memory) NoPart)) heads event ≡ None
none-else k program s heads (events.Issue c way op) true y h = refl
none-else k program s heads (events.Issue c way op) false true h = refl
none-else k program s heads (events.Issue c way op) false false h = refl
none-else k program s heads (events.Command c) true y h = refl
none-else k program s heads (events.Command c) false true h = refl
none-else k program s heads (events.Command c) false false h = refl
none-else k program s heads (events.Fill to from) true y h = refl
none-else k program s heads (events.Fill to from) false true h = refl
none-else k program s heads (events.Fill to from) false false h = refl
none-else k program s heads events.Memory x y h = absurd h
none-else k program s heads (events.Engine choice) x y h = absurd h

is-cache : (k : Shape) (program : List Form) (s : State) (heads : Channel → Option Row) (event : Event) (c : ℕ) (local : Local)
    → IsOfCache event → local_row k program (part_of k s c) heads event ≡ Some local → c < k.caches
is-cache k program s heads event c local h e = go (ltb c k.caches) refl e
  where
    go : (b : Bool) → ltb c k.caches ≡ b
        → local_row k program (cond b (CachePart (s.caches c) (length (completed_by c s.history)))
        (cond (eqb c (engine_number k)) (EnginePart s.engine) (cond (eqb c (memory_number k)) (MemoryPart s.memory) NoPart))) heads event
        ≡ Some local
        → c < k.caches
    go true l i = ltb-true c k.caches l
    go false l i =
        let no : None ≡ Some local = sym (none-else k program s heads event (eqb c (engine_number k)) (eqb c (memory_number k)) h)
        ∙ i in
        absurd (cc no)

-- the local row of a cache's part
of-cache : (k : Shape) (program : List Form) (s : State) (event : Event) (c : ℕ) (local : Local) → c < k.caches
    → local_row k program (part_of k s c) (heads_of s) event ≡ Some local
    → local_row k program (CachePart (s.caches c) (length (completed_by c s.history))) (heads_of s) event ≡ Some local
of-cache k program s event c local l e =
    ap (λ (part : Part). local_row k program part (heads_of s) event) (sym (cache-part k s c l)) ∙ e

engine-stays : (k : Shape) (program : List Form) (s : State) (choice : Choice) (local : Local)
    → local_row k program (part_of k s (engine_number k)) (heads_of s) (events.Engine choice) ≡ Some local
    → Changes k s (engine_number k) local
engine-stays k program s choice local e =
    let outcome = runs_to k s.engine program choice (offered (heads_of s) choice) in
    let row = of-test (can_run k program s.engine choice (offered (heads_of s) choice)) (engine_local k (heads_of s) choice outcome) local
    (ap (λ (part : Part). local_row k program part (heads_of s) (events.Engine choice)) (sym (engine-part k s)) ∙ e) in
    subst (Changes k s (engine_number k)) row.1 (engine-leaves k s choice outcome)

memory-stays : (k : Shape) (program : List Form) (s : State) (local : Local)
    → local_row k program (part_of k s (memory_number k)) (heads_of s) events.Memory ≡ Some local
    → Changes k s (memory_number k) local
memory-stays k program s local e =
    let row = of-some (memory_local s.memory) (first s.memout) local
    (ap (λ (part : Part). local_row k program part (heads_of s) events.Memory) (sym (memory-part k s)) ∙ e) in
    subst (Changes k s (memory_number k)) row.2 (memory-leaves k s row.0)

pub parts-stay : PartsStay
parts-stay k program s (events.Issue c way op) local e =
    let l = is-cache k program s (heads_of s) (events.Issue c way op) c local tt e in
    by-row k s c None _ local l (if-own c (ltb way k.ways) _ (issue_own k (s.caches c) c op way))
    (of-cache k program s (events.Issue c way op) c local l e)
parts-stay k program s (events.Command c) local e =
    let l = is-cache k program s (heads_of s) (events.Command c) c local tt e in
    by-row k s c (Some (channels.Command c)) _ local l
    (and-own c (table.command k (s.caches c) c) (first (s.command c)) (command_own k (s.caches c) c))
    (of-cache k program s (events.Command c) c local l e)
parts-stay k program s (events.Fill to from) local e =
    let l = is-cache k program s (heads_of s) (events.Fill to from) to local tt e in
    by-row k s to (Some (channels.Fill to from)) _ local l
    (if-own to (ltb from k.caches) _
    (and-own to (table.fill k (s.caches to) to) (first (s.fill to from)) (fill_own k (s.caches to) to)))
    (of-cache k program s (events.Fill to from) to local l e)
parts-stay k program s events.Memory local e = memory-stays k program s local e
parts-stay k program s (events.Engine choice) local e = engine-stays k program s choice local e
