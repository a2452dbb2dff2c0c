-- A list of picked events, as a greedy one is, has each cache issue its operations of the trace in order, and what it has completed are the
-- first of them.
use Rattle.std.proofs.Common.{◌≡◌, ℕ, ◌<◌, List, [], ◌∷◌, ◌++◌, Bool, true, false, ◌&&◌, cond, eqb, Option, Some, None, refl, ap, sym, subst, ◌∙◌, ◌⊎◌, inl, inr, length, append_assoc, arith}
use Rattle.std.specs.Prelude.{if◌then◌else◌, IsTrue, slice_get, is_some, nat_lt}
use Rattle.std.proofs.lemmas.Bool.{cases_eq, eq-eqb, ne_eqb}
use Rattle.std.proofs.lemmas.List.{append-nil}
use Rattle.bk_base.specs.Places.{Shape}
use Rattle.bk_base.specs.declared.op.Op.{Op}
use Rattle.bk_isa.specs.declared.form.Form.{Form}
use Rattle.bk_msg.specs.declared.row.Row.{Row}
use Rattle.bk_trace.specs.Traces.{operations_of}
use Rattle.bk_lce.specs.CacheTable.{Transition, issue}
use Rattle.bk_system.specs.declared.event.Event.{Event}
use Rattle.bk_system.specs.declared.event.Event.TheVariants.{Issue, Command, Fill, Memory, Engine}
use Rattle.bk_system.specs.State.{State, opening}
use Rattle.bk_system.specs.Events.{Happening, first, cache_row, issue_taken, command_of, command_taken, without_command, fill_of, fill_taken, without_fill, access_row, can_run}
use Rattle.bk_system.specs.Runs.{is_enabled, after, state_after_row, run_from, run, issued_by, completed_by, IsTightFrom, IsTight, IsPrefix, IsInOrder}
use Rattle.bk_run.specs.Jobs.{Job}
use Rattle.bk_run.specs.Greedy.{next_operation, IsGreedyFrom, IsGreedy}
use Rattle.bk_run.proofs.Tight.{IsPicked, Each, taken-picked, taken-some}
use Rattle.bk_run.proofs.Begun.{begun, operation_in, Moves, Begins, issue-begins, command-moves, fill-moves, with_taken-begun}

-- what a cache issues in one event and those after it
issued_by-cons : (c : ℕ) (event : Event) (events : List Event)
    → issued_by c (event ∷ events) ≡ issued_by c (event ∷ []) ++ issued_by c events
issued_by-cons c (Issue at way op) events = whether (eqb at c)
  where
    whether : (b : Bool) → cond b (op ∷ issued_by c events) (issued_by c events) ≡ cond b (op ∷ []) [] ++ issued_by c events
    whether true = refl
    whether false = refl
issued_by-cons c (Command _) events = refl
issued_by-cons c (Fill _ _) events = refl
issued_by-cons c Memory events = refl
issued_by-cons c (Engine _) events = refl

-- a row that there is under a test, if there is one at all
under-each : {X : Type 0} (P : X → Type 0) (b : Bool) (o : Option X) → Each P o → Each P (if b then o else None)
under-each P true o h = h
under-each P false o h = tt

-- a row of a cache that leaves what is in progress begins nothing
moves-begun : (c at : ℕ) (s : State) (o : Option Transition) → Each (Moves at (operation_in (s.caches at).busy)) o
    → begun c (state_after_row s (cache_row s at o)) ≡ begun c s
moves-begun c at s None h = refl
moves-begun c at s (Some t) h = with_taken-begun c at s t (operation_in (s.caches at).busy) h
    ∙ ap (λ (xs : List Op). completed_by c s.history ++ xs) (kept (cases_eq at c))
  where
    kept : (at ≡ c) ⊎ (at ≡ c → ⊥) → cond (eqb at c) (operation_in (s.caches at).busy) (operation_in (s.caches c).busy)
        ≡ operation_in (s.caches c).busy
    kept (inl same) = rw (eq-eqb at c same) (ap (λ i. operation_in (s.caches i).busy) same)
    kept (inr differ) = rw (ne_eqb at c differ) refl

-- an Issue that is taken begins the operation that it issues, and nothing at the other caches
begins-begun : (c at : ℕ) (s : State) (op : Op) (o : Option Transition) → Each (Begins (s.caches at) at op) o → IsTrue (is_some o)
    → begun c (state_after_row s (cache_row s at o)) ≡ begun c s ++ cond (eqb at c) (op ∷ []) []
begins-begun c at s op None h some = absurd (cc)
begins-begun c at s op (Some t) h some =
    with_taken-begun c at s t (op ∷ []) h.moves
    ∙ ap (λ (xs : List Op). completed_by c s.history ++ xs) (more (cases_eq at c))
    ∙ sym (append_assoc (completed_by c s.history) (operation_in (s.caches c).busy) (cond (eqb at c) (op ∷ []) []))
  where
    more : (at ≡ c) ⊎ (at ≡ c → ⊥) → cond (eqb at c) (op ∷ []) (operation_in (s.caches c).busy)
        ≡ operation_in (s.caches c).busy ++ cond (eqb at c) (op ∷ []) []
    more (inl same) = rw (eq-eqb at c same, subst (λ i. operation_in (s.caches i).busy ≡ []) same h.idle) refl
    more (inr differ) = rw (ne_eqb at c differ, append-nil) refl

-- an Issue that is enabled is given to an idle cache
begins-idle : (s : State) (at : ℕ) (op : Op) (o : Option Transition) → Each (Begins (s.caches at) at op) o → IsTrue (is_some o)
    → operation_in (s.caches at).busy ≡ []
begins-idle s at op None h some = absurd (cc)
begins-idle s at op (Some t) h some = h.idle

issue-each : (k : Shape) (s : State) (at : ℕ) (op : Op) (way : ℕ) → Each (Begins (s.caches at) at op) (issue_taken k s at op way)
issue-each k s at op way = under-each (Begins (s.caches at) at op) (nat_lt at k.caches && nat_lt way k.ways)
    (issue k (s.caches at) at op way) (issue-begins k (s.caches at) at op way)

issue-some : (k : Shape) (program : List Form) (s : State) (at : ℕ) (op : Op) (way : ℕ)
    → IsTrue (is_enabled k program s (Issue at way op))
    → IsTrue (is_some (issue_taken k s at op way))
issue-some k program s at op way enabled = subst (λ (b : Bool). IsTrue b) (taken-some s at (issue_taken k s at op way)) enabled

issue-idle : (k : Shape) (program : List Form) (s : State) (at : ℕ) (op : Op) (way : ℕ)
    → IsTrue (is_enabled k program s (Issue at way op))
    → operation_in (s.caches at).busy ≡ []
issue-idle k program s at op way enabled =
    begins-idle s at op (issue_taken k s at op way) (issue-each k s at op way) (issue-some k program s at op way enabled)

command-each : (k : Shape) (s : State) (at : ℕ) (m : Option Row)
    → Each (Moves at (operation_in (s.caches at).busy)) (command_of k s at m)
command-each k s at None = tt
command-each k s at (Some m) = command-moves k (s.caches at) at m

fill-each : (k : Shape) (s : State) (at : ℕ) (m : Option Row) → Each (Moves at (operation_in (s.caches at).busy)) (fill_of k s at m)
fill-each k s at None = tt
fill-each k s at (Some m) = fill-moves k (s.caches at) at m

-- the memory begins nothing
memory-begun : (c : ℕ) (s : State) (m : Option Row) → begun c (state_after_row s (access_row s m)) ≡ begun c s
memory-begun c s None = refl
memory-begun c s (Some m) = refl

-- the engine begins nothing
if-begun : (c : ℕ) (s : State) (b : Bool) (happening : Happening) → begun c happening.state ≡ begun c s
    → begun c (state_after_row s (if b then Some happening else None)) ≡ begun c s
if-begun c s true happening e = e
if-begun c s false happening e = refl

-- a row that isn't there, of a state with a head less, changes nothing
row-kept : (c at : ℕ) (s later : State) (o : Option Transition) → begun c later ≡ begun c s
    → begun c (state_after_row later (cache_row later at o)) ≡ begun c later
    → begun c (state_after_row s (cache_row later at o)) ≡ begun c s
row-kept c at s later None e h = refl
row-kept c at s later (Some taken) e h = h ∙ e

-- beginning nothing is issuing nothing
none-more : (c : ℕ) (s later : State) → begun c later ≡ begun c s → begun c later ≡ begun c s ++ []
none-more c s later e = e ∙ sym (append-nil (begun c s))

-- after an enabled event a cache has begun what it had, and what the event issues
pub enabled-begun : (c : ℕ) (k : Shape) (program : List Form) (s : State) (event : Event) → IsTrue (is_enabled k program s event)
    → begun c (after k program s event) ≡ begun c s ++ issued_by c (event ∷ [])
enabled-begun c k program s (Issue at way op) enabled =
    begins-begun c at s op (issue_taken k s at op way) (issue-each k s at op way) (issue-some k program s at op way enabled)
enabled-begun c k program s (Command at) enabled =
    let t = without_command s at in
    let each = under-each (Moves at (operation_in (s.caches at).busy)) (nat_lt at k.caches) (command_of k s at (first (s.command at)))
    (command-each k s at (first (s.command at))) in
    none-more c s (after k program s (Command at))
    (row-kept c at s t (command_taken k s at) refl (moves-begun c at t (command_taken k s at) each))
enabled-begun c k program s (Fill to from) enabled =
    let t = without_fill s to from in
    let each = under-each (Moves to (operation_in (s.caches to).busy)) (nat_lt to k.caches && nat_lt from k.caches)
    (fill_of k s to (first (s.fill to from))) (fill-each k s to (first (s.fill to from))) in
    none-more c s (after k program s (Fill to from))
    (row-kept c to s t (fill_taken k s to from) refl (moves-begun c to t (fill_taken k s to from) each))
enabled-begun c k program s Memory enabled = none-more c s (after k program s Memory) (memory-begun c s (first s.memout))
enabled-begun c k program s (Engine choice) enabled =
    none-more c s (after k program s (Engine choice)) (if-begun c s (can_run k program s choice) _ refl)

-- a prefix with the element after it
prefix-more : (xs ys : List Op) (op : Op) → IsPrefix xs ys → slice_get ys (length xs) ≡ Some op → IsPrefix (xs ++ op ∷ []) ys
prefix-more [] ys op p e = starts ys e
  where
    starts : (ys : List Op) → slice_get ys 0 ≡ Some op → IsPrefix (op ∷ []) ys
    starts [] h = absurd (cc)
    starts (y ∷ ys) h = (ys, cc)
prefix-more (x ∷ xs) [] op p e = absurd (cc)
prefix-more (x ∷ xs) (y ∷ ys) op p e =
    let tail : IsPrefix xs ys = (p.0, cc (p.1)) in
    let more = prefix-more xs ys op tail e in
    let same : x ≡ y = cc (p.1) in
    (more.0, cc (more.1, same))

-- an idle cache has begun those that have completed, and its next operation stands after these
next-prefix : (c : ℕ) (s : State) (lines : List (ℕ × Op)) (op : Op) → operation_in (s.caches c).busy ≡ []
    → next_operation s lines c ≡ Some op → IsPrefix (begun c s) (operations_of c lines)
    → IsPrefix (begun c s ++ op ∷ []) (operations_of c lines)
next-prefix c s lines op idle next p =
    let e : begun c s ≡ completed_by c s.history = ap (λ (ops : List Op). completed_by c s.history ++ ops) idle
    ∙ append-nil (completed_by c s.history) in
    subst (λ (xs : List Op). IsPrefix (xs ++ op ∷ []) (operations_of c lines)) (sym e)
    (prefix-more (completed_by c s.history) (operations_of c lines) op
    (subst (λ (xs : List Op). IsPrefix xs (operations_of c lines)) e p) next)

-- a picked event issues the operation that stands after those that its cache has begun
picked-prefix : (c : ℕ) (k : Shape) (program : List Form) (lines : List (ℕ × Op)) (s : State) (event : Event)
    → IsPicked k program s lines event → IsPrefix (begun c s) (operations_of c lines)
    → IsPrefix (begun c s ++ issued_by c (event ∷ [])) (operations_of c lines)
picked-prefix c k program lines s (Issue at way op) picked p =
    whether (cases_eq at c) (issue-idle k program s at op way picked.enabled) picked.next
  where
    whether : (at ≡ c) ⊎ (at ≡ c → ⊥) → operation_in (s.caches at).busy ≡ [] → next_operation s lines at ≡ Some op
        → IsPrefix (begun c s ++ cond (eqb at c) (op ∷ []) []) (operations_of c lines)
    whether (inl same) idle next =
        rw (eq-eqb at c same)
        (next-prefix c s lines op (subst (λ i. operation_in (s.caches i).busy ≡ []) same idle)
        (subst (λ i. next_operation s lines i ≡ Some op) same next) p)
    whether (inr differ) idle next = rw (ne_eqb at c differ, append-nil) p
picked-prefix c k program lines s (Command at) picked p = rw append-nil p
picked-prefix c k program lines s (Fill to from) picked p = rw append-nil p
picked-prefix c k program lines s Memory picked p = rw append-nil p
picked-prefix c k program lines s (Engine choice) picked p = rw append-nil p

-- Each event is picked where it stands: it is enabled there, and issues no operation but its cache's next one.
abbrev pub ArePickedFrom : Shape → List Form → List (ℕ × Op) → State → List Event → Type 0
ArePickedFrom k program lines s [] = Unit {0}
ArePickedFrom k program lines s (event ∷ events) =
    IsPicked k program s lines event × ArePickedFrom k program lines (after k program s event) events

-- Where what a cache has begun is a prefix of its operations, it stays one along a list of picked events from there.
pub picked_from-in_order : (c : ℕ) (k : Shape) (program : List Form) (lines : List (ℕ × Op)) (s : State) (events : List Event)
    → ArePickedFrom k program lines s events → IsPrefix (begun c s) (operations_of c lines)
    → IsPrefix (begun c s ++ issued_by c events) (operations_of c lines)
picked_from-in_order c k program lines s [] h p = rw append-nil p
picked_from-in_order c k program lines s (event ∷ events) h p =
    let e = enabled-begun c k program s event h.0.enabled in
    let q = subst (λ (xs : List Op). IsPrefix xs (operations_of c lines)) (sym e) (picked-prefix c k program lines s event h.0 p) in
    let same : begun c (after k program s event) ++ issued_by c events ≡ begun c s ++ issued_by c (event ∷ events) =
    ap (λ (xs : List Op). xs ++ issued_by c events) e
    ∙ append_assoc (begun c s) (issued_by c (event ∷ [])) (issued_by c events)
    ∙ ap (λ (xs : List Op). begun c s ++ xs) (sym (issued_by-cons c event events)) in
    subst (λ (xs : List Op). IsPrefix xs (operations_of c lines)) same
    (picked_from-in_order c k program lines (after k program s event) events h.1 q)

-- the events of a greedy list are picked
greedy_from-picked : (job : Job) (s : State) (events : List Event) → IsGreedyFrom job s events
    → ArePickedFrom job.config job.program job.operations s events
greedy_from-picked job s [] h = tt
greedy_from-picked job s (event ∷ events) h = (
  taken-picked job.policy job.config job.program s job.operations event h.0,
  greedy_from-picked job (after job.config job.program s event) events h.1,
)

-- a greedy list has each cache issue its operations of the trace in order
pub greedy-in_order : (job : Job) (events : List Event) → IsGreedy job events → IsInOrder job.config job.operations events
greedy-in_order job events h = λ c below.
    picked_from-in_order c job.config job.program job.operations (opening job.config) events
    (greedy_from-picked job (opening job.config) events h) (operations_of c job.operations, refl)

-- after a list of events, each of which was enabled, a cache has begun what it had, and what the events issue
tight_from-begun : (c : ℕ) (k : Shape) (program : List Form) (s : State) (events : List Event) → IsTightFrom k program s events
    → begun c (run_from k program s events) ≡ begun c s ++ issued_by c events
tight_from-begun c k program s [] h = sym (append-nil (begun c s))
tight_from-begun c k program s (event ∷ events) h =
    tight_from-begun c k program (after k program s event) events h.1
    ∙ ap (λ (xs : List Op). xs ++ issued_by c events) (enabled-begun c k program s event h.0)
    ∙ append_assoc (begun c s) (issued_by c (event ∷ [])) (issued_by c events)
    ∙ ap (λ (xs : List Op). begun c s ++ xs) (sym (issued_by-cons c event events))

-- the first part of a prefix is one
prefix-part : (xs more ys : List Op) → IsPrefix (xs ++ more) ys → IsPrefix xs ys
prefix-part xs more ys p = (more ++ p.0, sym (append_assoc xs more p.0) ∙ p.1)

-- where each event was enabled and each cache issues its operations in order, what one has completed are the first of its operations
pub tight-completed : (k : Shape) (program : List Form) (lines : List (ℕ × Op)) (events : List Event) → IsTight k program events
    → IsInOrder k lines events → (c : ℕ) → c < k.caches
    → IsPrefix (completed_by c (run k program events).history) (operations_of c lines)
tight-completed k program lines events tight in_order c below =
    let s = run k program events in
    prefix-part (completed_by c s.history) (operation_in (s.caches c).busy) (operations_of c lines)
    (subst (λ (xs : List Op). IsPrefix xs (operations_of c lines)) (sym (tight_from-begun c k program (opening k) events tight))
    (in_order c below))

-- a prefix that is as long as the whole is the whole
pub prefix-whole : (xs ys : List Op) → IsPrefix xs ys → length xs ≡ length ys → xs ≡ ys
prefix-whole [] [] p e = refl
prefix-whole [] (y ∷ ys) p e = absurd (omega (arith, e))
prefix-whole (x ∷ xs) [] p e = absurd (omega (arith, e))
prefix-whole (x ∷ xs) (y ∷ ys) p e =
    let tail : IsPrefix xs ys = (p.0, cc (p.1)) in
    let same : x ≡ y = cc (p.1) in
    let count : length xs ≡ length ys = omega (arith, e) in
    ap (λ (op : Op). op ∷ xs) same ∙ ap (λ (ops : List Op). y ∷ ops) (prefix-whole xs ys tail count)
