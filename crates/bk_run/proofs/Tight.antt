-- The greedy schedule: what an event that it takes is, where it stands.
use Rattle.std.proofs.Common.{◌≡◌, ℕ, zero, suc, ◌<◌, ◌≤◌, List, [], ◌∷◌, Bool, true, false, ◌&&◌, Option, Some, None, refl, subst, sym, ap, ◌∙◌, arith}
use Rattle.std.specs.Prelude.{option_and_then, option_map, if◌then◌else◌, IsTrue, is_some, nat_lt, nat_le, MatchOption}
use Rattle.std.proofs.lemmas.Bool.{and_parts, lt-ltb, leb-true}
use Rattle.bk_base.specs.Places.{Shape, InProfile, group_of}
use Rattle.bk_base.specs.declared.op.Op.{Op}
use Rattle.bk_isa.specs.declared.form.Form.{Form}
use Rattle.bk_lce.specs.declared.line.InProgress.{InProgress}
use Rattle.bk_lce.specs.declared.line.WayView.{WayView}
use Rattle.bk_lce.specs.CacheState.{CacheState}
use Rattle.bk_lce.specs.Policies.{views}
use Rattle.bk_lce.specs.CacheTable.{address_of, Transition, issue, issue_row, if_idle}
use Rattle.bk_engine.specs.declared.parts.TheConstants.{CLASS_NONE, CLASS_RESPONSE, CLASS_MEMORY, CLASS_REQUEST}
use Rattle.bk_system.specs.declared.event.Event.{Event}
use Rattle.bk_system.specs.declared.event.Event.TheVariants.{Issue, Command, Fill, Memory, Engine}
use Rattle.bk_base.specs.Counting.{or_else, first_below}
use Rattle.bk_system.specs.State.{State, opening}
use Rattle.bk_system.specs.Events.{cache_row, issue_taken}
use Rattle.bk_system.specs.Runs.{is_enabled, after, IsTightFrom, IsTight}
use Rattle.bk_run.specs.Jobs.{Job}
use Rattle.bk_run.specs.Greedy.{if_enabled, next_operation, ready_operation, issue_with, choice_of, engine_event, least_other, least_enabled, IsAsked, IsLeast, IsEnd, IsGreedyFrom, IsGreedy}

-- an Issue has the next operation of its cache in the trace
abbrev pub IsNext : State → List (ℕ × Op) → Event → Type 0
IsNext s lines (Issue c way op) = next_operation s lines c ≡ Some op
IsNext s lines event = Unit {0}

-- what the greedy schedule answers at a state: an enabled event, which issues no operation but a next one
pub record IsPicked (k : Shape) (program : List Form) (s : State) (lines : List (ℕ × Op)) (event : Event) : Type 0 where
  pub enabled : IsTrue (is_enabled k program s event)
  pub next : IsNext s lines event

-- what there is, if anything, is as P says
abbrev pub Each : {X : Type 0} → (X → Type 0) → Option X → Type 0
Each P None = Unit {0}
Each P (Some x) = P x

-- the first of two answers is one of them
or_else-each : {X : Type 0} (P : X → Type 0) (o later : Option X) → Each P o → Each P later → Each P (or_else o later)
or_else-each P None later h g = g
or_else-each P (Some x) later h g = h

-- the first answer below n is an answer
first_below-each : {X : Type 0} (P : X → Type 0) (n : ℕ) (f : ℕ → Option X) → ((i : ℕ) → Each P (f i))
    → Each P (first_below n f)
first_below-each P zero f h = tt
first_below-each P (suc n) f h = or_else-each P (first_below n f) (f n) (first_below-each P n f h) (h n)

-- an answer under a test comes only where the test passes
pub if-each : {X : Type 0} (P : X → Type 0) (b : Bool) (x : X) → (b ≡ true → P x) → Each P (if b then Some x else None)
if-each P true x h = h refl
if-each P false x h = tt

-- an answer made of another one
then-each : {X Y : Type 0} (P : Y → Type 0) (f : X → Option Y) (o : Option X) → ((x : X) → o ≡ Some x → Each P (f x))
    → Each P (option_and_then f o)
then-each P f None h = tt
then-each P f (Some x) h = h x refl

map-each : {X Y : Type 0} (P : Y → Type 0) (f : X → Y) (o : Option X) → Each (λ x. P (f x)) o → Each P (option_map f o)
map-each P f None h = tt
map-each P f (Some x) h = h

-- a row that is taken is there
pub taken-some : (s : State) (c : ℕ) (o : Option Transition) → is_some (cache_row s c o) ≡ is_some o
taken-some s c None = refl
taken-some s c (Some t) = refl

-- an idle cache takes an operation with any way
idle-any_way : (b : Option InProgress) (t u : Transition) → IsTrue (is_some (if_idle b t)) → IsTrue (is_some (if_idle b u))
idle-any_way None t u h = refl
idle-any_way (Some busy) t u h = absurd (cc)

-- a test under which there is something passes, and it is there
pub is_some-if : {X : Type 0} (b : Bool) (o : Option X) → IsTrue (is_some (if b then o else None)) → (b ≡ true) × IsTrue (is_some o)
is_some-if true o e = (refl, e)
is_some-if false o e = absurd (cc)

some-if : {X : Type 0} (b : Bool) (o : Option X) → b ≡ true → IsTrue (is_some o) → IsTrue (is_some (if b then o else None))
some-if true o e h = h
some-if false o e h = absurd (cc)

-- Whether an Issue is enabled doesn't depend on its way.
pub issue-any_way : (k : Shape) (program : List Form) (s : State) (c : ℕ) (op : Op) (v w : ℕ) → w < k.ways
    → IsTrue (is_enabled k program s (Issue c v op)) → IsTrue (is_enabled k program s (Issue c w op))
issue-any_way k program s c op v w l h =
    let taken : IsTrue (is_some (issue_taken k s c op v)) = subst (λ (b : Bool). IsTrue b) (taken-some s c (issue_taken k s c op v)) h in
    let parts = is_some-if (nat_lt c k.caches && nat_lt v k.ways) (issue k (s.caches c) c op v) taken in
    let cache = (and_parts (nat_lt c k.caches) (nat_lt v k.ways) parts.0).0 in
    let inside : (nat_lt c k.caches && nat_lt w k.ways) ≡ true = rw (cache, lt-ltb w k.ways l) refl in
    let now : IsTrue (is_some (issue k (s.caches c) c op w)) =
    idle-any_way (s.caches c).busy (issue_row k (s.caches c) c op v) (issue_row k (s.caches c) c op w) parts.1 in
    subst (λ (b : Bool). IsTrue b) (sym (taken-some s c (issue_taken k s c op w)))
    (some-if (nat_lt c k.caches && nat_lt w k.ways) (issue k (s.caches c) c op w) inside now)

-- an event that is answered if it is enabled is enabled
enabled-picked : (k : Shape) (program : List Form) (s : State) (lines : List (ℕ × Op)) (event : Event) → IsNext s lines event
    → Each (IsPicked k program s lines) (if_enabled k program s event)
enabled-picked k program s lines event next =
    if-each (IsPicked k program s lines) (is_enabled k program s event) event (λ e. record { enabled = e; next = next })

-- a cache that is ready issues its next operation, with any way
ready-picked : (k : Shape) (program : List Form) (s : State) (lines : List (ℕ × Op)) (way c : ℕ) → way < k.ways
    → Each (λ at. IsPicked k program s lines (issue_with way at)) (ready_operation k program s lines c)
ready-picked k program s lines way c l =
    then-each (λ at. IsPicked k program s lines (issue_with way at)) (λ op. if is_enabled k program s (Issue c 0 op) then Some (c, op)
    else None) (next_operation s lines c)
    (λ op e. if-each (λ at. IsPicked k program s lines (issue_with way at)) (is_enabled k program s (Issue c 0 op)) (c, op)
    (λ h. record { enabled = issue-any_way k program s c op 0 way l h; next = e }))

-- the least enabled event but for Issue is enabled, and so is the least of all
other-picked : (k : Shape) (program : List Form) (s : State) (lines : List (ℕ × Op))
    → Each (IsPicked k program s lines) (least_other k program s)
other-picked k program s lines =
    let P = IsPicked k program s lines in
    let engine : (class source : ℕ) → Each P (engine_event k program s class source) =
    λ class source. enabled-picked k program s lines (Engine (choice_of class source)) tt in
    or_else-each P _ _ (engine CLASS_NONE 0)
    (or_else-each P _ _ (first_below-each P k.caches _ (engine CLASS_RESPONSE))
    (or_else-each P _ _ (engine CLASS_MEMORY 0)
    (or_else-each P _ _ (first_below-each P k.caches _ (engine CLASS_REQUEST))
    (or_else-each P _ _ (first_below-each P k.caches _ (λ c. enabled-picked k program s lines (Command c) tt))
    (or_else-each P _ _ (first_below-each P k.caches _
    (λ to. first_below-each P k.caches _ (λ from. enabled-picked k program s lines (Fill to from) tt)))
    (enabled-picked k program s lines Memory tt))))))

least-picked : (k : Shape) (program : List Form) (s : State) (lines : List (ℕ × Op)) (way : ℕ) → way < k.ways
    → Each (IsPicked k program s lines) (least_enabled k program s lines way)
least-picked k program s lines way l =
    let P = IsPicked k program s lines in
    or_else-each P _ _ (map-each P (issue_with way) (first_below k.caches (ready_operation k program s lines))
    (first_below-each (λ at. P (issue_with way at)) k.caches _ (λ c. ready-picked k program s lines way c l)))
    (other-picked k program s lines)

-- an event that the schedule takes is picked
pub taken-picked : (policy : List WayView → ℕ → Type 0) (k : Shape) (program : List Form) (s : State) (lines : List (ℕ × Op))
    (event : Event) → IsLeast policy k program s lines event → IsPicked k program s lines event
taken-picked policy k program s lines event h =
    subst (Each (IsPicked k program s lines)) h.least (least-picked k program s lines h.way h.within)

-- each event of a greedy list was enabled where it stands
pub greedy_from-tight : (job : Job) (s : State) (events : List Event) → IsGreedyFrom job s events
    → IsTightFrom job.config job.program s events
greedy_from-tight job s [] h = tt
greedy_from-tight job s (event ∷ events) h =
    let picked = taken-picked job.policy job.config job.program s job.operations event h.0 in
    (picked.enabled, greedy_from-tight job (after job.config job.program s event) events h.1)

pub greedy-tight : (job : Job) (events : List Event) → IsGreedy job events → IsTight job.config job.program events
greedy-tight job events h = greedy_from-tight job (opening job.config) events h

-- the least enabled event but for Issue asks no policy
if-asked : (policy : List WayView → ℕ → Type 0) (k : Shape) (program : List Form) (s : State) (event : Event)
    → IsAsked policy k s event
    → Each (IsAsked policy k s) (if_enabled k program s event)
if-asked policy k program s event h = if-each (IsAsked policy k s) (is_enabled k program s event) event (λ e. h)

other-asked : (policy : List WayView → ℕ → Type 0) (k : Shape) (program : List Form) (s : State)
    → Each (IsAsked policy k s) (least_other k program s)
other-asked policy k program s =
    let P = IsAsked policy k s in
    let engine : (class source : ℕ) → Each P (engine_event k program s class source) =
    λ class source. if-asked policy k program s (Engine (choice_of class source)) tt in
    or_else-each P _ _ (engine CLASS_NONE 0)
    (or_else-each P _ _ (first_below-each P k.caches _ (engine CLASS_RESPONSE))
    (or_else-each P _ _ (engine CLASS_MEMORY 0)
    (or_else-each P _ _ (first_below-each P k.caches _ (engine CLASS_REQUEST))
    (or_else-each P _ _ (first_below-each P k.caches _ (λ c. if-asked policy k program s (Command c) tt))
    (or_else-each P _ _ (first_below-each P k.caches _
    (λ to. first_below-each P k.caches _ (λ from. if-asked policy k program s (Fill to from) tt)))
    (if-asked policy k program s Memory tt))))))

-- there is a way at least
pub some-ways : (k : Shape) → InProfile k → 0 < k.ways
some-ways k h = le_true (leb-true 1 k.ways (and_parts (nat_le 1 k.ways) (nat_le k.ways 8) h.ways).0)
  where
    le_true : {n : ℕ} → 1 ≤ n → 0 < n
    le_true l = omega arith

-- no cache is ready: the schedule takes the least of the other events, or it is at its end
pub least-unready : (policy : List WayView → ℕ → Type 0) (k : Shape) (program : List Form) (s : State) (lines : List (ℕ × Op))
    (o : Option Event) → 0 < k.ways → first_below k.caches (ready_operation k program s lines) ≡ None
    → o ≡ least_other k program s
    → MatchOption o (IsEnd k program s lines) (IsLeast policy k program s lines)
least-unready policy k program s lines None l none e = rw none (sym e)
least-unready policy k program s lines (Some event) l none e =
    record {
      way = 0;
      within = l;
      least = rw none (sym e);
      asked = subst (Each (IsAsked policy k s)) (sym e) (other-asked policy k program s);
    }

-- a cache is ready: it issues its operation with a way that the policy answers
pub least-ready : (policy : List WayView → ℕ → Type 0) (k : Shape) (program : List Form) (s : State)
    (lines : List (ℕ × Op)) (c : ℕ)
    (op : Op) (way : ℕ) → way < k.ways → first_below k.caches (ready_operation k program s lines) ≡ Some (c, op)
    → policy (views k (s.caches c) (group_of k (address_of op))) way → IsLeast policy k program s lines (Issue c way op)
least-ready policy k program s lines c op way l first asked = record { way = way; within = l; least = rw first refl; asked = asked }

-- the same of what was asked: the way of a cache's views at the group of an address, by the configurations that it and the trace tell
pub least-chosen : (policy : List WayView → ℕ → Type 0) (k seen told : Shape) (program : List Form) (s : State)
    (lines : List (ℕ × Op)) (c : ℕ) (op : Op) (cache : CacheState) (address group way : ℕ)
    → seen ≡ k → cache ≡ s.caches c → told ≡ k → address ≡ address_of op → group ≡ group_of told address
    → way < seen.ways → first_below k.caches (ready_operation k program s lines) ≡ Some (c, op)
    → policy (views seen cache group) way → IsLeast policy k program s lines (Issue c way op)
least-chosen policy k seen told program s lines c op cache address group way shape state trace at set within first answer =
    let place : group ≡ group_of k (address_of op) =
    set ∙ ap (λ (config : Shape). group_of config address) trace ∙ ap (group_of k) at in
    let asked : policy (views k (s.caches c) (group_of k (address_of op))) way =
    subst (λ (g : ℕ). policy (views k (s.caches c) g) way) place
    (subst (λ (x : CacheState). policy (views k x group) way) state
    (subst (λ (config : Shape). policy (views config cache group) way) shape answer)) in
    least-ready policy k program s lines c op way (subst (λ (config : Shape). way < config.ways) shape within) first asked
