-- An event that was made is one that its agent has to make; and where none was made, the agent has none.
use Rattle.std.proofs.Common.{◌≡◌, ℕ, ◌+◌, ◌<◌, List, Bool, true, false, Option, Some, None, Result, Ok, Err, refl, ap, sym, subst, ◌∙◌, length, lt-ltb, arith}
use Rattle.std.specs.Prelude.{IfOk, IsTrue, if◌then◌else◌, option_and_then}
use Rattle.std.proofs.lemmas.Option.{same_Some}
use Rattle.bk_base.specs.Places.{Shape, group_of}
use Rattle.bk_base.specs.Counting.{or_else, first_below}
use Rattle.bk_base.specs.declared.op.Op.{Op}
use Rattle.bk_base.proofs.Below.{first_below-some}
use Rattle.bk_isa.specs.declared.form.Form.{Form}
use Rattle.bk_engine.specs.declared.parts.TheConstants.{CLASS_NONE, CLASS_RESPONSE, CLASS_MEMORY, CLASS_REQUEST}
use Rattle.bk_lce.specs.CacheState.{CacheState}
use Rattle.bk_lce.specs.CacheTable.{address_of}
use Rattle.bk_lce.specs.Policies.{views}
use Rattle.bk_lce.specs.declared.line.WayView.{WayView}
use Rattle.bk_msg.specs.declared.row.Row.{Row}
use Rattle.bk_system.specs.declared.event.Event.{Event}
use Rattle.bk_system.specs.declared.event.Event.TheVariants.{Issue, Command, Fill, Memory, Engine}
use Rattle.bk_system.specs.Routes.{engine_number, memory_number}
use Rattle.bk_system.specs.Runs.{is_enabled, completed_by}
use Rattle.bk_system.specs.State.{State}
use Rattle.bk_run.specs.Greedy.{if_enabled, next_operation, ready_operation, choice_of, engine_event, fill_event}
use Rattle.bk_run.specs.Schedule.{Makes, IsMade, least_engine, least_head}
use Rattle.bk_run.proofs.Tight.{issue-any_way}
use Rattle.bk_agents.specs.Parts.{Part, CachePart, EnginePart, MemoryPart, NoPart, part_of, agent_of}
use Rattle.bk_rounds.specs.Moves.{Acts}
use Rattle.bk_rounds.specs.Tasks.{Task, IsDue, IsIdle, least_delivery_to}

-- WHICH EVENT WAS WANTED

if-some : (b : Bool) (event other : Event) → (if b then Some event else None) ≡ Some other → event ≡ other
if-some true event other h = cc
if-some false event other h = absurd (cc)

-- what there is, if anything, is as P says
abbrev Each : {X : Type 0} → (X → Type 0) → Option X → Type 0
Each P None = Unit {0}
Each P (Some x) = P x

each-some : {X : Type 0} (P : X → Type 0) (o : Option X) → ((x : X) → o ≡ Some x → P x) → Each P o
each-some P None h = tt
each-some P (Some x) h = h x refl

each-of : {X : Type 0} (P : X → Type 0) (o : Option X) (x : X) → o ≡ Some x → Each P o → P x
each-of P None x e h = absurd (cc (e))
each-of P (Some y) x e h = let same : y ≡ x = cc (e) in subst P same h

each-or : {X : Type 0} (P : X → Type 0) (o later : Option X) → Each P o → Each P later → Each P (or_else o later)
each-or P None later h l = l
each-or P (Some x) later h l = h

each-first : {X : Type 0} (P : X → Type 0) (n : ℕ) (f : ℕ → Option X) → ((i : ℕ) → Each P (f i)) → Each P (first_below n f)
each-first P n f h =
    each-some P (first_below n f) (λ x e. let found = first_below-some n f x e in each-of P (f found.0) x found.2 (h found.0))

each-enabled : (P : Event → Type 0) (k : Shape) (program : List Form) (s : State) (event : Event) → P event
    → Each P (if_enabled k program s event)
each-enabled P k program s event h =
    each-some P (if_enabled k program s event)
    (λ other e. subst P (if-some (is_enabled k program s event) event other e) h)

-- an event of agent n that is due whatever the part
abbrev IsPlain : Task → ℕ → Event → Type 0
IsPlain task n event = (agent_of task.config event ≡ n)
    × ((part : Part) → IsDue task.policy task.config task.operations part event)

command-due : (task : Task) (c : ℕ) (part : Part) → IsDue task.policy task.config task.operations part (Command c)
command-due task c (CachePart cache completed) = tt
command-due task c (EnginePart engine) = tt
command-due task c (MemoryPart memory) = tt
command-due task c NoPart = tt

fill-due : (task : Task) (to from : ℕ) (part : Part) → IsDue task.policy task.config task.operations part (Fill to from)
fill-due task to from (CachePart cache completed) = tt
fill-due task to from (EnginePart engine) = tt
fill-due task to from (MemoryPart memory) = tt
fill-due task to from NoPart = tt

engine-due : (task : Task) (class source : ℕ) (part : Part)
    → IsDue task.policy task.config task.operations part (Engine (choice_of class source))
engine-due task class source (CachePart cache completed) = tt
engine-due task class source (EnginePart engine) = tt
engine-due task class source (MemoryPart memory) = tt
engine-due task class source NoPart = tt

memory-due : (task : Task) (part : Part) → IsDue task.policy task.config task.operations part Memory
memory-due task (CachePart cache completed) = tt
memory-due task (EnginePart engine) = tt
memory-due task (MemoryPart memory) = tt
memory-due task NoPart = tt

delivery-plain : (task : Task) (s : State) (c : ℕ) → Each (IsPlain task c) (least_delivery_to task.config task.program s c)
delivery-plain task s c =
    each-or (IsPlain task c) (if_enabled task.config task.program s (Command c))
    (first_below task.config.caches (fill_event task.config task.program s c))
    (each-enabled (IsPlain task c) task.config task.program s (Command c) (refl, command-due task c))
    (each-first (IsPlain task c) task.config.caches (fill_event task.config task.program s c)
    (λ from. each-enabled (IsPlain task c) task.config task.program s (Fill c from) (refl, fill-due task c from)))

engine-plain : (task : Task) (s : State) → Each (IsPlain task (engine_number task.config)) (least_engine task.config task.program s)
engine-plain task s =
    let P = IsPlain task (engine_number task.config) in
    let one : (class source : ℕ) → Each P (engine_event task.config task.program s class source) =
    λ class source. each-enabled P task.config task.program s (Engine (choice_of class source)) (refl, engine-due task class source) in
    each-or P (engine_event task.config task.program s CLASS_NONE 0) (least_head task.config task.program s) (one CLASS_NONE 0)
    (each-or P (first_below task.config.caches (engine_event task.config task.program s CLASS_RESPONSE)) _
    (each-first P task.config.caches _ (one CLASS_RESPONSE))
    (each-or P (engine_event task.config task.program s CLASS_MEMORY 0) _ (one CLASS_MEMORY 0)
    (each-first P task.config.caches _ (one CLASS_REQUEST))))

memory-plain : (task : Task) (s : State)
    → Each (IsPlain task (memory_number task.config)) (if_enabled task.config task.program s Memory)
memory-plain task s =
    each-enabled (IsPlain task (memory_number task.config)) task.config task.program s Memory (refl, memory-due task)

-- WHAT A CALL MADE

plain-acts : {E : Type 0} (task : Task) (n : ℕ) (s new : State) (ms : List Row) (wanted : Option Event) (result : Result (Option Event) E)
    → Each (IsPlain task n) wanted → (wanted ≡ None → IsIdle task.config task.program task.operations s n)
    → Makes task.config task.program wanted s new ms result → IfOk result (Acts task n s new ms)
plain-acts task n s new ms wanted (Ok (Some event)) plain idle made =
    let own = each-of (IsPlain task n) wanted event made.0 plain in (own.0, own.1 (part_of task.config s n), made.1)
plain-acts task n s new ms wanted (Ok None) plain idle made = (idle made.0, made.1)
plain-acts task n s new ms wanted (Err e) plain idle made = tt

-- of a cache that has no operation to begin
pub delivery-acts : {E : Type 0} (task : Task) (k : Shape) (c : ℕ) (s new : State) (ms : List Row) (result : Result (Option Event) E)
    → task.config ≡ k → c < k.caches → ready_operation k task.program s task.operations c ≡ None
    → Makes k task.program (least_delivery_to k task.program s c) s new ms result → IfOk result (Acts task c s new ms)
delivery-acts {E = E} task k c s new ms result config below none made =
    let here : c < task.config.caches = subst (λ (shape : Shape). c < shape.caches) (sym config) below in
    plain-acts task c s new ms (least_delivery_to task.config task.program s c) result (delivery-plain task s c)
    (λ nothing. record {
      issue = λ l. subst (λ (shape : Shape). ready_operation shape task.program s task.operations c ≡ None) (sym config) none;
      delivery = λ l. nothing;
      engine = λ e. absurd (omega (arith, here, e));
      memory = λ e. absurd (omega (arith, here, e));
    })
    (subst (λ (shape : Shape). Makes {E = E} shape task.program (least_delivery_to shape task.program s c) s new ms result) (sym config)
    made)

-- of the engine
pub engine-acts : {E : Type 0} (task : Task) (k : Shape) (n : ℕ) (s new : State) (ms : List Row) (result : Result (Option Event) E)
    → task.config ≡ k → n ≡ k.caches
    → Makes k task.program (least_engine k task.program s) s new ms result → IfOk result (Acts task n s new ms)
engine-acts {E = E} task k n s new ms result config own made =
    let here : n ≡ engine_number task.config = own ∙ ap (λ (shape : Shape). shape.caches) (sym config) in
    plain-acts task n s new ms (least_engine task.config task.program s) result
    (subst (λ (i : ℕ). Each (IsPlain task i) (least_engine task.config task.program s)) (sym here) (engine-plain task s))
    (λ nothing. record {
      issue = λ l. absurd (omega (arith, here, l));
      delivery = λ l. absurd (omega (arith, here, l));
      engine = λ e. nothing;
      memory = λ e. absurd (omega (arith, here, e));
    })
    (subst (λ (shape : Shape). Makes {E = E} shape task.program (least_engine shape task.program s) s new ms result) (sym config) made)

-- of the memory
pub memory-acts : {E : Type 0} (task : Task) (k : Shape) (n : ℕ) (s new : State) (ms : List Row) (result : Result (Option Event) E)
    → task.config ≡ k → n ≡ k.caches + 1
    → Makes k task.program (if_enabled k task.program s Memory) s new ms result → IfOk result (Acts task n s new ms)
memory-acts {E = E} task k n s new ms result config own made =
    let here : n ≡ memory_number task.config = own ∙ ap (λ (shape : Shape). shape.caches + 1) (sym config) in
    plain-acts task n s new ms (if_enabled task.config task.program s Memory) result
    (subst (λ (i : ℕ). Each (IsPlain task i) (if_enabled task.config task.program s Memory)) (sym here) (memory-plain task s))
    (λ nothing. record {
      issue = λ l. absurd (omega (arith, here, l));
      delivery = λ l. absurd (omega (arith, here, l));
      engine = λ e. absurd (omega (arith, here, e));
      memory = λ e. nothing;
    })
    (subst (λ (shape : Shape). Makes {E = E} shape task.program (if_enabled shape task.program s Memory) s new ms result)
    (sym config) made)

-- OF A CACHE THAT BEGINS AN OPERATION

-- a cache with an operation, where the cache may begin it
abbrev if-ready : Shape → List Form → State → ℕ → Op → Option (ℕ × Op)
if-ready k program s c op = if is_enabled k program s (Issue c 0 op) then Some (c, op) else None

-- what is ready is the next operation, and it is enabled
ready-next : (k : Shape) (program : List Form) (s : State) (c d : ℕ) (op : Op) (next : Option Op)
    → option_and_then (if-ready k program s c) next ≡ Some (d, op)
    → (next ≡ Some op) × (c ≡ d) × IsTrue (is_enabled k program s (Issue c 0 op))
ready-next k program s c d op None e = absurd (cc (e))
ready-next k program s c d op (Some o) e = whether (is_enabled k program s (Issue c 0 o)) refl e
  where
    found : Bool → Option (ℕ × Op)
    found b = if b then Some (c, o) else None

    whether : (b : Bool) → is_enabled k program s (Issue c 0 o) ≡ b → found b ≡ Some (d, op)
        → (Some o ≡ Some op) × (c ≡ d) × IsTrue (is_enabled k program s (Issue c 0 op))
    whether false b h = absurd (cc (h))
    whether true b h =
        let both : (c, o) ≡ (d, op) = same_Some (c, o) (d, op) h in
        let same : o ≡ op = ap (λ (at : ℕ × Op). at.1) both in (
          ap Some same,
          ap (λ (at : ℕ × Op). at.0) both,
          subst (λ (x : Op). IsTrue (is_enabled k program s (Issue c 0 x))) same b,
        )

-- the policy was asked about the set of the operation
pub asked-here : (policy : List WayView → ℕ → Type 0) (k seen told : Shape) (s : State) (c d : ℕ) (op : Op) (cache : CacheState)
    (address group way : ℕ) → seen ≡ k → cache ≡ s.caches d → told ≡ k → address ≡ address_of op
    → group ≡ group_of told address
    → d ≡ c → policy (views seen cache group) way → policy (views k (s.caches c) (group_of k (address_of op))) way
asked-here policy k seen told s c d op cache address group way shape state trace at set own answer =
    let place : group ≡ group_of k (address_of op) =
    set ∙ ap (λ (config : Shape). group_of config address) trace ∙ ap (group_of k) at in
    subst (λ (i : ℕ). policy (views k (s.caches i) (group_of k (address_of op))) way) own
    (subst (λ (g : ℕ). policy (views k (s.caches d) g) way) place
    (subst (λ (x : CacheState). policy (views k x group) way) state
    (subst (λ (shape : Shape). policy (views shape cache group) way) shape answer)))

-- the part of a cache
cache-part : (k : Shape) (s : State) (c : ℕ) → c < k.caches → part_of k s c ≡ CachePart (s.caches c) (length
    (completed_by c s.history))
cache-part k s c l = rw (lt-ltb c k.caches l) refl

pub issue-acts : {E : Type 0} (task : Task) (k : Shape) (c d way : ℕ) (op : Op) (s new : State) (ms : List Row)
    (result : Result (Option Event) E) → task.config ≡ k → c < k.caches → way < k.ways → d ≡ c
    → ready_operation k task.program s task.operations c ≡ Some (d, op)
    → task.policy (views k (s.caches c) (group_of k (address_of op))) way
    → Makes k task.program (if_enabled k task.program s (Issue d way op)) s new ms result → IfOk result (Acts task c s new ms)
issue-acts {E = E} task k c d way op s new ms result config below within own ready asked made =
    at result
    (subst (λ (shape : Shape). Makes {E = E} shape task.program (if_enabled shape task.program s (Issue c way op)) s new ms result)
    (sym config)
    (subst (λ (i : ℕ). Makes {E = E} k task.program (if_enabled k task.program s (Issue i way op)) s new ms result) own made))
  where
    next : (next_operation s task.operations c ≡ Some op) × (c ≡ d) × IsTrue (is_enabled k task.program s (Issue c 0 op))
    next = ready-next k task.program s c d op (next_operation s task.operations c) ready

    enabled : IsTrue (is_enabled task.config task.program s (Issue c way op))
    enabled = subst (λ (shape : Shape). IsTrue (is_enabled shape task.program s (Issue c way op))) (sym config)
        (issue-any_way k task.program s c op 0 way within next.2)

    due : IsDue task.policy task.config task.operations (part_of task.config s c) (Issue c way op)
    due = subst (λ (part : Part). IsDue task.policy task.config task.operations part (Issue c way op))
        (sym (cache-part task.config s c (subst (λ (shape : Shape). c < shape.caches) (sym config) below)))
        (next.0, subst (λ (shape : Shape). task.policy (views shape (s.caches c) (group_of shape (address_of op))) way) (sym config) asked)

    none : (b : Bool) → IsTrue b → (if b then Some (Issue c way op) else None) ≡ None → ⊥
    none true is e = absurd (cc (e))
    none false is e = absurd (cc (is))

    at : (r : Result (Option Event) E)
        → Makes task.config task.program (if_enabled task.config task.program s (Issue c way op)) s new ms r
        → IfOk r (Acts task c s new ms)
    at (Ok (Some event)) made =
        subst (λ (event : Event). Acts task c s new ms (Some event))
        (if-some (is_enabled task.config task.program s (Issue c way op)) (Issue c way op) event made.0) (
          refl,
          due,
          subst (λ (event : Event). IsMade task.config task.program s new ms event)
              (sym (if-some (is_enabled task.config task.program s (Issue c way op)) (Issue c way op) event made.0)) made.1,
        )
    at (Ok None) made = absurd (none (is_enabled task.config task.program s (Issue c way op)) enabled made.0)
    at (Err e) made = tt
