-- A run of an accepted image that has come to its end has done all of its trace: where nothing is enabled the system rests, and an idle
-- cache with an operation left would be given it.
use Rattle.std.proofs.Common.{◌≡◌, ℕ, ◌+◌, ◌<◌, ◌≤◌, List, Bool, true, false, Option, Some, None, refl, ap, sym, ◌∙◌, subst, inl, inr, length, length-append, slice_get, arith}
use Rattle.std.specs.Prelude.{◌&&◌, ◌==◌, if◌then◌else◌, is_none, is_some, nat_lt, not, option_and_then, option_map}
use Rattle.std.specs.List.{All}
use Rattle.std.proofs.lemmas.Bool.{and_left, and_right, and_parts, cases_eq, cases_lt, lt-ltb, le-ltb, ne_eqb}
use Rattle.std.proofs.lemmas.Option.{slice_get_cases}
use Rattle.bk_base.specs.Counting.{first_below, or_else, all_below}
use Rattle.bk_base.specs.Places.{Shape, InProfile}
use Rattle.bk_base.specs.declared.op.Op.{Op}
use Rattle.bk_base.proofs.Below.{first_below-none}
use Rattle.bk_isa.specs.declared.form.Form.{Form}
use Rattle.bk_isa.specs.declared.form.Form.TheVariants.{Wfq}
use Rattle.bk_trace.specs.Traces.{operations_of, IsLine}
use Rattle.bk_lce.specs.declared.line.InProgress.{InProgress}
use Rattle.bk_lce.specs.CacheTable.{Transition, issue_row, if_idle}
use Rattle.bk_engine.specs.declared.parts.Choice.{Choice}
use Rattle.bk_engine.specs.declared.parts.Head.{Head}
use Rattle.bk_engine.specs.Step.{runs_to}
use Rattle.bk_engine.specs.Stops.{wait_stop, stop_at}
use Rattle.bk_engine.specs.declared.parts.TheConstants.{CLASS_NONE, CLASS_RESPONSE, CLASS_MEMORY, CLASS_REQUEST}
use Rattle.bk_system.specs.declared.event.Event.{Event}
use Rattle.bk_system.specs.declared.event.Event.TheVariants.{Issue, Command, Fill, Memory, Engine}
use Rattle.bk_system.specs.State.{State}
use Rattle.bk_system.specs.Events.{cache_row, issue_taken, command_of, fill_of, without_command, without_fill, first, offered_head, is_choice, can_run, with_outcome}
use Rattle.bk_system.specs.Runs.{is_enabled, is_quiet, is_rested, names_requests, run, completed_by, IsPrefix, IsTight, IsInOrder, IsComplete}
use Rattle.bk_msg.specs.declared.row.Row.{Row}
use Rattle.bk_coherent.specs.Traffic.{IsStuck}
use Rattle.bk_coherent.proofs.Resting.{all-below}
use Rattle.bk_sound.specs.Sound.{IsSound}
use Rattle.bk_run.specs.Greedy.{if_enabled, next_operation, ready_operation, issue_with, choice_of, engine_event, fill_event, least_other, IsEnd}
use Rattle.bk_run.proofs.InOrder.{tight-completed, prefix-whole}
use Rattle.bk_run.proofs.Lawful.{in_order-lawful}
use Rattle.bk_run.proofs.Tight.{taken-some, some-ways}
use Rattle.bk_run.specs.Jobs.{Job}
use Rattle.bk_run.specs.Serial.{IsEnded}

-- NOTHING IS ENABLED

if-none : (b : Bool) (event : Event) → (if b then Some event else None) ≡ None → b ≡ false
if-none true event h = absurd (cc)
if-none false event h = refl

disabled : (k : Shape) (program : List Form) (s : State) (event : Event) → if_enabled k program s event ≡ None
    → is_enabled k program s event ≡ false
disabled k program s event h = if-none (is_enabled k program s event) event h

-- of two answers that are none together, each is
or_else-first : {X : Type 0} (x y : Option X) → or_else x y ≡ None → x ≡ None
or_else-first None y h = refl
or_else-first (Some x) y h = absurd (cc)

or_else-later : {X : Type 0} (x y : Option X) → or_else x y ≡ None → y ≡ None
or_else-later None y h = h
or_else-later (Some x) y h = absurd (cc)

map-none : {X Y : Type 0} (f : X → Y) (o : Option X) → option_map f o ≡ None → o ≡ None
map-none f None h = refl
map-none f (Some x) h = absurd (cc)

-- a choice that offers no head, and names a channel, lets no instruction run
unheard : (k : Shape) (s : State) (choice : Choice) (o : Option Form) → (choice.class == CLASS_NONE && choice.source == 0) ≡ false
    → (is_choice o choice && is_none (stop_at k s.engine o choice None)) ≡ false
unheard k s choice None names = and_left (choice.class == CLASS_NONE && choice.source == 0) _ names
unheard k s choice (Some (Wfq classes)) names = waits s.engine.core.head
  where
    waits : (head : Option Head) → is_none (wait_stop head classes choice None) ≡ false
    waits None = refl
    waits (Some head) = refl
unheard k s choice (Some f) names = and_left (choice.class == CLASS_NONE && choice.source == 0) _ names

unheard-disabled : (k : Shape) (program : List Form) (s : State) (choice : Choice) → offered_head s choice ≡ None
    → (choice.class == CLASS_NONE && choice.source == 0) ≡ false → is_enabled k program s (Engine choice) ≡ false
unheard-disabled k program s choice none names =
    let o = slice_get program s.engine.core.place in
    let runs_not : (is_choice o choice && is_none (stop_at k s.engine o choice (offered_head s choice))) ≡ false =
    ap (λ (m : Option Row). is_choice o choice && is_none (stop_at k s.engine o choice m)) none ∙ unheard k s choice o names in
    let cannot : can_run k program s choice ≡ false =
    no-third (nat_lt choice.source k.caches) (is_choice o choice)
    (is_none (stop_at k s.engine o choice (offered_head s choice))) runs_not in
    ap (λ (b : Bool). is_some (if b then
    Some (with_outcome k s (runs_to k s.engine program choice (offered_head s choice))) else None)) cannot
  where
    no-third : (a b c : Bool) → (b && c) ≡ false → (a && b && c) ≡ false
    no-third true b c h = h
    no-third false b c h = refl

-- a cache that isn't there has no channel
outside : (k : Shape) (program : List Form) (s : State) (class source : ℕ) → k.caches ≤ source
    → is_enabled k program s (Engine (choice_of class source)) ≡ false
outside k program s class source l =
    let choice = choice_of class source in
    let o = slice_get program s.engine.core.place in
    let cannot : can_run k program s choice ≡ false =
    and_left (nat_lt source k.caches && is_choice o choice) _
    (and_left (nat_lt source k.caches) (is_choice o choice) (le-ltb source k.caches l)) in
    ap (λ (b : Bool). is_some (if b then
    Some (with_outcome k s (runs_to k s.engine program choice (offered_head s choice))) else None)) cannot

heads-stuck : (k : Shape) (program : List Form) (s : State) (class source : ℕ)
    → first_below k.caches (engine_event k program s class) ≡ None
    → is_enabled k program s (Engine (choice_of class source)) ≡ false
heads-stuck k program s class source none = elim (cases_lt source k.caches) [
  | inl l ↦ disabled k program s (Engine (choice_of class source))
      (first_below-none k.caches (engine_event k program s class) none source l)
  | inr l ↦ outside k program s class source l
]

-- no event but an Issue, one kind after the other
record NoOther (k : Shape) (program : List Form) (s : State) : Type 0 where
  alone : engine_event k program s CLASS_NONE 0 ≡ None
  responses : first_below k.caches (engine_event k program s CLASS_RESPONSE) ≡ None
  answer : engine_event k program s CLASS_MEMORY 0 ≡ None
  requests : first_below k.caches (engine_event k program s CLASS_REQUEST) ≡ None
  commands : first_below k.caches (λ c. if_enabled k program s (Command c)) ≡ None
  fills : first_below k.caches (λ to. first_below k.caches (fill_event k program s to)) ≡ None
  access : if_enabled k program s Memory ≡ None

no-other : (k : Shape) (program : List Form) (s : State) → least_other k program s ≡ None → NoOther k program s
no-other k program s h =
    let e0 = engine_event k program s CLASS_NONE 0 in
    let d1 = first_below k.caches (engine_event k program s CLASS_RESPONSE) in
    let e2 = engine_event k program s CLASS_MEMORY 0 in
    let d3 = first_below k.caches (engine_event k program s CLASS_REQUEST) in
    let d4 = first_below k.caches (λ c. if_enabled k program s (Command c)) in
    let d5 = first_below k.caches (λ to. first_below k.caches (fill_event k program s to)) in
    let e6 = if_enabled k program s Memory in
    let h1 = or_else-later e0 (or_else d1 (or_else e2 (or_else d3 (or_else d4 (or_else d5 e6))))) h in
    let h2 = or_else-later d1 (or_else e2 (or_else d3 (or_else d4 (or_else d5 e6)))) h1 in
    let h3 = or_else-later e2 (or_else d3 (or_else d4 (or_else d5 e6))) h2 in
    let h4 = or_else-later d3 (or_else d4 (or_else d5 e6)) h3 in
    let h5 = or_else-later d4 (or_else d5 e6) h4 in
    record {
      alone = or_else-first e0 (or_else d1 (or_else e2 (or_else d3 (or_else d4 (or_else d5 e6))))) h;
      responses = or_else-first d1 (or_else e2 (or_else d3 (or_else d4 (or_else d5 e6)))) h1;
      answer = or_else-first e2 (or_else d3 (or_else d4 (or_else d5 e6))) h2;
      requests = or_else-first d3 (or_else d4 (or_else d5 e6)) h3;
      commands = or_else-first d4 (or_else d5 e6) h4;
      fills = or_else-first d5 e6 h5;
      access = or_else-later d5 e6 h5;
    }

-- each choice names no channel, or a channel without a head, or none that there is
engine-stuck : (k : Shape) (program : List Form) (s : State) → NoOther k program s → (class source : ℕ)
    → is_enabled k program s (Engine (choice_of class source)) ≡ false
engine-stuck k program s h class source = elim (cases_eq class CLASS_RESPONSE) [
  | inl e ↦ at class e (heads-stuck k program s CLASS_RESPONSE source h.responses)
  | inr no_response ↦ elim (cases_eq class CLASS_MEMORY) [
    | inl e ↦ at class e (memory-stuck source)
    | inr no_memory ↦ elim (cases_eq class CLASS_REQUEST) [
      | inl e ↦ at class e (heads-stuck k program s CLASS_REQUEST source h.requests)
      | inr no_request ↦ unnamed-stuck no_response no_memory no_request
    ]
  ]
]
  where
    at : (class : ℕ) {named : ℕ} → class ≡ named → is_enabled k program s (Engine (choice_of named source)) ≡ false
        → is_enabled k program s (Engine (choice_of class source)) ≡ false
    at class e stuck = subst (λ (n : ℕ). is_enabled k program s (Engine (choice_of n source)) ≡ false) (sym e) stuck

    memory-stuck : (source : ℕ) → is_enabled k program s (Engine (choice_of CLASS_MEMORY source)) ≡ false
    memory-stuck source = elim (cases_eq source 0) [
      | inl e ↦ subst (λ (n : ℕ). is_enabled k program s (Engine (choice_of CLASS_MEMORY n)) ≡ false) (sym e)
          (disabled k program s (Engine (choice_of CLASS_MEMORY 0)) h.answer)
      | inr other ↦ unheard-disabled k program s (choice_of CLASS_MEMORY source)
          (ap (λ (b : Bool). if b then first s.memin else None) (ne_eqb source 0 other)) refl
    ]

    alone-stuck : (source : ℕ) → is_enabled k program s (Engine (choice_of CLASS_NONE source)) ≡ false
    alone-stuck source = elim (cases_eq source 0) [
      | inl e ↦ subst (λ (n : ℕ). is_enabled k program s (Engine (choice_of CLASS_NONE n)) ≡ false) (sym e)
          (disabled k program s (Engine (choice_of CLASS_NONE 0)) h.alone)
      | inr other ↦ unheard-disabled k program s (choice_of CLASS_NONE source) refl (ne_eqb source 0 other)
    ]

    unnamed-stuck : (class ≡ CLASS_RESPONSE → ⊥) → (class ≡ CLASS_MEMORY → ⊥) → (class ≡ CLASS_REQUEST → ⊥)
        → is_enabled k program s (Engine (choice_of class source)) ≡ false
    unnamed-stuck no_response no_memory no_request = elim (cases_eq class CLASS_NONE) [
      | inl e ↦ at class e (alone-stuck source)
      | inr other ↦ unheard-disabled k program s (choice_of class source)
          (rw (ne_eqb class CLASS_RESPONSE no_response, ne_eqb class CLASS_MEMORY no_memory, ne_eqb class CLASS_REQUEST no_request) refl)
          (and_left (class == CLASS_NONE) (source == 0) (ne_eqb class CLASS_NONE other))
    ]

command-stuck : (k : Shape) (program : List Form) (s : State) → NoOther k program s → (c : ℕ)
    → is_enabled k program s (Command c) ≡ false
command-stuck k program s h c = elim (cases_lt c k.caches) [
  | inl l ↦ disabled k program s (Command c) (first_below-none k.caches (λ c. if_enabled k program s (Command c)) h.commands c l)
  | inr l ↦ ap (λ (b : Bool). is_some (cache_row (without_command s c) c (if b then command_of k s c (first (s.command c)) else None)))
      (le-ltb c k.caches l)
]

fill-stuck : (k : Shape) (program : List Form) (s : State) → NoOther k program s → (to from : ℕ)
    → is_enabled k program s (Fill to from) ≡ false
fill-stuck k program s h to from = elim (cases_lt to k.caches) [
  | inl l ↦ elim (cases_lt from k.caches) [
    | inl m ↦ disabled k program s (Fill to from) (first_below-none k.caches (fill_event k program s to)
        (first_below-none k.caches (λ to. first_below k.caches (fill_event k program s to)) h.fills to l) from m)
    | inr m ↦ beyond (and_right (nat_lt to k.caches) (nat_lt from k.caches) (le-ltb from k.caches m))
  ]
  | inr l ↦ beyond (and_left (nat_lt to k.caches) (nat_lt from k.caches) (le-ltb to k.caches l))
]
  where
    beyond : (nat_lt to k.caches && nat_lt from k.caches) ≡ false → is_enabled k program s (Fill to from) ≡ false
    beyond e =
        ap (λ (b : Bool). is_some (cache_row (without_fill s to from) to (if b then fill_of k s to (first (s.fill to from)) else None))) e

stuck : (k : Shape) (program : List Form) (s : State) → least_other k program s ≡ None → IsStuck k program s
stuck k program s h =
    let none = no-other k program s h in
    record {
      command = command-stuck k program s none;
      fill = fill-stuck k program s none;
      memory = disabled k program s Memory none.access;
      engine = λ choice. engine-stuck k program s none choice.class choice.source;
    }

-- NO OPERATION IS LEFT

no-next : (k : Shape) (program : List Form) (s : State) (lines : List (ℕ × Op)) (c : ℕ) → 0 < k.ways → c < k.caches
    → is_none (s.caches c).busy ≡ true → ready_operation k program s lines c ≡ None → next_operation s lines c ≡ None
no-next k program s lines c ways l idle ready = left (next_operation s lines c) ready
  where
    given : (busy : Option InProgress) (t : Transition) → is_none busy ≡ true → is_some (if_idle busy t) ≡ true
    given None t e = refl
    given (Some busy) t e = absurd (cc)

    enabled : (op : Op) → is_enabled k program s (Issue c 0 op) ≡ true
    enabled op =
        taken-some s c (issue_taken k s c op 0)
        ∙ rw (lt-ltb c k.caches l, lt-ltb 0 k.ways ways) (given (s.caches c).busy (issue_row k (s.caches c) c op 0) idle)

    some : (b : Bool) (at : ℕ × Op) → b ≡ true → (if b then Some at else None) ≡ None → ⊥
    some true at e h = cc
    some false at e h = cc

    left : (o : Option Op)
        → option_and_then {U = ℕ × Op} (λ op. if is_enabled k program s (Issue c 0 op) then Some (c, op) else None) o ≡ None
        → o ≡ None
    left None h = refl
    left (Some op) h = absurd (some (is_enabled k program s (Issue c 0 op)) (c, op) (enabled op) h)

past-end : (xs : List Op) (i : ℕ) → slice_get xs i ≡ None → length xs ≤ i
past-end xs i e = elim (slice_get_cases xs i).1 [
  | inl found ↦ absurd (cc (found.2, e))
  | inr past ↦ past.0
]

prefix-length : (xs ys : List Op) → IsPrefix xs ys → length xs ≤ length ys
prefix-length xs ys p =
    let count : length xs + length p.0 ≡ length ys = sym (length-append xs p.0) ∙ ap length p.1 in
    omega (arith, count)

-- THE END

-- a list of a sound image over a trace, each event enabled where it stands and each cache's operations issued in order
module _ (k : Shape) (program : List Form) (lines : List (ℕ × Op)) (events : List Event) (sound : IsSound program)
    (profile : InProfile k)
    (each : All (IsLine k.caches) lines) (tight : IsTight k program events) (in_order : IsInOrder k lines events)
    (end : IsEnd k program (run k program events) lines)
  where
    -- where nothing is enabled after it, it does all of the trace
    pub whole-complete : IsComplete k program lines events
    whole-complete =
        let s = run k program events in
        let ready = first_below k.caches (ready_operation k program s lines) in
        let none_ready = map-none (issue_with 0) ready (or_else-first (option_map (issue_with 0) ready) (least_other k program s) end) in
        let none_other = or_else-later (option_map (issue_with 0) ready) (least_other k program s) end in
        let lawful = in_order-lawful k program lines events each tight in_order in
        let rested : is_rested k program s ≡ true = (sound k events profile lawful).stuck_rests (stuck k program s none_other) in
        let idle = (and_parts (is_quiet k program s && names_requests (slice_get program s.engine.core.place)
        && all_below k.sets (λ g. not (s.engine.directory.pending g))) (all_below k.caches (λ c. is_none (s.caches c).busy)) rested).1 in
        let whole : (c : ℕ) → c < k.caches → completed_by c s.history ≡ operations_of c lines =
        λ c l.
        let prefix = tight-completed k program lines events tight in_order c l in
        let none = no-next k program s lines c (some-ways k profile) l (all-below k.caches (λ c. is_none (s.caches c).busy) idle c l)
        (first_below-none k.caches (ready_operation k program s lines) none_ready c l) in
        let most = past-end (operations_of c lines) (length (completed_by c s.history)) none in
        let least = prefix-length (completed_by c s.history) (operations_of c lines) prefix in
        prefix-whole (completed_by c s.history) (operations_of c lines) prefix (omega (arith, most, least)) in
        record { in_order = in_order; whole = whole; rested = rested }

-- so a run of the greedy schedule that comes to its end is complete
pub ended-complete : (job : Job) (events : List Event) (complete : Bool) → IsSound job.program → InProfile job.config
    → All (IsLine job.config.caches) job.operations → IsEnded job events complete → complete ≡ true
ended-complete job events complete sound profile lines ended =
    ended.made.told.1
    (whole-complete job.config job.program job.operations events sound profile lines ended.made.tight ended.made.in_order ended.ended)
