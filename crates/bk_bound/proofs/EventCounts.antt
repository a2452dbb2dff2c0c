-- What each event of a run of an accepted image does to what is counted: an event of the engine takes one of it, and so does each other
-- event but an Issue, which adds what one operation has.
use Rattle.std.proofs.Common.{◌≡◌, ℕ, ◌+◌, ◌*◌, ◌<◌, ◌≤◌, Bool, true, false, refl, sym, ap, ◌∙◌, subst, arith, length, Option, Some, None, slice_get}
use Rattle.std.specs.Prelude.{if◌then◌else◌, IsTrue, is_some}
use Rattle.std.proofs.Math.Nat.{mul-le-mul_left}
use Rattle.bk_base.specs.Places.{Shape, InProfile}
use Rattle.bk_isa.specs.declared.form.Form.{Form}
use Rattle.bk_image.specs.Images.{Parts}
use Rattle.bk_know.specs.declared.sets.Sets.{Sets}
use Rattle.bk_flow.specs.Flow.{fall, jump}
use Rattle.bk_check.specs.Accepted.{Accepted, IsMade, is_wait}
use Rattle.bk_order.specs.Fits.{Leads}
use Rattle.bk_order.proofs.Fitting.{jumps-lead}
use Rattle.bk_order.proofs.Places.{owed-there}
use Rattle.bk_engine.specs.Engine.{EngineState}
use Rattle.bk_engine.specs.declared.parts.Choice.{Choice}
use Rattle.bk_engine.specs.Changes.{next_place}
use Rattle.bk_engine.specs.Reads.{is_branch_taken, target}
use Rattle.bk_engine.specs.Step.{runs_to}
use Rattle.bk_system.specs.declared.event.Event.{Event}
use Rattle.bk_system.specs.declared.event.Event.TheVariants as events
use Rattle.bk_system.specs.Lawful.{IsLawful}
use Rattle.bk_system.specs.State.{State}
use Rattle.bk_system.specs.Events.{Happening, can_run, offered_head, with_outcome, issue_taken, command_taken, fill_taken, without_command, without_fill, first}
use Rattle.bk_system.specs.Runs.{after, is_enabled}
use Rattle.bk_machine.specs.Products.{op_of}
use Rattle.bk_machine.specs.Runs as machine
use Rattle.bk_machine.specs.World.{World}
use Rattle.bk_bridge.proofs.Steps.{event_step}
use Rattle.bk_exact.specs.Told.{Told}
use Rattle.bk_exact.specs.Exact.{exact}
use Rattle.bk_exact.specs.After.{told_after}
use Rattle.bk_exact.specs.Runs.{told_by, told_next}
use Rattle.bk_exact.specs.Ties.{told_world}
use Rattle.bk_exact.proofs.Somes.{exact-some}
use Rattle.bk_exact.proofs.Steps.{no-form}
use Rattle.bk_flows.specs.Flows.{edge_of}
use Rattle.bk_bound.specs.Bound.{engine_in, issue_in}
use Rattle.bk_bound.proofs.Counted.{number_in, heads_counted, heads_had, messages_counted}
use Rattle.bk_bound.proofs.Due.{heads_due, messages_due}
use Rattle.bk_bound.proofs.Follows.{Follows, has-target, is-met, leads, place-is, event-follows, taken-same, accessed-same}
use Rattle.bk_bound.proofs.Inside.{told-inside}
use Rattle.bk_bound.proofs.InstructionCounts.{Counts}
use Rattle.bk_bound.proofs.PopCounts.{instruction-counts}
use Rattle.bk_bound.proofs.Rounds.{round_left, begun, falls-round, jumps-round}
use Rattle.bk_bound.proofs.WorldCounts.{heads_of, messages_of}
use Rattle.bk_bound.proofs.WorldSteps.{TakesMessage, Begins}
use Rattle.bk_bound.proofs.WorldEvents.{issue-begins, command-takes, fill-takes, memory-takes}

-- an event of a cache or the memory that isn't an Issue, as a number
abbrev pub other_in : Event → ℕ
other_in (events.Issue c way op) = 0
other_in (events.Command c) = 1
other_in (events.Fill to from) = 1
other_in events.Memory = 1
other_in (events.Engine choice) = 0

-- the engine's events that are counted: a round for each head, and the rest of this one
abbrev pub rounds_counted : Parts → Shape → State → Told → ℕ
rounds_counted image k s told = length image.instrs * heads_counted k s told + round_left image s.engine.core.place

-- from a state to a later one, with so many events of the engine, others and Issues
pub record Counted (image : Parts) (k : Shape) (s later : State) (told next : Told) (engine other issue : ℕ) : Type 0 where
  pub rounds : rounds_counted image k later next + length image.instrs * heads_had s told + engine
      ≤ rounds_counted image k s told + length image.instrs * heads_had later next + (k.caches + 7) * length image.instrs * issue
  pub messages : messages_counted k later next + other ≤ messages_counted k s told + (2 * k.caches + 13) * issue

-- NUMBERS

spread : (n a b : ℕ) → n * (a + b) ≡ n * a + n * b
spread n a b = omega arith

-- an instruction: heads after and before, i and j, those that were had, u and v, and the places' rounds, l and r
instruction-numbers : (n i j u v l r : ℕ) (waits : Bool) (p : ℕ) → i + u + (if waits then 1 else 0) ≤ j + v
    → l + 1 ≤ r + (if waits then n else 0) → n * i + l + n * u + 1 ≤ n * j + r + n * v + p * 0
instruction-numbers n i j u v l r true p heads round =
    num (n * i) (n * u) (n * j) (n * v) (n * (i + u + 1)) (n * (j + v)) (p * 0) (mul-le-mul_left n heads) (parts i u) (spread n j v)
  where
    parts : (a b : ℕ) → n * (a + b + 1) ≡ n * a + n * b + n
    parts a b = omega arith

    num : (a b c d h o q : ℕ) → h ≤ o → h ≡ a + b + n → o ≡ c + d → a + l + b + 1 ≤ c + r + d + q
    num a b c d h o q e f g = omega (arith, e, f, g, round)
instruction-numbers n i j u v l r false p heads round =
    num (n * i) (n * u) (n * j) (n * v) (n * (i + u + 0)) (n * (j + v)) (p * 0) (mul-le-mul_left n heads) (parts i u) (spread n j v)
  where
    parts : (a b : ℕ) → n * (a + b + 0) ≡ n * a + n * b
    parts a b = omega arith

    num : (a b c d h o q : ℕ) → h ≤ o → h ≡ a + b → o ≡ c + d → a + l + b + 1 ≤ c + r + d + q
    num a b c d h o q e f g = omega (arith, e, f, g, round)

-- an event of a cache or the memory: with p heads for each of o operations
outside-numbers : (n i j u v l r p o : ℕ) → i ≤ j + p * o → u ≡ v → l ≡ r
    → n * i + l + n * u + 0 ≤ n * j + r + n * v + p * n * o
outside-numbers n i j u v l r p o heads e f =
    num (n * i) (n * u) (n * j) (n * v) (n * (j + p * o)) (p * n * o) (mul-le-mul_left n heads) (ap (λ (q : ℕ). n * q) e) right
  where
    right : n * (j + p * o) ≡ n * j + p * n * o
    right = omega arith

    num : (a b c d h q : ℕ) → a ≤ h → b ≡ d → h ≡ c + q → a + l + b + 0 ≤ c + r + d + q
    num a b c d h q e i g = omega (arith, e, i, g, f)

to-true : (b : Bool) → IsTrue b → b ≡ true
to-true true e = refl
to-true false e = absurd (cc)

enabled-runs : (happening : Happening) (b : Bool) → IsTrue (is_some (if b then Some happening else None)) → b ≡ true
enabled-runs happening true e = refl
enabled-runs happening false e = absurd (cc)

module _ (k : Shape) (image : Parts) (profile : InProfile k) (made : IsMade image) (accepted : Accepted image) (s : State) (told : Told)
    (follows : Follows image k s told) where
  abbrev place : ℕ
  place = s.engine.core.place

  abbrev world : World
  world = told_world k s told

  -- THE ENGINE
  module _ (choice : Choice) (f : Form) (here : slice_get image.instrs place ≡ Some f) (can : can_run k image.instrs s choice ≡ true)
    where
      abbrev later : State
      later = after k image.instrs s (events.Engine choice)

      abbrev next : Told
      next = told_after k s.engine.core world f told

      abbrev e : Sets
      e = exact k s.engine told

      edge : Leads (edge_of k s.engine f e) (exact k later.engine next)
      edge = leads k image profile made accepted s told follows choice f here can

      counts : Counts k s later told next (is_wait (Some f))
      counts =
          instruction-counts k image.instrs s told choice f profile follows.tied (made.forms place f here) here can
          (is-met k image profile made accepted s told follows f here) edge

      round : Follows image k later next → round_left image later.engine.core.place + 1 ≤ round_left image place + begun image (Some f)
      round onward = go (is_branch_taken k s.engine f) refl edge
        where
          there : later.engine.core.place ≡ next_place k s.engine f
          there = place-is k image profile made accepted s told follows choice f here can

          at : (p : ℕ) → later.engine.core.place ≡ p
              → round_left image p + 1 ≤ round_left image place + begun image (slice_get image.instrs place)
              → round_left image later.engine.core.place + 1 ≤ round_left image place + begun image (Some f)
          at p i l =
              subst (λ (o : Option Form). round_left image later.engine.core.place + 1 ≤ round_left image place + begun image o) here
              (subst (λ (q : ℕ). round_left image q + 1 ≤ round_left image place + begun image (slice_get image.instrs place))
              (sym i) l)

          within : (p : ℕ) → later.engine.core.place ≡ p → p < length image.instrs
          within p i = subst (λ (q : ℕ). q < length image.instrs) i onward.stands.within

          go : (b : Bool) → is_branch_taken k s.engine f ≡ b → Leads (if b then jump f e else fall f e) (exact k later.engine next)
              → round_left image later.engine.core.place + 1 ≤ round_left image place + begun image (Some f)
          go true i l =
              let to = there ∙ ap (λ (b : Bool). if b then target f else place + 1) i in
              let o = owed-there image accepted place e f follows.stands here in
              let j = jumps-lead f e follows.stands.sets (exact k later.engine next) follows.stands.fits
              (exact-some k s told follows.tied) (exact-some k later next onward.tied) o.here l in
              at (target f) to (jumps-round image place (target f) f follows.stands.sets j.next follows.stands.within
              (within (target f) to) o.third (has-target k s.engine f i) j.is)
          go false i l =
              let to = there ∙ ap (λ (b : Bool). if b then target f else place + 1) i in
              at (place + 1) to (falls-round image place (within (place + 1) to))

      form-counted : Follows image k later next → Counted image k s later told next 1 0 0
      form-counted onward = record {
        rounds = instruction-numbers (length image.instrs) (heads_counted k later next) (heads_counted k s told) (heads_had s told)
            (heads_had later next) (round_left image later.engine.core.place) (round_left image place) (is_wait (Some f))
            ((k.caches + 7) * length image.instrs) counts.heads (round onward);
        messages = num (messages_counted k later next) (messages_counted k s told) (2 * k.caches + 13) counts.messages;
      }
        where
          num : (a b c : ℕ) → a ≤ b → a + 0 ≤ b + c * 0
          num a b c l = omega (arith, l)

  abbrev ran : Choice → State
  ran choice = after k image.instrs s (events.Engine choice)

  place-counted : (choice : Choice) (o : Option Form) → slice_get image.instrs place ≡ o → can_run k image.instrs s choice ≡ true
      → Follows image k (ran choice) (told_by k s told o) → Counted image k s (ran choice) told (told_by k s told o) 1 0 0
  place-counted choice None here can onward = absurd (no-form k image.instrs s told choice profile follows.tied can here)
  place-counted choice (Some f) here can onward = form-counted choice f here can onward

  engine-counted : (choice : Choice) → can_run k image.instrs s choice ≡ true
      → Follows image k (ran choice) (told_next k image.instrs s told (events.Engine choice))
      → Counted image k s (ran choice) told (told_next k image.instrs s told (events.Engine choice)) 1 0 0
  engine-counted choice can onward =
      subst (λ (t : Told). Counted image k s (ran choice) told t 1 0 0) (sym is)
      (place-counted choice (slice_get image.instrs place) refl can (subst (λ (t : Told). Follows image k (ran choice) t) is onward))
    where
      is : told_next k image.instrs s told (events.Engine choice) ≡ told_by k s told (slice_get image.instrs place)
      is = ap (λ (b : Bool). if b then told_by k s told (slice_get image.instrs place) else told) can

  -- CACHES AND MEMORY leave the engine, and so the mask, the place and what was had
  outside : (later : State) (other issue : ℕ) → later.engine ≡ s.engine
      → heads_of k (told_world k later told) ≤ heads_of k world + (k.caches + 7) * issue
      → messages_of k (told_world k later told) + other ≤ messages_of k world + (2 * k.caches + 13) * issue
      → Counted image k s later told told 0 other issue
  outside later other issue e heads messages = record {
    rounds = outside-numbers (length image.instrs) (heads_counted k later told) (heads_counted k s told) (heads_had s told)
        (heads_had later told) (round_left image later.engine.core.place) (round_left image place) (k.caches + 7) issue
        (both (heads_of k (told_world k later told)) (heads_of k world) _ _ ((k.caches + 7) * issue) heads
        (ap (λ (q : EngineState). heads_due (exact k q told)) e))
        (sym (ap (λ (q : EngineState). number_in q.core.head + number_in told.deferred) e))
        (ap (λ (q : EngineState). round_left image q.core.place) e);
    messages = more (messages_of k (told_world k later told)) (messages_of k world) _ _ ((2 * k.caches + 13) * issue) messages
        (ap (λ (q : EngineState). messages_due (exact k q told)) e);
  }
    where
      both : (a b c d n : ℕ) → a ≤ b + n → c ≡ d → a + c ≤ b + d + n
      both a b c d n l e = omega (arith, l, e)

      more : (a b c d n : ℕ) → a + other ≤ b + n → c ≡ d → a + c + other ≤ b + d + n
      more a b c d n l e = omega (arith, l, e)

  begun-counted : (later : State) (v : World) → later.engine ≡ s.engine → told_world k later told ≡ v → Begins k world v
      → Counted image k s later told told 0 0 1
  begun-counted later v e is begins =
      outside later 0 1 e
      (subst (λ (q : World). heads_of k q ≤ heads_of k world + (k.caches + 7) * 1) (sym is)
      (heads (heads_of k v) (heads_of k world) (k.caches + 7) begins.heads))
      (subst (λ (q : World). messages_of k q + 0 ≤ messages_of k world + (2 * k.caches + 13) * 1) (sym is)
      (messages (messages_of k v) (messages_of k world) (2 * k.caches + 13) begins.messages))
    where
      heads : (a b c : ℕ) → a ≤ b + c → a ≤ b + c * 1
      heads a b c l = omega (arith, l)

      messages : (a b c : ℕ) → a ≤ b + c → a + 0 ≤ b + c * 1
      messages a b c l = omega (arith, l)

  taken-counted : (later : State) (v : World) → later.engine ≡ s.engine → told_world k later told ≡ v → TakesMessage k world v
      → Counted image k s later told told 0 1 0
  taken-counted later v e is takes =
      outside later 1 0 e
      (subst (λ (q : World). heads_of k q ≤ heads_of k world + (k.caches + 7) * 0) (sym is)
      (heads (heads_of k v) (heads_of k world) (k.caches + 7) takes.heads))
      (subst (λ (q : World). messages_of k q + 1 ≤ messages_of k world + (2 * k.caches + 13) * 0) (sym is)
      (messages (messages_of k v) (messages_of k world) (2 * k.caches + 13) takes.messages))
    where
      heads : (a b c : ℕ) → a ≤ b → a ≤ b + c * 0
      heads a b c l = omega (arith, l)

      messages : (a b c : ℕ) → a + 1 ≤ b → a + 1 ≤ b + c * 0
      messages a b c l = omega (arith, l)

  -- EACH EVENT that is enabled
  pub event-counted : (event : Event) → IsLawful event → IsTrue (is_enabled k image.instrs s event)
      → Counted image k s (after k image.instrs s event) told (told_next k image.instrs s told event) (engine_in event) (other_in event)
      (issue_in event)
  event-counted (events.Issue c way op) l t =
      let step = event_step k image.instrs s told.transaction (events.Issue c way op) (machine.Issue c (op_of k op).0 (op_of k op).1 way)
      follows.tied.formed l refl in
      begun-counted (after k image.instrs s (events.Issue c way op)) _ (taken-same s s c (issue_taken k s c op way) refl) step.left
      (issue-begins k world follows.tied.invariant.ranges (told-inside k s told profile follows.tied) c (op_of k op).0 (op_of k op).1 way)
  event-counted (events.Command c) l t =
      let step = event_step k image.instrs s told.transaction (events.Command c) (machine.Command c) follows.tied.formed l refl in
      taken-counted (after k image.instrs s (events.Command c)) _
      (taken-same s (without_command s c) c (command_taken k s c) refl) step.left
      (command-takes k world follows.tied.invariant.ranges (told-inside k s told profile follows.tied) c
      (sym step.enabled ∙ to-true _ t))
  event-counted (events.Fill to from) l t =
      let step = event_step k image.instrs s told.transaction (events.Fill to from) (machine.Fill to from) follows.tied.formed l refl in
      taken-counted (after k image.instrs s (events.Fill to from)) _
      (taken-same s (without_fill s to from) to (fill_taken k s to from) refl) step.left
      (fill-takes k world follows.tied.invariant.ranges (told-inside k s told profile follows.tied) to from
      (sym step.enabled ∙ to-true _ t))
  event-counted events.Memory l t =
      let step = event_step k image.instrs s told.transaction events.Memory machine.Memory follows.tied.formed l refl in
      taken-counted (after k image.instrs s events.Memory) _ (accessed-same s (first s.memout)) step.left
      (memory-takes k world follows.tied.invariant.ranges (told-inside k s told profile follows.tied) (sym step.enabled ∙ to-true _ t))
  event-counted (events.Engine choice) l t =
      engine-counted choice
      (enabled-runs (with_outcome k s (runs_to k s.engine image.instrs choice (offered_head s choice))) (can_run k image.instrs s choice)
      t)
      (event-follows k image profile made accepted s told follows (events.Engine choice) l)
