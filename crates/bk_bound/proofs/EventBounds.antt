-- A tight list of lawful events of an accepted image has few events: what is counted begins at nothing, and what was had is part of it.
use Rattle.std.proofs.Common.{◌≡◌, ℕ, zero, suc, ◌+◌, ◌*◌, ◌-◌, ◌≤◌, Bool, true, false, refl, sym, ap, ◌∙◌, subst, arith, List, [], ◌∷◌, length, slice_get}
use Rattle.std.specs.Prelude.{if◌then◌else◌}
use Rattle.std.proofs.Math.Nat.{mul-le-mul_left}
use Rattle.bk_base.specs.Places.{Shape, InProfile}
use Rattle.bk_image.specs.Images.{Parts}
use Rattle.bk_check.specs.Accepted.{Accepted, IsMade, is_wait}
use Rattle.bk_system.specs.declared.event.Event.{Event}
use Rattle.bk_system.specs.declared.event.Event.TheVariants as events
use Rattle.bk_system.specs.Lawful.{AreLawful}
use Rattle.bk_system.specs.State.{State, opening}
use Rattle.bk_system.specs.Runs.{after, run, run_from, IsTight, IsTightFrom}
use Rattle.bk_exact.specs.Told.{Told, untold}
use Rattle.bk_exact.specs.Runs.{told_next}
use Rattle.bk_bound.specs.Bound.{engine_in, issue_in, engine_events, issues, budget, HasFewEvents}
use Rattle.bk_bound.specs.Runs.{told_from}
use Rattle.bk_bound.proofs.Sums.{sum_below, sum-none}
use Rattle.bk_bound.proofs.Counted.{heads_counted, heads_had, messages_counted}
use Rattle.bk_bound.proofs.EventCounts.{other_in, rounds_counted, Counted, event-counted}
use Rattle.bk_bound.proofs.Follows.{Follows, event-follows, opens-follows, reached}
use Rattle.bk_bound.proofs.HeadsHad.{had-counted}
use Rattle.bk_bound.proofs.Rounds.{round_left}

abbrev pub other_events : List Event → ℕ
other_events [] = 0
other_events (event ∷ es) = other_in event + other_events es

-- each event is of one of the three kinds
length-is : (es : List Event) → length es ≡ issues es + engine_events es + other_events es
length-is [] = refl
length-is (event ∷ es) =
    num (length es) (issues es) (engine_events es) (other_events es) (issue_in event) (engine_in event) (other_in event) (one event)
    (length-is es)
  where
    one : (event : Event) → issue_in event + engine_in event + other_in event ≡ 1
    one (events.Issue c way op) = refl
    one (events.Command c) = refl
    one (events.Fill to from) = refl
    one events.Memory = refl
    one (events.Engine choice) = refl

    num : (n i j o a b c : ℕ) → a + b + c ≡ 1 → n ≡ i + j + o → suc n ≡ (a + i) + (b + j) + (c + o)
    num n i j o a b c p q = omega (arith, p, q)

-- LISTS OF EVENTS

module _ (k : Shape) (image : Parts) (profile : InProfile k) (made : IsMade image) (accepted : Accepted image) where
  none-counted : (s : State) (told : Told) → Counted image k s s told told 0 0 0
  none-counted s told = record {
    rounds = num (rounds_counted image k s told) (length image.instrs * heads_had s told) ((k.caches + 7) * length image.instrs);
    messages = same (messages_counted k s told) (2 * k.caches + 13);
  }
    where
      num : (a b c : ℕ) → a + b + 0 ≤ a + b + c * 0
      num a b c = omega arith

      same : (a c : ℕ) → a + 0 ≤ a + c * 0
      same a c = omega arith

  both-counted : (s later last : State) (told next onward : Told) (g h i j o p : ℕ) → Counted image k s later told next g h i
      → Counted image k later last next onward j o p → Counted image k s last told onward (g + j) (h + o) (i + p)
  both-counted s later last told next onward g h i j o p first second = record {
    rounds = rounds (rounds_counted image k s told) (rounds_counted image k later next) (rounds_counted image k last onward)
        (length image.instrs * heads_had s told) (length image.instrs * heads_had later next) (length image.instrs * heads_had last onward)
        ((k.caches + 7) * length image.instrs * i) ((k.caches + 7) * length image.instrs * p)
        ((k.caches + 7) * length image.instrs * (i + p)) (times ((k.caches + 7) * length image.instrs)) first.rounds second.rounds;
    messages = messages (messages_counted k s told) (messages_counted k later next) (messages_counted k last onward)
        ((2 * k.caches + 13) * i) ((2 * k.caches + 13) * p) ((2 * k.caches + 13) * (i + p)) (times (2 * k.caches + 13)) first.messages
        second.messages;
  }
    where
      times : (n : ℕ) → n * (i + p) ≡ n * i + n * p
      times n = omega arith

      rounds : (a b c d l r u v w : ℕ) → w ≡ u + v → b + d + g ≤ a + l + u → c + l + j ≤ b + r + v
          → c + d + (g + j) ≤ a + r + w
      rounds a b c d l r u v w e q y = omega (arith, e, q, y)

      messages : (a b c u v w : ℕ) → w ≡ u + v → b + h ≤ a + u → c + o ≤ b + v → c + (h + o) ≤ a + w
      messages a b c u v w e q y = omega (arith, e, q, y)

  list-counted : (s : State) (told : Told) (es : List Event) → Follows image k s told → AreLawful es
      → IsTightFrom k image.instrs s es
      → Counted image k s (run_from k image.instrs s es) told (told_from k image.instrs s told es) (engine_events es) (other_events es)
      (issues es)
  list-counted s told [] follows lawful tight = none-counted s told
  list-counted s told (event ∷ es) follows lawful tight =
      let later = after k image.instrs s event in
      let next = told_next k image.instrs s told event in
      both-counted s later (run_from k image.instrs later es) told next (told_from k image.instrs later next es) (engine_in event)
      (other_in event) (issue_in event) (engine_events es) (other_events es) (issues es)
      (event-counted k image profile made accepted s told follows event lawful.0 tight.0)
      (list-counted later next es (event-follows k image profile made accepted s told follows event lawful.0) lawful.1 tight.1)

-- THE OPENING: nothing is counted but one round

opens-no-heads : (k : Shape) → heads_counted k (opening k) untold ≡ 0
opens-no-heads k = num (k.caches + 7) _ _ (sum-none k.caches) (sum-none k.sets)
  where
    none : (c : ℕ) → c * 0 ≡ 0
    none c = omega arith

    num : (c a b : ℕ) → a ≡ 0 → b ≡ 0 → c * a + 2 * b + 0 + 0 ≡ 0
    num c a b p q = sum (c * a) (ap (λ (i : ℕ). c * i) p ∙ none c) q
      where
        sum : (i : ℕ) → i ≡ 0 → b ≡ 0 → i + 2 * b + 0 + 0 ≡ 0
        sum i e q = omega (arith, e, q)

fills-none : (n i : ℕ) → sum_below n (λ to. sum_below i (λ from. 0)) ≡ 0
fills-none zero i = refl
fills-none (suc n) i = num (sum_below n (λ to. sum_below i (λ from. 0))) (sum_below i (λ from. 0)) (fills-none n i) (sum-none i)
  where
    num : (a b : ℕ) → a ≡ 0 → b ≡ 0 → a + b ≡ 0
    num a b p q = omega (arith, p, q)

opens-no-messages : (k : Shape) → messages_counted k (opening k) untold ≡ 0
opens-no-messages k = num (2 * k.caches + 13) _ _ (sum-none k.caches) (fills-none k.caches k.caches)
  where
    none : (c : ℕ) → c * 0 ≡ 0
    none c = omega arith

    num : (d a b : ℕ) → a ≡ 0 → b ≡ 0 → 2 * a + b + 0 + d * a + 2 * 0 + 0 ≡ 0
    num d a b p q = sum (d * a) (ap (λ (i : ℕ). d * i) p ∙ none d) p q
      where
        sum : (i : ℕ) → i ≡ 0 → a ≡ 0 → b ≡ 0 → 2 * a + b + 0 + i + 2 * 0 + 0 ≡ 0
        sum i e p q = omega (arith, e, p, q)

round-few : (image : Parts) (p : ℕ) → round_left image p ≤ length image.instrs
round-few image p = go (is_wait (slice_get image.instrs p)) (length image.instrs)
  where
    go : (b : Bool) (n : ℕ) → (if b then 0 else n - p) ≤ n
    go true n = omega arith
    go false n = omega arith

-- THE BOUND

-- the three counts together are within the budget, with 114 events to spare for each operation
within-budget : (c n i j o : ℕ) → j ≤ (c + 7) * n * i + n → o ≤ (2 * c + 13) * i
    → i + j + o + i * 114 ≤ i * (4 * c + 32) * (n + 4) + n
within-budget c n i j o p q =
    num ((c + 7) * n * i) ((2 * c + 13) * i) (i * (3 * c * n + 25 * n + 14 * c)) (i * (4 * c + 32) * (n + 4)) (i * 114) parts p q
  where
    parts : i * (4 * c + 32) * (n + 4) ≡ (c + 7) * n * i + (2 * c + 13) * i + i + i * (3 * c * n + 25 * n + 14 * c) + i * 114
    parts = omega arith

    num : (a b u v d : ℕ) → v ≡ a + b + i + u + d → j ≤ a + n → o ≤ b → i + j + o + d ≤ v + n
    num a b u v d e p q = omega (arith, e, p, q)

module _ (k : Shape) (image : Parts) (profile : InProfile k) (made : IsMade image) (accepted : Accepted image) (es : List Event)
    (lawful : AreLawful es) (tight : IsTight k image.instrs es) where
  abbrev last : State
  last = run k image.instrs es

  abbrev told : Told
  told = told_from k image.instrs (opening k) untold es

  counted : Counted image k (opening k) last untold told (engine_events es) (other_events es) (issues es)
  counted =
      list-counted k image profile made accepted (opening k) untold es (opens-follows k image profile made accepted) lawful tight

  engine-few : engine_events es ≤ (k.caches + 7) * length image.instrs * issues es + length image.instrs
  engine-few =
      num (length image.instrs) (heads_counted k (opening k) untold) (heads_counted k last told) (heads_had last told)
      (round_left image 0) (round_left image last.engine.core.place) (engine_events es)
      ((k.caches + 7) * length image.instrs * issues es) (opens-no-heads k) (round-few image 0)
      (had-counted k last told profile (reached k image profile made accepted es lawful).tied) counted.rounds
    where
      num : (n a b v l r j o : ℕ) → a ≡ 0 → l ≤ n → v ≤ b → n * b + r + n * 0 + j ≤ n * a + l + n * v + o → j ≤ o + n
      num n a b v l r j o p q few c = sum (n * a) (n * b) (n * v) (n * 0) (ap (λ (i : ℕ). n * i) p ∙ none) (mul-le-mul_left n few) c
        where
          none : n * 0 ≡ 0
          none = omega arith

          sum : (g h i u : ℕ) → g ≡ 0 → i ≤ h → h + r + u + j ≤ g + l + i + o → j ≤ o + n
          sum g h i u e f c = omega (arith, e, f, c, q)

  others-few : other_events es ≤ (2 * k.caches + 13) * issues es
  others-few =
      num (messages_counted k (opening k) untold) (messages_counted k last told) (other_events es) ((2 * k.caches + 13) * issues es)
      (opens-no-messages k) counted.messages
    where
      num : (a b o n : ℕ) → a ≡ 0 → b + o ≤ a + n → o ≤ n
      num a b o n e l = omega (arith, e, l)

  pub spare : length es + issues es * 114 ≤ budget k (length image.instrs) (issues es)
  spare =
      subst (λ (n : ℕ). n + issues es * 114 ≤ budget k (length image.instrs) (issues es)) (sym (length-is es))
      (within-budget k.caches (length image.instrs) (issues es) (engine_events es) (other_events es) engine-few others-few)

  pub has-few : HasFewEvents k image.instrs es
  has-few = record { engine = engine-few; all = num (length es) (issues es * 114) _ spare }
    where
      num : (a b c : ℕ) → a + b ≤ c → a ≤ c
      num a b c l = omega (arith, l)
