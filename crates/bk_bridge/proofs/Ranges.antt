-- Each event leaves a state in which what names a cache, a set or a way names one of the configuration.
use Rattle.std.proofs.Common.{◌≡◌, ℕ, ◌<◌, ◌≤◌, Bool, true, false, ◌&&◌, ◌==◌, refl, sym, subst, List, [], ◌∷◌, ◌++◌, length, Option, Some, None, IfSome, slice_get, option_to_list, append-nil, arith}
use Rattle.std.specs.Prelude.{All, nat_lt, nat_le}
use Rattle.std.proofs.lemmas.Bool.{cond_both, and_parts, leb-true}
use Rattle.std.proofs.lemmas.Bool.Decides.{nat_tests}
use Rattle.std.proofs.lemmas.List.Elements.{All-nil, All-head, All-tail, All-push, All-drop}
use Rattle.bk_base.specs.Places.{Shape, InProfile}
use Rattle.bk_base.specs.declared.op.Op.{Op}
use Rattle.bk_isa.specs.declared.form.Form.{Form}
use Rattle.bk_msg.specs.declared.row.Row.{Row}
use Rattle.bk_msg.specs.declared.row.Row.TheVariants as rows
use Rattle.bk_msg.specs.Networks.{network_of, receiver_of}
use Rattle.bk_msg.specs.Within.{IsWithin}
use Rattle.bk_lce.specs.declared.line.InProgress.{InProgress}
use Rattle.bk_lce.specs.CacheTable as table
use Rattle.bk_lce.specs.CacheTable.{Transition, if_idle, issue_row}
use Rattle.bk_lce.proofs.Proper.{Proper, issue_is, command_is, fill_is}
use Rattle.bk_engine.specs.declared.parts.Choice.{Choice}
use Rattle.bk_engine.specs.Engine.{EngineState}
use Rattle.bk_engine.specs.Heads.{IsSound}
use Rattle.bk_engine.specs.Changes.{core_but_place}
use Rattle.bk_engine.specs.Step.{IsOutward, Outcome, ran_at, runs_to}
use Rattle.bk_engine.specs.Sends.{sends}
use Rattle.bk_engine.proofs.Sound.{sound_new, sound_after}
use Rattle.bk_engine.proofs.Outward.{sends_outward}
use Rattle.bk_system.specs.declared.event.Event.{Event}
use Rattle.bk_system.specs.declared.event.Event.TheVariants as events
use Rattle.bk_system.specs.State.{State, opening}
use Rattle.bk_system.specs.Memory.{answer_to}
use Rattle.bk_system.specs.Events.{first, added_if, is_request, is_response, is_fill, is_command, is_memout, requests_with, responses_with, fills_with, commands_with, memout_with, heads_left, memin_left, with_taken, cache_row, access_row, offered_head, can_run, with_outcome, engine_row, issue_taken, command_of, command_taken, fill_of, fill_taken, without_command, without_fill}
use Rattle.bk_system.specs.Runs.{state_after_row, after, run_from}
use Rattle.bk_bridge.specs.Ranges.{IsInside, InRange}
use Rattle.bk_bridge.proofs.Formed.{cond-all, put-all}
use Rattle.bk_bridge.proofs.Fronts.{source-of}
use Rattle.bk_bridge.proofs.Inside.{directory-inside}
use Rattle.bk_bridge.proofs.Outside.{taken-outside, command-outside, fill-outside, outcome-outside}

some-ways : (k : Shape) → InProfile k → 0 < k.ways
some-ways k p = let least : 1 ≤ k.ways = leb-true 1 k.ways (and_parts (nat_le 1 k.ways) (nat_le k.ways 8) p.ways).0 in omega arith

-- CHANNELS

module _ (k : Shape) where
  abbrev AreWithin : List Row → Type 0
  AreWithin = All (IsWithin k)

  sent-within : (here : Bool) (c : ℕ) (m : Row) (channel : ℕ → List Row) → IsWithin k m
      → ((i : ℕ) → AreWithin (channel i)) → (i : ℕ)
      → AreWithin (added_if here c m channel i)
  sent-within true c m channel w h = put-all AreWithin channel c _ h (All-push (IsWithin k) (channel c) m (h c) w)
  sent-within false c m channel w h = h

  requests-within : (c : ℕ) (o : Option Row) (channel : ℕ → List Row) → ((m : Row) → o ≡ Some m → IsWithin k m)
      → ((i : ℕ) → AreWithin (channel i)) → (i : ℕ)
      → AreWithin (requests_with c o channel i)
  requests-within c None channel w h = h
  requests-within c (Some m) channel w h = sent-within (is_request (network_of m)) c m channel (w m refl) h

  responses-within : (c : ℕ) (o : Option Row) (channel : ℕ → List Row) → ((m : Row) → o ≡ Some m → IsWithin k m)
      → ((i : ℕ) → AreWithin (channel i)) → (i : ℕ)
      → AreWithin (responses_with c o channel i)
  responses-within c None channel w h = h
  responses-within c (Some m) channel w h = sent-within (is_response (network_of m)) c m channel (w m refl) h

  fills-within : (c : ℕ) (o : Option Row) (channel : ℕ → ℕ → List Row) → ((m : Row) → o ≡ Some m → IsWithin k m)
      → ((i j : ℕ) → AreWithin (channel i j)) → (i j : ℕ)
      → AreWithin (fills_with c o channel i j)
  fills-within c None channel w h = h
  fills-within c (Some m) channel w h =
      cond-all (λ (f : ℕ → ℕ → List Row). (i j : ℕ) → AreWithin (f i j)) (is_fill (network_of m)) _ channel
      (put-all (λ (row : ℕ → List Row). (j : ℕ) → AreWithin (row j)) channel (receiver_of m) _ h
      (put-all AreWithin (channel (receiver_of m)) c _ (h (receiver_of m))
      (All-push (IsWithin k) (channel (receiver_of m) c) m (h (receiver_of m) c) (w m refl)))) h

  commands-within : (ms : List Row) (channel : ℕ → List Row) → All (IsOutward k) ms
      → ((i : ℕ) → AreWithin (channel i)) → (i : ℕ)
      → AreWithin (commands_with ms channel i)
  commands-within [] channel o h = h
  commands-within (m ∷ ms) channel o h = commands-within ms _ (All-tail (IsOutward k) m ms o)
      (sent-within (is_command (network_of m)) (receiver_of m) m channel (All-head (IsOutward k) m ms o).within h)

  memout-within : (ms channel : List Row) → All (IsOutward k) ms → AreWithin channel → AreWithin (memout_with ms channel)
  memout-within [] channel o h = h
  memout-within (m ∷ ms) channel o h = memout-within ms _ (All-tail (IsOutward k) m ms o)
      (cond-all AreWithin (is_memout (network_of m)) _ channel (All-push (IsWithin k) channel m h (All-head (IsOutward k) m ms o).within) h)

  heads-within : (class : ℕ) (popped : Option Choice) (channel : ℕ → List Row) → ((i : ℕ) → AreWithin (channel i)) → (i : ℕ)
      → AreWithin (heads_left class popped channel i)
  heads-within class None channel h = h
  heads-within class (Some choice) channel h =
      cond-all (λ (f : ℕ → List Row). (i : ℕ) → AreWithin (f i)) (choice.class == class) _ channel
      (put-all AreWithin channel choice.source _ h (All-drop (IsWithin k) 1 (channel choice.source) (h choice.source))) h

  memin-within : (popped : Option Choice) (memin : List Row) → AreWithin memin → AreWithin (memin_left popped memin)
  memin-within None memin h = h
  memin-within (Some choice) memin h = cond-all AreWithin (choice.class == 2) _ memin (All-drop (IsWithin k) 1 memin h) h

  first-within : (ms : List Row) (m : Row) → AreWithin ms → first ms ≡ Some m → IsWithin k m
  first-within [] m h e = absurd (cc)
  first-within (x ∷ ms) m h e = let same : x ≡ m = cc in subst (IsWithin k) same (All-head (IsWithin k) x ms h)

  -- CACHES

  -- what a cache of the configuration sends is in range
  record TakenInRange (c : ℕ) (t : Transition) : Type 0 where
    cache : c < k.caches
    sent : (m : Row) → t.sent ≡ Some m → IsWithin k m

  taken-range : (s : State) (c : ℕ) (t : Transition) → InRange k s → TakenInRange c t → InRange k (with_taken s c t).state
  taken-range s c t r w = record {
    request = requests-within c t.sent s.request w.sent r.request;
    command = r.command;
    response = responses-within c t.sent s.response w.sent r.response;
    fill = fills-within c t.sent s.fill w.sent r.fill;
    memout = r.memout;
    memin = r.memin;
    outside = taken-outside k s c t w.cache w.sent r.outside;
    engine = r.engine;
    directory = r.directory;
  }

  abbrev SendsWithin : ℕ → Option Transition → Type 0
  SendsWithin c o = IfSome o (TakenInRange c)

  row-range : (s later : State) (c : ℕ) (o : Option Transition) → InRange k s → InRange k later → SendsWithin c o
      → InRange k (state_after_row s (cache_row later c o))
  row-range s later c None r q w = r
  row-range s later c (Some t) r q w = taken-range later c t q w

  -- where the cache is one of the configuration
  below : (a b : ℕ) → nat_lt a b ≡ true → a < b
  below a b e = grind (arith, nat_tests)

  idle-within : (c : ℕ) (b : Option InProgress) (t : Transition) → TakenInRange c t → SendsWithin c (if_idle b t)
  idle-within c None t w = w
  idle-within c (Some busy) t w = tt

  issue-within : (s : State) (c : ℕ) (op : Op) (way : ℕ) → SendsWithin c (issue_taken k s c op way)
  issue-within s c op way =
      cond_both (nat_lt c k.caches && nat_lt way k.ways) (table.issue k (s.caches c) c op way) None (SendsWithin c)
      (λ e. let both = and_parts (nat_lt c k.caches) (nat_lt way k.ways) e in
      let here : c < k.caches = below c k.caches both.0 in
      idle-within c (s.caches c).busy (issue_row k (s.caches c) c op way)
      (record { cache = here; sent = (issue_is k (s.caches c) c here op way (below way k.ways both.1)).within }))
      (λ e. tt)

  proper-within : (c : ℕ) (o : Option Transition) → c < k.caches → ((t : Transition) → o ≡ Some t → Proper k c t)
      → SendsWithin c o
  proper-within c None l h = tt
  proper-within c (Some t) l h = record { cache = l; sent = (h t refl).within }

  command_of-within : (s : State) (c : ℕ) (ms : List Row) → c < k.caches → AreWithin ms
      → SendsWithin c (command_of k s c (first ms))
  command_of-within s c [] l h = tt
  command_of-within s c (m ∷ ms) l h =
      proper-within c (table.command k (s.caches c) c m) l (command_is k (s.caches c) c l m (All-head (IsWithin k) m ms h))

  command-within : (s : State) (c : ℕ) → InRange k s → SendsWithin c (command_taken k s c)
  command-within s c r =
      cond_both (nat_lt c k.caches) (command_of k s c (first (s.command c))) None (SendsWithin c)
      (λ e. command_of-within s c (s.command c) (below c k.caches e) (r.command c)) (λ e. tt)

  fill_of-within : (s : State) (to : ℕ) (ms : List Row) → to < k.caches → SendsWithin to (fill_of k s to (first ms))
  fill_of-within s to [] l = tt
  fill_of-within s to (m ∷ ms) l = proper-within to (table.fill k (s.caches to) to m) l (fill_is k (s.caches to) to l m)

  fill-within : (s : State) (to from : ℕ) → SendsWithin to (fill_taken k s to from)
  fill-within s to from =
      cond_both (nat_lt to k.caches && nat_lt from k.caches) (fill_of k s to (first (s.fill to from))) None (SendsWithin to)
      (λ e. fill_of-within s to (s.fill to from)
      (below to k.caches (and_parts (nat_lt to k.caches) (nat_lt from k.caches) e).0)) (λ e. tt)

  command-left : (s : State) (c : ℕ) → InRange k s → InRange k (without_command s c)
  command-left s c r = record {
    request = r.request;
    command = put-all AreWithin s.command c _ r.command (All-drop (IsWithin k) 1 (s.command c) (r.command c));
    response = r.response;
    fill = r.fill;
    memout = r.memout;
    memin = r.memin;
    outside = command-outside k s c r.outside;
    engine = r.engine;
    directory = r.directory;
  }

  fill-left : (s : State) (to from : ℕ) → InRange k s → InRange k (without_fill s to from)
  fill-left s to from r = record {
    request = r.request;
    command = r.command;
    response = r.response;
    fill = put-all (λ (row : ℕ → List Row). (j : ℕ) → AreWithin (row j)) s.fill to _ r.fill
        (put-all AreWithin (s.fill to) from _ (r.fill to) (All-drop (IsWithin k) 1 (s.fill to from) (r.fill to from)));
    memout = r.memout;
    memin = r.memin;
    outside = fill-outside k s to from r.outside;
    engine = r.engine;
    directory = r.directory;
  }

  -- MEMORY

  -- a Block names no cache
  answered-within : (memory : ℕ → ℕ) (m : Row) (memin : List Row) → AreWithin memin
      → AreWithin (memin ++ option_to_list (answer_to memory m))
  answered-within memory m memin h = go (answer_to memory m) (answer-within m)
    where
      answer-within : (m : Row) → IfSome (answer_to memory m) (IsWithin k)
      answer-within (rows.Read _ _ addr) = tt
      answer-within m = tt

      go : (o : Option Row) → IfSome o (IsWithin k) → AreWithin (memin ++ option_to_list o)
      go None w = subst AreWithin (sym (append-nil memin)) h
      go (Some r) w = All-push (IsWithin k) memin r h w

  -- Of all channels only the engine's gets a message: the memory's answer, which names what it was asked for.
  memory-range : (s : State) (o : Option Row) → InRange k s → InRange k (state_after_row s (access_row s o))
  memory-range s None r = r
  memory-range s (Some m) r = record {
    request = r.request;
    command = r.command;
    response = r.response;
    fill = r.fill;
    memout = All-drop (IsWithin k) 1 s.memout r.memout;
    memin = answered-within s.memory m s.memin r.memin;
    outside = record {
      request = r.outside.request;
      command = r.outside.command;
      response = r.outside.response;
      fill_to = r.outside.fill_to;
      fill_from = r.outside.fill_from;
    };
    engine = r.engine;
    directory = r.directory;
  }

  -- THE ENGINE

  record OutcomeInRange (o : Outcome) : Type 0 where
    engine : IsSound k o.engine.core
    directory : IsInside k o.engine.directory
    sent : All (IsOutward k) o.sent

  ran-range : (engine : EngineState) (o : Option Form) (choice : Choice) (message : Option Row) → InProfile k → choice.source < k.caches
      → ((m : Row) → message ≡ Some m → IsWithin k m) → IsSound k engine.core → IsInside k engine.directory
      → OutcomeInRange (ran_at k engine o choice message)
  ran-range engine None choice message later l w s d = record { engine = s; directory = d; sent = All-nil (IsOutward k) }
  ran-range engine (Some f) choice message later l w s d = record {
    engine = sound_after k engine.core (core_but_place engine.core (length (sends k engine f)) f choice message) (length (sends k engine f))
        f choice message _ (some-ways k later) l w s refl;
    directory = directory-inside k engine f later (some-ways k later) s d;
    sent = sends_outward k engine f s;
  }

  outcome-range : (s : State) (o : Outcome) → InRange k s → OutcomeInRange o → InRange k (with_outcome k s o).state
  outcome-range s o r h = record {
    request = heads-within 3 o.popped s.request r.request;
    command = commands-within o.sent s.command h.sent r.command;
    response = heads-within 1 o.popped s.response r.response;
    fill = r.fill;
    memout = memout-within o.sent s.memout h.sent r.memout;
    memin = memin-within o.popped s.memin r.memin;
    outside = outcome-outside k s o h.sent r.outside;
    engine = h.engine;
    directory = h.directory;
  }

  offered-within : (s : State) (choice : Choice) → InRange k s → IfSome (offered_head s choice) (IsWithin k)
  offered-within s choice r =
      cond-all Whole (choice.class == 1) _ _ (head (s.response choice.source) (r.response choice.source))
      (cond-all Whole (choice.class == 2) _ _ (cond-all Whole (choice.source == 0) _ None (head s.memin r.memin) tt)
      (cond-all Whole (choice.class == 3) _ None (head (s.request choice.source) (r.request choice.source)) tt))
    where
      Whole : Option Row → Type 0
      Whole o = IfSome o (IsWithin k)

      head : (ms : List Row) → AreWithin ms → Whole (first ms)
      head [] h = tt
      head (m ∷ ms) h = All-head (IsWithin k) m ms h

  named : (o : Option Row) → IfSome o (IsWithin k) → (m : Row) → o ≡ Some m → IsWithin k m
  named None h m e = absurd (cc)
  named (Some x) h m e = let same : x ≡ m = cc in subst (IsWithin k) same h

  engine-range : (program : List Form) (s : State) (choice : Choice) → InProfile k → InRange k s
      → InRange k (state_after_row s (engine_row k program s choice))
  engine-range program s choice later r =
      let outcome : Outcome = runs_to k s.engine program choice (offered_head s choice) in
      cond_both (can_run k program s choice) (Some (with_outcome k s outcome)) None (λ o. InRange k (state_after_row s o))
      (λ e. outcome-range s outcome r
      (ran-range s.engine (slice_get program s.engine.core.place) choice (offered_head s choice) later
      (source-of choice.source k.caches _ _ e)
      (named (offered_head s choice) (offered-within s choice r)) r.engine r.directory))
      (λ e. r)

-- EVENTS AND RUNS

pub event-range : (k : Shape) (program : List Form) (s : State) (event : Event) → InProfile k → InRange k s
    → InRange k (after k program s event)
event-range k program s (events.Issue c way op) p r = row-range k s s c (issue_taken k s c op way) r r (issue-within k s c op way)
event-range k program s (events.Command c) p r =
    row-range k s (without_command s c) c (command_taken k s c) r (command-left k s c r) (command-within k s c r)
event-range k program s (events.Fill to from) p r =
    row-range k s (without_fill s to from) to (fill_taken k s to from) r (fill-left k s to from r) (fill-within k s to from)
event-range k program s events.Memory p r = memory-range k s (first s.memout) r
event-range k program s (events.Engine choice) p r = engine-range k program s choice p r

run-range : (k : Shape) (program : List Form) (s : State) (es : List Event) → InProfile k → InRange k s
    → InRange k (run_from k program s es)
run-range k program s [] p r = r
run-range k program s (e ∷ es) p r = run-range k program (after k program s e) es p (event-range k program s e p r)

opening-range : (k : Shape) → InRange k (opening k)
opening-range k = record {
  request = λ c. All-nil (IsWithin k);
  command = λ c. All-nil (IsWithin k);
  response = λ c. All-nil (IsWithin k);
  fill = λ to from. All-nil (IsWithin k);
  memout = All-nil (IsWithin k);
  memin = All-nil (IsWithin k);
  outside = record {
    request = λ c l. refl;
    command = λ c l. refl;
    response = λ c l. refl;
    fill_to = λ to from l. refl;
    fill_from = λ to from l. refl;
  };
  engine = sound_new k;
  directory = λ c s w e. absurd (cc);
}

pub runs-range : (k : Shape) (program : List Form) (es : List Event) → InProfile k → InRange k (run_from k program (opening k) es)
runs-range k program es p = run-range k program (opening k) es p (opening-range k)
