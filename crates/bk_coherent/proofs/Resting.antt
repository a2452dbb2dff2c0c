-- A quiet system rests.
use Rattle.std.proofs.Common.{◌≡◌, ℕ, ◌<◌, ◌≤◌, zero, suc, Bool, true, false, ◌==◌, ◌&&◌, ◌||◌, not, ltb, refl, ap, ◌∙◌, arith, inl, inr, ◌⊎◌, List, [], ◌∷◌, length, Option, Some, None, slice_get}
use Rattle.std.specs.Prelude.{is_none, nat_lt, if◌then◌else◌}
use Rattle.std.specs.List.{filter_map}
use Rattle.std.proofs.lemmas.Bool.{and_parts}
use Rattle.std.proofs.lemmas.Bool.Decides.{nat_tests}
use Rattle.bk_base.specs.Counting.{all_below, is_nil}
use Rattle.bk_base.specs.Places.{Shape}
use Rattle.bk_base.proofs.Below.{all_below-fails}
use Rattle.bk_isa.specs.declared.form.Form.{Form}
use Rattle.bk_isa.specs.declared.form.Form.TheVariants.{Wfq}
use Rattle.bk_lce.specs.declared.line.InProgress.{InProgress}
use Rattle.bk_check.specs.Obligations.{implies, awaits}
use Rattle.bk_engine.specs.declared.parts.Core.{Core}
use Rattle.bk_engine.specs.declared.parts.Held.{Held}
use Rattle.bk_engine.specs.Reads.{number_of}
use Rattle.bk_flow.specs.Flow.{may, lacks}
use Rattle.bk_isa.specs.declared.operand.TheConstants.{CLASS_RESPONSES, CLASS_MEMORY, CLASS_RESPONSES_REQUESTS}
use Rattle.bk_know.specs.declared.values.TheConstants.{STAGE_BLOCKED, STAGE_HELD, STAGE_CLOSING, ACKS_SOME, WB_ASKED, MEM_ASKED, MEM_WRITTEN}
use Rattle.bk_know.specs.Sets.{only}
use Rattle.bk_msg.specs.declared.row.Row.{Row}
use Rattle.bk_system.specs.State.{State}
use Rattle.bk_system.specs.Events.{is_wait}
use Rattle.bk_system.specs.Runs.{is_quiet, names_requests}
use Rattle.bk_machine.specs.Claims.{Quiet}
use Rattle.bk_machine.specs.Products.{as_request, as_command, as_fill, as_response, as_to_memory, as_block}
use Rattle.bk_machine.specs.Transactions.{Transaction, WriteBack, FlushAsked, Reading, is_asked}
use Rattle.bk_machine.specs.World.{World}
use Rattle.bk_machine.proofs.Resting.{quiet_rests}
use Rattle.bk_bridge.specs.Ranges.{NoneOutside}
use Rattle.bk_bridge.specs.Worlds.{world_of, begun_of}
use Rattle.bk_exact.specs.Told.{Told, Deferred}
use Rattle.bk_exact.specs.Exact.{exact, write_back_value, reading_value}
use Rattle.bk_exact.specs.Agrees.{AgreesWith, ServesTold, ServesHeld}
use Rattle.bk_exact.specs.Ties.{Tied, told_world}
use Rattle.bk_exact.specs.Runs.{IsMet}
use Rattle.bk_order.proofs.Meets.{Met, met}
use Rattle.bk_coherent.specs.Traffic.{QuietRests}
use Rattle.bk_coherent.proofs.Waits.{ack-comes, answer-comes, block-comes}

-- TESTS BELOW A COUNT

pub all-below : (n : ℕ) (test : ℕ → Bool) → all_below n test ≡ true → (i : ℕ) → i < n → test i ≡ true
all-below n test e i l = go (test i) refl
  where
    go : (b : Bool) → test i ≡ b → b ≡ true
    go true f = refl
    go false f = absurd (lem (all_below-fails n i test l f))
      where
        lem : all_below n test ≡ false → ⊥
        lem g = cc

pub each-below : (n : ℕ) (test : ℕ → Bool) → ((i : ℕ) → i < n → test i ≡ true) → all_below n test ≡ true
each-below zero test h = refl
each-below (suc n) test h = lem (all_below n test) (test n) (each-below n test (λ i l. h i (omega arith))) (h n (omega arith))
  where
    lem : (a b : Bool) → a ≡ true → b ≡ true → (a && b) ≡ true
    lem a b e f = cc

pub all-true : (a b : Bool) → a ≡ true → b ≡ true → (a && b) ≡ true
all-true a b e f = cc

pub nil : {X : Type 0} (xs : List X) → is_nil xs ≡ true → xs ≡ []
nil [] e = refl
nil (x ∷ xs) e = absurd (cc)

pub below-or-not : (c n : ℕ) → (c < n) ⊎ (n ≤ c)
below-or-not c n = go (ltb c n) refl
  where
    go : (b : Bool) → ltb c n ≡ b → (c < n) ⊎ (n ≤ c)
    go true e = inl (grind (arith, nat_tests))
    go false e = inr (grind (arith, nat_tests))

-- empty below a count and empty from there on
empty : (n : ℕ) (channel : ℕ → List Row) → all_below n (λ c. is_nil (channel c)) ≡ true
    → ((c : ℕ) → n ≤ c → channel c ≡ []) → (c : ℕ)
    → channel c ≡ []
empty n channel e o c =
    elim (below-or-not c n) [ inl l ↦ nil (channel c) (all-below n (λ c. is_nil (channel c)) e c l) | inr l ↦ o c l ]

-- THE ENGINE AT ITS WAIT

-- what a `wfq` of these classes waits for in Held
pub data AwaitedOf (a : ℕ) (x : Transaction) : Type 0 where
  AckOf : may a CLASS_RESPONSES ≡ true → (c : ℕ) (cs : List ℕ) → x.waiting ≡ c ∷ cs → AwaitedOf a x
  AnswerOf : may a CLASS_RESPONSES ≡ true → x.write_back ≡ FlushAsked → AwaitedOf a x
  BlockOf : may a CLASS_MEMORY ≡ true → is_asked x.reading ≡ true → AwaitedOf a x

acks-some : (n : ℕ) (cs : List ℕ) → n ≡ length cs → (only (number_of (nat_lt 0 n)) == ACKS_SOME) ≡ true
    → (c : ℕ) × (rest : List ℕ) × (cs ≡ c ∷ rest)
acks-some n [] e f = absurd (lem n e f)
  where
    lem : (n : ℕ) → n ≡ 0 → (only (number_of (nat_lt 0 n)) == ACKS_SOME) ≡ true → ⊥
    lem n e f = grind (arith, nat_tests)
acks-some n (c ∷ rest) e f = (c, rest, refl)

wb-asked : (b : WriteBack) → (write_back_value b == WB_ASKED) ≡ true → b ≡ FlushAsked
wb-asked b e = grind arith

mem-asked : (b : Bool) (r : Reading) → ((if b then MEM_WRITTEN else reading_value r) == MEM_ASKED) ≡ true → is_asked r ≡ true
mem-asked b r e = grind arith

either : (a b : Bool) → (a || b) ≡ true → (a ≡ true) ⊎ (b ≡ true)
either true b e = inl refl
either false b e = inr e

pub serves : (k : Shape) (core : Core) (o : Option Held) (y : ℕ × Transaction) → ServesTold k core o (Some y)
    → (h : Held) × ServesHeld k core h y.0 y.1
serves k core None y s = absurd s
serves k core (Some h) y s = (h, s)

-- an ungranted transaction, where the obligations of a `wfq` hold, waits for something
abbrev is_acks : Core → Bool
is_acks core = only (number_of (nat_lt 0 core.acks)) == ACKS_SOME

abbrev is_wb : Transaction → Bool
is_wb x = write_back_value x.write_back == WB_ASKED

abbrev is_mem : Transaction → Bool
is_mem x = (if x.written then MEM_WRITTEN else reading_value x.reading) == MEM_ASKED

pub awaited : (k : Shape) (s : State) (y : ℕ × Transaction) (d : Option Deferred) (a : ℕ)
    → AgreesWith k s.engine.core (record { transaction = Some y; deferred = d })
    → awaits a (exact k s.engine (record { transaction = Some y; deferred = d })) ≡ true → AwaitedOf a y.1
awaited k s y d a agrees e =
    elim (either (may a CLASS_RESPONSES && (is_acks s.engine.core || is_wb y.1)) (may a CLASS_MEMORY && is_mem y.1) e) [
      | inl f ↦ let p = and_parts (may a CLASS_RESPONSES) (is_acks s.engine.core || is_wb y.1) f
          in elim (either (is_acks s.engine.core) (is_wb y.1) p.1) [
            | inl g ↦ let c = acks-some s.engine.core.acks y.1.waiting (serves k s.engine.core s.engine.core.held y agrees).1.acks g
                in AckOf p.0 c.0 c.1 c.2
            | inr g ↦ AnswerOf p.0 (wb-asked y.1.write_back g)
          ]
      | inr f ↦ let p = and_parts (may a CLASS_MEMORY) (is_mem y.1) f in BlockOf p.0 (mem-asked y.1.written y.1.reading p.1)
    ]

-- the parts of the obligations that stage decides
pub in-held : (b : Bool) (p q : Bool) → b ≡ false
    → (implies ((if b then STAGE_CLOSING else STAGE_HELD) == STAGE_BLOCKED) p
    && implies ((if b then STAGE_CLOSING else STAGE_HELD) == STAGE_HELD) q) ≡ true → q ≡ true
in-held true p q e f = absurd (cc)
in-held false p q e f = f

pub not-closing : (b : Bool) → lacks (if b then STAGE_CLOSING else STAGE_HELD) STAGE_CLOSING ≡ true → b ≡ false
not-closing b e = grind arith

pub names-requests : (a : ℕ) → (a == CLASS_RESPONSES_REQUESTS) ≡ true → names_requests (Some (Wfq a)) ≡ true
names-requests a e = ap (λ (c : ℕ). names_requests (Some (Wfq c))) (same a e)
  where
    same : (a : ℕ) → (a == CLASS_RESPONSES_REQUESTS) ≡ true → a ≡ CLASS_RESPONSES_REQUESTS
    same a e = grind (arith, nat_tests)

-- CHANNELS

pub record Silent (s : State) : Type 0 where
  pub request : (c : ℕ) → s.request c ≡ []
  pub command : (c : ℕ) → s.command c ≡ []
  pub response : (c : ℕ) → s.response c ≡ []
  pub fill : (to from : ℕ) → s.fill to from ≡ []
  pub memout : s.memout ≡ []
  pub memin : s.memin ≡ []

-- `is_quiet` is a conjunction: the channels of the configuration's caches and of the memory are empty, and a `wfq` stands at the place.
-- The channels of all other caches are empty by `NoneOutside`.
silent : (k : Shape) (program : List Form) (s : State) → NoneOutside k s → is_quiet k program s ≡ true
    → Silent s × (is_wait (slice_get program s.engine.core.place) ≡ true)
silent k program s outside e =
    let p6 = and_parts _ _ e in
    let p5 = and_parts _ _ p6.0 in
    let p4 = and_parts _ _ p5.0 in
    let p3 = and_parts _ _ p4.0 in
    let p2 = and_parts _ _ p3.0 in
    let p1 = and_parts _ _ p2.0 in (
      record {
        request = empty k.caches s.request p1.0 outside.request;
        command = empty k.caches s.command p1.1 outside.command;
        response = empty k.caches s.response p2.1 outside.response;
        fill = λ to from. fills to from p3.1;
        memout = nil s.memout p4.1;
        memin = nil s.memin p5.1;
      },
      p6.1,
    )
  where
    fills : (to from : ℕ) → all_below k.caches (λ to. all_below k.caches (λ from. is_nil (s.fill to from))) ≡ true
        → s.fill to from ≡ []
    fills to from f = elim (below-or-not to k.caches) [
      | inl l ↦ empty k.caches (s.fill to) (all-below k.caches (λ to. all_below k.caches (λ from. is_nil (s.fill to from))) f to l)
          (λ i m. outside.fill_from to i m) from
      | inr l ↦ outside.fill_to to from l
    ]

pub nothing : {X : Type 0} (xs : List X) → xs ≡ [] → is_nil xs ≡ false → ⊥
nothing [] e f = cc
nothing (x ∷ xs) e f = cc

pub unequal : {X : Type 0} (xs : List X) (x : X) (rest : List X) → xs ≡ [] → xs ≡ x ∷ rest → ⊥
unequal xs x rest e f = cc

module _ (k : Shape) (later : State) (s : Silent later) where
  abbrev seen : ℕ × Transaction → World
  seen y = world_of k later (Some y)

  -- an ungranted transaction has nothing to wait for
  no-wait : (a : ℕ) (y : ℕ × Transaction) (d : Option Deferred) → Tied k later (record { transaction = Some y; deferred = d })
      → y.1.granted ≡ false → AwaitedOf a y.1 → ⊥
  no-wait a y d tied u x = go x
    where
      commands : (c : ℕ) → (seen y).command c ≡ []
      commands c = ap (filter_map (as_command k)) (s.command c)

      responses : (c : ℕ) → (seen y).response c ≡ []
      responses c = ap (filter_map (as_response k)) (s.response c)

      go : AwaitedOf a y.1 → ⊥
      go (AckOf p c cs e) = nothing ((seen y).response c) (responses c) (ack-comes k (seen y) y.0 y.1 tied.invariant refl u commands c cs e)
      go (AnswerOf p e) = let c = answer-comes k (seen y) y.0 y.1 tied.invariant refl u commands e
          in nothing ((seen y).response c.0) (responses c.0) c.1
      go (BlockOf p e) =
          nothing (seen y).memin (ap (filter_map (as_block k)) s.memin)
          (block-comes k (seen y) y.0 y.1 tied.invariant refl u commands e (ap (filter_map (as_to_memory k)) s.memout))

  -- at a `wfq` no request is served, and it names requests
  at-wait : (a : ℕ) (t : Option (ℕ × Transaction)) (d : Option Deferred) → Tied k later (record { transaction = t; deferred = d })
      → Met (Wfq a) (exact k later.engine (record { transaction = t; deferred = d })) → (t ≡ None)
      × (names_requests (Some (Wfq a)) ≡ true)
  at-wait a None None tied m = (refl, names-requests a (and_parts _ _ m.o5).1)
  at-wait a None (Some d) tied m =
      absurd (unequal ((world_of k later None).request d.cache) (
        d.group,
        tied.left.request,
      ) tied.left.rest (ap (filter_map (as_request k)) (s.request d.cache)) tied.left.first)
  at-wait a (Some y) d tied m =
      let u = not-closing y.1.granted m.o23 in
      absurd (no-wait a y d tied u (awaited k later y d a tied.agrees (and_parts _ _ (in-held y.1.granted _ _ u m.o6)).1))

  quiet : (t : Option (ℕ × Transaction)) → t ≡ None → Quiet (world_of k later t)
  quiet t e = record {
    requests = λ c. ap (filter_map (as_request k)) (s.request c);
    commands = λ c. ap (filter_map (as_command k)) (s.command c);
    fills = λ c o. ap (filter_map (as_fill k)) (s.fill c o);
    responses = λ c. ap (filter_map (as_response k)) (s.response c);
    no_transaction = e;
  }

pub waits : (o : Option Form) → is_wait o ≡ true → (a : ℕ) × (o ≡ Some (Wfq a))
waits (Some (Wfq a)) e = (a, refl)
waits o e = absurd (cc)

not-begun : (k : Shape) (o : Option InProgress) → begun_of k o ≡ None → is_none o ≡ true
not-begun k None e = refl
not-begun k (Some b) e = absurd (cc)

off : (b : Bool) → b ≡ false → not b ≡ true
off b e = cc

pub quiet-rested : (k : Shape) (program : List Form) (later : State) (told : Told) → Tied k later told → IsMet k program later told
    → QuietRests k program later
quiet-rested k program later told tied o e =
    let s = silent k program later tied.range.outside e in
    let a = waits (slice_get program later.engine.core.place) s.1 in
    let w = at-wait k later s.0 a.0 told.transaction told.deferred tied (met (Wfq a.0) (exact k later.engine told) (o (Wfq a.0) a.1)) in
    let rest = quiet_rests (told_world k later told) tied.invariant.groups (quiet k later s.0 told.transaction w.0) in
    all-true _ _ (all-true _ _ (all-true _ _ e (ap names_requests a.1 ∙ w.1))
    (each-below k.sets _ (λ i l. off (later.engine.directory.pending i) (rest.not_pending i))))
    (each-below k.caches _ (λ c l. not-begun k (later.caches c).busy (rest.idle c)))
