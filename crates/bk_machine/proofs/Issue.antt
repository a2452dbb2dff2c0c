-- A cache is given an operation.
use Rattle.std.proofs.Common.{◌≡◌, ℕ, ◌≢◌, Bool, true, false, ◌&&◌, refl, arith, [], ◌∷◌, ◌++◌, sym, ap, ◌∙◌, subst, true≢false}
use Rattle.std.specs.Prelude.{Option, Some, None, if◌then◌else◌, ◌==◌}
use Rattle.std.proofs.lemmas.Bool.Decides.{nat_tests}
use Rattle.std.specs.Bool.{OnFalse}
use Rattle.bk_base.specs.Tables.{put}
use Rattle.bk_machine.specs.Tables.{put2}
use Rattle.bk_machine.specs.Entries.{Entry, Holds, with_state}
use Rattle.bk_machine.specs.Messages.{Op, Spot, Load, Store, UcLoad, UcStore, Evict, Request, Rd, Wr, UcRd, UcWr, EvictRequest, op_tag, request_of, op_word, request_tag}
use Rattle.bk_machine.specs.Transactions.{InProgress, WriteBack, Idle, FlushAsked, FlushKept, Reading, NotRead, ReadAsked, Got, Transaction, paid_directory}
use Rattle.bk_machine.specs.Phases.{Flush, NoFlush, FlushSent, FlushDone, Ack, Flight, ByBlock, ByWake, ByTransfer, ByFill, ByWord, ByDone, Phase, Free, Open, Flying, Settling, is_taken, requests_of, expected_entry, flush_effect, inv_effect, flight_effect}
use Rattle.bk_machine.specs.World.{GroupState}
use Rattle.bk_machine.specs.Words.{latest, effective, after_op, answer_is}
use Rattle.bk_machine.specs.Copies.{Matches, Invalidating, Standing, Alone, FlushAims, FlightAims}
use Rattle.bk_machine.specs.Values.{NoWriter, NoCopy, AllLight, SameWords, AtHome, PhaseValues, FlushValues, FlightValues, StoredAt, KeptValues, ReadValues, WrittenValues, TransactionValues, OpenValues, MemoryChannels, is_reading, transaction_tag}
use Rattle.bk_machine.specs.Invariant.{Good, Taker, WaitingCopies}
use Rattle.bk_machine.proofs.Growing.{values-append, RightAnswers-append, ReadsFor-same, BlocksFor-same}
use Rattle.bk_machine.proofs.Unchanged.{still-good}
use Rattle.bk_machine.proofs.Settle.{channels-none, channels-at, reading-light, Values-at}
use Rattle.bk_machine.proofs.Fewer.{Fewer, Lighter, OneWay-fewer, Alone-fewer, NoWriter-fewer, NoCopy-fewer, AllLight-fewer, WaitingCopies-fewer}
use Rattle.bk_base.specs.declared.coh.Coh.{Coh}
use Rattle.bk_base.specs.declared.coh.Coh.TheVariants.{M}
use Rattle.bk_base.specs.States.{is_readable, is_writable, is_dirty}

abbrev pub completed : GroupState → ℕ → Op → ℕ → GroupState
completed part c op n = record part { history = part.history ++ record { cache = c; op = op; answer = n } ∷ [] }

module _ (p : Phase) (part : GroupState) (good : Good p part) where
  -- a completion that changes no word and has its right answer
  completed-good : (c : ℕ) (op : Op) (n : ℕ) → after_op op (latest part.history) ≡ latest part.history
      → answer_is op (latest part.history) n
      → Good p (completed part c op n)
  completed-good c op n e a =
      let same = values-append (λ u j. 0) part.history (record { cache = c; op = op; answer = n }) ∙ e in
      still-good part.memory part.memout part.memin _ good (Values-at same good.values) (channels-at same good.channels)
      (RightAnswers-append (λ u j. 0) part.history _ good.answers a)

  pub load_hits : (c t w : ℕ) (spot : Spot) → Holds (part.entries c w) t
      → Good p (completed part c (Load t spot) (spot.of (part.words c w spot.word)))
  load_hits c t w spot l = completed-good c (Load t spot) _ refl (ap spot.of (good.values.copies t c w spot.word l))

  pub evict_idles : (c t : ℕ) → Good p (completed part c (Evict t) 0)
  evict_idles c t = completed-good c (Evict t) 0 refl refl

-- an operation that asks the engine
abbrev pub asked : GroupState → ℕ → Op → ℕ → GroupState
asked part c op w = record part {
  busy = put part.busy c (Some (record { op = op; way = w }));
  request = put part.request c (part.request c ++ request_of op w ∷ []);
}

module _ (p : Phase) (part : GroupState) (c w : ℕ) (op : Op) (good : Good p part) (idle : part.busy c ≡ None)
    (fits : WaitingCopies op w (part.entries c)) where
  asked-requests : (i : ℕ) → put part.request c (part.request c ++ request_of op w ∷ []) i
      ≡ requests_of (is_taken p i) (put part.busy c (Some (record { op = op; way = w })) i)
  unfolding put
  asked-requests i = grind (arith, nat_tests, good.requests, good.taker)

  asked-taker : Taker p (put part.busy c (Some (record { op = op; way = w })))
  unfolding put
  asked-taker = grind (arith, nat_tests, good.taker)

  asked-placed : (i : ℕ) (b : InProgress) (y : Bool) → (i == c) ≡ y
      → (if y then Some (record { op = op; way = w }) else part.busy i) ≡ Some b
      → WaitingCopies b.op b.way (part.entries i)
  asked-placed i b true d e = subst (λ (z : InProgress). WaitingCopies z.op z.way (part.entries i)) (the_busy b e)
      (subst (λ (j : ℕ). WaitingCopies op w (part.entries j)) (sym (is_cache i d)) fits)
    where
      the_busy : (b : InProgress) → Some (record { op = op; way = w }) ≡ Some b → record { op = op; way = w } ≡ b
      the_busy b e = cc

      is_cache : (i : ℕ) → (i == c) ≡ true → i ≡ c
      is_cache i d = grind (arith, nat_tests)
  asked-placed i b false d e = good.placed i b e

  asked-all : (i : ℕ) (b : InProgress) → put part.busy c (Some (record { op = op; way = w })) i ≡ Some b
      → WaitingCopies b.op b.way (part.entries i)
  unfolding put
  asked-all i b e = asked-placed i b (i == c) refl e

  pub asked-good : Good p (asked part c op w)
  asked-good = record {
    commands = good.commands;
    fills = good.fills;
    responses = good.responses;
    requests = asked-requests;
    taker = asked-taker;
    placed = asked-all;
    transaction = good.transaction;
    pending = good.pending;
    taken_count = good.taken_count;
    copies = good.copies;
    values = good.values;
    channels = good.channels;
    kind = good.kind;
    answers = good.answers;
  }

-- what the messages on their way make of a written entry
written-free : (d h : Entry) → Matches d h → is_writable h.state ≡ true → Matches d (with_state h M)
written-free d h m e = grind (arith, nat_tests)

written-open : (b : InProgress) (fl : Flush) (a : Ack) (i w : ℕ) (d h : Entry)
    → Matches d (inv_effect (op_tag b.op) a (flush_effect fl i w h))
    → is_writable h.state ≡ true
    → Matches d (inv_effect (op_tag b.op) a (flush_effect fl i w (with_state h M)))
written-open b fl a i w d h m e = grind (arith, nat_tests)

written-flying : (f : Flight) (r : ℕ) (b : InProgress) (i w : ℕ) (d h : Entry) → Matches d (flight_effect f r b i w h)
    → is_writable h.state ≡ true
    → Matches d (flight_effect f r b i w (with_state h M))
written-flying f r b i w d h m e = grind (arith, nat_tests)

written-matches : (p : Phase) (i w : ℕ) (d h : Entry) → Matches d (expected_entry p i w h) → is_writable h.state ≡ true
    → Matches d (expected_entry p i w (with_state h M))
written-matches Free i w d h m e = written-free d h m e
written-matches (Open r b fl inv) i w d h m e = written-open b fl (inv i) i w d h m e
written-matches (Flying r b f) i w d h m e = written-flying f r b i w d h m e
written-matches (Settling r t) i w d h m e = written-free d h m e

-- where a block of the tag is to come to another cache, no cache may write the tag
landing-at : (d h : ℕ → ℕ → Entry) (r y u : ℕ) (state : Coh) → is_readable state ≡ true
    → Matches (d r y) (if r == r && y == y then record { tag = u; state = state } else h r y) → Holds (d r y) u
landing-at d h r y u state e m = grind (arith, nat_tests)

elsewhere-at : (d h : ℕ → ℕ → Entry) (r y c w t u : ℕ) (state : Coh) → r ≢ c
    → Matches (d c w) (if c == r && w == y then record { tag = u; state = state } else h c w)
    → Holds (h c w) t → is_writable (h c w).state ≡ true
    → (Holds (d c w) t) × (is_writable (d c w).state ≡ true)
elsewhere-at d h r y c w t u state n m k e = grind (arith, nat_tests)

landing-apart : (d h : ℕ → ℕ → Entry) (r y c w t u : ℕ) (state : Coh) → Alone d → is_readable state ≡ true → r ≢ c
    → ((i v : ℕ) → Matches (d i v) (if i == r && v == y then record { tag = u; state = state } else h i v))
    → Holds (h c w) t → is_writable (h c w).state ≡ true → u ≢ t
landing-apart d h r y c w t u state one e n m k z same =
    let here : Holds (d r y) t = subst (λ (q : ℕ). Holds (d r y) q) same (landing-at d h r y u state e (m r y)) in
    let there : (Holds (d c w) t) × (is_writable (d c w).state ≡ true) = elsewhere-at d h r y c w t u state n (m c w) k z in
    true≢false (sym there.1 ∙ one t c w r y there.0 here (λ q. n (sym q)))

-- a store to a block that the cache may write
abbrev pub store_hit : GroupState → ℕ → ℕ → ℕ → ℕ → (ℕ → ℕ) → GroupState
store_hit part c t w j change = record part {
  entries = put2 part.entries c w (with_state (part.entries c w) M);
  words = put2 part.words c w (put (part.words c w) j (change (part.words c w j)));
  history = part.history ++ record { cache = c; op = Store t j change; answer = 0 } ∷ [];
}

module _ (p : Phase) (part : GroupState) (c t w number : ℕ) (change : ℕ → ℕ) (good : Good p part) (idle : part.busy c ≡ None)
    (has : Holds (part.entries c w) t) (writes : is_writable (part.entries c w).state ≡ true) where
  abbrev h : ℕ → ℕ → Entry
  h = put2 part.entries c w (with_state (part.entries c w) M)

  fewer : Fewer (put2 part.entries c w (with_state (part.entries c w) M)) part.entries
  unfolding put2
  fewer = record { holds = λ i v u l. grind (arith, nat_tests); writes = λ i v u l e. grind (arith, nat_tests) }

  lighter : Lighter (put2 part.entries c w (with_state (part.entries c w) M)) part.entries
  unfolding put2
  lighter i v u l e = grind (arith, nat_tests)

  hit-matches : (i v : ℕ) (y : Bool) → i == c && (v == w) ≡ y
      → Matches (paid_directory part.transaction part.directory i v)
      (expected_entry p i v (if y then with_state (part.entries c w) M else part.entries i v))
  hit-matches i v true e = hit-here i v (good.copies.matches i v) e
    where
      hit-here : (i v : ℕ) → Matches (paid_directory part.transaction part.directory i v) (expected_entry p i v (part.entries i v))
          → i == c && (v == w) ≡ true
          → Matches (paid_directory part.transaction part.directory i v) (expected_entry p i v (with_state (part.entries c w) M))
      hit-here i v m e = subst
          (λ (h : Entry). Matches (paid_directory part.transaction part.directory i v) (expected_entry p i v (with_state h M)))
          (same_entry i v e) (written-matches p i v _ _ m (writes_there i v e))
        where
          same_entry : (i v : ℕ) → i == c && (v == w) ≡ true → part.entries i v ≡ part.entries c w
          same_entry i v e = grind (arith, nat_tests)

          writes_there : (i v : ℕ) → i == c && (v == w) ≡ true → is_writable (part.entries i v).state ≡ true
          writes_there i v e = grind (arith, nat_tests)
  hit-matches i v false e = good.copies.matches i v

  hit-all : (i v : ℕ) → Matches (paid_directory part.transaction part.directory i v)
      (expected_entry p i v (put2 part.entries c w (with_state (part.entries c w) M) i v))
  unfolding put2
  hit-all i v = hit-matches i v (i == c && v == w) refl

  hit-aims : (fl : Flush) → FlushAims fl part.entries → FlushAims fl (put2 part.entries c w (with_state (part.entries c w) M))
  unfolding put2
  hit-aims fl a = grind (arith, nat_tests)

  hit-going : (r u : ℕ) (fl : Flush) (inv : ℕ → Ack)
      → Invalidating r u fl inv (paid_directory part.transaction part.directory) part.entries
      → Invalidating r u fl inv (paid_directory part.transaction part.directory) (put2 part.entries c w (with_state (part.entries c w) M))
  unfolding put2
  hit-going r u fl inv a = record {
    not_own = a.not_own;
    gone = a.gone;
    behind = a.behind;
    clean = λ i v e l. grind (arith, nat_tests, a.clean i v);
  }

  hit-flight : (r : ℕ) (b : InProgress) (f : Flight) → FlightAims f r b part.entries
      → FlightAims f r b (put2 part.entries c w (with_state (part.entries c w) M))
  unfolding put2
  hit-flight r b (ByBlock x ws) a = record { is_valid = a.is_valid; light = grind (arith, nat_tests) }
  hit-flight r b ByWake a = grind (arith, nat_tests)
  hit-flight r b (ByTransfer o ow y x) a =
      record {
        is_valid = a.is_valid;
        other = a.other;
        weaker = a.weaker;
        light = grind (arith, nat_tests);
        has = grind (arith, nat_tests);
        stays_dirty = λ e. grind (arith, nat_tests, a.stays_dirty e);
      }
  hit-flight r b (ByFill o x ws) a = record { is_valid = a.is_valid; light = grind (arith, nat_tests) }
  hit-flight r b (ByWord v) a = tt
  hit-flight r b ByDone a = tt

  hit-standing : (p : Phase) → Standing p (paid_directory part.transaction part.directory) part.entries
      → Standing p (paid_directory part.transaction part.directory) (put2 part.entries c w (with_state (part.entries c w) M))
  hit-standing Free s = tt
  hit-standing (Open r b fl inv) s = (hit-aims fl s.0, hit-going r (op_tag b.op) fl inv s.1)
  hit-standing (Flying r b f) s = hit-flight r b f s
  hit-standing (Settling r u) s = tt

  abbrev v : ℕ → ℕ → ℕ
  v = latest part.history

  abbrev v2 : ℕ → ℕ → ℕ
  v2 = after_op (Store t number change) (latest part.history)

  abbrev a : ℕ → ℕ → ℕ
  a = effective part.memory part.memout

  hit-same : (u : ℕ) → u ≢ t → SameWords (latest part.history u) (after_op (Store t number change) (latest part.history) u)
  hit-same u d j = grind (arith, nat_tests)

  hit-apart : (u : ℕ) → NoWriter part.entries u → u ≢ t
  hit-apart u none = grind (arith, nat_tests, none c w)

  light-apart : (u : ℕ) → AllLight part.entries u → u ≢ t
  light-apart u none = grind (arith, nat_tests, none c w)

  hit-words : (u i y j : ℕ) → Holds (put2 part.entries c w (with_state (part.entries c w) M) i y) u
      → put2 part.words c w (put (part.words c w) number (change (part.words c w number))) i y j
      ≡ after_op (Store t number change) (latest part.history) u j
  unfolding put2 put
  hit-words u i y j l = grind (arith, nat_tests, good.values.copies u i y j, good.copies.real_way t c w y, good.copies.real_alone t c w i y)

  hit-elsewhere : (u : ℕ)
      → ((i y : ℕ) → Holds (put2 part.entries c w (with_state (part.entries c w) M) i y) u
      → is_dirty (put2 part.entries c w (with_state (part.entries c w) M) i y).state ≡ false)
      → u ≢ t
  unfolding put2
  hit-elsewhere u home = grind (arith, nat_tests, home c w)

  hit-clean : (u : ℕ) → u ≢ t
      → ((i y : ℕ) → Holds (put2 part.entries c w (with_state (part.entries c w) M) i y) u
      → is_dirty (put2 part.entries c w (with_state (part.entries c w) M) i y).state ≡ false)
      → (i y : ℕ) → Holds (part.entries i y) u → is_dirty (part.entries i y).state ≡ false
  unfolding put2
  hit-clean u d home i y l = grind (arith, nat_tests, home i y)

  hit-flush : (fl : Flush) → FlushValues fl part.entries v → FlushValues fl (put2 part.entries c w (with_state (part.entries c w) M)) v2
  hit-flush NoFlush q = tt
  hit-flush (FlushSent o ow u x) q = tt
  hit-flush (FlushDone o u None) q = tt
  hit-flush (FlushDone o u (Some ws)) q = ((λ j. q.0 j ∙ hit-same u (hit-apart u q.1) j), NoWriter-fewer fewer u q.1)

  -- no block for the tag is on its way to another cache
  hit-landing : (r : ℕ) (b : InProgress) (state : Coh) → is_readable state ≡ true → r ≢ c
      → ((i y : ℕ) → Matches (paid_directory part.transaction part.directory i y) (if i == r && y == b.way
      then record { tag = op_tag b.op; state = state } else part.entries i y))
      → op_tag b.op ≢ t
  hit-landing r b state e d m = landing-apart (paid_directory part.transaction part.directory) part.entries r b.way c w t (op_tag b.op)
      state good.copies.alone e d m has writes

  not_busy : (r : ℕ) (b : InProgress) → part.busy r ≡ Some b → r ≢ c
  not_busy r b e = grind (arith, nat_tests)

  -- what was stored past the caches is into a block that no cache has, so not into this one
  hit-stored : (u j : ℕ) (f : ℕ → ℕ) → (a u j ≡ f (v u j)) × NoCopy part.entries u
      → (a u j ≡ f (v2 u j)) × NoCopy (put2 part.entries c w (with_state (part.entries c w) M)) u
  hit-stored u j f q =
      (q.0 ∙ ap f (hit-same u (λ e. q.1 c w (subst (Holds (part.entries c w)) (sym e) has)) j), NoCopy-fewer fewer u q.1)

  hit-done : (op : Op) → StoredAt op part.entries v a → StoredAt op (put2 part.entries c w (with_state (part.entries c w) M)) v2 a
  hit-done (Load u spot) q = tt
  hit-done (Store u j f) q = tt
  hit-done (UcLoad u spot) q = tt
  hit-done (UcStore u j f) q = hit-stored u j f q
  hit-done (Evict u) q = tt

  hit-flying : (r : ℕ) (b : InProgress) (f : Flight) → part.busy r ≡ Some b
      → Standing (Flying r b f) (paid_directory part.transaction part.directory) part.entries
      → ((i y : ℕ) → Matches (paid_directory part.transaction part.directory i y)
      (expected_entry (Flying r b f) i y (part.entries i y)))
      → FlightValues f b part.entries v a → FlightValues f b (put2 part.entries c w (with_state (part.entries c w) M)) v2 a
  hit-flying r b (ByBlock x ws) e s m q = λ j. q j ∙ hit-same (op_tag b.op) (hit-landing r b x s.is_valid (not_busy r b e) m) j
  hit-flying r b ByWake e s m q = tt
  hit-flying r b (ByTransfer o ow y x) e s m q = tt
  hit-flying r b (ByFill o x ws) e s m q = λ j. q j ∙ hit-same (op_tag b.op) (hit-landing r b x s.is_valid (not_busy r b e) m) j
  hit-flying r b (ByWord z) e s m q = (
    q.0 ∙ hit-same (op_tag b.op) (hit-apart (op_tag b.op) q.1) (op_word b.op),
    NoWriter-fewer fewer (op_tag b.op) q.1,
  )
  hit-flying r b ByDone e s m q = hit-done b.op q

  hit-phase : (p : Phase) → Taker p part.busy → Standing p (paid_directory part.transaction part.directory) part.entries
      → ((i y : ℕ) → Matches (paid_directory part.transaction part.directory i y) (expected_entry p i y (part.entries i y)))
      → PhaseValues p part.entries v a
      → PhaseValues p (put2 part.entries c w (with_state (part.entries c w) M)) v2 a
  hit-phase Free e s m q = tt
  hit-phase (Open r b fl inv) e s m q = hit-flush fl q
  hit-phase (Flying r b f) e s m q = hit-flying r b f e s m q
  hit-phase (Settling r u) e s m q = tt

  hit-kept : (x : WriteBack) → KeptValues x part.entries v → KeptValues x (put2 part.entries c w (with_state (part.entries c w) M)) v2
  hit-kept Idle q = tt
  hit-kept FlushAsked q = tt
  hit-kept (FlushKept b) q = ((λ j. q.0 j ∙ hit-same b.tag (hit-apart b.tag q.1) j), NoWriter-fewer fewer b.tag q.1)

  hit-read : (x : Reading) (u : ℕ) → ReadValues x u part.entries v
      → ReadValues x u (put2 part.entries c w (with_state (part.entries c w) M)) v2
  hit-read NotRead u q = tt
  hit-read ReadAsked u q = AllLight-fewer fewer lighter u q
  hit-read (Got ws) u q = ((λ j. q.0 j ∙ hit-same u (light-apart u q.1) j), AllLight-fewer fewer lighter u q.1)

  hit-written : (b : Bool) (rq : Request) → WrittenValues b rq part.entries v a
      → WrittenValues b rq (put2 part.entries c w (with_state (part.entries c w) M)) v2 a
  hit-written false rq q = tt
  hit-written true (Rd u y) q = q
  hit-written true (Wr u y) q = q
  hit-written true (UcRd u j) q = q
  hit-written true (UcWr u j f) q = hit-stored u j f q
  hit-written true (EvictRequest u y) q = q

  hit-transaction : (granted : Bool) (x : Transaction) → OnFalse granted (TransactionValues x part.entries v a)
      → OnFalse granted (TransactionValues x (put2 part.entries c w (with_state (part.entries c w) M)) v2 a)
  hit-transaction true x q = tt
  hit-transaction false x q =
      record {
        kept = hit-kept x.write_back q.kept;
        read = hit-read x.reading (request_tag x.request) q.read;
        written = hit-written x.written x.request q.written;
      }

  hit-open : (transaction : Option Transaction) → OpenValues transaction part.entries v a
      → OpenValues transaction (put2 part.entries c w (with_state (part.entries c w) M)) v2 a
  hit-open None q = tt
  hit-open (Some x) q = hit-transaction x.granted x q

  hit-channels : (y : Bool) → is_reading part.transaction ≡ y → MemoryChannels part.transaction part.memory v2 part.memout part.memin
  hit-channels true e =
      let same : SameWords (v (transaction_tag part.transaction)) (v2 (transaction_tag part.transaction)) =
      hit-same (transaction_tag part.transaction)
      (light-apart (transaction_tag part.transaction) (reading-light part.transaction part.entries v a e good.values.ungranted)) in
      record {
        count = good.channels.count;
        to = ReadsFor-same _ _ _ _ part.memout same good.channels.to;
        back = BlocksFor-same _ _ _ part.memin same good.channels.back;
      }
  hit-channels false e = channels-none part.transaction part.transaction part.memory v v2 part.memout part.memin e e good.channels

  hit-memory : (u j : ℕ) → AtHome p part.transaction (put2 part.entries c w (with_state (part.entries c w) M)) u j → a u j ≡ v2 u j
  hit-memory u j home =
      let d : u ≢ t = hit-elsewhere u home.clean in
      good.values.memory u j (record { clean = hit-clean u d home.clean; not_flying = home.not_flying; not_kept = home.not_kept })
      ∙ hit-same u d j

  -- The copy may be written, so no other cache has the block: the word changes in it and in the latest values alike.
  pub store_hits : Good p (store_hit part c t w number change)
  store_hits = record {
    commands = good.commands;
    fills = good.fills;
    responses = good.responses;
    requests = good.requests;
    taker = good.taker;
    placed = λ i x e. WaitingCopies-fewer fewer x.op x.way i (good.placed i x e);
    transaction = good.transaction;
    pending = good.pending;
    taken_count = good.taken_count;
    copies = record {
      matches = hit-all;
      one_way = good.copies.one_way;
      alone = good.copies.alone;
      one_owner = good.copies.one_owner;
      real_way = OneWay-fewer fewer good.copies.real_way;
      real_alone = Alone-fewer fewer good.copies.real_alone;
      standing = hit-standing p good.copies.standing;
    };
    values = Values-at (values-append (λ u j. 0) part.history _) (record {
      copies = hit-words;
      memory = hit-memory;
      flying = hit-phase p good.taker good.copies.standing good.copies.matches good.values.flying;
      ungranted = hit-open part.transaction good.values.ungranted;
    });
    channels = channels-at (values-append (λ u j. 0) part.history _) (hit-channels (is_reading part.transaction) refl);
    kind = good.kind;
    answers = RightAnswers-append (λ u j. 0) part.history _ good.answers refl;
  }
