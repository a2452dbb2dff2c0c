-- What a cache sends by a row of its table: a request for an operation that it was given, and for a message a response, or a fill to
-- the peer that the message names. So room for these is room for what it sends.
use Rattle.std.proofs.Common.{◌≡◌, ℕ, ◌<◌, ◌≤◌, List, Bool, Option, Some, None, refl, ap, subst, sym, ◌∙◌}
use Rattle.std.specs.Prelude.{◌==◌, ◌&&◌, if◌then◌else◌, vec_len, vec_capacity, IfSome}
use Rattle.std.proofs.lemmas.Bool.{cond_both}
use Rattle.bk_base.specs.Places.{Shape, block_of, block_start, tag_at}
use Rattle.bk_base.specs.States.{is_writable, is_dirty}
use Rattle.bk_base.specs.declared.coh.Coh.{Coh}
use Rattle.bk_base.specs.declared.op.Op.{Op}
use Rattle.bk_base.specs.declared.op.Op.TheVariants.{Load, Store, UcLoad, UcStore, Evict}
use Rattle.bk_msg.specs.Networks.{network_of, receiver_of}
use Rattle.bk_msg.specs.declared.row.Network.TheVariants as networks
use Rattle.bk_msg.specs.declared.row.Row.{Row}
use Rattle.bk_msg.specs.declared.row.Row.TheVariants as rows
use Rattle.bk_msg.specs.declared.row.TheConstants.{ENGINE}
use Rattle.bk_lce.specs.declared.line.InProgress.{InProgress}
use Rattle.bk_lce.specs.declared.line.CacheStep.{CacheStep}
use Rattle.bk_lce.specs.declared.line.Line.{Line}
use Rattle.bk_lce.specs.CacheState.{CacheState, holds, line_at, found}
use Rattle.bk_lce.specs.CacheTable as table
use Rattle.bk_lce.specs.CacheTable.{Transition, Gives, request_row, completion_row, answer_row, filled_row, stored_line, store_hit, with_line_state, flush_answer}
use Rattle.bk_system.specs.declared.hardware.Hardware.{Hardware}
use Rattle.bk_system.specs.Channels.{room}
use Rattle.bk_system.specs.EventCalls.{HasRoomFor, peer_of}
use Rattle.bk_system.specs.Numbering.{fill_place}

-- a request, if anything
abbrev pub Asks : Option Row → Type 0
Asks None = Unit {0}
Asks (Some m) = network_of m ≡ networks.Request

-- a response, or a fill to the peer
pub record IsAnswer (peer : Option ℕ) (m : Row) : Type 0 where
  pub no_request : network_of m ≡ networks.Request → ⊥
  pub fill : network_of m ≡ networks.Fill → peer ≡ Some (receiver_of m)

abbrev pub Answers : Option ℕ → Option Row → Type 0
Answers peer None = Unit {0}
Answers peer (Some m) = IsAnswer peer m

-- where there is a row
abbrev pub AnswersIn : Option ℕ → Option Transition → Type 0
AnswersIn peer None = Unit {0}
AnswersIn peer (Some taken) = Answers peer taken.sent

-- ISSUE

load-asks : (k : Shape) (cache : CacheState) (c addr way : ℕ) (w : Option ℕ) → Asks (table.load_row k cache c addr way w).sent
load-asks k cache c addr way None = refl
load-asks k cache c addr way (Some w) = tt

store-asks : (k : Shape) (cache : CacheState) (c addr value way : ℕ) (w : Option ℕ)
    → Asks (table.store_row k cache c addr value way w).sent
store-asks k cache c addr value way None = refl
store-asks k cache c addr value way (Some w) =
    cond_both (is_writable (line_at k cache addr w).state) (store_hit k cache c addr value w)
    (request_row cache (Store addr value) w (rows.Wr c ENGINE w (block_start addr))) (λ (t : Transition). Asks t.sent) (λ e. tt)
    (λ e. refl)

evict-asks : (cache : CacheState) (c addr : ℕ) (w : Option ℕ) → Asks (table.evict_row cache c addr w).sent
evict-asks cache c addr None = tt
evict-asks cache c addr (Some w) = refl

issue-asks : (k : Shape) (cache : CacheState) (c : ℕ) (op : Op) (way : ℕ) → Asks (table.issue_row k cache c op way).sent
issue-asks k cache c (Load addr) way = load-asks k cache c addr way (found k cache addr)
issue-asks k cache c (Store addr value) way = store-asks k cache c addr value way (found k cache addr)
issue-asks k cache c (UcLoad addr) way = refl
issue-asks k cache c (UcStore addr value) way = refl
issue-asks k cache c (Evict addr) way = evict-asks cache c addr (found k cache addr)

taken-asks : (busy : Option InProgress) (t taken : Transition) → Asks t.sent → table.if_idle busy t ≡ Some taken → Asks taken.sent
taken-asks None t taken h e = let same : t ≡ taken = cc in subst (λ (x : Transition). Asks x.sent) same h
taken-asks (Some b) t taken h e = absurd (cc)

-- COMMAND AND FILL

response : (peer : Option ℕ) (m : Row) → network_of m ≡ networks.Response → IsAnswer peer m
response peer m e = record { no_request = λ h. absurd (cc); fill = λ h. absurd (cc) }

-- the row of a test
if-answers : (peer : Option ℕ) (b : Bool) (t : Transition) → Answers peer t.sent → AnswersIn peer (if b then Some t else None)
if-answers peer b t h = cond_both b (Some t) None (AnswersIn peer) (λ e. h) (λ e. tt)

flush-answers : (peer : Option ℕ) (k : Shape) (cache : CacheState) (c addr : ℕ) (state : Coh) (w : Option ℕ)
    → AnswersIn peer (table.flush_row k cache c addr state w)
flush-answers peer k cache c addr state None = tt
flush-answers peer k cache c addr state (Some w) =
    let line : Line = line_at k cache addr w in
    cond_both (is_dirty line.state) (rows.Wb c ENGINE (block_start addr) line.words) (rows.NullWb c ENGINE (block_start addr))
    (IsAnswer peer) (λ e. response peer _ refl) (λ e. response peer _ refl)

transfer-answers : (k : Shape) (cache : CacheState) (c addr : ℕ) (state : Coh) (peer peer_way : ℕ) (peer_state : Coh) (w : Option ℕ)
    → AnswersIn (Some peer) (table.transfer_row k cache c addr state peer peer_way peer_state w)
transfer-answers k cache c addr state peer peer_way peer_state None = tt
transfer-answers k cache c addr state peer peer_way peer_state (Some w) =
    cond_both (peer == c) None
    (Some (answer_row (with_line_state k cache addr w state)
    (rows.Fill c peer peer_way peer_state (block_start addr) (line_at k cache addr w).words)))
    (AnswersIn (Some peer)) (λ e. tt) (λ e. record { no_request = λ h. absurd (cc); fill = λ h. refl })

grant-answers : (peer : Option ℕ) (k : Shape) (cache : CacheState) (c way : ℕ) (state : Coh) (addr : ℕ) (words : List ℕ) (op : Op)
    → AnswersIn peer (table.grant_row k cache c way state addr words op)
grant-answers peer k cache c way state addr words (Load at) = if-answers peer (block_of at == block_of addr) _ (response peer _ refl)
grant-answers peer k cache c way state addr words (Store at value) =
    if-answers peer (block_of at == block_of addr && is_writable state) _ (response peer _ refl)
grant-answers peer k cache c way state addr words (UcLoad at) = tt
grant-answers peer k cache c way state addr words (UcStore at value) = tt
grant-answers peer k cache c way state addr words (Evict at) = tt

granted-answers : (peer : Option ℕ) (k : Shape) (cache : CacheState) (c way : ℕ) (state : Coh) (addr : ℕ) (words : List ℕ)
    (busy : Option InProgress)
    → AnswersIn peer (table.grant_for k cache c way state addr words busy)
granted-answers peer k cache c way state addr words None = tt
granted-answers peer k cache c way state addr words (Some busy) =
    cond_both (busy.way == way) (table.grant_row k cache c way state addr words busy.op) None (AnswersIn peer)
    (λ e. grant-answers peer k cache c way state addr words busy.op) (λ e. tt)

wake-answers : (peer : Option ℕ) (k : Shape) (cache : CacheState) (c way addr : ℕ) (op : Op)
    → AnswersIn peer (table.wake_row k cache c way addr op)
wake-answers peer k cache c way addr (Store at value) =
    if-answers peer (block_of at == block_of addr && holds (line_at k cache at way) (tag_at k at)) _ (response peer _ refl)
wake-answers peer k cache c way addr (Load at) = tt
wake-answers peer k cache c way addr (UcLoad at) = tt
wake-answers peer k cache c way addr (UcStore at value) = tt
wake-answers peer k cache c way addr (Evict at) = tt

woken-answers : (peer : Option ℕ) (k : Shape) (cache : CacheState) (c way addr : ℕ) (busy : Option InProgress)
    → AnswersIn peer (table.wake_for k cache c way addr busy)
woken-answers peer k cache c way addr None = tt
woken-answers peer k cache c way addr (Some busy) =
    cond_both (busy.way == way) (table.wake_row k cache c way addr busy.op) None (AnswersIn peer)
    (λ e. wake-answers peer k cache c way addr busy.op) (λ e. tt)

word-answers : (peer : Option ℕ) (cache : CacheState) (c way addr word : ℕ) (op : Op)
    → AnswersIn peer (table.word_row cache c way addr word op)
word-answers peer cache c way addr word (UcLoad at) = if-answers peer (at == addr) _ (response peer _ refl)
word-answers peer cache c way addr word op = tt

written-answers : (peer : Option ℕ) (cache : CacheState) (c way addr : ℕ) (op : Op)
    → AnswersIn peer (table.written_row cache c way addr op)
written-answers peer cache c way addr (UcStore at value) = if-answers peer (at == addr) _ (response peer _ refl)
written-answers peer cache c way addr op = tt

evicted-answers : (peer : Option ℕ) (cache : CacheState) (c way addr : ℕ) (op : Op)
    → AnswersIn peer (table.evicted_row cache c way addr op)
evicted-answers peer cache c way addr (Evict at) = if-answers peer (block_of at == block_of addr) _ (response peer _ refl)
evicted-answers peer cache c way addr op = tt

operation-answers : (peer : Option ℕ) (busy : Option InProgress) (row : ℕ → Op → Option Transition)
    → ((way : ℕ) (op : Op) → AnswersIn peer (row way op)) → AnswersIn peer (table.by_operation busy row)
operation-answers peer None row h = tt
operation-answers peer (Some busy) row h = h busy.way busy.op

command-answers : (k : Shape) (cache : CacheState) (c : ℕ) (m : Row) → AnswersIn (peer_of m) (table.command k cache c m)
command-answers k cache c (rows.Inv _ _ addr) = response None _ refl
command-answers k cache c (rows.StWb _ _ state addr) = flush-answers None k cache c addr state (found k cache addr)
command-answers k cache c (rows.StTr _ _ state peer peer_way peer_state addr) =
    transfer-answers k cache c addr state peer peer_way peer_state (found k cache addr)
command-answers k cache c (rows.Blk _ _ way state addr words) = granted-answers None k cache c way state addr words cache.busy
command-answers k cache c (rows.StWake _ _ way _ addr) = woken-answers None k cache c way addr cache.busy
command-answers k cache c (rows.UcBlk _ _ addr word) =
    operation-answers None cache.busy (λ way op. table.word_row cache c way addr word op)
    (λ way op. word-answers None cache c way addr word op)
command-answers k cache c (rows.UcDone _ _ addr) =
    operation-answers None cache.busy (λ way op. table.written_row cache c way addr op)
    (λ way op. written-answers None cache c way addr op)
command-answers k cache c (rows.Done _ _ addr) =
    operation-answers None cache.busy (λ way op. table.evicted_row cache c way addr op)
    (λ way op. evicted-answers None cache c way addr op)
command-answers k cache c m = tt

fill-answers : (k : Shape) (cache : CacheState) (c : ℕ) (m : Row) → AnswersIn None (table.fill k cache c m)
fill-answers k cache c (rows.Fill _ _ way state addr words) = granted-answers None k cache c way state addr words cache.busy
fill-answers k cache c m = tt

taken-answers : (peer : Option ℕ) (row : Option Transition) (taken : Transition) → AnswersIn peer row → row ≡ Some taken
    → Answers peer taken.sent
taken-answers peer row taken h e = subst (AnswersIn peer) e h

-- ROOM

room-asked : (y : Hardware) (c : ℕ) (sent : Option Row) → Asks sent → 1 ≤ room y.requests c
    → vec_len y.history < vec_capacity y.history
    → HasRoomFor y c sent
room-asked y c None h request history = record {
  request = λ m e n. request;
  response = λ m e n. absurd (cc);
  fill = λ m e n. absurd (cc);
  history = history;
}
room-asked y c (Some m) h request history = record {
  request = λ o e n. request;
  response = λ o e n. let same : m ≡ o = cc in absurd (let other : networks.Request ≡ networks.Response = sym h
      ∙ ap network_of same ∙ n in cc);
  fill = λ o e n. let same : m ≡ o = cc in absurd
      (let other : networks.Request ≡ networks.Fill = sym h ∙ ap network_of same ∙ n in cc);
  history = history;
}

-- a fill's receiver is the peer
peer-room : (y : Hardware) (c to : ℕ) (peer : Option ℕ) → peer ≡ Some to → IfSome peer (λ p. 1 ≤ room y.fills (fill_place p c))
    → 1 ≤ room y.fills (fill_place to c)
peer-room y c to peer e h = subst (λ (o : Option ℕ). IfSome o (λ p. 1 ≤ room y.fills (fill_place p c))) e h

room-answered : (y : Hardware) (c : ℕ) (peer : Option ℕ) (sent : Option Row) → Answers peer sent → 1 ≤ room y.responses c
    → IfSome peer (λ to. 1 ≤ room y.fills (fill_place to c)) → vec_len y.history < vec_capacity y.history → HasRoomFor y c sent
room-answered y c peer None h response fill history = record {
  request = λ m e n. absurd (cc);
  response = λ m e n. response;
  fill = λ m e n. absurd (cc);
  history = history;
}
room-answered y c peer (Some m) h response fill history = record {
  request = λ o e n. let same : m ≡ o = cc in absurd (h.no_request (ap network_of same ∙ n));
  response = λ o e n. response;
  fill = λ o e n.
      let same : m ≡ o = cc in
      peer-room y c (receiver_of o) peer (h.fill (ap network_of same ∙ n) ∙ ap (λ (r : Row). Some (receiver_of r)) same) fill;
  history = history;
}

-- the room that the step of a call needs
pub issue-room : (y : Hardware) (k : Shape) (old new : CacheState) (c : ℕ) (op : Op) (way : ℕ) (step : CacheStep)
    → table.issue k old c op way ≡ Some (record { state = new; sent = step.sent; done = step.done; way = step.way })
    → 1 ≤ room y.requests c → vec_len y.history < vec_capacity y.history → HasRoomFor y c step.sent
issue-room y k old new c op way step e request history =
    room-asked y c step.sent (taken-asks old.busy (table.issue_row k old c op way) _ (issue-asks k old c op way) e) request history

pub command-room : (y : Hardware) (k : Shape) (old new : CacheState) (c : ℕ) (m : Row) (step : CacheStep)
    → table.command k old c m ≡ Some (record { state = new; sent = step.sent; done = step.done; way = step.way })
    → 1 ≤ room y.responses c → IfSome (peer_of m) (λ to. 1 ≤ room y.fills (fill_place to c))
    → vec_len y.history < vec_capacity y.history → HasRoomFor y c step.sent
command-room y k old new c m step e response fill history =
    room-answered y c (peer_of m) step.sent (taken-answers (peer_of m) (table.command k old c m) _ (command-answers k old c m) e) response
    fill history

pub fill-room : (y : Hardware) (k : Shape) (old new : CacheState) (c : ℕ) (m : Row) (step : CacheStep)
    → table.fill k old c m ≡ Some (record { state = new; sent = step.sent; done = step.done; way = step.way })
    → 1 ≤ room y.responses c → vec_len y.history < vec_capacity y.history → HasRoomFor y c step.sent
fill-room y k old new c m step e response history =
    room-answered y c None step.sent (taken-answers None (table.fill k old c m) _ (fill-answers k old c m) e) response tt history
