-- What each row of a cache's table leaves and sends is well formed.
use Rattle.std.proofs.Common.{◌≡◌, ℕ, eqb, ◌&&◌, ◌∙◌, List, [], ◌∷◌, ◌++◌, length, Option, Some, None, IfSome, option_to_list, length-set}
use Rattle.bk_base.specs.Places.{Shape, IsAddr, block_of, word_of, group_of, tag_at}
use Rattle.bk_base.specs.States.{is_writable, is_dirty}
use Rattle.bk_base.specs.declared.coh.Coh.{Coh}
use Rattle.bk_base.specs.declared.op.Op.{Op as Operation}
use Rattle.bk_base.specs.declared.op.Op.TheVariants as ops
use Rattle.bk_base.specs.declared.op.Done.{Done}
use Rattle.bk_msg.specs.declared.row.Row.{Row}
use Rattle.bk_msg.specs.declared.row.Row.TheVariants as rows
use Rattle.bk_lce.specs.declared.line.Line.{Line}
use Rattle.bk_lce.specs.declared.line.InProgress.{InProgress as Begun}
use Rattle.bk_lce.specs.CacheState.{CacheState, found, line_at, holds}
use Rattle.bk_lce.specs.CacheTable as table
use Rattle.bk_lce.specs.CacheTable.{Transition}
use Rattle.bk_system.specs.State.{State}
use Rattle.bk_system.specs.Events.{with_taken}
use Rattle.bk_bridge.specs.Formed.{WellFormed, IsWhole, AreAddressed}
use Rattle.bk_bridge.proofs.Places.{start_IsAddr}
use Rattle.bk_bridge.proofs.Formed.{cond-all, put-all, guard, requests-formed, responses-formed, fills-formed, HaveEight, line-formed}

abbrev pub IsLawfulBusy : Option Begun → Type 0
IsLawfulBusy o = IfSome o (λ b. IsAddr (table.address_of b.op))

pub record FormedTaken (t : Transition) : Type 0 where
  pub lines : HaveEight t.state.lines
  pub busy : IsLawfulBusy t.state.busy
  pub sent : IfSome t.sent IsWhole
  pub done : IfSome t.done (λ d. IsAddr (table.address_of d.op))

-- a history with the operation that completes
longer : (ds : List Done) (o : Option Done) → AreAddressed ds → IfSome o (λ d. IsAddr (table.address_of d.op))
    → AreAddressed (ds ++ option_to_list o)
longer [] None h g = tt
longer [] (Some d) h g = (g, tt)
longer (d ∷ ds) o h g = (h.0, longer ds o h.1 g)

pub taken_keeps : (k : Shape) (s : State) (c : ℕ) (t : Transition) → WellFormed k s → FormedTaken t
    → WellFormed k (with_taken s c t).state
taken_keeps k s c t f h = record {
  profile = f.profile;
  lines = put-all (λ (cache : CacheState). HaveEight cache.lines) s.caches c t.state f.lines h.lines;
  busy = put-all (λ (cache : CacheState). IsLawfulBusy cache.busy) s.caches c t.state f.busy h.busy;
  request = requests-formed c t.sent s.request h.sent f.request;
  command = f.command;
  fill = fills-formed c t.sent s.fill h.sent f.fill;
  response = responses-formed c t.sent s.response h.sent f.response;
  memout = f.memout;
  memin = f.memin;
  history = longer s.history t.done f.history h.done;
  engine = f.engine;
}

-- one cache's state
pub record FormedCache (cache : CacheState) : Type 0 where
  pub lines : HaveEight cache.lines
  pub busy : IsLawfulBusy cache.busy

-- ISSUE

asks-formed : (cache : CacheState) (op : Operation) (way : ℕ) (m : Row) → FormedCache cache
    → IsAddr (table.address_of op) → IsWhole m
    → FormedTaken (table.request_row cache op way m)
asks-formed cache op way m f a h = record { lines = f.lines; busy = a; sent = h; done = tt }

stored-eight : (line : Line) (addr value : ℕ) → length line.words ≡ 8 → length (table.stored_line line addr value).words ≡ 8
stored-eight line addr value e = length-set line.words (word_of addr) value ∙ e

load-formed : (k : Shape) (cache : CacheState) (c addr way : ℕ) (o : Option ℕ) → FormedCache cache → IsAddr addr
    → FormedTaken (table.load_row k cache c addr way o)
load-formed k cache c addr way None f a = asks-formed cache (ops.Load addr) way _ f a (record { address = start_IsAddr addr a; block = tt })
load-formed k cache c addr way (Some v) f a = record { lines = f.lines; busy = f.busy; sent = tt; done = a }

store-formed : (k : Shape) (cache : CacheState) (c addr value way : ℕ) (o : Option ℕ) → FormedCache cache → IsAddr addr
    → FormedTaken (table.store_row k cache c addr value way o)
store-formed k cache c addr value way None f a =
    asks-formed cache (ops.Store addr value) way _ f a (record { address = start_IsAddr addr a; block = tt })
store-formed k cache c addr value way (Some v) f a =
    cond-all FormedTaken (is_writable (line_at k cache addr v).state) _ _
    (record {
      lines = line-formed cache.lines (group_of k addr) v _ f.lines
          (stored-eight (line_at k cache addr v) addr value (f.lines (group_of k addr) v));
      busy = f.busy;
      sent = tt;
      done = a;
    })
    (asks-formed cache (ops.Store addr value) v _ f a (record { address = start_IsAddr addr a; block = tt }))

evict-formed : (cache : CacheState) (c addr : ℕ) (o : Option ℕ) → FormedCache cache → IsAddr addr
    → FormedTaken (table.evict_row cache c addr o)
evict-formed cache c addr None f a = record { lines = f.lines; busy = f.busy; sent = tt; done = a }
evict-formed cache c addr (Some v) f a = asks-formed cache (ops.Evict addr) v _ f a (record { address = start_IsAddr addr a; block = tt })

issue_row-formed : (k : Shape) (cache : CacheState) (c : ℕ) (op : Operation) (way : ℕ) → FormedCache cache
    → IsAddr (table.address_of op)
    → FormedTaken (table.issue_row k cache c op way)
issue_row-formed k cache c (ops.Load addr) way f a = load-formed k cache c addr way (found k cache addr) f a
issue_row-formed k cache c (ops.Store addr value) way f a = store-formed k cache c addr value way (found k cache addr) f a
issue_row-formed k cache c (ops.UcLoad addr) way f a = asks-formed cache (ops.UcLoad addr) 0 _ f a (record { address = a; block = tt })
issue_row-formed k cache c (ops.UcStore addr value) way f a =
    asks-formed cache (ops.UcStore addr value) 0 _ f a (record { address = a; block = tt })
issue_row-formed k cache c (ops.Evict addr) way f a = evict-formed cache c addr (found k cache addr) f a

idle-formed : (o : Option Begun) (t : Transition) → FormedTaken t → IfSome (table.if_idle o t) FormedTaken
idle-formed None t h = h
idle-formed (Some b) t h = tt

pub issue-formed : (k : Shape) (cache : CacheState) (c : ℕ) (op : Operation) (way : ℕ) → FormedCache cache
    → IsAddr (table.address_of op)
    → IfSome (table.issue k cache c op way) FormedTaken
issue-formed k cache c op way f a = idle-formed cache.busy (table.issue_row k cache c op way) (issue_row-formed k cache c op way f a)

-- MESSAGES THAT ASK SOMETHING OF A CACHE

wiped-eight : (lines : ℕ → Line) (t w : ℕ) → length (lines w).words ≡ 8 → length (table.wiped_line t (lines w)).words ≡ 8
wiped-eight lines t w e = cond-all (λ (l : Line). length l.words ≡ 8) (holds (lines w) t) _ (lines w) e e

flush_answer-whole : (c addr : ℕ) (line : Line) → IsAddr addr → length line.words ≡ 8 → IsWhole (table.flush_answer c addr line)
flush_answer-whole c addr line a e =
    cond-all IsWhole (is_dirty line.state) _ _ (record { address = start_IsAddr addr a; block = e })
    (record { address = start_IsAddr addr a; block = tt })

lowered-eight : (k : Shape) (cache : CacheState) (addr w : ℕ) (state : Coh) → HaveEight cache.lines
    → HaveEight (table.with_line_state k cache addr w state).lines
lowered-eight k cache addr w state h = line-formed cache.lines (group_of k addr) w _ h (h (group_of k addr) w)

flush-formed : (k : Shape) (cache : CacheState) (c addr : ℕ) (state : Coh) (o : Option ℕ) → FormedCache cache → IsAddr addr
    → IfSome (table.flush_row k cache c addr state o) FormedTaken
flush-formed k cache c addr state None f a = tt
flush-formed k cache c addr state (Some v) f a = record {
  lines = lowered-eight k cache addr v state f.lines;
  busy = f.busy;
  sent = flush_answer-whole c addr (line_at k cache addr v) a (f.lines (group_of k addr) v);
  done = tt;
}

transfer-formed : (k : Shape) (cache : CacheState) (c addr : ℕ) (state : Coh) (peer peer_way : ℕ) (peer_state : Coh) (o : Option ℕ)
    → FormedCache cache
    → IsAddr addr
    → IfSome (table.transfer_row k cache c addr state peer peer_way peer_state o) FormedTaken
transfer-formed k cache c addr state peer peer_way peer_state None f a = tt
transfer-formed k cache c addr state peer peer_way peer_state (Some v) f a =
    cond-all (λ (o : Option Transition). IfSome o FormedTaken) (eqb peer c) None _ tt (record {
      lines = lowered-eight k cache addr v state f.lines;
      busy = f.busy;
      sent = record { address = start_IsAddr addr a; block = f.lines (group_of k addr) v };
      done = tt;
    })

-- MESSAGES THAT COMPLETE THE OPERATION IN PROGRESS

completes-formed : (cache : CacheState) (c : ℕ) (op : Operation) (answer way : ℕ) → HaveEight cache.lines
    → IsAddr (table.address_of op)
    → FormedTaken (table.completion_row cache c op (table.address_of op) answer way)
completes-formed cache c op answer way f a =
    record { lines = f; busy = tt; sent = record { address = start_IsAddr (table.address_of op) a; block = tt }; done = a }

fills_line-formed : (k : Shape) (cache : CacheState) (c : ℕ) (op : Operation) (answer w : ℕ) (line : Line) → HaveEight cache.lines
    → IsAddr (table.address_of op) → length line.words ≡ 8
    → FormedTaken (table.filled_row k cache c op (table.address_of op) answer w line)
fills_line-formed k cache c op answer w line f a e = record {
  lines = line-formed cache.lines (group_of k (table.address_of op)) w line f e;
  busy = tt;
  sent = record { address = start_IsAddr (table.address_of op) a; block = tt };
  done = a;
}

grant-formed : (k : Shape) (cache : CacheState) (c way : ℕ) (state : Coh) (addr : ℕ) (words : List ℕ) (op : Operation)
    → HaveEight cache.lines
    → IsAddr (table.address_of op) → length words ≡ 8
    → IfSome (table.grant_row k cache c way state addr words op) FormedTaken
grant-formed k cache c way state addr words (ops.Load at) f a e =
    guard FormedTaken (eqb (block_of at) (block_of addr)) _ (fills_line-formed k cache c (ops.Load at) _ way _ f a e)
grant-formed k cache c way state addr words (ops.Store at value) f a e =
    guard FormedTaken (eqb (block_of at) (block_of addr) && is_writable state) _
    (fills_line-formed k cache c (ops.Store at value) 0 way _ f a
    (stored-eight (record { tag = tag_at k at; state = state; words = words }) at value e))
grant-formed k cache c way state addr words (ops.UcLoad at) f a e = tt
grant-formed k cache c way state addr words (ops.UcStore at value) f a e = tt
grant-formed k cache c way state addr words (ops.Evict at) f a e = tt

granted-formed : (k : Shape) (cache : CacheState) (c way : ℕ) (state : Coh) (addr : ℕ) (words : List ℕ) (o : Option Begun)
    → HaveEight cache.lines
    → IsLawfulBusy o → length words ≡ 8
    → IfSome (table.grant_for k cache c way state addr words o) FormedTaken
granted-formed k cache c way state addr words None f a e = tt
granted-formed k cache c way state addr words (Some b) f a e =
    guard FormedTaken (eqb b.way way) _ (grant-formed k cache c way state addr words b.op f a e)

wake-formed : (k : Shape) (cache : CacheState) (c way addr : ℕ) (op : Operation) → HaveEight cache.lines
    → IsAddr (table.address_of op)
    → IfSome (table.wake_row k cache c way addr op) FormedTaken
wake-formed k cache c way addr (ops.Store at value) f a =
    guard FormedTaken (eqb (block_of at) (block_of addr) && holds (line_at k cache at way) (tag_at k at)) _
    (fills_line-formed k cache c (ops.Store at value) 0 way _ f a (stored-eight (line_at k cache at way) at value (f (group_of k at) way)))
wake-formed k cache c way addr (ops.Load at) f a = tt
wake-formed k cache c way addr (ops.UcLoad at) f a = tt
wake-formed k cache c way addr (ops.UcStore at value) f a = tt
wake-formed k cache c way addr (ops.Evict at) f a = tt

woken-formed : (k : Shape) (cache : CacheState) (c way addr : ℕ) (o : Option Begun) → HaveEight cache.lines → IsLawfulBusy o
    → IfSome (table.wake_for k cache c way addr o) FormedTaken
woken-formed k cache c way addr None f a = tt
woken-formed k cache c way addr (Some b) f a = guard FormedTaken (eqb b.way way) _ (wake-formed k cache c way addr b.op f a)

ends-formed : (o : Option Begun) (row : ℕ → Operation → Option Transition) → IsLawfulBusy o
    → ((way : ℕ) (op : Operation) → IsAddr (table.address_of op) → IfSome (row way op) FormedTaken)
    → IfSome (table.by_operation o row) FormedTaken
ends-formed None row a h = tt
ends-formed (Some b) row a h = h b.way b.op a

word-formed : (cache : CacheState) (c way addr word : ℕ) (op : Operation) → HaveEight cache.lines → IsAddr (table.address_of op)
    → IfSome (table.word_row cache c way addr word op) FormedTaken
word-formed cache c way addr word (ops.UcLoad at) f a =
    guard FormedTaken (eqb at addr) _ (completes-formed cache c (ops.UcLoad at) word way f a)
word-formed cache c way addr word (ops.Load at) f a = tt
word-formed cache c way addr word (ops.Store at value) f a = tt
word-formed cache c way addr word (ops.UcStore at value) f a = tt
word-formed cache c way addr word (ops.Evict at) f a = tt

written-formed : (cache : CacheState) (c way addr : ℕ) (op : Operation) → HaveEight cache.lines → IsAddr (table.address_of op)
    → IfSome (table.written_row cache c way addr op) FormedTaken
written-formed cache c way addr (ops.UcStore at value) f a =
    guard FormedTaken (eqb at addr) _ (completes-formed cache c (ops.UcStore at value) 0 way f a)
written-formed cache c way addr (ops.Load at) f a = tt
written-formed cache c way addr (ops.Store at value) f a = tt
written-formed cache c way addr (ops.UcLoad at) f a = tt
written-formed cache c way addr (ops.Evict at) f a = tt

evicted-formed : (cache : CacheState) (c way addr : ℕ) (op : Operation) → HaveEight cache.lines → IsAddr (table.address_of op)
    → IfSome (table.evicted_row cache c way addr op) FormedTaken
evicted-formed cache c way addr (ops.Evict at) f a =
    guard FormedTaken (eqb (block_of at) (block_of addr)) _ (completes-formed cache c (ops.Evict at) 0 way f a)
evicted-formed cache c way addr (ops.Load at) f a = tt
evicted-formed cache c way addr (ops.Store at value) f a = tt
evicted-formed cache c way addr (ops.UcLoad at) f a = tt
evicted-formed cache c way addr (ops.UcStore at value) f a = tt

-- Each row writes lines of eight words, those of the message or those it had, and what it sends starts at the message's aligned address.
pub command-formed : (k : Shape) (cache : CacheState) (c : ℕ) (m : Row) → FormedCache cache → IsWhole m
    → IfSome (table.command k cache c m) FormedTaken
command-formed k cache c (rows.Inv _ _ addr) f h = record {
  lines = put-all (λ (row : ℕ → Line). (w : ℕ) → length (row w).words ≡ 8) cache.lines (group_of k addr) _ f.lines
      (λ w. wiped-eight (cache.lines (group_of k addr)) (tag_at k addr) w (f.lines (group_of k addr) w));
  busy = f.busy;
  sent = record { address = start_IsAddr addr h.address; block = tt };
  done = tt;
}
command-formed k cache c (rows.StWb _ _ state addr) f h = flush-formed k cache c addr state (found k cache addr) f h.address
command-formed k cache c (rows.StTr _ _ state peer peer_way peer_state addr) f h =
    transfer-formed k cache c addr state peer peer_way peer_state (found k cache addr) f h.address
command-formed k cache c (rows.Blk _ _ way state addr words) f h =
    granted-formed k cache c way state addr words cache.busy f.lines f.busy h.block
command-formed k cache c (rows.StWake _ _ way _ addr) f h = woken-formed k cache c way addr cache.busy f.lines f.busy
command-formed k cache c (rows.UcBlk _ _ addr word) f h =
    ends-formed cache.busy _ f.busy (λ way op a. word-formed cache c way addr word op f.lines a)
command-formed k cache c (rows.UcDone _ _ addr) f h =
    ends-formed cache.busy _ f.busy (λ way op a. written-formed cache c way addr op f.lines a)
command-formed k cache c (rows.Done _ _ addr) f h =
    ends-formed cache.busy _ f.busy (λ way op a. evicted-formed cache c way addr op f.lines a)
command-formed k cache c m f h = tt

pub fill-formed : (k : Shape) (cache : CacheState) (c : ℕ) (m : Row) → FormedCache cache → IsWhole m
    → IfSome (table.fill k cache c m) FormedTaken
fill-formed k cache c (rows.Fill _ _ way state addr words) f h =
    granted-formed k cache c way state addr words cache.busy f.lines f.busy h.block
fill-formed k cache c m f h = tt
