-- What a row sends names caches and ways of the configuration, and what it completes is the cache's own.
use Rattle.std.proofs.Common.{◌≡◌, ℕ, zero, suc, ◌<◌, Bool, true, false, ◌&&◌, ◌==◌, if◌then◌else◌, List, Option, Some, None, Result, Ok, Err, IfOk, refl, sym, ap, subst, ◌∙◌, arith}
use Rattle.std.proofs.lemmas.Option.{same_Some}
use Rattle.bk_base.specs.Places.{Shape, block_of, block_start, group_of, tag_at}
use Rattle.bk_base.specs.Counting.{least_below, or_else}
use Rattle.bk_base.specs.States.{is_dirty, is_writable}
use Rattle.bk_base.specs.declared.coh.Coh.{Coh}
use Rattle.bk_base.specs.declared.op.Op.{Op}
use Rattle.bk_base.specs.declared.op.Op.TheVariants.{Load, Store, UcLoad, UcStore, Evict}
use Rattle.bk_base.specs.declared.op.Done.{Done}
use Rattle.bk_msg.specs.declared.row.Row.{Row}
use Rattle.bk_msg.specs.declared.row.Row.TheVariants as rows
use Rattle.bk_msg.specs.declared.row.TheConstants.{ENGINE}
use Rattle.bk_msg.specs.Within.{IsWithin}
use Rattle.bk_lce.specs.declared.line.Line.{Line}
use Rattle.bk_lce.specs.declared.line.InProgress.{InProgress}
use Rattle.bk_lce.specs.declared.line.CacheStep.{CacheStep}
use Rattle.bk_lce.specs.CacheState.{CacheState, found, holds, line_at, with_line, used}
use Rattle.bk_lce.specs.CacheTable.{Transition, request_row, hit_row, answer_row, completion_row, filled_row, load_row, store_row, evict_row, issue_row, flush_answer, flush_row, transfer_row, grant_row, grant_for, wake_row, wake_for, word_row, written_row, evicted_row, by_operation, command, fill, Gives, Takes, SendsWithin, CompletesOwn}

pub record Proper (k : Shape) (c : ℕ) (t : Transition) : Type 0 where
  pub within : (m : Row) → t.sent ≡ Some m → IsWithin k m
  pub own : (d : Done) → t.done ≡ Some d → d.cache ≡ c

-- ---- the ways that are found

least_at : (n : ℕ) (test : ℕ → Bool) (b : Bool) (w : ℕ) → (if b then Some n else None) ≡ Some w → w < suc n
least_at n test true w e = let same : n ≡ w = same_Some n w e in omega arith
least_at n test false w e = absurd cc

least_or : (n : ℕ) (test : ℕ → Bool) (o : Option ℕ) (w : ℕ) → ((v : ℕ) → o ≡ Some v → v < n)
    → or_else o (if test n then Some n else None) ≡ Some w → w < suc n
least_or n test None w h e = least_at n test (test n) w e
least_or n test (Some v) w h e =
    let below : v < n = h v refl in
    let same : v ≡ w = same_Some v w e in
    omega arith

-- the least number below a count is below it
pub least_within : (n : ℕ) (test : ℕ → Bool) (w : ℕ) → least_below n test ≡ Some w → w < n
least_within zero test w e = absurd cc
least_within (suc n) test w e = least_or n test (least_below n test) w (least_within n test) e

-- the way that is found is one of the cache
pub found_within : (k : Shape) (cache : CacheState) (addr w : ℕ) → found k cache addr ≡ Some w → w < k.ways
found_within k cache addr w e = least_within k.ways (λ v. holds (line_at k cache addr v) (tag_at k addr)) w e

module _ (k : Shape) (cache : CacheState) (c : ℕ) (is_cache : c < k.caches) where
  is_within : (sent : Row) → IsWithin k sent → (m : Row) → Some sent ≡ Some m → IsWithin k m
  is_within sent h m e = subst (IsWithin k) (same_Some sent m e) h

  -- ---- an operation is given

  asks_is : (op : Op) (way : ℕ) (m : Row) → IsWithin k m → Proper k c (request_row cache op way m)
  asks_is op way m h = record { within = is_within m h; own = λ d e. absurd cc }

  hits_is : (now_cache : CacheState) (op : Op) (answer way : ℕ) → Proper k c (hit_row now_cache c op answer way)
  hits_is now_cache op answer way = record { within = λ m e. absurd cc; own = λ d e. ap (λ (x : Done). x.cache) (sym (same_Some _ d e)) }

  load_is : (addr way : ℕ) (at : Option ℕ) → way < k.ways → Proper k c (load_row k cache c addr way at)
  load_is addr way None h = asks_is (Load addr) way _ (record { cache = is_cache; way = h })
  load_is addr way (Some w) h = hits_is _ (Load addr) _ w

  store_may : (addr value w : ℕ) (b : Bool) (hit : Transition) → Proper k c hit → w < k.ways
      → Proper k c (if b then hit else request_row cache (Store addr value) w (rows.Wr c ENGINE w (block_start addr)))
  store_may addr value w true hit p h = p
  store_may addr value w false hit p h = asks_is (Store addr value) w _ (record { cache = is_cache; way = h })

  store_is : (addr value way : ℕ) (at : Option ℕ) → way < k.ways → ((w : ℕ) → at ≡ Some w → w < k.ways)
      → Proper k c (store_row k cache c addr value way at)
  store_is addr value way None h l = asks_is (Store addr value) way _ (record { cache = is_cache; way = h })
  store_is addr value way (Some w) h l =
      store_may addr value w (is_writable (line_at k cache addr w).state) _ (hits_is _ (Store addr value) 0 w) (l w refl)

  evict_is : (addr : ℕ) (at : Option ℕ) → ((w : ℕ) → at ≡ Some w → w < k.ways) → Proper k c (evict_row cache c addr at)
  evict_is addr None l = hits_is cache (Evict addr) 0 0
  evict_is addr (Some w) l = asks_is (Evict addr) w _ (record { cache = is_cache; way = l w refl })

  pub issue_is : (op : Op) (way : ℕ) → way < k.ways → Proper k c (issue_row k cache c op way)
  issue_is (Load addr) way h = load_is addr way (found k cache addr) h
  issue_is (Store addr value) way h = store_is addr value way (found k cache addr) h (found_within k cache addr)
  issue_is (UcLoad addr) way h = asks_is (UcLoad addr) 0 _ is_cache
  issue_is (UcStore addr value) way h = asks_is (UcStore addr value) 0 _ is_cache
  issue_is (Evict addr) way h = evict_is addr (found k cache addr) (found_within k cache addr)

  -- ---- a message comes

  -- a row, where there is one
  abbrev MayBe : Option Transition → Type 0
  MayBe o = (t : Transition) → o ≡ Some t → Proper k c t

  some : (x : Transition) → Proper k c x → MayBe (Some x)
  some x h t e = subst (Proper k c) (same_Some x t e) h

  none : MayBe None
  none t e = absurd cc

  only_if : (b : Bool) (x : Transition) → Proper k c x → MayBe (if b then Some x else None)
  only_if true x h = some x h
  only_if false x h = none

  not_if : (b : Bool) (x : Transition) → Proper k c x → MayBe (if b then None else Some x)
  not_if true x h = none
  not_if false x h = some x h

  answers_is : (now_cache : CacheState) (m : Row) → IsWithin k m → Proper k c (answer_row now_cache m)
  answers_is now_cache m h = record { within = is_within m h; own = λ d e. absurd cc }

  completes_is : (now_cache : CacheState) (op : Op) (addr answer way : ℕ) → Proper k c (completion_row now_cache c op addr answer way)
  completes_is now_cache op addr answer way =
      record { within = is_within _ is_cache; own = λ d e. ap (λ (x : Done). x.cache) (sym (same_Some _ d e)) }

  fills_is : (op : Op) (addr answer w : ℕ) (line : Line) → Proper k c (filled_row k cache c op addr answer w line)
  fills_is op addr answer w line = completes_is (used (with_line cache (group_of k addr) w line) (group_of k addr) w) op addr answer w

  either : (b : Bool) (m y : Row) → IsWithin k m → IsWithin k y → IsWithin k (if b then m else y)
  either true m y p q = p
  either false m y p q = q

  flush_is : (addr : ℕ) (state : Coh) (at : Option ℕ) → MayBe (flush_row k cache c addr state at)
  flush_is addr state None = none
  flush_is addr state (Some w) =
      some _ (answers_is _ (flush_answer c addr (line_at k cache addr w))
      (either (is_dirty (line_at k cache addr w).state) _ _ is_cache is_cache))

  transfer_is : (addr : ℕ) (state : Coh) (peer peer_way : ℕ) (peer_state : Coh) (at : Option ℕ) → peer < k.caches
      → peer_way < k.ways
      → MayBe (transfer_row k cache c addr state peer peer_way peer_state at)
  transfer_is addr state peer peer_way peer_state None p q = none
  transfer_is addr state peer peer_way peer_state (Some w) p q =
      not_if (peer == c) _ (answers_is _ _ (is_cache, record { cache = p; way = q }))

  grant_is : (way : ℕ) (state : Coh) (addr : ℕ) (words : List ℕ) (op : Op) → MayBe (grant_row k cache c way state addr words op)
  grant_is way state addr words (Load at) = only_if (block_of at == block_of addr) _ (fills_is (Load at) at _ way _)
  grant_is way state addr words (Store at value) =
      only_if (block_of at == block_of addr && is_writable state) _ (fills_is (Store at value) at 0 way _)
  grant_is way state addr words (UcLoad at) = none
  grant_is way state addr words (UcStore at value) = none
  grant_is way state addr words (Evict at) = none

  where_it_is : (b : Bool) (o : Option Transition) → MayBe o → MayBe (if b then o else None)
  where_it_is true o h = h
  where_it_is false o h = none

  granted_is : (way : ℕ) (state : Coh) (addr : ℕ) (words : List ℕ) (busy : Option InProgress)
      → MayBe (grant_for k cache c way state addr words busy)
  granted_is way state addr words None = none
  granted_is way state addr words (Some busy) = where_it_is (busy.way == way) _ (grant_is way state addr words busy.op)

  wake_is : (way addr : ℕ) (op : Op) → MayBe (wake_row k cache c way addr op)
  wake_is way addr (Load at) = none
  wake_is way addr (Store at value) =
      only_if (block_of at == block_of addr && holds (line_at k cache at way) (tag_at k at)) _ (fills_is (Store at value) at 0 way _)
  wake_is way addr (UcLoad at) = none
  wake_is way addr (UcStore at value) = none
  wake_is way addr (Evict at) = none

  woken_is : (way addr : ℕ) (busy : Option InProgress) → MayBe (wake_for k cache c way addr busy)
  woken_is way addr None = none
  woken_is way addr (Some busy) = where_it_is (busy.way == way) _ (wake_is way addr busy.op)

  word_is : (way addr word : ℕ) (op : Op) → MayBe (word_row cache c way addr word op)
  word_is way addr word (Load at) = none
  word_is way addr word (Store at value) = none
  word_is way addr word (UcLoad at) = only_if (at == addr) _ (completes_is cache (UcLoad at) at word way)
  word_is way addr word (UcStore at value) = none
  word_is way addr word (Evict at) = none

  written_is : (way addr : ℕ) (op : Op) → MayBe (written_row cache c way addr op)
  written_is way addr (Load at) = none
  written_is way addr (Store at value) = none
  written_is way addr (UcLoad at) = none
  written_is way addr (UcStore at value) = only_if (at == addr) _ (completes_is cache (UcStore at value) at 0 way)
  written_is way addr (Evict at) = none

  evicted_is : (way addr : ℕ) (op : Op) → MayBe (evicted_row cache c way addr op)
  evicted_is way addr (Load at) = none
  evicted_is way addr (Store at value) = none
  evicted_is way addr (UcLoad at) = none
  evicted_is way addr (UcStore at value) = none
  evicted_is way addr (Evict at) = only_if (block_of at == block_of addr) _ (completes_is cache (Evict at) at 0 way)

  ends_is : (busy : Option InProgress) (row : ℕ → Op → Option Transition) → ((way : ℕ) (op : Op) → MayBe (row way op))
      → MayBe (by_operation busy row)
  ends_is None row h = none
  ends_is (Some busy) row h = h busy.way busy.op

  -- What a row sends comes from this cache, which is one of the configuration; only a Fill names another, the StTr's peer with its way,
  -- and those are in range as the StTr is. What it completes is this cache's own operation.
  pub command_is : (m : Row) → IsWithin k m → MayBe (command k cache c m)
  command_is (rows.Inv _ _ addr) h = some _ (answers_is _ _ is_cache)
  command_is (rows.StWb _ _ state addr) h = flush_is addr state (found k cache addr)
  command_is (rows.StTr _ _ state peer peer_way peer_state addr) h =
      transfer_is addr state peer peer_way peer_state (found k cache addr) h.1.cache h.1.way
  command_is (rows.Blk _ _ way state addr words) h = granted_is way state addr words cache.busy
  command_is (rows.StWake _ _ way _ addr) h = woken_is way addr cache.busy
  command_is (rows.UcBlk _ _ addr word) h = ends_is cache.busy _ (λ way op. word_is way addr word op)
  command_is (rows.UcDone _ _ addr) h = ends_is cache.busy _ (λ way op. written_is way addr op)
  command_is (rows.Done _ _ addr) h = ends_is cache.busy _ (λ way op. evicted_is way addr op)
  command_is (rows.Rd _ _ _ _) h = none
  command_is (rows.Wr _ _ _ _) h = none
  command_is (rows.UcRd _ _ _) h = none
  command_is (rows.UcWr _ _ _ _) h = none
  command_is (rows.Evict _ _ _ _) h = none
  command_is (rows.Fill _ _ _ _ _ _) h = none
  command_is (rows.InvAck _ _ _) h = none
  command_is (rows.CohAck _ _ _) h = none
  command_is (rows.Wb _ _ _ _) h = none
  command_is (rows.NullWb _ _ _) h = none
  command_is (rows.Read _ _ _) h = none
  command_is (rows.Write _ _ _ _) h = none
  command_is (rows.WriteWord _ _ _ _) h = none
  command_is (rows.Block _ _ _ _) h = none

  pub fill_is : (m : Row) → MayBe (fill k cache c m)
  fill_is (rows.Fill _ _ way state addr words) = granted_is way state addr words cache.busy
  fill_is m = none

  -- ---- and so of the step of a call that gives a row

  pub proper_steps : (E : Type 0) (row : Option Transition) (new : CacheState) → MayBe row → (r : Result CacheStep E)
      → Gives row cache new r
      → IfOk r (SendsWithin k) × IfOk r (CompletesOwn c)
  proper_steps E row new h (Ok step) g = let p = h _ g in (p.within, p.own)
  proper_steps E row new h (Err e) g = (tt, tt)

  pub proper_takes : (taken : Transition) (new : CacheState) (step : CacheStep) → Proper k c taken → Takes taken new step
      → SendsWithin k step
  proper_takes taken new step p g m e = p.within m (ap (λ (t : Transition). t.sent) g ∙ e)
