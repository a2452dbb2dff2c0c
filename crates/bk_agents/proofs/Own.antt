-- What a row of a cache's table sends goes on a network on which caches send, and what it completes is the cache's own.
use Rattle.std.proofs.Common.{◌≡◌, ℕ, Bool, true, false, ◌&&◌, ◌==◌, if◌then◌else◌, refl, List, Option, Some, None}
use Rattle.bk_base.specs.Places.{Shape, block_of, block_start, group_of, tag_at}
use Rattle.bk_base.specs.States.{is_dirty, is_writable}
use Rattle.bk_base.specs.declared.coh.Coh.{Coh}
use Rattle.bk_base.specs.declared.op.Op.{Op}
use Rattle.bk_base.specs.declared.op.Op.TheVariants.{Load, Store, UcLoad, UcStore, Evict}
use Rattle.bk_base.specs.declared.op.Done.{Done}
use Rattle.bk_msg.specs.declared.row.Row.{Row}
use Rattle.bk_msg.specs.declared.row.Row.TheVariants as rows
use Rattle.bk_msg.specs.declared.row.TheConstants.{ENGINE}
use Rattle.bk_msg.specs.declared.row.Network.{Network}
use Rattle.bk_msg.specs.declared.row.Network.TheVariants as networks
use Rattle.bk_msg.specs.Networks.{network_of}
use Rattle.bk_lce.specs.declared.line.Line.{Line}
use Rattle.bk_lce.specs.declared.line.InProgress.{InProgress}
use Rattle.bk_lce.specs.CacheState.{CacheState, found, holds, line_at, with_line, used}
use Rattle.bk_lce.specs.CacheTable as table
use Rattle.bk_lce.specs.CacheTable.{Transition}

-- a cache sends on these three
abbrev pub IsCaches : Network → Type 0
IsCaches networks.Request = Unit {0}
IsCaches networks.Command = ⊥
IsCaches networks.Fill = Unit {0}
IsCaches networks.Response = Unit {0}
IsCaches networks.Memout = ⊥
IsCaches networks.Memin = ⊥

abbrev pub SendsOwn : Option Row → Type 0
SendsOwn None = Unit {0}
SendsOwn (Some m) = IsCaches (network_of m)

abbrev pub CompletesOwn : ℕ → Option Done → Type 0
CompletesOwn c None = Unit {0}
CompletesOwn c (Some done) = done.cache ≡ c

pub record Own (c : ℕ) (t : Transition) : Type 0 where
  pub sent : SendsOwn t.sent
  pub done : CompletesOwn c t.done

-- of a row, where there is one
abbrev pub MayBeOwn : ℕ → Option Transition → Type 0
MayBeOwn c None = Unit {0}
MayBeOwn c (Some t) = Own c t

only_if : (c : ℕ) (b : Bool) (o : Option Transition) → MayBeOwn c o → MayBeOwn c (if b then o else None)
only_if c true o h = h
only_if c false o h = tt

not_if : (c : ℕ) (b : Bool) (t : Transition) → Own c t → MayBeOwn c (if b then None else Some t)
not_if c true t h = tt
not_if c false t h = h

either : (c : ℕ) (b : Bool) (t u : Transition) → Own c t → Own c u → Own c (if b then t else u)
either c true t u p q = p
either c false t u p q = q

module _ (k : Shape) (cache : CacheState) (c : ℕ) where
  -- AN OPERATION IS GIVEN

  asks : (op : Op) (way : ℕ) (m : Row) → IsCaches (network_of m) → Own c (table.request_row cache op way m)
  asks op way m h = record { sent = h; done = tt }

  hits : (after : CacheState) (op : Op) (answer way : ℕ) → Own c (table.hit_row after c op answer way)
  hits after op answer way = record { sent = tt; done = refl }

  load_own : (addr way : ℕ) (o : Option ℕ) → Own c (table.load_row k cache c addr way o)
  load_own addr way None = asks (Load addr) way _ tt
  load_own addr way (Some w) = hits _ (Load addr) _ w

  store_own : (addr value way : ℕ) (o : Option ℕ) → Own c (table.store_row k cache c addr value way o)
  store_own addr value way None = asks (Store addr value) way _ tt
  store_own addr value way (Some w) =
      either c (is_writable (line_at k cache addr w).state) _ _ (hits _ (Store addr value) 0 w) (asks (Store addr value) w _ tt)

  evict_own : (addr : ℕ) (o : Option ℕ) → Own c (table.evict_row cache c addr o)
  evict_own addr None = hits cache (Evict addr) 0 0
  evict_own addr (Some w) = asks (Evict addr) w _ tt

  row_own : (op : Op) (way : ℕ) → Own c (table.issue_row k cache c op way)
  row_own (Load addr) way = load_own addr way (found k cache addr)
  row_own (Store addr value) way = store_own addr value way (found k cache addr)
  row_own (UcLoad addr) way = asks (UcLoad addr) 0 _ tt
  row_own (UcStore addr value) way = asks (UcStore addr value) 0 _ tt
  row_own (Evict addr) way = evict_own addr (found k cache addr)

  if_idle : (busy : Option InProgress) (t : Transition) → Own c t → MayBeOwn c (table.if_idle busy t)
  if_idle None t h = h
  if_idle (Some busy) t h = tt

  pub issue_own : (op : Op) (way : ℕ) → MayBeOwn c (table.issue k cache c op way)
  issue_own op way = if_idle cache.busy _ (row_own op way)

  -- A MESSAGE COMES

  answers : (after : CacheState) (m : Row) → IsCaches (network_of m) → Own c (table.answer_row after m)
  answers after m h = record { sent = h; done = tt }

  completes : (after : CacheState) (op : Op) (addr answer way : ℕ) → Own c (table.completion_row after c op addr answer way)
  completes after op addr answer way = record { sent = tt; done = refl }

  fills : (op : Op) (addr answer w : ℕ) (line : Line) → Own c (table.filled_row k cache c op addr answer w line)
  fills op addr answer w line = completes (used (with_line cache (group_of k addr) w line) (group_of k addr) w) op addr answer w

  flush_answers : (addr : ℕ) (line : Line) → IsCaches (network_of (table.flush_answer c addr line))
  flush_answers addr line = go (is_dirty line.state)
    where
      go : (b : Bool)
          → IsCaches (network_of (if b then rows.Wb c ENGINE (block_start addr) line.words else rows.NullWb c ENGINE (block_start addr)))
      go true = tt
      go false = tt

  flush_own : (addr : ℕ) (state : Coh) (o : Option ℕ) → MayBeOwn c (table.flush_row k cache c addr state o)
  flush_own addr state None = tt
  flush_own addr state (Some w) = answers _ _ (flush_answers addr (line_at k cache addr w))

  transfer_own : (addr : ℕ) (state : Coh) (peer peer_way : ℕ) (peer_state : Coh) (o : Option ℕ)
      → MayBeOwn c (table.transfer_row k cache c addr state peer peer_way peer_state o)
  transfer_own addr state peer peer_way peer_state None = tt
  transfer_own addr state peer peer_way peer_state (Some w) = not_if c (peer == c) _ (answers _ _ tt)

  grant_own : (way : ℕ) (state : Coh) (addr : ℕ) (words : List ℕ) (op : Op)
      → MayBeOwn c (table.grant_row k cache c way state addr words op)
  grant_own way state addr words (Load at) = only_if c (block_of at == block_of addr) _ (fills (Load at) at _ way _)
  grant_own way state addr words (Store at value) =
      only_if c (block_of at == block_of addr && is_writable state) _ (fills (Store at value) at 0 way _)
  grant_own way state addr words (UcLoad at) = tt
  grant_own way state addr words (UcStore at value) = tt
  grant_own way state addr words (Evict at) = tt

  granted_own : (way : ℕ) (state : Coh) (addr : ℕ) (words : List ℕ) (busy : Option InProgress)
      → MayBeOwn c (table.grant_for k cache c way state addr words busy)
  granted_own way state addr words None = tt
  granted_own way state addr words (Some busy) = only_if c (busy.way == way) _ (grant_own way state addr words busy.op)

  wake_own : (way addr : ℕ) (op : Op) → MayBeOwn c (table.wake_row k cache c way addr op)
  wake_own way addr (Load at) = tt
  wake_own way addr (Store at value) =
      only_if c (block_of at == block_of addr && holds (line_at k cache at way) (tag_at k at)) _ (fills (Store at value) at 0 way _)
  wake_own way addr (UcLoad at) = tt
  wake_own way addr (UcStore at value) = tt
  wake_own way addr (Evict at) = tt

  woken_own : (way addr : ℕ) (busy : Option InProgress) → MayBeOwn c (table.wake_for k cache c way addr busy)
  woken_own way addr None = tt
  woken_own way addr (Some busy) = only_if c (busy.way == way) _ (wake_own way addr busy.op)

  word_own : (way addr word : ℕ) (op : Op) → MayBeOwn c (table.word_row cache c way addr word op)
  word_own way addr word (Load at) = tt
  word_own way addr word (Store at value) = tt
  word_own way addr word (UcLoad at) = only_if c (at == addr) _ (completes cache (UcLoad at) at word way)
  word_own way addr word (UcStore at value) = tt
  word_own way addr word (Evict at) = tt

  written_own : (way addr : ℕ) (op : Op) → MayBeOwn c (table.written_row cache c way addr op)
  written_own way addr (Load at) = tt
  written_own way addr (Store at value) = tt
  written_own way addr (UcLoad at) = tt
  written_own way addr (UcStore at value) = only_if c (at == addr) _ (completes cache (UcStore at value) at 0 way)
  written_own way addr (Evict at) = tt

  evicted_own : (way addr : ℕ) (op : Op) → MayBeOwn c (table.evicted_row cache c way addr op)
  evicted_own way addr (Load at) = tt
  evicted_own way addr (Store at value) = tt
  evicted_own way addr (UcLoad at) = tt
  evicted_own way addr (UcStore at value) = tt
  evicted_own way addr (Evict at) = only_if c (block_of at == block_of addr) _ (completes cache (Evict at) at 0 way)

  by_operation : (busy : Option InProgress) (row : ℕ → Op → Option Transition) → ((way : ℕ) (op : Op) → MayBeOwn c (row way op))
      → MayBeOwn c (table.by_operation busy row)
  by_operation None row h = tt
  by_operation (Some busy) row h = h busy.way busy.op

  pub command_own : (m : Row) → MayBeOwn c (table.command k cache c m)
  command_own (rows.Inv from to addr) = answers _ _ tt
  command_own (rows.StWb from to state addr) = flush_own addr state (found k cache addr)
  command_own (rows.StTr from to state peer peer_way peer_state addr) =
      transfer_own addr state peer peer_way peer_state (found k cache addr)
  command_own (rows.Blk from to way state addr words) = granted_own way state addr words cache.busy
  command_own (rows.StWake from to way state addr) = woken_own way addr cache.busy
  command_own (rows.UcBlk from to addr word) = by_operation cache.busy _ (λ way op. word_own way addr word op)
  command_own (rows.UcDone from to addr) = by_operation cache.busy _ (λ way op. written_own way addr op)
  command_own (rows.Done from to addr) = by_operation cache.busy _ (λ way op. evicted_own way addr op)
  command_own m = tt

  pub fill_own : (m : Row) → MayBeOwn c (table.fill k cache c m)
  fill_own (rows.Fill from to way state addr words) = granted_own way state addr words cache.busy
  fill_own m = tt
