-- The table of a cache: what it does when it is given an operation, and when a message comes. A row a case; where there is no row,
-- nothing changes. `n` is the cache's state, `c` its number.
use Rattle.std.specs.Prelude.{◌≡◌, ℕ, List, Bool, ◌&&◌, ◌||◌, ◌==◌, if◌then◌else◌, Option, Some, None, is_some, Result, Ok, Err, slice_index, slice_set}
use Rattle.bk_base.specs.Places.{Shape, block_of, block_start, word_of, group_of, tag_at}
use Rattle.bk_base.specs.States.{is_writable, is_dirty}
use Rattle.bk_base.specs.Tables.{put}
use Rattle.bk_base.specs.declared.coh.Coh.{Coh}
use Rattle.bk_base.specs.declared.coh.Coh.TheVariants.{I, M}
use Rattle.bk_base.specs.declared.op.Op.{Op}
use Rattle.bk_base.specs.declared.op.Op.TheVariants.{Load, Store, UcLoad, UcStore, Evict}
use Rattle.bk_base.specs.declared.op.Done.{Done}
use Rattle.bk_msg.specs.declared.row.Row.{Row}
use Rattle.bk_msg.specs.declared.row.Row.TheVariants as rows
use Rattle.bk_msg.specs.declared.row.TheConstants.{ENGINE}
use Rattle.bk_msg.specs.Within.{IsWithin}
use Rattle.bk_lce.specs.declared.line.Line.{Line}
use Rattle.bk_lce.specs.declared.line.InProgress.{InProgress}
use Rattle.bk_lce.specs.declared.line.CacheStep.{CacheStep}
use Rattle.bk_lce.specs.CacheState.{CacheState, holds, line_at, found, with_line, used}

-- What a row leaves and gives: the cache's state; the message that it sends; the operation that completes; and a way, of the
-- operation that was begun or that completes.
pub record Transition : Type 0 where
  pub state : CacheState
  pub sent : Option Row
  pub done : Option Done
  pub way : ℕ

-- the address that an operation is about
abbrev pub address_of : Op → ℕ
address_of (Load addr) = addr
address_of (Store addr value) = addr
address_of (UcLoad addr) = addr
address_of (UcStore addr value) = addr
address_of (Evict addr) = addr

-- ISSUE: an idle cache is given an operation. `way` is the victim's, for a Load or Store of a block that isn't there.

-- the operation is in progress with a way, and its request is sent
abbrev pub request_row : CacheState → Op → ℕ → Row → Transition
request_row cache op way m = record {
  state = record cache { busy = Some (record { op = op; way = way }) };
  sent = Some m;
  done = None;
  way = way;
}

-- the operation completes at once
abbrev pub hit_row : CacheState → ℕ → Op → ℕ → ℕ → Transition
hit_row cache c op answer way =
    record { state = cache; sent = None; done = Some (record { cache = c; op = op; answer = answer }); way = way }

-- a line after a store of a word: it is in M
abbrev pub stored_line : Line → ℕ → ℕ → Line
stored_line line addr value = record line { state = M; words = slice_set line.words (word_of addr) value }

-- Load: a copy answers its word; without one the block is asked for
abbrev pub load_row : Shape → CacheState → ℕ → ℕ → ℕ → Option ℕ → Transition
load_row k cache c addr way None = request_row cache (Load addr) way (rows.Rd c ENGINE way (block_start addr))
load_row k cache c addr way (Some w) =
    hit_row (used cache (group_of k addr) w) c (Load addr) (slice_index (line_at k cache addr w).words (word_of addr)) w

-- Store into a copy: in E or M the word is written at once, else the block is asked for at the copy's way
abbrev pub store_hit : Shape → CacheState → ℕ → ℕ → ℕ → ℕ → Transition
store_hit k cache c addr value w =
    hit_row (used (with_line cache (group_of k addr) w (stored_line (line_at k cache addr w) addr value)) (group_of k addr) w) c
    (Store addr value) 0 w

abbrev pub store_row : Shape → CacheState → ℕ → ℕ → ℕ → ℕ → Option ℕ → Transition
store_row k cache c addr value way None = request_row cache (Store addr value) way (rows.Wr c ENGINE way (block_start addr))
store_row k cache c addr value way (Some w) =
    if is_writable (line_at k cache addr w).state then store_hit k cache c addr value w
    else request_row cache (Store addr value) w (rows.Wr c ENGINE w (block_start addr))

-- Evict: a copy is asked to be given up; without one there is nothing to do
abbrev pub evict_row : CacheState → ℕ → ℕ → Option ℕ → Transition
evict_row cache c addr None = hit_row cache c (Evict addr) 0 0
evict_row cache c addr (Some w) = request_row cache (Evict addr) w (rows.Evict c ENGINE w (block_start addr))

-- operations past the cache have way 0
abbrev pub issue_row : Shape → CacheState → ℕ → Op → ℕ → Transition
issue_row k cache c (Load addr) way = load_row k cache c addr way (found k cache addr)
issue_row k cache c (Store addr value) way = store_row k cache c addr value way (found k cache addr)
issue_row k cache c (UcLoad addr) way = request_row cache (UcLoad addr) 0 (rows.UcRd c ENGINE addr)
issue_row k cache c (UcStore addr value) way = request_row cache (UcStore addr value) 0 (rows.UcWr c ENGINE addr value)
issue_row k cache c (Evict addr) way = evict_row cache c addr (found k cache addr)

-- a cache with an operation in progress is given none
abbrev pub if_idle : Option InProgress → Transition → Option Transition
if_idle None transition = Some transition
if_idle (Some busy) transition = None

abbrev pub issue : Shape → CacheState → ℕ → Op → ℕ → Option Transition
issue k cache c op way = if_idle cache.busy (issue_row k cache c op way)

-- MESSAGES THAT ASK SOMETHING OF A CACHE: it answers, and completes no operation

abbrev pub answer_row : CacheState → Row → Transition
answer_row cache m = record { state = cache; sent = Some m; done = None; way = 0 }

-- in I, where it holds the block
abbrev pub wiped_line : ℕ → Line → Line
wiped_line tag line = if holds line tag then record line { state = I } else line

-- Inv: each line that holds the block becomes I
abbrev pub with_invalid_block : Shape → CacheState → ℕ → CacheState
with_invalid_block k cache addr =
    record cache { lines = put cache.lines (group_of k addr) (λ w. wiped_line (tag_at k addr) (cache.lines (group_of k addr) w)) }

-- a line takes a state
abbrev pub with_line_state : Shape → CacheState → ℕ → ℕ → Coh → CacheState
with_line_state k cache addr w state = with_line cache (group_of k addr) w (record (line_at k cache addr w) { state = state })

-- StWb: a copy takes the state; the words of a dirty one are sent
abbrev pub flush_answer : ℕ → ℕ → Line → Row
flush_answer c addr line = if is_dirty line.state then rows.Wb c ENGINE (block_start addr) line.words
    else rows.NullWb c ENGINE (block_start addr)

abbrev pub flush_row : Shape → CacheState → ℕ → ℕ → Coh → Option ℕ → Option Transition
flush_row k cache c addr state None = None
flush_row k cache c addr state (Some w) =
    Some (answer_row (with_line_state k cache addr w state) (flush_answer c addr (line_at k cache addr w)))

-- StTr: a copy takes the state; its words are sent to the peer, which is another cache
abbrev pub transfer_row : Shape → CacheState → ℕ → ℕ → Coh → ℕ → ℕ → Coh → Option ℕ → Option Transition
transfer_row k cache c addr state peer peer_way peer_state None = None
transfer_row k cache c addr state peer peer_way peer_state (Some w) =
    if peer == c then None
    else Some (answer_row (with_line_state k cache addr w state)
    (rows.Fill c peer peer_way peer_state (block_start addr) (line_at k cache addr w).words))

-- MESSAGES THAT COMPLETE THE OPERATION IN PROGRESS

-- the cache is idle again, and CohAck carries the operation's block
abbrev pub completion_row : CacheState → ℕ → Op → ℕ → ℕ → ℕ → Transition
completion_row cache c op addr answer way = record {
  state = record cache { busy = None };
  sent = Some (rows.CohAck c ENGINE (block_start addr));
  done = Some (record { cache = c; op = op; answer = answer });
  way = way;
}

-- a line is written, is the most recently used, and completes a Load or Store
abbrev pub filled_row : Shape → CacheState → ℕ → Op → ℕ → ℕ → ℕ → Line → Transition
filled_row k cache c op addr answer w line =
    completion_row (used (with_line cache (group_of k addr) w line) (group_of k addr) w) c op addr answer w

-- Blk, Fill: of the block that a Load or Store asked for, at its way; for a Store the state is E or M
abbrev pub grant_row : Shape → CacheState → ℕ → ℕ → Coh → ℕ → List ℕ → Op → Option Transition
grant_row k cache c way state addr words (Load at) =
    if block_of at == block_of addr
    then Some (filled_row k cache c (Load at) at (slice_index words (word_of at)) way
    (record { tag = tag_at k at; state = state; words = words }))
    else None
grant_row k cache c way state addr words (Store at value) =
    if block_of at == block_of addr && is_writable state
    then Some (filled_row k cache c (Store at value) at 0 way
    (stored_line (record { tag = tag_at k at; state = state; words = words }) at value))
    else None
grant_row k cache c way state addr words op = None

abbrev pub grant_for : Shape → CacheState → ℕ → ℕ → Coh → ℕ → List ℕ → Option InProgress → Option Transition
grant_for k cache c way state addr words None = None
grant_for k cache c way state addr words (Some busy) = if busy.way == way then grant_row k cache c way state addr words busy.op else None

-- StWake: of the block that a Store asked for, at its way, where the line there holds the block
abbrev pub wake_row : Shape → CacheState → ℕ → ℕ → ℕ → Op → Option Transition
wake_row k cache c way addr (Store at value) =
    if block_of at == block_of addr && holds (line_at k cache at way) (tag_at k at)
    then Some (filled_row k cache c (Store at value) at 0 way (stored_line (line_at k cache at way) at value))
    else None
wake_row k cache c way addr op = None

abbrev pub wake_for : Shape → CacheState → ℕ → ℕ → ℕ → Option InProgress → Option Transition
wake_for k cache c way addr None = None
wake_for k cache c way addr (Some busy) = if busy.way == way then wake_row k cache c way addr busy.op else None

-- UcBlk: of the word that a UcLoad asked for
abbrev pub word_row : CacheState → ℕ → ℕ → ℕ → ℕ → Op → Option Transition
word_row cache c way addr word (UcLoad at) = if at == addr then Some (completion_row cache c (UcLoad at) at word way) else None
word_row cache c way addr word op = None

-- UcDone: of the word that a UcStore wrote
abbrev pub written_row : CacheState → ℕ → ℕ → ℕ → Op → Option Transition
written_row cache c way addr (UcStore at value) = if at == addr then Some (completion_row cache c (UcStore at value) at 0 way) else None
written_row cache c way addr op = None

-- Done: of the block that an Evict gave up
abbrev pub evicted_row : CacheState → ℕ → ℕ → ℕ → Op → Option Transition
evicted_row cache c way addr (Evict at) = if block_of at == block_of addr then Some (completion_row cache c (Evict at) at 0 way) else None
evicted_row cache c way addr op = None

-- by the operation in progress, if there is one
abbrev pub by_operation : Option InProgress → (ℕ → Op → Option Transition) → Option Transition
by_operation None row = None
by_operation (Some busy) row = row busy.way busy.op

-- A message of the command network that comes to a cache. Of any other network there is no row.
abbrev pub command : Shape → CacheState → ℕ → Row → Option Transition
command k cache c (rows.Inv _ _ addr) = Some (answer_row (with_invalid_block k cache addr) (rows.InvAck c ENGINE (block_start addr)))
command k cache c (rows.StWb _ _ state addr) = flush_row k cache c addr state (found k cache addr)
command k cache c (rows.StTr _ _ state peer peer_way peer_state addr) =
    transfer_row k cache c addr state peer peer_way peer_state (found k cache addr)
command k cache c (rows.Blk _ _ way state addr words) = grant_for k cache c way state addr words cache.busy
command k cache c (rows.StWake _ _ way _ addr) = wake_for k cache c way addr cache.busy
command k cache c (rows.UcBlk _ _ addr word) = by_operation cache.busy (λ way op. word_row cache c way addr word op)
command k cache c (rows.UcDone _ _ addr) = by_operation cache.busy (λ way op. written_row cache c way addr op)
command k cache c (rows.Done _ _ addr) = by_operation cache.busy (λ way op. evicted_row cache c way addr op)
command k cache c m = None

-- A message of the fill network that comes to a cache, as Blk.
abbrev pub fill : Shape → CacheState → ℕ → Row → Option Transition
fill k cache c (rows.Fill _ _ way state addr words) = grant_for k cache c way state addr words cache.busy
fill k cache c m = None

-- whether a message has a row
abbrev pub has_row : Shape → CacheState → ℕ → Row → Bool
has_row k cache c m = is_some (command k cache c m) || is_some (fill k cache c m)

-- A call ended as the row says: it left and gave what the row does. Where there is no row it answered so, and changed nothing.
abbrev pub Gives : {E : Type 0} → Option Transition → CacheState → CacheState → Result CacheStep E → Type 0
Gives row old new (Ok step) = row ≡ Some (record { state = new; sent = step.sent; done = step.done; way = step.way })
Gives row old new (Err e) = (row ≡ None) × (new ≡ old)

-- a row was taken: what it leaves is the state, and what it gives is the step
abbrev pub Takes : Transition → CacheState → CacheStep → Type 0
Takes transition new step = transition ≡ record { state = new; sent = step.sent; done = step.done; way = step.way }

-- the message that a step sends names caches and ways of the configuration
abbrev pub SendsWithin : Shape → CacheStep → Type 0
SendsWithin k step = (m : Row) → step.sent ≡ Some m → IsWithin k m

-- the operation that a step completes is the cache's own
abbrev pub CompletesOwn : ℕ → CacheStep → Type 0
CompletesOwn c step = (d : Done) → step.done ≡ Some d → d.cache ≡ c
