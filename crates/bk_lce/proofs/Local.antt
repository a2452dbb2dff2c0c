-- A row changes at most the set of the block that it is about.
use Rattle.std.proofs.Common.{◌≡◌, ◌≢◌, ◌⊎◌, ℕ, Bool, true, false, ◌&&◌, ◌==◌, if◌then◌else◌, List, slice_index, Option, Some, None, refl, sym, ap, subst, ◌∙◌, inl, inr, arith}
use Rattle.std.proofs.lemmas.Bool.Decides.{nat_tests}
use Rattle.std.proofs.lemmas.Option.{same_Some}
use Rattle.bk_base.specs.Places.{Shape, block_of, block_start, word_of, group_of, set_of, tag_at}
use Rattle.bk_base.specs.States.{is_writable}
use Rattle.bk_base.specs.Tables.{put}
use Rattle.bk_base.specs.declared.coh.Coh.{Coh}
use Rattle.bk_base.specs.declared.op.Op.{Op}
use Rattle.bk_base.specs.declared.op.Op.TheVariants.{Load, Store, UcLoad, UcStore, Evict}
use Rattle.bk_msg.specs.declared.row.Row.{Row}
use Rattle.bk_msg.specs.declared.row.Row.TheVariants as rows
use Rattle.bk_msg.specs.declared.row.TheConstants.{ENGINE}
use Rattle.bk_msg.specs.Networks.{address_of as about}
use Rattle.bk_lce.specs.declared.line.Line.{Line}
use Rattle.bk_lce.specs.declared.line.InProgress.{InProgress}
use Rattle.bk_lce.specs.CacheTable.{address_of, Transition, request_row, stored_line, with_invalid_block, completion_row, filled_row, load_row, store_hit, store_row, evict_row, if_idle, issue_row, issue, flush_row, transfer_row, grant_row, grant_for, wake_row, wake_for, word_row, written_row, evicted_row, by_operation, command, fill}
use Rattle.bk_lce.specs.CacheState.{CacheState, found, holds, line_at, with_line, used}
use Rattle.bk_lce.specs.Laws.{IsAsItWas, KeepsOthers, IsWrittenAtOnce, StoresSoleCopies, TouchesOneSet}

-- ---- one set written

put_other : {X : Type 0} (f : ℕ → X) (number set : ℕ) (x : X) → set ≢ number → put f number x set ≡ f set
unfolding put
put_other f k s x d = grind (arith, nat_tests)

untouched : (cache : CacheState) (busy : Option InProgress) (set : ℕ) → IsAsItWas cache (record cache { busy = busy }) set
untouched cache busy set = record { lines = λ w. refl; recency = refl }

lines_other : (cache : CacheState) (g w set : ℕ) (line : Line) → set ≢ g → IsAsItWas cache (with_line cache g w line) set
lines_other cache g w set line d =
    record { lines = λ v. ap (λ (f : ℕ → Line). f v) (put_other cache.lines g set (put (cache.lines g) w line) d); recency = refl }

used_other : (cache : CacheState) (g w set : ℕ) → set ≢ g → IsAsItWas cache (used cache g w) set
used_other cache g w set d = record { lines = λ v. refl; recency = put_other cache.recency g set _ d }

both_other : (cache : CacheState) (g w set : ℕ) (line : Line) → set ≢ g → IsAsItWas cache (used (with_line cache g w line) g w) set
both_other cache g w set line d = record { lines = (lines_other cache g w set line d).lines; recency = put_other cache.recency g set _ d }

dropped_other : (k : Shape) (cache : CacheState) (addr set : ℕ) → set ≢ group_of k addr
    → IsAsItWas cache (with_invalid_block k cache addr) set
dropped_other k cache addr set d = record {
  lines = λ v. ap (λ (f : ℕ → Line). f v) (put_other cache.lines (group_of k addr) set _ d);
  recency = refl;
}

-- ---- a row, where there is one

abbrev Each : (Transition → Type 0) → Option Transition → Type 0
Each P o = (t : Transition) → o ≡ Some t → P t

some : (P : Transition → Type 0) (x : Transition) → P x → Each P (Some x)
some P x h t e = subst P (same_Some x t e) h

none : (P : Transition → Type 0) → Each P None
none P t e = absurd cc

only_where : (P : Transition → Type 0) (b : Bool) (x : Transition) → (b ≡ true → P x) → Each P (if b then Some x else None)
only_where P true x h = some P x (h refl)
only_where P false x h = none P

not_where : (P : Transition → Type 0) (b : Bool) (x : Transition) → P x → Each P (if b then None else Some x)
not_where P true x h = none P
not_where P false x h = some P x h

if_there : (P : Transition → Type 0) (b : Bool) (o : Option Transition) → Each P o → Each P (if b then o else None)
if_there P true o h = h
if_there P false o h = none P

if_so : (P : Transition → Type 0) (b : Bool) (x y : Transition) → P x → P y → P (if b then x else y)
if_so P true x y p q = p
if_so P false x y p q = q

when_idle : (P : Transition → Type 0) (busy : Option InProgress) (x : Transition) → P x → Each P (if_idle busy x)
when_idle P None x h = some P x h
when_idle P (Some b) x h = none P

when_busy : (P : Transition → Type 0) (busy : Option InProgress) (row : ℕ → Op → Option Transition)
    → ((way : ℕ) (op : Op) → Each P (row way op))
    → Each P (by_operation busy row)
when_busy P None row h = none P
when_busy P (Some b) row h = h b.way b.op

-- one block has one set
one_block : (k : Shape) (a b : ℕ) → (block_of a == block_of b) ≡ true → group_of k a ≡ group_of k b
one_block k a b e = let is : block_of a ≡ block_of b = grind (arith, nat_tests) in ap (set_of k) is

first_part : (b y : Bool) → (b && y) ≡ true → b ≡ true
first_part true y e = refl
first_part false y e = absurd cc

module _ (k : Shape) (cache : CacheState) (c : ℕ) where
  -- ---- an operation is given

  load_local : (addr way : ℕ) (at : Option ℕ) → KeepsOthers (group_of k addr) cache (load_row k cache c addr way at)
  load_local addr way None = λ s d. untouched cache _ s
  load_local addr way (Some w) = λ s d. used_other cache (group_of k addr) w s d

  store_local : (addr value way : ℕ) (at : Option ℕ) → KeepsOthers (group_of k addr) cache (store_row k cache c addr value way at)
  store_local addr value way None = λ s d. untouched cache _ s
  store_local addr value way (Some w) =
      if_so (KeepsOthers (group_of k addr) cache) (is_writable (line_at k cache addr w).state) (store_hit k cache c addr value w)
      (request_row cache (Store addr value) w (rows.Wr c ENGINE w (block_start addr)))
      (λ s d. both_other cache (group_of k addr) w s _ d) (λ s d. untouched cache _ s)

  evict_local : (addr : ℕ) (at : Option ℕ) → KeepsOthers (group_of k addr) cache (evict_row cache c addr at)
  evict_local addr None = λ s d. untouched cache _ s
  evict_local addr (Some w) = λ s d. untouched cache _ s

  row_local : (op : Op) (way : ℕ) → KeepsOthers (group_of k (address_of op)) cache (issue_row k cache c op way)
  row_local (Load addr) way = load_local addr way (found k cache addr)
  row_local (Store addr value) way = store_local addr value way (found k cache addr)
  row_local (UcLoad addr) way = λ s d. untouched cache _ s
  row_local (UcStore addr value) way = λ s d. untouched cache _ s
  row_local (Evict addr) way = evict_local addr (found k cache addr)

  issue_local : (op : Op) (way : ℕ) → Each (KeepsOthers (group_of k (address_of op)) cache) (issue k cache c op way)
  issue_local op way = when_idle (KeepsOthers (group_of k (address_of op)) cache) cache.busy (issue_row k cache c op way) (row_local op way)

  -- ---- a message comes

  module _ (addr : ℕ) where
    abbrev Keeps : Transition → Type 0
    Keeps = KeepsOthers (group_of k addr) cache

    -- what is filled is of the message's block
    fills_local : (op : Op) (at answer w : ℕ) (line : Line) → group_of k at ≡ group_of k addr
        → Keeps (filled_row k cache c op at answer w line)
    fills_local op at answer w line e s d =
        let both = both_other cache (group_of k at) w s line (λ q. d (q ∙ e)) in
        record { lines = both.lines; recency = both.recency }

    flush_local : (state : Coh) (at : Option ℕ) → Each Keeps (flush_row k cache c addr state at)
    flush_local state None = none Keeps
    flush_local state (Some w) = some Keeps _ (λ s d. lines_other cache (group_of k addr) w s _ d)

    transfer_local : (state : Coh) (peer peer_way : ℕ) (peer_state : Coh) (at : Option ℕ)
        → Each Keeps (transfer_row k cache c addr state peer peer_way peer_state at)
    transfer_local state peer peer_way peer_state None = none Keeps
    transfer_local state peer peer_way peer_state (Some w) =
        not_where Keeps (peer == c) _ (λ s d. lines_other cache (group_of k addr) w s _ d)

    grant_local : (way : ℕ) (state : Coh) (words : List ℕ) (op : Op) → Each Keeps (grant_row k cache c way state addr words op)
    grant_local way state words (Load at) =
        only_where Keeps (block_of at == block_of addr) _
        (λ e. fills_local (Load at) at (slice_index words (word_of at)) way _ (one_block k at addr e))
    grant_local way state words (Store at value) =
        only_where Keeps (block_of at == block_of addr && is_writable state) _
        (λ e. fills_local (Store at value) at 0 way _ (one_block k at addr (first_part _ _ e)))
    grant_local way state words (UcLoad at) = none Keeps
    grant_local way state words (UcStore at value) = none Keeps
    grant_local way state words (Evict at) = none Keeps

    granted_local : (way : ℕ) (state : Coh) (words : List ℕ) (busy : Option InProgress)
        → Each Keeps (grant_for k cache c way state addr words busy)
    granted_local way state words None = none Keeps
    granted_local way state words (Some b) = if_there Keeps (b.way == way) _ (grant_local way state words b.op)

    wake_local : (way : ℕ) (op : Op) → Each Keeps (wake_row k cache c way addr op)
    wake_local way (Load at) = none Keeps
    wake_local way (Store at value) =
        only_where Keeps (block_of at == block_of addr && holds (line_at k cache at way) (tag_at k at)) _
        (λ e. fills_local (Store at value) at 0 way _ (one_block k at addr (first_part _ _ e)))
    wake_local way (UcLoad at) = none Keeps
    wake_local way (UcStore at value) = none Keeps
    wake_local way (Evict at) = none Keeps

    woken_local : (way : ℕ) (busy : Option InProgress) → Each Keeps (wake_for k cache c way addr busy)
    woken_local way None = none Keeps
    woken_local way (Some b) = if_there Keeps (b.way == way) _ (wake_local way b.op)

    word_local : (word way : ℕ) (op : Op) → Each Keeps (word_row cache c way addr word op)
    word_local word way (Load at) = none Keeps
    word_local word way (Store at value) = none Keeps
    word_local word way (UcLoad at) =
        only_where Keeps (at == addr) (completion_row cache c (UcLoad at) at word way) (λ e s d. untouched cache _ s)
    word_local word way (UcStore at value) = none Keeps
    word_local word way (Evict at) = none Keeps

    written_local : (way : ℕ) (op : Op) → Each Keeps (written_row cache c way addr op)
    written_local way (Load at) = none Keeps
    written_local way (Store at value) = none Keeps
    written_local way (UcLoad at) = none Keeps
    written_local way (UcStore at value) =
        only_where Keeps (at == addr) (completion_row cache c (UcStore at value) at 0 way) (λ e s d. untouched cache _ s)
    written_local way (Evict at) = none Keeps

    evicted_local : (way : ℕ) (op : Op) → Each Keeps (evicted_row cache c way addr op)
    evicted_local way (Load at) = none Keeps
    evicted_local way (Store at value) = none Keeps
    evicted_local way (UcLoad at) = none Keeps
    evicted_local way (UcStore at value) = none Keeps
    evicted_local way (Evict at) =
        only_where Keeps (block_of at == block_of addr) (completion_row cache c (Evict at) at 0 way) (λ e s d. untouched cache _ s)

  -- A row writes lines and recency in one set. For Inv, StWb and StTr that is the set of the message's block; a grant has a row only
  -- where its block is the operation's, so that it is the same set (`one_block`). An answer writes none, and other kinds have no row.
  command_local : (m : Row) → Each (KeepsOthers (group_of k (about m)) cache) (command k cache c m)
  command_local (rows.Inv _ _ addr) = some _ _ (λ s d. dropped_other k cache addr s d)
  command_local (rows.StWb _ _ state addr) = flush_local addr state (found k cache addr)
  command_local (rows.StTr _ _ state peer peer_way peer_state addr) =
      transfer_local addr state peer peer_way peer_state (found k cache addr)
  command_local (rows.Blk _ _ way state addr words) = granted_local addr way state words cache.busy
  command_local (rows.StWake _ _ way _ addr) = woken_local addr way cache.busy
  command_local (rows.UcBlk _ _ addr word) = when_busy _ cache.busy _ (λ way op. word_local addr word way op)
  command_local (rows.UcDone _ _ addr) = when_busy _ cache.busy _ (λ way op. written_local addr way op)
  command_local (rows.Done _ _ addr) = when_busy _ cache.busy _ (λ way op. evicted_local addr way op)
  command_local (rows.Rd _ _ _ _) = none _
  command_local (rows.Wr _ _ _ _) = none _
  command_local (rows.UcRd _ _ _) = none _
  command_local (rows.UcWr _ _ _ _) = none _
  command_local (rows.Evict _ _ _ _) = none _
  command_local (rows.Fill _ _ _ _ _ _) = none _
  command_local (rows.InvAck _ _ _) = none _
  command_local (rows.CohAck _ _ _) = none _
  command_local (rows.Wb _ _ _ _) = none _
  command_local (rows.NullWb _ _ _) = none _
  command_local (rows.Read _ _ _) = none _
  command_local (rows.Write _ _ _ _) = none _
  command_local (rows.WriteWord _ _ _ _) = none _
  command_local (rows.Block _ _ _ _) = none _

  fill_local : (m : Row) → Each (KeepsOthers (group_of k (about m)) cache) (fill k cache c m)
  fill_local (rows.Fill _ _ way state addr words) = granted_local addr way state words cache.busy
  fill_local m = none _

pub touches_one_set : TouchesOneSet
touches_one_set k n c = record { given = λ op way. issue_local k n c op way; commanded = command_local k n c; filled = fill_local k n c }

-- ---- a store writes sole copies

abbrev WritesSole : CacheState → Transition → Type 0
WritesSole cache t = (set w : ℕ) → t.state.lines set w ≢ cache.lines set w
    → IsWrittenAtOnce (cache.lines set w) (t.state.lines set w)

at_place : (cache : CacheState) (g v set w : ℕ) (line : Line)
    → ((g ≡ set) × (v ≡ w) × ((with_line cache g v line).lines set w ≡ line))
    ⊎ ((with_line cache g v line).lines set w ≡ cache.lines set w)
unfolding put
at_place n g v s w line = grind (arith, nat_tests)

hit_writes : (k : Shape) (cache : CacheState) (c addr value w : ℕ) → is_writable (line_at k cache addr w).state ≡ true
    → WritesSole cache (store_hit k cache c addr value w)
hit_writes k cache c addr value w h s v d =
    elim (at_place cache (group_of k addr) w s v (stored_line (line_at k cache addr w) addr value)) [
      | inl q ↦
          let here : line_at k cache addr w ≡ cache.lines s v = ap (λ (i : ℕ). cache.lines i w) q.0
          ∙ ap (λ (j : ℕ). cache.lines s j) q.1 in
          record {
            before = subst (λ (x : Line). is_writable x.state ≡ true) here h;
            after = ap (λ (x : Line). x.state) q.2;
            tag = ap (λ (x : Line). x.tag) q.2 ∙ ap (λ (x : Line). x.tag) here;
          }
      | inr q ↦ absurd (d q)
    ]

store_writes : (k : Shape) (cache : CacheState) (c addr value w : ℕ) (b : Bool) → b ≡ is_writable (line_at k cache addr w).state
    → WritesSole cache (if b then store_hit k cache c addr value w
    else request_row cache (Store addr value) w (rows.Wr c ENGINE w (block_start addr)))
store_writes k cache c addr value w true e s v d = hit_writes k cache c addr value w (sym e) s v d
store_writes k cache c addr value w false e s v d = absurd (d refl)

row_writes_store : (k : Shape) (cache : CacheState) (c addr value way : ℕ) (at : Option ℕ)
    → WritesSole cache (store_row k cache c addr value way at)
row_writes_store k cache c addr value way None = λ s w d. absurd (d refl)
row_writes_store k cache c addr value way (Some w) = store_writes k cache c addr value w (is_writable (line_at k cache addr w).state) refl

load_writes : (k : Shape) (cache : CacheState) (c addr way : ℕ) (at : Option ℕ) → WritesSole cache (load_row k cache c addr way at)
load_writes k cache c addr way None = λ s w d. absurd (d refl)
load_writes k cache c addr way (Some v) = λ s w d. absurd (d refl)

evict_writes : (cache : CacheState) (c addr : ℕ) (at : Option ℕ) → WritesSole cache (evict_row cache c addr at)
evict_writes cache c addr None = λ s w d. absurd (d refl)
evict_writes cache c addr (Some v) = λ s w d. absurd (d refl)

row_writes : (k : Shape) (cache : CacheState) (c way : ℕ) (op : Op) → WritesSole cache (issue_row k cache c op way)
row_writes k cache c way (Load addr) = load_writes k cache c addr way (found k cache addr)
row_writes k cache c way (Store addr value) = row_writes_store k cache c addr value way (found k cache addr)
row_writes k cache c way (UcLoad addr) = λ s w d. absurd (d refl)
row_writes k cache c way (UcStore addr value) = λ s w d. absurd (d refl)
row_writes k cache c way (Evict addr) = evict_writes cache c addr (found k cache addr)

pub stores_sole_copies : StoresSoleCopies
stores_sole_copies k n c way op = when_idle (WritesSole n) n.busy (issue_row k n c op way) (row_writes k n c way op)
