-- What a cache has begun: the operations that have completed, and the one in progress. No row loses one of them.
use Rattle.std.proofs.Common.{◌≡◌, ℕ, List, [], ◌∷◌, ◌++◌, Bool, true, false, ◌&&◌, cond, eqb, Option, Some, None, refl, ap, sym, subst, ◌∙◌, ◌⊎◌, inl, inr, append_assoc}
use Rattle.std.specs.Prelude.{if◌then◌else◌, ◌==◌}
use Rattle.std.specs.Option.{option_to_list}
use Rattle.std.proofs.lemmas.Bool.{cases_eq, eq-eqb, ne_eqb}
use Rattle.std.proofs.lemmas.List.{append-nil}
use Rattle.bk_base.specs.Places.{Shape, block_of, tag_at}
use Rattle.bk_base.specs.Tables.{put}
use Rattle.bk_base.specs.States.{is_writable}
use Rattle.bk_base.specs.declared.coh.Coh.{Coh}
use Rattle.bk_base.specs.declared.op.Op.{Op}
use Rattle.bk_base.specs.declared.op.Op.TheVariants.{Load, Store, UcLoad, UcStore, Evict}
use Rattle.bk_base.specs.declared.op.Done.{Done}
use Rattle.bk_msg.specs.declared.row.Row.{Row}
use Rattle.bk_msg.specs.declared.row.Row.TheVariants as rows
use Rattle.bk_lce.specs.declared.line.InProgress.{InProgress}
use Rattle.bk_lce.specs.CacheState.{CacheState, holds, line_at, found}
use Rattle.bk_lce.specs.CacheTable.{Transition, load_row, store_row, store_hit, evict_row, issue_row, if_idle, issue, flush_row, transfer_row, grant_row, grant_for, wake_row, wake_for, word_row, written_row, evicted_row, by_operation, command, fill}
use Rattle.bk_system.specs.State.{State}
use Rattle.bk_system.specs.Events.{with_taken}
use Rattle.bk_system.specs.Runs.{completed_by}
use Rattle.bk_run.proofs.Tight.{Each, if-each}

-- the operation in progress, if any
abbrev pub operation_in : Option InProgress → List Op
operation_in None = []
operation_in (Some busy) = busy.op ∷ []

-- the operations that a cache has begun: those that have completed, and the one in progress
abbrev pub begun : ℕ → State → List Op
begun c s = completed_by c s.history ++ operation_in (s.caches c).busy

-- the operation of an entry of the history, if there is one
abbrev pub ops_of : Option Done → List Op
ops_of None = []
ops_of (Some done) = done.op ∷ []

abbrev pub IsOwn : ℕ → Option Done → Type 0
IsOwn c None = Unit {0}
IsOwn c (Some done) = done.cache ≡ c

-- A row of cache c completes and leaves in progress these operations alone, and what it completes is its own.
pub record Moves (c : ℕ) (ops : List Op) (t : Transition) : Type 0 where
  pub moved : ops_of t.done ++ operation_in t.state.busy ≡ ops
  pub own : IsOwn c t.done

-- ISSUE: an idle cache begins the operation

module _ (k : Shape) (cache : CacheState) (c way : ℕ) (idle : operation_in cache.busy ≡ []) where
  load-moves : (addr : ℕ) (o : Option ℕ) → Moves c (Load addr ∷ []) (load_row k cache c addr way o)
  load-moves addr None = record { moved = refl; own = tt }
  load-moves addr (Some w) = record { moved = ap (λ (ops : List Op). Load addr ∷ ops) idle; own = refl }

  hit-moves : (addr value w : ℕ) (b : Bool) (u : Transition) → Moves c (Store addr value ∷ []) u
      → Moves c (Store addr value ∷ []) (if b then store_hit k cache c addr value w else u)
  hit-moves addr value w true u h = record { moved = ap (λ (ops : List Op). Store addr value ∷ ops) idle; own = refl }
  hit-moves addr value w false u h = h

  store-moves : (addr value : ℕ) (o : Option ℕ) → Moves c (Store addr value ∷ []) (store_row k cache c addr value way o)
  store-moves addr value None = record { moved = refl; own = tt }
  store-moves addr value (Some w) =
      hit-moves addr value w (is_writable (line_at k cache addr w).state) _ (record { moved = refl; own = tt })

  evict-moves : (addr : ℕ) (o : Option ℕ) → Moves c (Evict addr ∷ []) (evict_row cache c addr o)
  evict-moves addr None = record { moved = ap (λ (ops : List Op). Evict addr ∷ ops) idle; own = refl }
  evict-moves addr (Some w) = record { moved = refl; own = tt }

  issue_row-moves : (op : Op) → Moves c (op ∷ []) (issue_row k cache c op way)
  issue_row-moves (Load addr) = load-moves addr (found k cache addr)
  issue_row-moves (Store addr value) = store-moves addr value (found k cache addr)
  issue_row-moves (UcLoad addr) = record { moved = refl; own = tt }
  issue_row-moves (UcStore addr value) = record { moved = refl; own = tt }
  issue_row-moves (Evict addr) = evict-moves addr (found k cache addr)

-- an operation that is taken was given to an idle cache, which begins it
pub record Begins (cache : CacheState) (c : ℕ) (op : Op) (t : Transition) : Type 0 where
  pub idle : operation_in cache.busy ≡ []
  pub moves : Moves c (op ∷ []) t

pub issue-begins : (k : Shape) (cache : CacheState) (c : ℕ) (op : Op) (way : ℕ) → Each (Begins cache c op) (issue k cache c op way)
issue-begins k cache c op way = go cache.busy refl
  where
    go : (b : Option InProgress) → cache.busy ≡ b → Each (Begins cache c op) (if_idle b (issue_row k cache c op way))
    go None e = let idle : operation_in cache.busy ≡ [] = ap operation_in e
        in record { idle = idle; moves = issue_row-moves k cache c way idle op }
    go (Some busy) e = tt

-- COMMAND AND FILL: what is completed was in progress

-- a row that answers leaves the operation in progress
module _ (k : Shape) (cache : CacheState) (c : ℕ) where
  flush-moves : (addr : ℕ) (state : Coh) (o : Option ℕ) → Each (Moves c (operation_in cache.busy)) (flush_row k cache c addr state o)
  flush-moves addr state None = tt
  flush-moves addr state (Some w) = record { moved = refl; own = tt }

  otherwise : (b : Bool) (t : Transition) → Moves c (operation_in cache.busy) t
      → Each (Moves c (operation_in cache.busy)) (if b then None else Some t)
  otherwise true t h = tt
  otherwise false t h = h

  transfer-moves : (addr : ℕ) (state : Coh) (peer peer_way : ℕ) (peer_state : Coh) (o : Option ℕ)
      → Each (Moves c (operation_in cache.busy)) (transfer_row k cache c addr state peer peer_way peer_state o)
  transfer-moves addr state peer peer_way peer_state None = tt
  transfer-moves addr state peer peer_way peer_state (Some w) = otherwise (peer == c) _ (record { moved = refl; own = tt })

  grant_row-moves : (way : ℕ) (state : Coh) (addr : ℕ) (words : List ℕ) (op : Op) → op ∷ [] ≡ operation_in cache.busy
      → Each (Moves c (operation_in cache.busy)) (grant_row k cache c way state addr words op)
  grant_row-moves way state addr words (Load at) e =
      if-each (Moves c (operation_in cache.busy)) (block_of at == block_of addr) _ (λ h. record { moved = e; own = refl })
  grant_row-moves way state addr words (Store at value) e = if-each (Moves c (operation_in cache.busy))
      (block_of at == block_of addr && is_writable state) _ (λ h. record { moved = e; own = refl })
  grant_row-moves way state addr words (UcLoad at) e = tt
  grant_row-moves way state addr words (UcStore at value) e = tt
  grant_row-moves way state addr words (Evict at) e = tt

  -- a row under a test
  under : (b : Bool) (o : Option Transition) → Each (Moves c (operation_in cache.busy)) o
      → Each (Moves c (operation_in cache.busy)) (if b then o else None)
  under true o h = h
  under false o h = tt

  granted-moves : (way : ℕ) (state : Coh) (addr : ℕ) (words : List ℕ) (b : Option InProgress) → cache.busy ≡ b
      → Each (Moves c (operation_in cache.busy)) (grant_for k cache c way state addr words b)
  granted-moves way state addr words None e = tt
  granted-moves way state addr words (Some busy) e =
      under (busy.way == way) _ (grant_row-moves way state addr words busy.op (sym (ap operation_in e)))

  wake_row-moves : (way addr : ℕ) (op : Op) → op ∷ [] ≡ operation_in cache.busy
      → Each (Moves c (operation_in cache.busy)) (wake_row k cache c way addr op)
  wake_row-moves way addr (Load at) e = tt
  wake_row-moves way addr (Store at value) e =
      if-each (Moves c (operation_in cache.busy)) (block_of at == block_of addr && holds (line_at k cache at way) (tag_at k at)) _
      (λ h. record { moved = e; own = refl })
  wake_row-moves way addr (UcLoad at) e = tt
  wake_row-moves way addr (UcStore at value) e = tt
  wake_row-moves way addr (Evict at) e = tt

  woken-moves : (way addr : ℕ) (b : Option InProgress) → cache.busy ≡ b
      → Each (Moves c (operation_in cache.busy)) (wake_for k cache c way addr b)
  woken-moves way addr None e = tt
  woken-moves way addr (Some busy) e = under (busy.way == way) _ (wake_row-moves way addr busy.op (sym (ap operation_in e)))

  word-moves : (way addr word : ℕ) (op : Op) → op ∷ [] ≡ operation_in cache.busy
      → Each (Moves c (operation_in cache.busy)) (word_row cache c way addr word op)
  word-moves way addr word (Load at) e = tt
  word-moves way addr word (Store at value) e = tt
  word-moves way addr word (UcLoad at) e =
      if-each (Moves c (operation_in cache.busy)) (at == addr) _ (λ h. record { moved = e; own = refl })
  word-moves way addr word (UcStore at value) e = tt
  word-moves way addr word (Evict at) e = tt

  written-moves : (way addr : ℕ) (op : Op) → op ∷ [] ≡ operation_in cache.busy
      → Each (Moves c (operation_in cache.busy)) (written_row cache c way addr op)
  written-moves way addr (Load at) e = tt
  written-moves way addr (Store at value) e = tt
  written-moves way addr (UcLoad at) e = tt
  written-moves way addr (UcStore at value) e =
      if-each (Moves c (operation_in cache.busy)) (at == addr) _ (λ h. record { moved = e; own = refl })
  written-moves way addr (Evict at) e = tt

  evicted-moves : (way addr : ℕ) (op : Op) → op ∷ [] ≡ operation_in cache.busy
      → Each (Moves c (operation_in cache.busy)) (evicted_row cache c way addr op)
  evicted-moves way addr (Load at) e = tt
  evicted-moves way addr (Store at value) e = tt
  evicted-moves way addr (UcLoad at) e = tt
  evicted-moves way addr (UcStore at value) e = tt
  evicted-moves way addr (Evict at) e =
      if-each (Moves c (operation_in cache.busy)) (block_of at == block_of addr) _ (λ h. record { moved = e; own = refl })

  ends-moves : (row : ℕ → Op → Option Transition)
      → ((way : ℕ) (op : Op) → op ∷ [] ≡ operation_in cache.busy → Each (Moves c (operation_in cache.busy)) (row way op))
      → (b : Option InProgress) → cache.busy ≡ b → Each (Moves c (operation_in cache.busy)) (by_operation b row)
  ends-moves row h None e = tt
  ends-moves row h (Some busy) e = h busy.way busy.op (sym (ap operation_in e))

  pub command-moves : (m : Row) → Each (Moves c (operation_in cache.busy)) (command k cache c m)
  command-moves (rows.Inv _ _ addr) = record { moved = refl; own = tt }
  command-moves (rows.StWb _ _ state addr) = flush-moves addr state (found k cache addr)
  command-moves (rows.StTr _ _ state peer peer_way peer_state addr) =
      transfer-moves addr state peer peer_way peer_state (found k cache addr)
  command-moves (rows.Blk _ _ way state addr words) = granted-moves way state addr words cache.busy refl
  command-moves (rows.StWake _ _ way _ addr) = woken-moves way addr cache.busy refl
  command-moves (rows.UcBlk _ _ addr word) =
      ends-moves (λ way op. word_row cache c way addr word op) (λ way op e. word-moves way addr word op e) cache.busy refl
  command-moves (rows.UcDone _ _ addr) =
      ends-moves (λ way op. written_row cache c way addr op) (λ way op e. written-moves way addr op e) cache.busy refl
  command-moves (rows.Done _ _ addr) =
      ends-moves (λ way op. evicted_row cache c way addr op) (λ way op e. evicted-moves way addr op e) cache.busy refl
  command-moves m = tt

  pub fill-moves : (m : Row) → Each (Moves c (operation_in cache.busy)) (fill k cache c m)
  fill-moves (rows.Fill _ _ way state addr words) = granted-moves way state addr words cache.busy refl
  fill-moves m = tt

-- THE SYSTEM

-- what a cache has completed in one history and then another
pub completed_by-append : (c : ℕ) (xs ys : List Done) → completed_by c (xs ++ ys) ≡ completed_by c xs ++ completed_by c ys
completed_by-append c [] ys = refl
completed_by-append c (done ∷ xs) ys = whether (eqb done.cache c) (completed_by-append c xs ys)
  where
    whether : (b : Bool) → completed_by c (xs ++ ys) ≡ completed_by c xs ++ completed_by c ys
        → cond b (done.op ∷ completed_by c (xs ++ ys)) (completed_by c (xs ++ ys))
        ≡ cond b (done.op ∷ completed_by c xs) (completed_by c xs)
        ++ completed_by c ys
    whether true e = ap (λ (ops : List Op). done.op ∷ ops) e
    whether false e = e

own-completed : (c : ℕ) (o : Option Done) → IsOwn c o → completed_by c (option_to_list o) ≡ ops_of o
own-completed c None h = refl
own-completed c (Some done) h = rw (eq-eqb done.cache c h) refl

other-completed : (c at : ℕ) (o : Option Done) → (at ≡ c → ⊥) → IsOwn at o → completed_by c (option_to_list o) ≡ []
other-completed c at None differ h = refl
other-completed c at (Some done) differ h = rw (ne_eqb done.cache c (λ e. differ (sym h ∙ e))) refl

-- after a row of a cache it has begun what had completed, and what the row moves; another cache has begun what it had
pub with_taken-begun : (c at : ℕ) (s : State) (t : Transition) (ops : List Op) → Moves at ops t
    → begun c (with_taken s at t).state ≡ completed_by c s.history ++ cond (eqb at c) ops (operation_in (s.caches c).busy)
unfolding put
with_taken-begun c at s t ops h = go (cases_eq at c)
  where
    done : List Done
    done = option_to_list t.done

    split : completed_by c (s.history ++ done) ≡ completed_by c s.history ++ completed_by c done
    split = completed_by-append c s.history done

    go : (at ≡ c) ⊎ (at ≡ c → ⊥) → completed_by c (s.history ++ done) ++ operation_in (put s.caches at t.state c).busy
        ≡ completed_by c s.history ++ cond (eqb at c) ops (operation_in (s.caches c).busy)
    go (inl same) =
        let own : completed_by c done ≡ ops_of t.done = own-completed c t.done (subst (λ i. IsOwn i t.done) same h.own) in
        rw (eq-eqb at c same, eq-eqb c at (sym same), split, own)
        (append_assoc (completed_by c s.history) (ops_of t.done) (operation_in t.state.busy)
        ∙ ap (λ (xs : List Op). completed_by c s.history ++ xs) h.moved)
    go (inr differ) =
        let none : completed_by c done ≡ [] = other-completed c at t.done differ h.own in
        rw (ne_eqb at c differ, ne_eqb c at (λ e. differ (sym e)), split, none, append-nil) refl
