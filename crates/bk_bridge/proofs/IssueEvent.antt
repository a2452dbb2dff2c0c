-- Issue: by the operation, and by whether the cache holds the block.
use Rattle.std.proofs.Common.{◌≡◌, ℕ, ltb, ◌&&◌, Bool, true, false, cond, refl, subst, List, length, Option, Some, None}
use Rattle.bk_base.specs.Places.{Shape, block_start, word_of, group_of, tag_at}
use Rattle.bk_base.specs.States.{is_writable}
use Rattle.bk_base.specs.declared.op.Op.{Op as Operation}
use Rattle.bk_base.specs.declared.op.Op.TheVariants as ops
use Rattle.bk_isa.specs.declared.form.Form.{Form}
use Rattle.bk_msg.specs.declared.row.Row.TheVariants as rows
use Rattle.bk_msg.specs.declared.row.TheConstants.{ENGINE}
use Rattle.bk_lce.specs.declared.line.InProgress.{InProgress as Begun}
use Rattle.bk_lce.specs.CacheState.{found, line_at}
use Rattle.bk_lce.specs.CacheTable as table
use Rattle.bk_system.specs.declared.event.Event.TheVariants as events
use Rattle.bk_system.specs.State.{State}
use Rattle.bk_system.specs.Events.{issue_taken}
use Rattle.bk_machine.specs.Messages.{whole, becomes, Load, Store, Evict, Rd, Wr, EvictRequest}
use Rattle.bk_machine.specs.Transactions.{Transaction}
use Rattle.bk_machine.specs.Products.{op_of}
use Rattle.bk_machine.specs.Steps.{MachineStep, LoadHits, StoreHits, Asks, EvictIdles}
use Rattle.bk_machine.specs.CacheSteps.{at_way, issue_row, step_of_issue}
use Rattle.bk_machine.specs.Runs as machine
use Rattle.bk_bridge.specs.Worlds.{world_of, begun_of}
use Rattle.bk_bridge.specs.Formed.{WellFormed}
use Rattle.bk_bridge.specs.Steps.{IsStep}
use Rattle.bk_bridge.proofs.Places.{group-start, tag-start}
use Rattle.bk_bridge.proofs.Agrees.{Agrees, behind, neither, left_of, IsSame, same, found-find}
use Rattle.bk_bridge.proofs.IssueRows.{asks_row, load_hits_row, store_hits_row, evict_idles_row}

-- what a row of Issue agrees with
abbrev Row-agrees : Shape → State → Option (ℕ × Transaction) → ℕ → table.Transition → Option (ℕ × MachineStep) → Type 0
Row-agrees k s x c t a = Agrees (left_of k x s c) (world_of k s x) (Some t) a

load : (k : Shape) (s : State) (x : Option (ℕ × Transaction)) (c addr way : ℕ) (o : Option ℕ)
    → Row-agrees k s x c (table.load_row k (s.caches c) c addr way o)
    (at_way o (λ v. Some (group_of k addr, LoadHits c (tag_at k addr) v (whole (word_of addr))))
    (Some (group_of k addr, Asks c way (Load (tag_at k addr) (whole (word_of addr))))))
load k s x c addr way None =
    asks_row k s x c (ops.Load addr) way (rows.Rd c ENGINE way (block_start addr)) refl
    (λ i. Some (group-start k addr i, Rd (tag-start k addr i) way))
load k s x c addr way (Some v) = load_hits_row k s x c addr v

-- a Store into a copy, by whether its state may be written
store_held : (k : Shape) (s : State) (x : Option (ℕ × Transaction)) (c addr value w : ℕ) (b : Bool)
    → length ((s.caches c).lines (group_of k addr) w).words ≡ 8
    → Row-agrees k s x c (cond b (table.store_hit k (s.caches c) c addr value w)
    (table.request_row (s.caches c) (ops.Store addr value) w (rows.Wr c ENGINE w (block_start addr))))
    (cond b (Some (group_of k addr, StoreHits c (tag_at k addr) w (word_of addr) (becomes value)))
    (Some (group_of k addr, Asks c w (Store (tag_at k addr) (word_of addr) (becomes value)))))
store_held k s x c addr value w true e = store_hits_row k s x c addr value w e
store_held k s x c addr value w false e =
    asks_row k s x c (ops.Store addr value) w (rows.Wr c ENGINE w (block_start addr)) refl
    (λ i. Some (group-start k addr i, Wr (tag-start k addr i) w))

store : (k : Shape) (s : State) (x : Option (ℕ × Transaction)) (c addr value way : ℕ) (o : Option ℕ)
    → ((w : ℕ) → length ((s.caches c).lines (group_of k addr) w).words ≡ 8)
    → Row-agrees k s x c (table.store_row k (s.caches c) c addr value way o)
    (at_way o
    (λ w. cond (is_writable ((world_of k s x).entries (group_of k addr) c w).state)
    (Some (group_of k addr, StoreHits c (tag_at k addr) w (word_of addr) (becomes value)))
    (Some (group_of k addr, Asks c w (Store (tag_at k addr) (word_of addr) (becomes value)))))
    (Some (group_of k addr, Asks c way (Store (tag_at k addr) (word_of addr) (becomes value)))))
store k s x c addr value way None e =
    asks_row k s x c (ops.Store addr value) way (rows.Wr c ENGINE way (block_start addr)) refl
    (λ i. Some (group-start k addr i, Wr (tag-start k addr i) way))
store k s x c addr value way (Some w) e = store_held k s x c addr value w (is_writable (line_at k (s.caches c) addr w).state) (e w)

evict : (k : Shape) (s : State) (x : Option (ℕ × Transaction)) (c addr : ℕ) (o : Option ℕ)
    → Row-agrees k s x c (table.evict_row (s.caches c) c addr o)
    (at_way o (λ v. Some (group_of k addr, Asks c v (Evict (tag_at k addr)))) (Some (group_of k addr, EvictIdles c (tag_at k addr))))
evict k s x c addr None = evict_idles_row k s x c addr
evict k s x c addr (Some v) =
    asks_row k s x c (ops.Evict addr) v (rows.Evict c ENGINE v (block_start addr)) refl
    (λ i. Some (group-start k addr i, EvictRequest (tag-start k addr i) v))

-- By operation: both sides find the same way, and the rows are those of the lemmas above.
row : (k : Shape) (s : State) (x : Option (ℕ × Transaction)) (c : ℕ) (op : Operation) (way : ℕ) → WellFormed k s
    → Row-agrees k s x c (table.issue_row k (s.caches c) c op way) (issue_row k.ways (world_of k s x) c (op_of k op).0 way (op_of k op).1)
row k s x c (ops.Load addr) way f =
    subst (λ (o : Option ℕ). Row-agrees k s x c (table.load_row k (s.caches c) c addr way (found k (s.caches c) addr))
    (at_way o (λ v. Some (group_of k addr, LoadHits c (tag_at k addr) v (whole (word_of addr))))
    (Some (group_of k addr, Asks c way (Load (tag_at k addr) (whole (word_of addr)))))))
    (found-find k s x c addr) (load k s x c addr way (found k (s.caches c) addr))
row k s x c (ops.Store addr value) way f =
    subst (λ (o : Option ℕ). Row-agrees k s x c (table.store_row k (s.caches c) c addr value way (found k (s.caches c) addr))
    (at_way o
    (λ v. cond (is_writable ((world_of k s x).entries (group_of k addr) c v).state)
    (Some (group_of k addr, StoreHits c (tag_at k addr) v (word_of addr) (becomes value)))
    (Some (group_of k addr, Asks c v (Store (tag_at k addr) (word_of addr) (becomes value)))))
    (Some (group_of k addr, Asks c way (Store (tag_at k addr) (word_of addr) (becomes value))))))
    (found-find k s x c addr) (store k s x c addr value way (found k (s.caches c) addr) (f.lines c (group_of k addr)))
row k s x c (ops.UcLoad addr) way f = asks_row k s x c (ops.UcLoad addr) 0 (rows.UcRd c ENGINE addr) refl refl
row k s x c (ops.UcStore addr value) way f = asks_row k s x c (ops.UcStore addr value) 0 (rows.UcWr c ENGINE addr value) refl refl
row k s x c (ops.Evict addr) way f =
    subst (λ (o : Option ℕ). Row-agrees k s x c (table.evict_row (s.caches c) c addr (found k (s.caches c) addr))
    (at_way o (λ v. Some (group_of k addr, Asks c v (Evict (tag_at k addr)))) (Some (group_of k addr, EvictIdles c (tag_at k addr)))))
    (found-find k s x c addr) (evict k s x c addr (found k (s.caches c) addr))

-- an operation is in progress, or none is; the test on cache and way is the same in both
by_busy : (k : Shape) (s : State) (x : Option (ℕ × Transaction)) (c : ℕ) (op : Operation) (way : ℕ) (b : Option Begun)
    → WellFormed k s
    → Agrees (left_of k x s c) (world_of k s x)
    (cond (ltb c k.caches && ltb way k.ways) (table.if_idle b (table.issue_row k (s.caches c) c op way)) None)
    (step_of_issue k (world_of k s x) c (op_of k op).0 way (op_of k op).1 (begun_of k b))
by_busy k s x c op way None f = behind _ _ (ltb c k.caches && ltb way k.ways) _ _ (row k s x c op way f)
by_busy k s x c op way (Some b) f = neither _ _ (ltb c k.caches && ltb way k.ways)

pub issue_step : (k : Shape) (program : List Form) (s : State) (x : Option (ℕ × Transaction)) (c : ℕ) (op : Operation) (way : ℕ)
    → WellFormed k s
    → IsStep k program s x (events.Issue c way op) (machine.Issue c (op_of k op).0 (op_of k op).1 way)
issue_step k program s x c op way f = record { enabled = both.enabled; left = both.left }
  where
    both : IsSame k x s s c (issue_taken k s c op way)
        (step_of_issue k (world_of k s x) c (op_of k op).0 way (op_of k op).1 (begun_of k (s.caches c).busy))
    both = same k x s s c _ _ (by_busy k s x c op way (s.caches c).busy f)
