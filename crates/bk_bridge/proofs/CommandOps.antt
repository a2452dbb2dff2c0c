-- The messages that complete an operation, by the operation in progress: Blk, StWake, UcBlk, UcDone, Done.
-- `p` is the state whose command channel has lost its head; for the machine the channels held C before.
use Rattle.std.proofs.Common.{◌≡◌, ℕ, ◌<◌, cond, eqb, ◌&&◌, refl, sym, ap, ◌∙◌, true, List, length, Option, Some, None, eqb-true, IfSome}
use Rattle.std.proofs.lemmas.Bool.{and_parts}
use Rattle.bk_base.specs.Places.{Shape, IsAddr, block_of, word_of, group_of, tag_at}
use Rattle.bk_base.specs.Tables.{put}
use Rattle.bk_base.specs.States.{is_writable, is_readable}
use Rattle.bk_base.specs.declared.op.Op.{Op as Operation}
use Rattle.bk_base.specs.declared.op.Op.TheVariants as ops
use Rattle.bk_base.specs.declared.coh.Coh.{Coh}
use Rattle.bk_lce.specs.declared.line.InProgress.{InProgress as Begun}
use Rattle.bk_lce.specs.CacheState as caches
use Rattle.bk_lce.specs.CacheTable as table
use Rattle.bk_lce.specs.CacheTable.{Transition}
use Rattle.bk_system.specs.State.{State}
use Rattle.bk_machine.specs.Entries.{holds}
use Rattle.bk_machine.specs.Messages.{whole, becomes, Op, op_tag, UcLoad, UcStore, Evict, ToCache}
use Rattle.bk_machine.specs.Transactions.{Transaction}
use Rattle.bk_machine.specs.Products.{words_of, op_of}
use Rattle.bk_machine.specs.Steps.{step_after, WakeStores, with_completion}
use Rattle.bk_machine.specs.CacheSteps.{for_busy, block_row, wake_row, word_row, stored_row, evicted_row}
use Rattle.bk_machine.specs.World.{World}
use Rattle.bk_bridge.specs.Worlds.{world_of, begun_of, entry_of}
use Rattle.bk_bridge.proofs.Places.{blocks, words_apart}
use Rattle.bk_bridge.proofs.Agrees.{Agrees, left_of}
use Rattle.bk_bridge.proofs.Gates.{gated, gated-none, shut, and_last}
use Rattle.bk_bridge.proofs.CommandRows.{completes_row}
use Rattle.bk_bridge.proofs.Grants.{load_granted, store_granted, store_woken}

-- the command channels are the only part that differs from the popped state
abbrev Before : Shape → State → Option (ℕ × Transaction) → (ℕ → List (ℕ × ToCache)) → World
Before k s x C = record (world_of k s x) { command = C }

module _ (k : Shape) (later : State) (x : Option (ℕ × Transaction)) (c : ℕ) (C : ℕ
    → List (ℕ × ToCache)) (rest : List (ℕ × ToCache)) (sets : 0 < k.sets)
    (e : (world_of k later x).command ≡ put C c rest) (lines : (group w : ℕ)
    → length ((later.caches c).lines group w).words ≡ 8) where
  -- what is left, with the channel's rest
  with-rest : (world old : World) → world ≡ old → old.command ≡ (world_of k later x).command
      → world ≡ record old { command = put C c rest }
  with-rest world old f g = f ∙ ap (λ (y : ℕ → List (ℕ × ToCache)). record old { command = y }) (g ∙ e)

  -- BLK
  granted-op : (way addr : ℕ) (state : Coh) (words : List ℕ) (op : Operation) (begun : ℕ) → length words ≡ 8
      → Agrees (left_of k x later c) (Before k later x C)
      (cond (eqb begun way) (table.grant_row k (later.caches c) c way state addr words op) None)
      (cond (eqb (op_of k op).0 (group_of k addr))
      (cond (eqb begun way) (block_row (group_of k addr) c (tag_at k addr) way state (words_of words) rest (op_of k op).1) None) None)
  granted-op way addr state words (ops.Load at) begun eight =
      gated _ _ (eqb (group_of k at) (group_of k addr)) (eqb begun way) (eqb (tag_at k at) (tag_at k addr))
      (eqb (block_of at) (block_of addr)) _ _ _ (blocks k at addr sets)
      (λ f g. with-rest _ _
      (load_granted k later x c way at state words (group_of k addr) (tag_at k addr) (eqb-true _ _ f) (eqb-true _ _ g)) refl)
  granted-op way addr state words (ops.Store at value) begun eight =
      gated _ _ (eqb (group_of k at) (group_of k addr)) (eqb begun way) (eqb (tag_at k at) (tag_at k addr) && is_writable state)
      (eqb (block_of at) (block_of addr) && is_writable state) _ _ _
      (and_last _ _ _ _ _ (blocks k at addr sets) (λ f g. refl))
      (λ f g. with-rest _ _ (store_granted k later x c way at value state words (group_of k addr) (tag_at k addr) eight (eqb-true _ _ f)
      (eqb-true _ _ (and_parts _ _ g).0)) refl)
  granted-op way addr state words (ops.UcLoad at) begun eight =
      gated-none (left_of k x later c) (Before k later x C) (eqb (group_of k at) (group_of k addr)) (eqb begun way)
  granted-op way addr state words (ops.UcStore at value) begun eight =
      gated-none (left_of k x later c) (Before k later x C) (eqb (group_of k at) (group_of k addr)) (eqb begun way)
  granted-op way addr state words (ops.Evict at) begun eight =
      gated-none (left_of k x later c) (Before k later x C) (eqb (group_of k at) (group_of k addr)) (eqb begun way)

  pub block_comes : (way addr : ℕ) (state : Coh) (words : List ℕ) (b : Option Begun) → length words ≡ 8
      → Agrees (left_of k x later c) (Before k later x C) (table.grant_for k (later.caches c) c way state addr words b)
      (for_busy (group_of k addr) (begun_of k b)
      (λ o. cond (eqb o.way way) (block_row (group_of k addr) c (tag_at k addr) way state (words_of words) rest o.op) None))
  block_comes way addr state words None eight = tt
  block_comes way addr state words (Some b) eight = granted-op way addr state words b.op b.way eight

  -- STWAKE
  woken-op : (way addr : ℕ) (op : Operation) (begun : ℕ)
      → Agrees (left_of k x later c) (Before k later x C)
      (cond (eqb begun way) (table.wake_row k (later.caches c) c way addr op) None)
      (cond (eqb (op_of k op).0 (group_of k addr))
      (cond (eqb begun way) (wake_row (Before k later x C) (group_of k addr) c (tag_at k addr) way rest (op_of k op).1) None) None)
  woken-op way addr (ops.Store at value) begun =
      gated _ _ (eqb (group_of k at) (group_of k addr)) (eqb begun way)
      (eqb (tag_at k at) (tag_at k addr) && holds (entry_of ((later.caches c).lines (group_of k addr) way)) (tag_at k addr))
      (eqb (block_of at) (block_of addr) && caches.holds ((later.caches c).lines (group_of k at) way) (tag_at k at)) _ _ _
      (and_last _ _ _ _ _ (blocks k at addr sets)
      (λ f g. λ i. holds (entry_of ((later.caches c).lines (eqb-true (group_of k at) (group_of k addr) f i) way))
      (eqb-true (tag_at k at) (tag_at k addr) g i)))
      (λ f g. woken (eqb-true _ _ f) (and_parts (eqb (tag_at k at) (tag_at k addr))
      (holds (entry_of ((later.caches c).lines (group_of k addr) way)) (tag_at k addr)) g))
    where
      woken : group_of k at ≡ group_of k addr
          → (eqb (tag_at k at) (tag_at k addr) ≡ true)
          × (holds (entry_of ((later.caches c).lines (group_of k addr) way)) (tag_at k addr) ≡ true)
          → left_of k x later c (table.filled_row k (later.caches c) c (ops.Store at value) at 0 way
          (table.stored_line ((later.caches c).lines (group_of k at) way) at value))
          ≡ step_after (group_of k addr) (WakeStores c (tag_at k addr) way (word_of at) (becomes value) rest) (Before k later x C)
      woken f g =
          let same_tag : tag_at k at ≡ tag_at k addr = eqb-true (tag_at k at) (tag_at k addr) g.0 in
          let held_tag : ((later.caches c).lines (group_of k at) way).tag ≡ tag_at k at =
          ap (λ (group : ℕ). ((later.caches c).lines group way).tag) f
          ∙ eqb-true _ _ (and_parts (is_readable ((later.caches c).lines (group_of k addr) way).state)
          (eqb ((later.caches c).lines (group_of k addr) way).tag (tag_at k addr)) g.1).1
          ∙ sym same_tag in
          with-rest _ _ (store_woken k later x c way at value (group_of k addr) (tag_at k addr) (lines (group_of k at) way) f same_tag
          held_tag) refl
  woken-op way addr (ops.Load at) begun =
      gated-none (left_of k x later c) (Before k later x C) (eqb (group_of k at) (group_of k addr)) (eqb begun way)
  woken-op way addr (ops.UcLoad at) begun =
      gated-none (left_of k x later c) (Before k later x C) (eqb (group_of k at) (group_of k addr)) (eqb begun way)
  woken-op way addr (ops.UcStore at value) begun =
      gated-none (left_of k x later c) (Before k later x C) (eqb (group_of k at) (group_of k addr)) (eqb begun way)
  woken-op way addr (ops.Evict at) begun =
      gated-none (left_of k x later c) (Before k later x C) (eqb (group_of k at) (group_of k addr)) (eqb begun way)

  pub wake_comes : (way addr : ℕ) (b : Option Begun)
      → Agrees (left_of k x later c) (Before k later x C) (table.wake_for k (later.caches c) c way addr b)
      (for_busy (group_of k addr) (begun_of k b)
      (λ o. cond (eqb o.way way) (wake_row (Before k later x C) (group_of k addr) c (tag_at k addr) way rest o.op) None))
  wake_comes way addr None = tt
  wake_comes way addr (Some b) = woken-op way addr b.op b.way

  -- an operation past the caches, or an Evict, completes at the message's group and tag
  done : (op : Operation) (at g : ℕ) (o : Op) (answer way : ℕ) → op_of k op ≡ (group_of k at, o) → op_tag o ≡ tag_at k at
      → group_of k at ≡ g
      → left_of k x later c (table.completion_row (later.caches c) c op at answer way)
      ≡ with_completion g c o answer (world_of k later x)
  done op at g o answer way f t eg = completes_row k later x c op at o answer way f t
      ∙ ap (λ (group : ℕ). with_completion group c o answer (world_of k later x)) eg

  -- UCBLK
  word-op : (addr word way : ℕ) (op : Operation) → IsAddr addr → IsAddr (table.address_of op)
      → Agrees (left_of k x later c) (Before k later x C) (table.word_row (later.caches c) c way addr word op)
      (cond (eqb (op_of k op).0 (group_of k addr))
      (word_row (group_of k addr) c (tag_at k addr) way (word_of addr) word rest (op_of k op).1) None)
  word-op addr word way (ops.UcLoad at) h i =
      gated _ _ (eqb (group_of k at) (group_of k addr)) true (eqb (tag_at k at) (tag_at k addr) && eqb (word_of at) (word_of addr))
      (eqb at addr) _ _ _ (words_apart k at addr sets i h)
      (λ f g. with-rest _ _
      (done (ops.UcLoad at) at (group_of k addr) (UcLoad (tag_at k at) (whole (word_of at))) word way refl refl (eqb-true _ _ f)
      ∙ (λ j. with_completion (group_of k addr) c (UcLoad (eqb-true (tag_at k at) (tag_at k addr) (and_parts _ _ g).0 j)
      (whole (word_of at))) word (world_of k later x))) refl)
  word-op addr word way (ops.Load at) h i = shut (left_of k x later c) (Before k later x C) (eqb (group_of k at) (group_of k addr))
  word-op addr word way (ops.Store at value) h i = shut (left_of k x later c) (Before k later x C) (eqb (group_of k at) (group_of k addr))
  word-op addr word way (ops.UcStore at value) h i = shut (left_of k x later c) (Before k later x C) (eqb (group_of k at) (group_of k addr))
  word-op addr word way (ops.Evict at) h i = shut (left_of k x later c) (Before k later x C) (eqb (group_of k at) (group_of k addr))

  pub word_comes : (addr word : ℕ) (b : Option Begun) → IsAddr addr → IfSome b (λ o. IsAddr (table.address_of o.op))
      → Agrees (left_of k x later c) (Before k later x C)
      (table.by_operation b (λ way op. table.word_row (later.caches c) c way addr word op))
      (for_busy (group_of k addr) (begun_of k b) (λ o. word_row (group_of k addr) c (tag_at k addr) o.way (word_of addr) word rest o.op))
  word_comes addr word None h i = tt
  word_comes addr word (Some b) h i = word-op addr word b.way b.op h i

  -- UCDONE
  stored-op : (addr way : ℕ) (op : Operation) → IsAddr addr → IsAddr (table.address_of op)
      → Agrees (left_of k x later c) (Before k later x C) (table.written_row (later.caches c) c way addr op)
      (cond (eqb (op_of k op).0 (group_of k addr))
      (stored_row (group_of k addr) c (tag_at k addr) way (word_of addr) rest (op_of k op).1) None)
  stored-op addr way (ops.UcStore at value) h i =
      gated _ _ (eqb (group_of k at) (group_of k addr)) true (eqb (tag_at k at) (tag_at k addr) && eqb (word_of at) (word_of addr))
      (eqb at addr) _ _ _ (words_apart k at addr sets i h)
      (λ f g. with-rest _ _ (done (ops.UcStore at value) at (group_of k addr) (UcStore (tag_at k at) (word_of at) (becomes value)) 0
      way refl refl
      (eqb-true _ _ f)
      ∙ (λ j. with_completion (group_of k addr) c (UcStore (eqb-true (tag_at k at) (tag_at k addr) (and_parts _ _ g).0 j)
      (eqb-true (word_of at) (word_of addr) (and_parts _ _ g).1 j) (becomes value)) 0 (world_of k later x))) refl)
  stored-op addr way (ops.Load at) h i = shut (left_of k x later c) (Before k later x C) (eqb (group_of k at) (group_of k addr))
  stored-op addr way (ops.Store at value) h i = shut (left_of k x later c) (Before k later x C) (eqb (group_of k at) (group_of k addr))
  stored-op addr way (ops.UcLoad at) h i = shut (left_of k x later c) (Before k later x C) (eqb (group_of k at) (group_of k addr))
  stored-op addr way (ops.Evict at) h i = shut (left_of k x later c) (Before k later x C) (eqb (group_of k at) (group_of k addr))

  pub store_comes : (addr : ℕ) (b : Option Begun) → IsAddr addr → IfSome b (λ o. IsAddr (table.address_of o.op))
      → Agrees (left_of k x later c) (Before k later x C)
      (table.by_operation b (λ way op. table.written_row (later.caches c) c way addr op))
      (for_busy (group_of k addr) (begun_of k b) (λ o. stored_row (group_of k addr) c (tag_at k addr) o.way (word_of addr) rest o.op))
  store_comes addr None h i = tt
  store_comes addr (Some b) h i = stored-op addr b.way b.op h i

  -- DONE
  evicted-op : (addr way : ℕ) (op : Operation)
      → Agrees (left_of k x later c) (Before k later x C) (table.evicted_row (later.caches c) c way addr op)
      (cond (eqb (op_of k op).0 (group_of k addr)) (evicted_row (group_of k addr) c (tag_at k addr) way rest (op_of k op).1) None)
  evicted-op addr way (ops.Evict at) =
      gated _ _ (eqb (group_of k at) (group_of k addr)) true (eqb (tag_at k at) (tag_at k addr)) (eqb (block_of at) (block_of addr)) _ _ _
      (blocks k at addr sets)
      (λ f g. with-rest _ _ (done (ops.Evict at) at (group_of k addr) (Evict (tag_at k at)) 0 way refl refl (eqb-true _ _ f)
      ∙ (λ j. with_completion (group_of k addr) c (Evict (eqb-true (tag_at k at) (tag_at k addr) g j)) 0 (world_of k later x))) refl)
  evicted-op addr way (ops.Load at) = shut (left_of k x later c) (Before k later x C) (eqb (group_of k at) (group_of k addr))
  evicted-op addr way (ops.Store at value) = shut (left_of k x later c) (Before k later x C) (eqb (group_of k at) (group_of k addr))
  evicted-op addr way (ops.UcLoad at) = shut (left_of k x later c) (Before k later x C) (eqb (group_of k at) (group_of k addr))
  evicted-op addr way (ops.UcStore at value) = shut (left_of k x later c) (Before k later x C) (eqb (group_of k at) (group_of k addr))

  pub evict_comes : (addr : ℕ) (b : Option Begun)
      → Agrees (left_of k x later c) (Before k later x C)
      (table.by_operation b (λ way op. table.evicted_row (later.caches c) c way addr op))
      (for_busy (group_of k addr) (begun_of k b) (λ o. evicted_row (group_of k addr) c (tag_at k addr) o.way rest o.op))
  evict_comes addr None = tt
  evict_comes addr (Some b) = evicted-op addr b.way b.op
