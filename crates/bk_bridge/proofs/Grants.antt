-- A block that is granted, by Blk or Fill, and a copy that is woken: what the cache and its channels are after it, at the message's
-- group and tag.
use Rattle.std.proofs.Common.{◌≡◌, ℕ, refl, ◌∙◌, List, length, Option, slice_index}
use Rattle.bk_base.specs.Places.{Shape, word_of, group_of, tag_at}
use Rattle.bk_base.specs.Tables.{put}
use Rattle.bk_base.specs.declared.op.Op.TheVariants as ops
use Rattle.bk_base.specs.declared.coh.Coh.{Coh}
use Rattle.bk_base.specs.declared.coh.Coh.TheVariants.{M}
use Rattle.bk_lce.specs.CacheTable as table
use Rattle.bk_system.specs.State.{State}
use Rattle.bk_machine.specs.Messages.{whole, becomes, Load, Store}
use Rattle.bk_machine.specs.Transactions.{Transaction}
use Rattle.bk_machine.specs.Products.{words_of}
use Rattle.bk_machine.specs.Steps.{with_completion, with_filled_entry, with_way_first}
use Rattle.bk_bridge.specs.Worlds.{world_of}
use Rattle.bk_bridge.proofs.Places.{word-below}
use Rattle.bk_bridge.proofs.Caches.{word_set}
use Rattle.bk_bridge.proofs.Agrees.{left_of}
use Rattle.bk_bridge.proofs.CommandRows.{fills_row}

pub load_granted : (k : Shape) (s : State) (x : Option (ℕ × Transaction)) (c way at : ℕ) (state : Coh) (words : List ℕ) (g t : ℕ)
    → group_of k at ≡ g → tag_at k at ≡ t
    → left_of k x s c (table.filled_row k (s.caches c) c (ops.Load at) at (slice_index words (word_of at)) way
    (record { tag = tag_at k at; state = state; words = words }))
    ≡ with_completion g c (Load t (whole (word_of at))) (words_of words (word_of at))
    (with_filled_entry g c way t state (words_of words) (with_way_first g c way (world_of k s x)))
load_granted k s x c way at state words g t eg et =
    fills_row k s x c (ops.Load at) at (Load (tag_at k at) (whole (word_of at))) (slice_index words (word_of at)) way
    (record { tag = tag_at k at; state = state; words = words }) (words_of words) refl refl refl
    ∙ (λ i. with_completion (eg i) c (Load (et i) (whole (word_of at))) (words_of words (word_of at))
    (with_filled_entry (eg i) c way (et i) state (words_of words) (with_way_first (eg i) c way (world_of k s x))))

pub store_granted : (k : Shape) (s : State) (x : Option (ℕ × Transaction)) (c way at value : ℕ) (state : Coh)
    (words : List ℕ) (g t : ℕ)
    → length words ≡ 8
    → group_of k at ≡ g → tag_at k at ≡ t
    → left_of k x s c (table.filled_row k (s.caches c) c (ops.Store at value) at 0 way
    (table.stored_line (record { tag = tag_at k at; state = state; words = words }) at value))
    ≡ with_completion g c (Store t (word_of at) (becomes value)) 0
    (with_filled_entry g c way t M (put (words_of words) (word_of at) value) (with_way_first g c way (world_of k s x)))
store_granted k s x c way at value state words g t e eg et =
    fills_row k s x c (ops.Store at value) at (Store (tag_at k at) (word_of at) (becomes value)) 0 way
    (table.stored_line (record { tag = tag_at k at; state = state; words = words }) at value)
    (put (words_of words) (word_of at) value) refl refl (word_set words (word_of at) value e (word-below at))
    ∙ (λ i. with_completion (eg i) c (Store (et i) (word_of at) (becomes value)) 0
    (with_filled_entry (eg i) c way (et i) M (put (words_of words) (word_of at) value) (with_way_first (eg i) c way (world_of k s x))))

-- the copy that is woken has the tag
pub store_woken : (k : Shape) (s : State) (x : Option (ℕ × Transaction)) (c way at value : ℕ) (g t : ℕ)
    → length ((s.caches c).lines (group_of k at) way).words ≡ 8
    → group_of k at ≡ g → tag_at k at ≡ t → ((s.caches c).lines (group_of k at) way).tag ≡ tag_at k at
    → left_of k x s c (table.filled_row k (s.caches c) c (ops.Store at value) at 0 way
    (table.stored_line ((s.caches c).lines (group_of k at) way) at value))
    ≡ with_completion g c (Store t (word_of at) (becomes value)) 0
    (with_filled_entry g c way t M (put ((world_of k s x).words g c way) (word_of at) value) (with_way_first g c way (world_of k s x)))
store_woken k s x c way at value g t e eg et el =
    fills_row k s x c (ops.Store at value) at (Store (tag_at k at) (word_of at) (becomes value)) 0 way
    (table.stored_line ((s.caches c).lines (group_of k at) way) at value)
    (put ((world_of k s x).words (group_of k at) c way) (word_of at) value) refl refl (word_set _ (word_of at) value e (word-below at))
    ∙ (λ i. with_completion (eg i) c (Store (et i) (word_of at) (becomes value)) 0 (with_filled_entry (eg i) c way ((el
    ∙ et) i) M (put ((world_of k s x).words (eg i) c way) (word_of at) value) (with_way_first (eg i) c way (world_of k s x))))
