-- Fill: the head of the channel from another cache is a block that is granted, as by Blk.
use Rattle.std.proofs.Common.{◌≡◌, ℕ, ◌<◌, ltb, eqb, ◌&&◌, cond, refl, ap, ◌∙◌, List, [], ◌∷◌, length, drop, Option, Some, None, eqb-true}
use Rattle.std.specs.List.{filter_map}
use Rattle.std.proofs.lemmas.Bool.{and_parts}
use Rattle.bk_base.specs.Places.{Shape, block_of, group_of, tag_at}
use Rattle.bk_base.specs.States.{is_writable}
use Rattle.bk_base.specs.declared.op.Op.{Op as Operation}
use Rattle.bk_base.specs.declared.op.Op.TheVariants as ops
use Rattle.bk_base.specs.declared.coh.Coh.{Coh}
use Rattle.bk_isa.specs.declared.form.Form.{Form}
use Rattle.bk_msg.specs.declared.row.Row.{Row}
use Rattle.bk_msg.specs.declared.row.Row.TheVariants as rows
use Rattle.bk_msg.specs.declared.row.Network.TheVariants as networks
use Rattle.bk_lce.specs.declared.line.InProgress.{InProgress as Begun}
use Rattle.bk_lce.specs.CacheTable as table
use Rattle.bk_system.specs.declared.event.Event.TheVariants as events
use Rattle.bk_system.specs.State.{State}
use Rattle.bk_system.specs.Events.{first, fill_of, fill_taken, without_fill}
use Rattle.bk_machine.specs.Tables.{put2}
use Rattle.bk_machine.specs.Messages.{FillMessage}
use Rattle.bk_machine.specs.Transactions.{Transaction}
use Rattle.bk_machine.specs.Products.{as_fill, op_of, words_of}
use Rattle.bk_machine.specs.CacheSteps.{for_busy, fill_row, step_of_fill}
use Rattle.bk_machine.specs.World.{World}
use Rattle.bk_machine.specs.Runs as machine
use Rattle.bk_bridge.specs.Worlds.{world_of, begun_of}
use Rattle.bk_bridge.specs.Formed.{AreOf, IsOf, WellFormed}
use Rattle.bk_bridge.specs.Steps.{IsStep}
use Rattle.bk_bridge.proofs.Places.{sets_pos, blocks}
use Rattle.bk_bridge.proofs.Tables.{put-put2}
use Rattle.bk_bridge.proofs.Agrees.{Agrees, behind, left_of, IsSame, same}
use Rattle.bk_bridge.proofs.Gates.{gated, gated-none, and_last}
use Rattle.bk_bridge.proofs.Grants.{load_granted, store_granted}

module _ (k : Shape) (s : State) (x : Option (ℕ × Transaction)) (c from : ℕ) (C : ℕ → ℕ
    → List (ℕ × FillMessage)) (rest : List (ℕ × FillMessage))
    (sets : 0 < k.sets)
    (e : (world_of k s x).fill ≡ put2 C c from rest) where
  -- what is left, with the channel's rest
  with-rest : (world later : World) → world ≡ later → later.fill ≡ (world_of k s x).fill
      → world ≡ record later { fill = put2 C c from rest }
  with-rest world later f g = f ∙ ap (λ (y : ℕ → ℕ → List (ℕ × FillMessage)). record later { fill = y }) (g ∙ e)

  -- By operation: both rows ask the same of block, way and state, and they leave the same.
  granted-op : (way addr : ℕ) (state : Coh) (words : List ℕ) (op : Operation) (begun : ℕ) → length words ≡ 8
      → Agrees (left_of k x s c) (record (world_of k s x) { fill = C })
      (cond (eqb begun way) (table.grant_row k (s.caches c) c way state addr words op) None)
      (cond (eqb (op_of k op).0 (group_of k addr))
      (cond (eqb begun way) (fill_row (group_of k addr) c from
      (record { tag = tag_at k addr; way = way; state = state; words = words_of words }) rest (op_of k op).1) None) None)
  granted-op way addr state words (ops.Load at) begun eight =
      gated _ _ (eqb (group_of k at) (group_of k addr)) (eqb begun way) (eqb (tag_at k at) (tag_at k addr))
      (eqb (block_of at) (block_of addr)) _ _ _ (blocks k at addr sets)
      (λ f g. with-rest _ _
      (load_granted k s x c way at state words (group_of k addr) (tag_at k addr) (eqb-true _ _ f) (eqb-true _ _ g)) refl)
  granted-op way addr state words (ops.Store at value) begun eight =
      gated _ _ (eqb (group_of k at) (group_of k addr)) (eqb begun way) (eqb (tag_at k at) (tag_at k addr) && is_writable state)
      (eqb (block_of at) (block_of addr) && is_writable state) _ _ _
      (and_last _ _ _ _ _ (blocks k at addr sets) (λ f g. refl))
      (λ f g. with-rest _ _ (store_granted k s x c way at value state words (group_of k addr) (tag_at k addr) eight (eqb-true _ _ f)
      (eqb-true _ _ (and_parts _ _ g).0)) refl)
  granted-op way addr state words (ops.UcLoad at) begun eight =
      gated-none (left_of k x s c) (record (world_of k s x) { fill = C }) (eqb (group_of k at) (group_of k addr)) (eqb begun way)
  granted-op way addr state words (ops.UcStore at value) begun eight =
      gated-none (left_of k x s c) (record (world_of k s x) { fill = C }) (eqb (group_of k at) (group_of k addr)) (eqb begun way)
  granted-op way addr state words (ops.Evict at) begun eight =
      gated-none (left_of k x s c) (record (world_of k s x) { fill = C }) (eqb (group_of k at) (group_of k addr)) (eqb begun way)

  fill_comes : (way addr : ℕ) (state : Coh) (words : List ℕ) (b : Option Begun) → length words ≡ 8
      → Agrees (left_of k x s c) (record (world_of k s x) { fill = C }) (table.grant_for k (s.caches c) c way state addr words b)
      (for_busy (group_of k addr) (begun_of k b)
      (λ o. cond (eqb o.way way) (fill_row (group_of k addr) c from
      (record { tag = tag_at k addr; way = way; state = state; words = words_of words }) rest o.op) None))
  fill_comes way addr state words None eight = tt
  fill_comes way addr state words (Some b) eight = granted-op way addr state words b.op b.way eight

-- a head that is taken leaves the rest of the channel
popped : (k : Shape) (s : State) (x : Option (ℕ × Transaction)) (c from : ℕ) (m : Row) (ms : List Row) → s.fill c from ≡ m ∷ ms
    → (world_of k (without_fill s c from) x).fill ≡ put2 (world_of k s x).fill c from (filter_map (as_fill k) ms)
popped k s x c from m ms e =
    put-put2 (filter_map (as_fill k)) s.fill c from (drop 1 (s.fill c from)) (filter_map (as_fill k) ms)
    (ap (λ (ys : List Row). filter_map (as_fill k) (drop 1 ys)) e)

-- by the head
head : (k : Shape) (s : State) (x : Option (ℕ × Transaction)) (c from : ℕ) (m : Row) (ms : List Row) → WellFormed k s
    → s.fill c from ≡ m ∷ ms
    → IsOf networks.Fill m
    → Agrees (left_of k x (without_fill s c from) c) (world_of k s x) (table.fill k (s.caches c) c m)
    (step_of_fill (world_of k s x) c from (filter_map (as_fill k) (m ∷ ms)))
head k s x c from (rows.Fill sender to way state addr words) ms f e h =
    fill_comes k (without_fill s c from) x c from (world_of k s x).fill (filter_map (as_fill k) ms) (sets_pos k f.profile)
    (popped k s x c from _ ms e) way addr state words (s.caches c).busy h.whole.block
head k s x c from m ms f e h = absurd (cc h.is)

channel : (k : Shape) (s : State) (x : Option (ℕ × Transaction)) (c from : ℕ) (ms : List Row) → WellFormed k s
    → s.fill c from ≡ ms
    → AreOf networks.Fill ms
    → Agrees (left_of k x (without_fill s c from) c) (world_of k s x) (fill_of k s c (first ms))
    (step_of_fill (world_of k s x) c from (filter_map (as_fill k) ms))
channel k s x c from [] f e h = tt
channel k s x c from (m ∷ ms) f e h = head k s x c from m ms f e h.0

pub fill_step : (k : Shape) (program : List Form) (s : State) (x : Option (ℕ × Transaction)) (c from : ℕ) → WellFormed k s
    → IsStep k program s x (events.Fill c from) (machine.Fill c from)
fill_step k program s x c from f = record { enabled = both.enabled; left = both.left }
  where
    both : IsSame k x s (without_fill s c from) c (fill_taken k s c from) (machine.step_of k (world_of k s x) (machine.Fill c from))
    both =
        same k x s (without_fill s c from) c _ _ (behind _ _ (ltb c k.caches && ltb from k.caches) _ _
        (channel k s x c from (s.fill c from) f refl (f.fill c from)))
