-- What an instruction does to the machine's state neither reads the transaction nor changes it.
use Rattle.std.proofs.Common.{◌≡◌, ℕ, refl, List, Option, Some, None}
use Rattle.bk_base.specs.Places.{Shape, group_of}
use Rattle.bk_base.specs.declared.coh.Coh.{Coh}
use Rattle.bk_isa.specs.declared.form.Form.{Form}
use Rattle.bk_isa.specs.declared.form.Form.TheVariants as forms
use Rattle.bk_msg.specs.declared.row.Row.TheVariants as rows
use Rattle.bk_engine.specs.declared.parts.Core.{Core}
use Rattle.bk_engine.specs.declared.parts.Held.{Held}
use Rattle.bk_engine.specs.declared.parts.DirtyBlock.{DirtyBlock}
use Rattle.bk_machine.specs.Transactions.{Transaction}
use Rattle.bk_machine.specs.World.{World}
use Rattle.bk_bridge.specs.Effects.{owner_place, place_of, writes_state, flushes, transfers, grants, answers_word, writes_back, flushed_tag, done_for, done_held, InstructionsAside, PopsAside}

-- two worlds that differ in the transaction
module _ (k : Shape) (world : World) (x : Option (ℕ × Transaction)) where
  abbrev u : World
  u = record world { transaction = x }

  state-aside : (g : ℕ) (o : Option (ℕ × ℕ)) (y : Coh) → writes_state g o y u
      ≡ record (writes_state g o y world) { transaction = x }
  state-aside g None y = refl
  state-aside g (Some at) y = refl

  flush-aside : (g : ℕ) (o : Option (ℕ × ℕ)) (t : ℕ) (y : Coh)
      → flushes g o t y u ≡ record (flushes g o t y world) { transaction = x }
  flush-aside g None t y = refl
  flush-aside g (Some at) t y = refl

  transfer-aside : (h : Held) (o : Option (ℕ × ℕ)) (y z : Coh)
      → transfers k h o y z u ≡ record (transfers k h o y z world) { transaction = x }
  transfer-aside h None y z = refl
  transfer-aside h (Some at) y z = refl

  grant-aside : (h : Held) (y : Coh) (o : Option (List ℕ)) → grants k h y o u ≡ record (grants k h y o world) { transaction = x }
  grant-aside h y None = refl
  grant-aside h y (Some words) = refl

  word-aside : (h : Held) (o : Option (List ℕ)) → answers_word k h o u ≡ record (answers_word k h o world) { transaction = x }
  word-aside h None = refl
  word-aside h (Some words) = refl

  back-aside : (o : Option DirtyBlock) → writes_back k o u ≡ record (writes_back k o world) { transaction = x }
  back-aside None = refl
  back-aside (Some kept) = refl

  for-aside : (core : Core) (h : Held) (f : Form) → done_for k core h f u ≡ record (done_for k core h f world) { transaction = x }
  for-aside core h (forms.Wde y) = refl
  for-aside core h (forms.Wds who y) = state-aside (group_of k h.addr) (place_of k h who world) y
  for-aside core h (forms.Inv a) = refl
  for-aside core h (forms.Stwb who y) = flush-aside (group_of k h.addr) (place_of k h who world) (flushed_tag k h who world) y
  for-aside core h (forms.Tr y z) = transfer-aside h (owner_place k h world) y z
  for-aside core h (forms.Blk y) = grant-aside h y core.got
  for-aside core h forms.Wake = refl
  for-aside core h forms.Ucblk = word-aside h core.got
  for-aside core h forms.Ucdone = refl
  for-aside core h forms.Done = refl
  for-aside core h forms.Memrd = refl
  for-aside core h forms.Memww = refl
  for-aside core h f = refl

  held-aside : (core : Core) (o : Option Held) (f : Form) → done_held k core o f u
      ≡ record (done_held k core o f world) { transaction = x }
  held-aside core None f = refl
  held-aside core (Some h) f = for-aside core h f

pub instructions-aside : InstructionsAside
instructions-aside k e forms.Memwb w x = back-aside k w x e.dirty
instructions-aside k e f w x = held-aside k w x e e.held f

pub pops-aside : PopsAside
pops-aside k wp c (rows.Rd _ _ _ addr) w x = refl
pops-aside k wp c (rows.Wr _ _ _ addr) w x = refl
pops-aside k wp c (rows.UcRd _ _ addr) w x = refl
pops-aside k wp c (rows.UcWr _ _ addr _) w x = refl
pops-aside k wp c (rows.Evict _ _ _ addr) w x = refl
pops-aside k wp c (rows.InvAck _ _ addr) w x = refl
pops-aside k wp c (rows.CohAck _ _ addr) w x = refl
pops-aside k wp c (rows.Wb _ _ addr _) w x = refl
pops-aside k wp c (rows.NullWb _ _ addr) w x = refl
pops-aside k wp c (rows.Block _ _ _ _) w x = refl
pops-aside k wp c m w x = refl
