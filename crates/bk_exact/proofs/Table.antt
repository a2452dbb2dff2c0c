-- Each instruction that takes no head off, by its form.
use Rattle.std.proofs.Common.{◌≡◌, ◌==◌, true, false, refl}
use Rattle.std.proofs.lemmas.Bool.{and_parts}
use Rattle.bk_base.specs.Places.{Shape, InProfile}
use Rattle.bk_isa.specs.declared.form.Form.{Form}
use Rattle.bk_isa.specs.declared.form.Form.TheVariants as forms
use Rattle.bk_isa.specs.Operands.{Operands}
use Rattle.bk_know.specs.declared.sets.Sets.{Sets}
use Rattle.bk_know.specs.declared.values.TheConstants.{STAGE_CLOSING}
use Rattle.bk_check.specs.Obligations.{sends}
use Rattle.bk_order.proofs.Meets.{Met}
use Rattle.bk_engine.specs.Sends.{HasStates}
use Rattle.bk_system.specs.State.{State}
use Rattle.bk_bridge.specs.Effects.{is_pop}
use Rattle.bk_exact.specs.Told.{Told}
use Rattle.bk_exact.specs.Exact.{exact}
use Rattle.bk_exact.specs.Ties.{Tied}
use Rattle.bk_exact.proofs.Debts.{permits-wde, permits-wds, permits-fin}
use Rattle.bk_exact.proofs.Defers.{moves-defer}
use Rattle.bk_exact.proofs.Flushes.{permits-stwb}
use Rattle.bk_exact.proofs.Grants.{permits-blk, permits-wake, permits-tr, permits-ucblk, permits-ucdone, permits-done}
use Rattle.bk_exact.proofs.Idles.{only-flags, only-reads, moves-quiet, moves-rdw, moves-gad, moves-wfq}
use Rattle.bk_exact.proofs.Invalidations.{permits-inv}
use Rattle.bk_exact.proofs.Memory.{permits-memrd, permits-memww, permits-memwb}
use Rattle.bk_exact.proofs.Moves.{Moves}
use Rattle.bk_exact.proofs.Parts.{and4}
use Rattle.bk_exact.proofs.Serving.{Staged, mask, met-of, serves-closing, serves-sending}

module _ (k : Shape) (later : State) (told : Told) (tied : Tied k later told) where
  abbrev m : Sets
  m = exact k later.engine told

  -- what is sent for a request that isn't granted, and what follows the grant
  sending : (f : Form) → Met f m → sends m ≡ true
      → ((v : Staged k later told false) → Met f (mask k later told v.serving) → Moves k later told f) → Moves k later told f
  sending f o q moves = let v = serves-sending k later told tied q in moves v (met-of k later told v.serving f o)

  closing : (f : Form) → Met f m → (m.stage == STAGE_CLOSING) ≡ true
      → ((v : Staged k later told true) → Met f (mask k later told v.serving) → Moves k later told f)
      → Moves k later told f
  closing f o q moves = let v = serves-closing k later told tied q in moves v (met-of k later told v.serving f o)

  -- THE TABLE
  pub moves : (f : Form) → InProfile k → HasStates f → Operands f → is_pop f ≡ false → Met f m → Moves k later told f
  moves (forms.Inv a) p g r i o = sending (forms.Inv a) o (and_parts _ _ o.o11).0 (λ v q. permits-inv k later told tied v p a q)
  moves (forms.Stwb who y) p g r i o =
      sending (forms.Stwb who y) o (and_parts _ _ o.o11).0 (λ v q. permits-stwb k later told tied v who y g r q)
  moves (forms.Tr y z) p g r i o = sending (forms.Tr y z) o (and_parts _ _ o.o11).0 (λ v q. permits-tr k later told tied v y z q)
  moves (forms.Blk y) p g r i o = sending (forms.Blk y) o (and_parts _ _ o.o11).0 (λ v q. permits-blk k later told tied v y g q)
  moves forms.Wake p g r i o = sending forms.Wake o (and_parts _ _ o.o11).0 (permits-wake k later told tied)
  moves forms.Ucblk p g r i o = sending forms.Ucblk o (and_parts _ _ o.o11).0 (permits-ucblk k later told tied)
  moves forms.Ucdone p g r i o = sending forms.Ucdone o (and_parts _ _ o.o11).0 (permits-ucdone k later told tied)
  moves forms.Done p g r i o = sending forms.Done o (and_parts _ _ o.o11).0 (permits-done k later told tied)
  moves forms.Memrd p g r i o = sending forms.Memrd o (and_parts _ _ o.o11).0 (permits-memrd k later told tied)
  moves forms.Memwb p g r i o = sending forms.Memwb o (and_parts _ _ o.o11).0 (permits-memwb k later told tied)
  moves forms.Memww p g r i o = sending forms.Memww o (and_parts _ _ o.o11).0 (permits-memww k later told tied)
  moves (forms.Wde y) p g r i o = closing (forms.Wde y) o (and_parts _ _ o.o21).0 (λ v q. permits-wde k later told tied v y q)
  moves (forms.Wds who y) p g r i o =
      closing (forms.Wds who y) o (and_parts _ _ o.o21).0 (λ v q. permits-wds k later told tied v who y r q)
  moves forms.Fin p g r i o = closing forms.Fin o (and4 _ _ _ _ o.o22).0 (permits-fin k later told tied)
  moves forms.Rdw p g r i o = moves-rdw k later told tied.agrees tied.left o
  moves forms.Gad p g r i o = moves-gad k later told tied.agrees tied.left o
  moves (forms.Wfq a) p g r i o = moves-wfq k later told tied.agrees tied.left a o
  moves forms.Defer p g r i o = moves-defer k later told tied o
  moves (forms.Mova a) p g r i o =
      moves-quiet k later told tied.agrees tied.left (forms.Mova a) refl (λ h y. refl) refl (λ h. refl)
      (λ s c r. ((_, _), only-reads later.engine.core later.engine.core.held (forms.Mova a))) refl
  moves (forms.Movs a) p g r i o =
      moves-quiet k later told tied.agrees tied.left (forms.Movs a) refl (λ h y. refl) refl (λ h. refl)
      (λ s c r. ((_, _), only-reads later.engine.core later.engine.core.held (forms.Movs a))) refl
  moves (forms.Movw a) p g r i o =
      moves-quiet k later told tied.agrees tied.left (forms.Movw a) refl (λ h y. refl) refl (λ h. refl)
      (λ s c r. ((_, _), only-reads later.engine.core later.engine.core.held (forms.Movw a))) refl
  moves (forms.Popq wp) p g r i o = absurd (cc)
  moves f p g r i o = moves-quiet k later told tied.agrees tied.left f refl (λ h y. refl) refl (λ h. refl)
      (λ s c r. ((_, _), only-flags later.engine.core f)) refl
