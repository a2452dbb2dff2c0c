-- The instructions that are no action of the machine: what they change is the engine's own.
use Rattle.std.proofs.Common.{◌≡◌, ℕ, ◌==◌, Bool, true, refl, sym, ap, ◌∙◌, subst, List, length, Option, Some, None}
use Rattle.std.specs.Prelude.{option_map}
use Rattle.std.proofs.lemmas.Bool.{and_parts}
use Rattle.bk_base.specs.Places.{Shape, group_of}
use Rattle.bk_isa.specs.declared.form.Form.{Form}
use Rattle.bk_isa.specs.declared.form.Form.TheVariants as forms
use Rattle.bk_know.specs.declared.sets.Sets.{Sets}
use Rattle.bk_know.specs.declared.values.TheConstants.{STAGE_HELD, SUMM_NO, SUMM_ROW}
use Rattle.bk_order.proofs.Meets.{Met}
use Rattle.bk_msg.specs.declared.row.Row.{Row}
use Rattle.bk_engine.specs.declared.parts.Choice.{Choice}
use Rattle.bk_engine.specs.declared.parts.Core.{Core}
use Rattle.bk_engine.specs.declared.parts.Held.{Held}
use Rattle.bk_engine.specs.declared.parts.DirtyBlock.{DirtyBlock}
use Rattle.bk_engine.specs.Changes.{after_request_read, after_move, after_flag, after_wait, core_but_place, core_after}
use Rattle.bk_engine.specs.Sends.{sends}
use Rattle.bk_system.specs.State.{State}
use Rattle.bk_machine.specs.Actions.{Idles, NoGranted}
use Rattle.bk_machine.specs.Transactions.{Transaction}
use Rattle.bk_machine.specs.World.{World}
use Rattle.bk_bridge.specs.Acting.{action_of}
use Rattle.bk_bridge.specs.Effects.{done_by, done_held, done_for}
use Rattle.bk_exact.specs.Told.{Told, Deferred}
use Rattle.bk_exact.specs.Exact.{exact, stage_of}
use Rattle.bk_exact.specs.Agrees.{ServesTold, AgreesWith, LeavesDeferred, KeptAlike, GotAlike}
use Rattle.bk_exact.specs.After.{action_at, served_action, transaction_after, deferred_after}
use Rattle.bk_exact.specs.Ties.{told_world}
use Rattle.bk_exact.proofs.Moves.{Moves, serves-as, told-serves}
use Rattle.bk_exact.proofs.Parts.{clash}
use Rattle.bk_exact.proofs.Values as values

-- REGISTERS AND FLAGS: an instruction that is for them alone leaves the rest of the engine

pub only-registers : (core : Core) (f : Form) → after_move core f ≡ record core { registers = (after_move core f).registers }
only-registers core (forms.Movk a) = refl
only-registers core f = refl

pub only-flags : (core : Core) (f : Form) → after_flag core f
    ≡ record core { registers = (after_flag core f).registers; flags = (after_flag core f).flags }
only-flags core (forms.Sf a) = refl
only-flags core f = refl

pub only-reads : (core : Core) (o : Option Held) (f : Form) → after_request_read core o f
    ≡ record core { registers = (after_request_read core o f).registers }
only-reads core None f = refl
only-reads core (Some h) (forms.Mova a) = refl
only-reads core (Some h) f = refl

-- none of them is part of what agrees with the transaction
serves-same : (k : Shape) (core : Core) (o : Option Held) (x : Option (ℕ × Transaction)) (rs : List ℕ) (fs : List Bool) (p : ℕ)
    → ServesTold k core o x
    → ServesTold k (record core { registers = rs; flags = fs; place = p }) o x
serves-same k core None None rs fs p a = record { unread = a.unread; acks = a.acks; kept = a.kept; got = a.got }
serves-same k core None (Some x) rs fs p a = a
serves-same k core (Some h) None rs fs p a = a
serves-same k core (Some h) (Some x) rs fs p a =
    serves-as k core _ h x.0 x.1 x.1 a refl refl a.acks a.kept a.got a.written
    (λ g. record { summed = (a.closed g).summed; no_head = (a.closed g).no_head })

-- while no transaction is granted, the head may be another, and of a request the directory may be read
pub record SameOpen (core later_core : Core) : Type 0 where
  pub held : later_core.held ≡ core.held
  pub acks : later_core.acks ≡ core.acks
  pub dirty : later_core.dirty ≡ core.dirty
  pub got : later_core.got ≡ core.got

pub serves-open : (k : Shape) (core later_core : Core) (o : Option Held) (x : Option (ℕ × Transaction)) → SameOpen core later_core
    → NoGranted x → (x ≡ None → later_core.summ ≡ core.summ)
    → ServesTold k core o x
    → ServesTold k later_core o x
serves-open k core later_core None None q n s a = record {
  unread = s refl ∙ a.unread;
  acks = q.acks ∙ a.acks;
  kept = q.dirty ∙ a.kept;
  got = q.got ∙ a.got;
}
serves-open k core later_core None (Some x) q n s a = a
serves-open k core later_core (Some h) None q n s a = a
serves-open k core later_core (Some h) (Some x) q n s a =
    serves-as k core later_core h x.0 x.1 x.1 a refl refl (q.acks ∙ a.acks)
    (subst (λ (o : Option DirtyBlock). KeptAlike k x.0 o x.1.write_back) (sym q.dirty) a.kept)
    (subst (λ (o : Option (List ℕ)). GotAlike o x.1.reading) (sym q.got) a.got) a.written (λ g. clash g n)

-- NO ACTION

-- such an instruction idles, whether a request is held or not
serves-idle : (k : Shape) (core : Core) (world : World) (f : Form) (o : Option Held) (x : Option (ℕ × Transaction))
    → ((h : Held) (other : Transaction) → action_of k core h other world f ≡ Some Idles) → (g : ℕ)
    × (served_action k core o x world f ≡ Some (g, Idles))
serves-idle k core world f None x j = (0, refl)
serves-idle k core world f (Some h) None j = (0, refl)
serves-idle k core world f (Some h) (Some x) j = (group_of k h.addr, ap (option_map (λ a. (group_of k h.addr, a))) (j h x.1))

-- and does nothing to the machine
held-quiet : (k : Shape) (core : Core) (world : World) (f : Form) (o : Option Held) → ((h : Held) → done_for k core h f world ≡ world)
    → done_held k core o f world ≡ world
held-quiet k core world f None q = refl
held-quiet k core world f (Some h) q = q h

module _ (k : Shape) (later : State) (told : Told) (agrees : AgreesWith k later.engine.core told)
    (left : LeavesDeferred (told_world k later told) told.deferred) where
  abbrev e : Core
  e = later.engine.core

  abbrev w : World
  w = told_world k later told

  abbrev m : Sets
  m = exact k later.engine told

  -- so the transaction stays, and what agrees with it has to agree after the instruction
  pub idles : (f : Form) → action_at k e w f ≡ served_action k e e.held told.transaction w f
      → ((h : Held) (x : Transaction) → action_of k e h x w f ≡ Some Idles)
      → done_by k e f w ≡ done_held k e e.held f w → ((h : Held) → done_for k e h f w ≡ w)
      → ((choice : Choice) (r : Option Row)
      → ServesTold k (core_after k later.engine f choice r) (core_after k later.engine f choice r).held told.transaction)
      → LeavesDeferred w (deferred_after k e f told.deferred) → Moves k later told f
  idles f i j q r serves stays =
      let g = serves-idle k e w f e.held told.transaction j in
      let is : action_at k e w f ≡ Some (g.0, Idles) = i ∙ g.1 in
      record {
        acts = record { group = g.0; action = Idles; is = is; permitted = tt };
        alike = ap (λ (world : World). record world { transaction = told.transaction }) (q ∙ held-quiet k e w f e.held r);
        agrees = λ choice m.
            told-serves k (core_after k later.engine f choice m) (core_after k later.engine f choice m).held _
            (transaction_after w (action_at k e w f)) told.transaction refl
            (ap (transaction_after w) is) (serves choice m);
        left = stays;
      }

  -- those that leave all but registers and flags
  pub moves-quiet : (f : Form) → action_at k e w f ≡ served_action k e e.held told.transaction w f
      → ((h : Held) (x : Transaction) → action_of k e h x w f ≡ Some Idles)
      → done_by k e f w ≡ done_held k e e.held f w → ((h : Held) → done_for k e h f w ≡ w)
      → ((group : ℕ) (choice : Choice) (r : Option Row) → (to : List ℕ × List Bool)
      × (core_but_place e group f choice r ≡ record e { registers = to.0; flags = to.1 }))
      → deferred_after k e f told.deferred ≡ told.deferred → Moves k later told f
  moves-quiet f i j q r same d =
      idles f i j q r
      (λ choice m.
      let p = same (length (sends k later.engine f)) choice m in
      subst (λ (core : Core). ServesTold k (record core { place = (core_after k later.engine f choice m).place }) core.held
      told.transaction) (sym p.1)
      (serves-same k e e.held told.transaction p.0.0 p.0.1 (core_after k later.engine f choice m).place agrees))
      (subst (LeavesDeferred w) (sym d) left)

  -- what agrees where no transaction is granted
  pub by-open : (core : Core) → SameOpen e core → NoGranted told.transaction → (told.transaction ≡ None → core.summ ≡ e.summ)
      → ServesTold k core core.held told.transaction
  by-open core q g group = told-serves k core core.held e.held told.transaction told.transaction q.held refl
      (serves-open k e core e.held told.transaction q g group agrees)

  -- THE DIRECTORY IS READ

  -- in Held there is a transaction, which isn't granted
  held-open : (o : Option (ℕ × Transaction)) (d : Option Deferred) → (stage_of o d == STAGE_HELD) ≡ true
      → NoGranted o × (o ≡ None → ⊥)
  held-open o d q = let y = values.stage-held o d q in (subst NoGranted (sym y.1) y.2, λ z. none (sym z ∙ y.1))
    where
      none : {X : Type 0} {y : X} → None ≡ Some y → ⊥
      none e = cc

  pub moves-rdw : Met forms.Rdw m → Moves k later told forms.Rdw
  moves-rdw o =
      let q = and_parts (stage_of told.transaction told.deferred == STAGE_HELD) (m.summ == SUMM_NO) o.o11 in
      let g = held-open told.transaction told.deferred q.0 in
      idles forms.Rdw refl (λ h y. refl) refl (λ h. refl)
      (λ c r. by-open _ (record { held = refl; acks = refl; dirty = refl; got = refl }) g.0 (λ z. absurd (g.1 z))) left

  pub moves-gad : Met forms.Gad m → Moves k later told forms.Gad
  moves-gad o =
      let q = and_parts (stage_of told.transaction told.deferred == STAGE_HELD) (m.summ == SUMM_ROW) o.o11 in
      let g = held-open told.transaction told.deferred q.0 in
      idles forms.Gad refl (λ h y. refl) refl (λ h. refl)
      (λ c r. by-open _ (record { held = refl; acks = refl; dirty = refl; got = refl }) g.0 (λ z. absurd (g.1 z))) left

  -- A HEAD IS TAKEN UP

  waited-open : (choice : Choice) (r : Option Row) (p : ℕ) → SameOpen e (record (after_wait e choice r) { place = p })
  waited-open choice None p = record { held = refl; acks = refl; dirty = refl; got = refl }
  waited-open choice (Some r) p = record { held = refl; acks = refl; dirty = refl; got = refl }

  waited-summ : (choice : Choice) (r : Option Row) → (after_wait e choice r).summ ≡ e.summ
  waited-summ choice None = refl
  waited-summ choice (Some r) = refl

  pub moves-wfq : (a : ℕ) → Met (forms.Wfq a) m → Moves k later told (forms.Wfq a)
  moves-wfq a o =
      idles (forms.Wfq a) refl (λ h y. refl) refl (λ h. refl)
      (λ c r. by-open _ (waited-open c r _) (values.stage-not_closing told.transaction told.deferred o.o23) (λ z. waited-summ c r)) left
