-- The request that is served, and its transaction.
use Rattle.std.proofs.Common.{◌≡◌, ℕ, ◌==◌, Bool, true, false, refl, ap, ◌∙◌, subst, Option, Some, None}
use Rattle.std.proofs.lemmas.Bool.{and_parts}
use Rattle.bk_base.specs.Places.{Shape, group_of}
use Rattle.bk_isa.specs.declared.form.Form.{Form}
use Rattle.bk_know.specs.declared.sets.Sets.{Sets}
use Rattle.bk_know.specs.Sets.{subset}
use Rattle.bk_know.specs.declared.values.TheConstants.{STAGE_HELD, STAGE_CLOSING, STAGE_HELD_CLOSING}
use Rattle.bk_check.specs.Obligations.{sends}
use Rattle.bk_order.proofs.Meets.{Met}
use Rattle.bk_engine.specs.declared.parts.Core.{Core}
use Rattle.bk_engine.specs.declared.parts.Held.{Held}
use Rattle.bk_system.specs.State.{State}
use Rattle.bk_machine.specs.Invariant.{GrantedTransaction, Recorded, RecordOf}
use Rattle.bk_machine.specs.Readings.{DebtReadings}
use Rattle.bk_machine.specs.Transactions.{Transaction}
use Rattle.bk_machine.specs.World.{World}
use Rattle.bk_machine.proofs.Opened.{granted}
use Rattle.bk_machine.proofs.Readings.{readings}
use Rattle.bk_exact.specs.Told.{Told, Deferred}
use Rattle.bk_exact.specs.Exact.{exact, exact_of, stage_of}
use Rattle.bk_exact.specs.Agrees.{ServesHeld, ServesNone, ServesTold}
use Rattle.bk_exact.specs.Ties.{Tied, told_world}
use Rattle.bk_exact.proofs.Values as values

-- where there is a transaction a request is held, and where there is none, none is
pub served : (k : Shape) (core : Core) (o : Option Held) (x : Option (ℕ × Transaction)) (y : ℕ × Transaction)
    → ServesTold k core o x → x ≡ Some y
    → (h : Held) × (o ≡ Some h) × ServesHeld k core h y.0 y.1
served k core None x y a i = absurd (subst (ServesTold k core None) i a)
served k core (Some h) x y a i = (h, refl, subst (ServesTold k core (Some h)) i a)

pub unserved : (k : Shape) (core : Core) (o : Option Held) (x : Option (ℕ × Transaction)) → ServesTold k core o x → x ≡ None
    → ServesNone core × (o ≡ None)
unserved k core None x a i = (subst (ServesTold k core None) i a, refl)
unserved k core (Some h) x a i = absurd (subst (ServesTold k core (Some h)) i a)

-- a request is held, and the transaction that is told is for it
pub record Serving (k : Shape) (s : State) (told : Told) : Type 0 where
  pub held : Held
  pub transaction : Transaction
  pub is_held : s.engine.core.held ≡ Some held
  pub is_told : told.transaction ≡ Some (group_of k held.addr, transaction)
  pub serves : ServesHeld k s.engine.core held (group_of k held.addr) transaction

-- with its grant to come, or sent
pub record Staged (k : Shape) (s : State) (told : Told) (granted : Bool) : Type 0 where
  pub serving : Serving k s told
  pub is_granted : serving.transaction.granted ≡ granted

-- the exact mask, by what is served
abbrev pub mask : (k : Shape) (s : State) (told : Told) → Serving k s told → Sets
mask k s told v = exact_of k s.engine (Some v.held) (Some (group_of k v.held.addr, v.transaction)) told.deferred

-- it is the exact mask
pub mask-of : (k : Shape) (s : State) (told : Told) (v : Serving k s told) → exact k s.engine told ≡ mask k s told v
mask-of k s told v = λ i. exact_of k s.engine (v.is_held i) (v.is_told i) told.deferred

pub met-of : (k : Shape) (s : State) (told : Told) (v : Serving k s told) (f : Form) → Met f (exact k s.engine told)
    → Met f (mask k s told v)
met-of k s told v f o = subst (Met f) (mask-of k s told v) o

module _ (k : Shape) (later : State) (told : Told) (tied : Tied k later told) where
  abbrev m : Sets
  m = exact k later.engine told

  abbrev w : World
  w = told_world k later told

  -- by the transaction that is told
  staged : (b : Bool) (y : ℕ × Transaction) → told.transaction ≡ Some y → y.1.granted ≡ b → Staged k later told b
  staged b y i g =
      let q = served k later.engine.core later.engine.core.held told.transaction y tied.agrees i in
      record {
        serving = record {
          held = q.0;
          transaction = y.1;
          is_held = q.1;
          is_told = i ∙ ap (λ (group : ℕ). Some (group, y.1)) q.2.group;
          serves = subst (λ (group : ℕ). ServesHeld k later.engine.core q.0 group y.1) q.2.group q.2;
        };
        is_granted = g;
      }

  -- by the stage of the exact mask: Held, Closing, or Held where a message is sent
  pub serves-held : (m.stage == STAGE_HELD) ≡ true → Staged k later told false
  serves-held q = let y = values.stage-held told.transaction told.deferred q in staged false y.0 y.1 y.2

  pub serves-closing : (m.stage == STAGE_CLOSING) ≡ true → Staged k later told true
  serves-closing q = let y = values.stage-closing told.transaction told.deferred q in staged true y.0 y.1 y.2

  pub serves-sending : sends m ≡ true → Staged k later told false
  serves-sending q = serves-held (and_parts _ _ (and_parts _ _ q).0).0

  -- in either stage
  pub serves-any : subset m.stage STAGE_HELD_CLOSING ≡ true → Serving k later told
  serves-any q = let y = some told.transaction told.deferred q in (staged y.0.1.granted y.0 y.1 refl).serving
    where
      some : (x : Option (ℕ × Transaction)) (d : Option Deferred) → subset (stage_of x d) STAGE_HELD_CLOSING ≡ true
          → (y : ℕ × Transaction) × (x ≡ Some y)
      some None None e = absurd (cc)
      some None (Some d) e = absurd (cc)
      some (Some y) d e = (y, refl)

  module _ (v : Serving k later told) where
    -- what the machine says of the transaction's record and of its debts
    pub recorded : Recorded k v.transaction (w.directory (group_of k v.held.addr))
    recorded = subst (λ (o : Option (ℕ × Transaction)). RecordOf k o w.directory) v.is_told tied.invariant.recorded

    -- a granted transaction waits for nothing
    pub granted-is : v.transaction.granted ≡ true → GrantedTransaction v.transaction
    granted-is g = granted k w tied.invariant (group_of k v.held.addr) v.transaction v.is_told g

    pub owing : DebtReadings k (group_of k v.held.addr) v.transaction w
    owing = (readings k w tied.invariant).while_owing (group_of k v.held.addr) v.transaction v.is_told
