-- An action of the machine for the request that is served, and what the engine serves after it.
use Rattle.std.proofs.Common.{◌≡◌, ℕ, ◌==◌, Bool, true, false, refl, sym, ap, ◌∙◌, subst, [], Option, Some}
use Rattle.std.specs.Prelude.{option_map}
use Rattle.std.proofs.lemmas.Bool.{and_parts}
use Rattle.bk_base.specs.Places.{Shape, group_of}
use Rattle.bk_isa.specs.declared.form.Form.{Form}
use Rattle.bk_know.specs.declared.sets.Sets.{Sets}
use Rattle.bk_know.specs.declared.values.TheConstants.{ACKS_ZERO}
use Rattle.bk_check.specs.Obligations.{settled}
use Rattle.bk_check.specs.Obligations as obligations
use Rattle.bk_msg.specs.declared.row.Row.{Row}
use Rattle.bk_engine.specs.declared.parts.Choice.{Choice}
use Rattle.bk_engine.specs.declared.parts.Core.{Core}
use Rattle.bk_engine.specs.declared.parts.Held.{Held}
use Rattle.bk_engine.specs.Changes.{core_after}
use Rattle.bk_system.specs.State.{State}
use Rattle.bk_machine.specs.Actions.{Action, Permitted, action_after, Ungranted, Ready}
use Rattle.bk_machine.specs.Transactions.{Debt, Transaction, is_asked}
use Rattle.bk_machine.specs.World.{World}
use Rattle.bk_bridge.specs.Acting.{action_of}
use Rattle.bk_bridge.proofs.Acting.{actions-alike}
use Rattle.bk_exact.specs.Told.{Told}
use Rattle.bk_exact.specs.Agrees.{IsClosed, ServesHeld, ServesTold}
use Rattle.bk_exact.specs.After.{action_at, served_action, transaction_after, deferred_after}
use Rattle.bk_exact.specs.Ties.{Tied, told_world}
use Rattle.bk_exact.proofs.Moves.{Moves, serves-as, told-serves, no-deferred, none-left}
use Rattle.bk_exact.proofs.Parts.{and3}
use Rattle.bk_exact.proofs.Serving.{Serving, Staged, mask}
use Rattle.bk_exact.proofs.Values as values

module _ (k : Shape) (later : State) (told : Told) (tied : Tied k later told) (v : Serving k later told) where
  abbrev e : Core
  e = later.engine.core

  open v use {held as h, transaction as x, serves as sv}

  abbrev s : ℕ
  s = group_of k h.addr

  abbrev w : World
  w = told_world k later told

  -- an action of the table, with what is held and told after it
  pub acts : (f : Form) (a : Action) → action_at k e w f ≡ served_action k e e.held told.transaction w f
      → action_of k e h x w f ≡ Some a
      → Permitted k s a w
      → (held : Option Held) (tx : Option (ℕ × Transaction)) → (action_after s a w).transaction ≡ tx
      → ((choice : Choice) (r : Option Row) → (core_after k later.engine f choice r).held ≡ held)
      → deferred_after k e f told.deferred ≡ told.deferred
      → ((choice : Choice) (r : Option Row) → ServesTold k (core_after k later.engine f choice r) held tx) → Moves k later told f
  acts f a i j p held tx g same d serves =
      let is : action_at k e w f ≡ Some (s, a) = i ∙ (λ q. served_action k e (v.is_held q) (v.is_told q) w f)
      ∙ ap (option_map (λ b. (s, b))) j in
      record {
        acts = record { group = s; action = a; is = is; permitted = p };
        alike = actions-alike k e h x w f a sv.serves v.is_held j;
        agrees = λ choice r.
            told-serves k (core_after k later.engine f choice r) (core_after k later.engine f choice r).held held
            (transaction_after w (action_at k e w f)) tx (same choice r)
            (ap (transaction_after w) is ∙ g) (serves choice r);
        left = none-left (action_after s a w) (deferred_after k e f told.deferred) (d
            ∙ no-deferred w told.deferred (s, x) tied.left v.is_told);
      }

  -- where the same request is held after it
  pub acts-to : (f : Form) (a : Action) (other : Transaction) → action_at k e w f ≡ served_action k e e.held told.transaction w f
      → action_of k e h x w f ≡ Some a
      → Permitted k s a w → (action_after s a w).transaction ≡ Some (s, other)
      → ((choice : Choice) (r : Option Row) → (core_after k later.engine f choice r).held ≡ e.held)
      → deferred_after k e f told.deferred ≡ told.deferred
      → ((choice : Choice) (r : Option Row) → ServesHeld k (core_after k later.engine f choice r) h s other) → Moves k later told f
  acts-to f a other i j p g same d serves = acts f a i j p (Some h) (Some (s, other)) g (λ choice r. same choice r ∙ v.is_held) d serves

  -- where the core is the same but for its place
  pub acts-still : (f : Form) (a : Action) (other : Transaction) → action_at k e w f ≡ served_action k e e.held told.transaction w f
      → action_of k e h x w f ≡ Some a
      → Permitted k s a w → (action_after s a w).transaction ≡ Some (s, other)
      → ((choice : Choice) (r : Option Row) → core_after k later.engine f choice r
      ≡ record e { place = (core_after k later.engine f choice r).place })
      → deferred_after k e f told.deferred ≡ told.deferred → ServesHeld k e h s other → Moves k later told f
  acts-still f a other i j p g same d serves =
      acts-to f a other i j p g (λ choice r. ap (λ (core : Core). core.held) (same choice r)) d
      (λ choice r.
      subst (λ (core : Core). ServesHeld k core h s other) (sym (same choice r))
      (serves-as k e _ h s other other serves refl refl serves.acks serves.kept serves.got serves.written
      (λ q. record { summed = (serves.closed q).summed; no_head = (serves.closed q).no_head })))

  -- the transaction with these debts, once its grant is sent
  pub serves-granted : (granted : Bool) (to_requester to_owner : Option Debt) → IsClosed e
      → ServesHeld k e h s (record x { granted = granted; requester_debt = to_requester; owner_debt = to_owner })
  serves-granted granted to_requester to_owner closed =
      serves-as k e e h s x (record x { granted = granted; requester_debt = to_requester; owner_debt = to_owner }) v.serves refl refl
      sv.acks sv.kept sv.got sv.written (λ g. closed)

-- while its grant is still to come
module _ (k : Shape) (later : State) (told : Told) (y : Staged k later told false) where
  abbrev m : Sets
  m = mask k later told y.serving

  pub ungranted : Ungranted (group_of k y.serving.held.addr) y.serving.transaction (told_world k later told)
  ungranted = record { is = y.serving.is_told; ungranted = y.is_granted }

  pub no-acks : (m.acks == ACKS_ZERO) ≡ true → y.serving.transaction.waiting ≡ []
  no-acks q = values.length-none _ (sym y.serving.serves.acks ∙ values.number-none later.engine.core.acks q)

  -- what each grant and answer waits for: no flush, no acks
  pub ready : settled m ≡ true → Ready (group_of k y.serving.held.addr) y.serving.transaction (told_world k later told)
  ready q = let p = and3 _ _ _ q in record { ungranted = ungranted; idle = values.wb-idle _ p.1; acked = no-acks p.0 }

  pub not-asked : settled m ≡ true → is_asked y.serving.transaction.reading ≡ false
  not-asked q = let p = and_parts _ _ q in values.mem-unasked _ _ y.serving.serves.written p.1

  -- what is sent is sent with the directory summed up, and with no head
  pub closes : obligations.sends m ≡ true → IsClosed later.engine.core
  closes q = let p = and3 _ _ _ q in record {
    summed = values.summ-sum later.engine.core.summ p.2;
    no_head = values.head-none later.engine.core.head p.1;
  }
