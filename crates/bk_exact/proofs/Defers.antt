-- `defer` leaves a request of a pending group in its channel.
use Rattle.std.proofs.Common.{◌≡◌, ◌==◌, true, refl, sym, subst, arith, drop, Option, Some, None, IfSome}
use Rattle.bk_base.specs.Places.{Shape, group_of}
use Rattle.bk_isa.specs.declared.form.Form.TheVariants as forms
use Rattle.bk_know.specs.Sets.{only}
use Rattle.bk_know.specs.declared.values.TheConstants.{HEAD_REQUEST, GP_PENDING}
use Rattle.bk_order.proofs.Meets.{Met}
use Rattle.bk_msg.specs.declared.row.Row.{Row}
use Rattle.bk_msg.specs.declared.row.Row.TheVariants as rows
use Rattle.bk_msg.specs.declared.row.Network.TheVariants as networks
use Rattle.bk_msg.specs.Networks.{network_of, address_of}
use Rattle.bk_engine.specs.declared.parts.Head.{Head}
use Rattle.bk_engine.specs.Heads.{head_value, head_number}
use Rattle.bk_system.specs.State.{State}
use Rattle.bk_machine.specs.Actions.{NoGranted}
use Rattle.bk_machine.specs.Messages.{Request}
use Rattle.bk_machine.specs.Products.{as_request}
use Rattle.bk_machine.specs.World.{World}
use Rattle.bk_bridge.specs.Fronts.{IsFront}
use Rattle.bk_exact.specs.Told.{Told}
use Rattle.bk_exact.specs.Exact.{exact, gp_of}
use Rattle.bk_exact.specs.Agrees.{LeavesDeferred}
use Rattle.bk_exact.specs.After.{deferred_head}
use Rattle.bk_exact.specs.Ties.{Tied, told_world}
use Rattle.bk_exact.proofs.Fronts.{request-front}
use Rattle.bk_exact.proofs.Idles.{idles, by-open}
use Rattle.bk_exact.proofs.Moves.{Moves}
use Rattle.bk_exact.proofs.Parts.{and3}
use Rattle.bk_exact.proofs.Values as values

-- a request, as the machine has it
record Asked (k : Shape) (m : Row) : Type 0 where
  request : Request
  is : as_request k m ≡ Some (group_of k (address_of m), request)
  network : network_of m ≡ networks.Request

-- each message whose number as a head is 1 is one
asked : (k : Shape) (m : Row) → head_number m ≡ 1 → Asked k m
asked k (rows.Rd from to v addr) i = record { request = _; is = refl; network = refl }
asked k (rows.Wr from to v addr) i = record { request = _; is = refl; network = refl }
asked k (rows.UcRd from to addr) i = record { request = _; is = refl; network = refl }
asked k (rows.UcWr from to addr word) i = record { request = _; is = refl; network = refl }
asked k (rows.Evict from to v addr) i = record { request = _; is = refl; network = refl }
asked k m i = absurd (cc)

module _ (k : Shape) (s : State) (told : Told) (tied : Tied k s told) where
  abbrev w : World
  w = told_world k s told

  -- the mask's gp is that of the head's group
  gp-pending : (head : Head) → head_number head.message ≡ 1 → (gp_of s.engine.directory k (Some head) == GP_PENDING) ≡ true
      → s.engine.directory.pending (group_of k (address_of head.message)) ≡ true
  gp-pending head i e = grind arith

  -- the head, which is a request of a pending group, stays the first of its channel
  left : (o : Option Head) → IfSome o (IsFront k s) → told.transaction ≡ None → (only (head_value o) == HEAD_REQUEST) ≡ true
      → (gp_of s.engine.directory k o == GP_PENDING) ≡ true → LeavesDeferred w (deferred_head k o)
  left None f none h g = tt
  left (Some head) f none h g =
      let i : head_number head.message ≡ 1 = values.only-is 1 (head_number head.message) h in
      let q = asked k head.message i in
      record {
        none = none;
        request = q.request;
        rest = drop 1 (w.request head.choice.source);
        first = request-front k s told tied head.choice head.message f.first (
          group_of k (address_of head.message),
          q.request,
        ) q.network q.is;
        pending = gp-pending head i g;
      }

  pub moves-defer : Met forms.Defer (exact k s.engine told) → Moves k s told forms.Defer
  moves-defer o =
      let q = and3 _ _ _ o.o8 in
      let none = (values.stage-idle told.transaction told.deferred q.0).0 in
      idles k s told tied.agrees tied.left forms.Defer refl (λ h y. refl) refl (λ h. refl)
      (λ c r. by-open k s told tied.agrees tied.left _ (record { held = refl; acks = refl; dirty = refl; got = refl })
      (subst NoGranted (sym none) tt)
      (λ z. refl))
      (left s.engine.core.head tied.front none q.1 q.2)
