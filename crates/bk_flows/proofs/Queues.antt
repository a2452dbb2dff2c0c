-- `rdw`, `gad` and `defer`: what they leave is the engine's own.
use Rattle.std.proofs.Common.{◌≡◌, ℕ, ◌==◌, true, refl, ap, ◌∙◌, Option, Some, None}
use Rattle.bk_base.specs.Places.{Shape}
use Rattle.bk_isa.specs.declared.form.Form.TheVariants.{Rdw, Gad, Defer}
use Rattle.bk_know.specs.Sets.{only}
use Rattle.bk_know.specs.declared.values.TheConstants.{HEAD_REQUEST, GP_FREE, STAGE_BLOCKED}
use Rattle.bk_order.proofs.Leading.{leads-path}
use Rattle.bk_order.proofs.Meets.{Met}
use Rattle.bk_msg.specs.declared.row.Row.{Row}
use Rattle.bk_engine.specs.declared.parts.Choice.{Choice}
use Rattle.bk_engine.specs.declared.parts.Head.{Head}
use Rattle.bk_engine.specs.Heads.{head_value}
use Rattle.bk_system.specs.State.{State}
use Rattle.bk_machine.specs.Transactions.{Transaction}
use Rattle.bk_exact.specs.Told.{Told}
use Rattle.bk_exact.specs.Exact.{stage_of}
use Rattle.bk_exact.specs.After.{deferred_head}
use Rattle.bk_exact.proofs.Parts.{and3}
use Rattle.bk_exact.proofs.Values as values
use Rattle.bk_flows.proofs.Masks.{m, Goal, idle-mask}

module _ (k : Shape) (s : State) (told : Told) (choice : Choice) (message : Option Row) where
  -- the row, and the summary of the directory
  pub leads-rdw : Goal k s told choice message Rdw
  leads-rdw = leads-path _ _ (idle-mask k s told choice message Rdw refl (λ h y. refl) refl (λ h. refl) refl)

  pub leads-gad : Goal k s told choice message Gad
  leads-gad = leads-path _ _ (idle-mask k s told choice message Gad refl (λ h y. refl) refl (λ h. refl) refl)

  -- a request is there to be left
  blocks : (o : Option Head) → (only (head_value o) == HEAD_REQUEST) ≡ true → stage_of None (deferred_head k o) ≡ STAGE_BLOCKED
  blocks None e = absurd (cc)
  blocks (Some h) e = refl

  pub leads-defer : Met Defer (m k s told choice message) → Goal k s told choice message Defer
  leads-defer o =
      let q = and3 _ _ _ o.o8 in
      let none = (values.stage-idle told.transaction told.deferred q.0).0 in
      leads-path _ _
      (idle-mask k s told choice message Defer refl (λ h y. refl) refl (λ h. refl) refl
      ∙ ap (λ (g : ℕ). record (m k s told choice message) { stage = g; head = only (head_value None); gp = GP_FREE })
      (ap (λ (x : Option (ℕ × Transaction)). stage_of x (deferred_head k s.engine.core.head)) none ∙ blocks s.engine.core.head q.1))
