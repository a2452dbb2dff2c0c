use Rattle.std.proofs.Common.{◌≡◌, ℕ, inl, inr, sym, subst}
use Rattle.std.specs.Prelude.{MatchOption}
use Rattle.bk_engine.specs.declared.parts.TheConstants.{CLASS_REQUEST}
use Rattle.bk_system.specs.Lookups.{has_message}
use Rattle.bk_system.specs.Next.{IsNextOf, IsNoneFrom}
use Rattle.bk_system.specs.Systems.{state_of}
use Rattle.bk_run.specs.Schedule.{heads}
use Rattle.bk_run.proofs.schedule.next_head.Goals as goal

pub returns-then-class-eq-CLASS_RESPONSE : goal.returns-then-class-eq-CLASS_RESPONSE
returns-then-class-eq-CLASS_RESPONSE c =
    let n = c.args.hardware.now.config.caches in
    let s = state_of c.args.hardware.now in
    subst (λ (class : ℕ). MatchOption c.next_response.result (IsNoneFrom n c.args.start (has_message (heads s class)))
    (IsNextOf n c.args.start (has_message (heads s class)))) (sym c.if-class-eq-CLASS_RESPONSE.true) c.next_response.ensures

pub returns-else-class-eq-CLASS_RESPONSE : goal.returns-else-class-eq-CLASS_RESPONSE
returns-else-class-eq-CLASS_RESPONSE c =
    let n = c.args.hardware.now.config.caches in
    let s = state_of c.args.hardware.now in
    let is : c.args.class ≡ CLASS_REQUEST =
    elim c.requires [ inl response ↦ absurd (c.if-class-eq-CLASS_RESPONSE.false response) | inr request ↦ request ] in
    subst (λ (class : ℕ). MatchOption c.next_request.result (IsNoneFrom n c.args.start (has_message (heads s class)))
    (IsNextOf n c.args.start (has_message (heads s class)))) (sym is) c.next_request.ensures
