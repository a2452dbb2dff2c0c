use Rattle.std.proofs.Common.{◌≡◌, ◌+◌, ◌++◌, ◌∷◌, [], List, subst, sym, ap, ◌∙◌, drop}
use Rattle.bk_system.specs.declared.event.Event.{Event}
use Rattle.bk_system.specs.Runs.{issued_by}
use Rattle.bk_run.proofs.Issues.{issues-more, issues-same, no-issue}
use Rattle.bk_run.proofs.completion.issues_of.Goals.{in-Issue+in_ok-push, in_default}
use Rattle.bk_run.proofs.completion.issues_of.Goals as goal

pub loop-event-preserved : goal.loop-event-preserved
loop-event-preserved c = elim c.match-event.branch [
  | in-Issue+in_ok-push w ↦ λ k.
      let more : c.match-event.issues.items ≡ c.loop-event.issues.items ++ c.event-item.result ∷ [] =
      ap (λ v. v.items) w.issues-is ∙ w.in_ok-push.ensures.items in
      subst (λ (es : List Event). issued_by k es ++ issued_by k (drop (c.loop-event.event-index + 1) c.args.events.now)
      ≡ issued_by k c.args.events.now) (sym more)
      (issues-more c.args.events.now c.loop-event.event-index c.event-item.result c.loop-event.issues.items k c.loop-event-test.true
      c.event-item.is (c.loop-event.invariant k))
  | in_default w ↦ λ k.
      let same : c.match-event.issues.items ≡ c.loop-event.issues.items = ap (λ v. v.items) w.issues-is in
      subst (λ (es : List Event). issued_by k es ++ issued_by k (drop (c.loop-event.event-index + 1) c.args.events.now)
      ≡ issued_by k c.args.events.now) (sym same)
      (issues-same c.args.events.now c.loop-event.event-index c.event-item.result c.loop-event.issues.items k c.loop-event-test.true
      c.event-item.is (no-issue k c.event-item.result w.in_default.not-Issue) (c.loop-event.invariant k))
]
