use Rattle.std.proofs.Common.{◌≡◌, ℕ, List, subst}
use Rattle.std.specs.Fn.{FnReturnsAt}
use Rattle.std.specs.List.{All}
use Rattle.bk_base.specs.Places.{InProfile}
use Rattle.bk_base.specs.declared.op.Op.{Op}
use Rattle.bk_trace.specs.Traces.{IsLine}
use Rattle.bk_cmd.specs.Replays.{budget_for}
use Rattle.bk_cmd.proofs.Ends.{fault-told, end-told, report-told, log-told, run-coherent}
use Rattle.bk_cmd.proofs.replay.run.Goals as goal

pub returns-clause-err : goal.returns-clause-err
returns-clause-err g c =
    let same : c.budget-events_limit.result ≡ budget_for c.args.inputs.now.image c.args.inputs.now.trace = cc in
    fault-told (FnReturnsAt g.F.Fn c.args.victim.now.pick) c.image-image.result.now c.args.inputs.now.image c.args.inputs.now.trace
    c.budget-events_limit.result
    c.image-image.ensures.value same c.image-image.ensures.sound c.image-image.ensures.bounded
    (subst InProfile c.config.ensures.value c.config.ensures.profile)
    (subst (λ (lines : List (ℕ × Op)). All (λ line. IsLine c.args.inputs.now.trace.config.caches line) lines) c.lines.ensures.value
    c.lines.ensures.each)
    c.run_within.result c.run_within.ensures.fault

pub returns-clause-ok : goal.returns-clause-ok
returns-clause-ok g c =
    let same : c.budget-events_limit.result ≡ budget_for c.args.inputs.now.image c.args.inputs.now.trace = cc in
    end-told (FnReturnsAt g.F.Fn c.args.victim.now.pick) c.image-image.result.now c.args.inputs.now.image c.args.inputs.now.trace
    c.budget-events_limit.result
    c.image-image.ensures.value same c.image-image.ensures.sound c.image-image.ensures.bounded
    (subst InProfile c.config.ensures.value c.config.ensures.profile)
    (subst (λ (lines : List (ℕ × Op)). All (λ line. IsLine c.args.inputs.now.trace.config.caches line) lines) c.lines.ensures.value
    c.lines.ensures.each)
    c.run_within.result c.run_within.ensures.ok

pub returns-clause-coherent : goal.returns-clause-coherent
returns-clause-coherent g c =
    run-coherent (FnReturnsAt g.F.Fn c.args.victim.now.pick) c.args.inputs.now.image c.args.inputs.now.trace c.run_within.result
    c.image-image.ensures.sound
    (subst InProfile c.config.ensures.value c.config.ensures.profile)
    (subst (λ (lines : List (ℕ × Op)). All (λ line. IsLine c.args.inputs.now.trace.config.caches line) lines) c.lines.ensures.value
    c.lines.ensures.each)
    (returns-clause-ok g c)

pub returns-clause-report : goal.returns-clause-report
returns-clause-report g c =
    let same : c.budget-events_limit.result ≡ budget_for c.args.inputs.now.image c.args.inputs.now.trace = cc in
    report-told (FnReturnsAt g.F.Fn c.args.victim.now.pick) c.image-image.result.now c.args.inputs.now.image c.args.inputs.now.trace
    c.budget-events_limit.result
    c.image-image.ensures.value same c.run_within.result c.run_within.ensures.report

pub returns-clause-log : goal.returns-clause-log
returns-clause-log g c =
    let same : c.budget-events_limit.result ≡ budget_for c.args.inputs.now.image c.args.inputs.now.trace = cc in
    log-told (FnReturnsAt g.F.Fn c.args.victim.now.pick) c.image-image.result.now c.args.inputs.now.image c.args.inputs.now.trace
    c.budget-events_limit.result
    c.image-image.ensures.value same c.args.inputs.now.output c.run_within.result c.run_within.ensures.log
