use Rattle.std.proofs.Common.{◌∙◌, ℕ, List, ap, subst}
use Rattle.std.specs.Fn.{FnReturnsAt}
use Rattle.std.specs.List.{All}
use Rattle.bk_base.specs.Places.{InProfile}
use Rattle.bk_base.specs.declared.op.Op.{Op}
use Rattle.bk_image.specs.Images as images
use Rattle.bk_trace.specs.Traces.{IsLine}
use Rattle.bk_cmd.proofs.SideBySide.{threads-end, threads-coherent}
use Rattle.bk_cmd.proofs.threads.run.Goals as goal

pub returns-clause-ok : goal.returns-clause-ok
returns-clause-ok g c =
    threads-end (FnReturnsAt g.F.Fn c.args.victim.pick) c.instrs.result.now c.args.inputs.now.image c.args.inputs.now.trace
    (c.instrs.ensures.value ∙ ap (λ (p : images.Parts). p.instrs) c.image.ensures.value) c.image.ensures.sound c.image.ensures.bounded
    (subst InProfile c.config-config.ensures.value c.config-config.ensures.profile)
    (subst (λ (lines : List (ℕ × Op)). All (λ line. IsLine c.args.inputs.now.trace.config.caches line) lines)
    c.lines-operations.ensures.value c.lines-operations.ensures.each) c.run_agents.result c.run_agents.ensures

pub returns-clause-coherent : goal.returns-clause-coherent
returns-clause-coherent g c =
    threads-coherent (FnReturnsAt g.F.Fn c.args.victim.pick) c.instrs.result.now c.args.inputs.now.image c.args.inputs.now.trace
    (c.instrs.ensures.value ∙ ap (λ (p : images.Parts). p.instrs) c.image.ensures.value) c.image.ensures.sound c.image.ensures.bounded
    (subst InProfile c.config-config.ensures.value c.config-config.ensures.profile)
    (subst (λ (lines : List (ℕ × Op)). All (λ line. IsLine c.args.inputs.now.trace.config.caches line) lines)
    c.lines-operations.ensures.value c.lines-operations.ensures.each) c.run_agents.result c.run_agents.ensures
