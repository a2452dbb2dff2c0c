use Rattle.std.proofs.Common.{arith}
use Rattle.std.specs.Fn.{FnReturnsAt}
use Rattle.bk_cmd.specs.Writes.{Wrote, WrotePart}
use Rattle.bk_cmd.proofs.SideBySide.{threads-reported}
use Rattle.bk_cmd.proofs.threads.replay.Goals as goal

pub returns-in-Ok-report-clause-ok : goal.returns-in-Ok-report-clause-ok
returns-in-Ok-report-clause-ok g c = λ s.
    threads-reported (FnReturnsAt g.F.Fn c.args.victim.pick) c.image.result.now c.args.inputs.now.image c.args.inputs.now.trace
    (λ text. Wrote text c.deliver.result _ _) _ c.in-Ok.events.items c.deref.result.now c.in-Ok-report.report.items
    c.deliver.ensures.events c.deref.ensures.value c.image.ensures.value c.in-Ok.ensures.ok c.in-Ok.ensures.coherent
    c.in-Ok-report.ensures (rw (← c.deref-in-Ok-report.ensures.value) (c.deliver.ensures.ok s))

pub returns-in-Ok-report-clause-write_fault : goal.returns-in-Ok-report-clause-write_fault
returns-in-Ok-report-clause-write_fault g c = λ s.
    threads-reported (FnReturnsAt g.F.Fn c.args.victim.pick) c.image.result.now c.args.inputs.now.image c.args.inputs.now.trace
    (λ text. WrotePart text c.deliver.result _ _) _ c.in-Ok.events.items c.deref.result.now c.in-Ok-report.report.items
    c.deliver.ensures.events c.deref.ensures.value c.image.ensures.value c.in-Ok.ensures.ok c.in-Ok.ensures.coherent
    c.in-Ok-report.ensures (rw (← c.deref-in-Ok-report.ensures.value) (c.deliver.ensures.part (λ e. omega (arith, e, s))))

pub returns-in-Ok-report-clause-memory_part : goal.returns-in-Ok-report-clause-memory_part
returns-in-Ok-report-clause-memory_part g c = λ s some.
    threads-reported (FnReturnsAt g.F.Fn c.args.victim.pick) c.image.result.now c.args.inputs.now.image c.args.inputs.now.trace
    (λ text. WrotePart text c.deliver.result _ _) _ c.in-Ok.events.items c.deref.result.now c.in-Ok-report.report.items
    c.deliver.ensures.events c.deref.ensures.value c.image.ensures.value c.in-Ok.ensures.ok c.in-Ok.ensures.coherent
    c.in-Ok-report.ensures (rw (← c.deref-in-Ok-report.ensures.value) (c.deliver.ensures.part (λ e. omega (arith, e, s))))
