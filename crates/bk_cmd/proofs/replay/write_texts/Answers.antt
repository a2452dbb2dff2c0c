use Rattle.std.proofs.Common.{arith}
use Rattle.std.specs.Fn.{FnReturnsAt}
use Rattle.bk_cmd.specs.Replays.{RunEnds}
use Rattle.bk_cmd.specs.Writes.{Wrote, WrotePart}
use Rattle.bk_cmd.proofs.Ends.{replayed}
use Rattle.bk_cmd.proofs.replay.write_texts.Goals as goal

pub returns-clause-ok : goal.returns-clause-ok
returns-clause-ok g c = λ s.
    replayed (RunEnds (FnReturnsAt g.F.Fn c.args.victim.now.pick) c.args.inputs.now.image c.args.inputs.now.trace)
    c.args.inputs.now.output c.args.inputs.now.image c.args.inputs.now.trace (λ text. Wrote text c.deliver.result _ _) _
    c.args.run.end.events.items c.args.run.log.items c.args.run.report.items c.deliver.ensures.events c.requires.ended
    c.requires.coherent c.requires.report c.requires.log
    (rw (← c.deref.ensures.value, ← c.deref-2.ensures.value) (c.deliver.ensures.ok s))

pub returns-clause-write_fault : goal.returns-clause-write_fault
returns-clause-write_fault g c = λ s.
    replayed (RunEnds (FnReturnsAt g.F.Fn c.args.victim.now.pick) c.args.inputs.now.image c.args.inputs.now.trace)
    c.args.inputs.now.output c.args.inputs.now.image c.args.inputs.now.trace (λ text. WrotePart text c.deliver.result _ _) _
    c.args.run.end.events.items c.args.run.log.items c.args.run.report.items c.deliver.ensures.events c.requires.ended
    c.requires.coherent c.requires.report c.requires.log
    (rw (← c.deref.ensures.value, ← c.deref-2.ensures.value) (c.deliver.ensures.part (λ e. omega (arith, e, s))))

pub returns-clause-memory_part : goal.returns-clause-memory_part
returns-clause-memory_part g c = λ s some.
    replayed (RunEnds (FnReturnsAt g.F.Fn c.args.victim.now.pick) c.args.inputs.now.image c.args.inputs.now.trace)
    c.args.inputs.now.output c.args.inputs.now.image c.args.inputs.now.trace (λ text. WrotePart text c.deliver.result _ _) _
    c.args.run.end.events.items c.args.run.log.items c.args.run.report.items c.deliver.ensures.events c.requires.ended
    c.requires.coherent c.requires.report c.requires.log
    (rw (← c.deref.ensures.value, ← c.deref-2.ensures.value) (c.deliver.ensures.part (λ e. omega (arith, e, s))))
