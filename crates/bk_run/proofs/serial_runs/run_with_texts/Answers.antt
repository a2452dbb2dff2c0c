use Rattle.std.proofs.Common.{List, subst}
use Rattle.bk_isa.specs.declared.form.Form.{Form}
use Rattle.bk_run.specs.Report.{IsReport}
use Rattle.bk_system.specs.Systems.{state_of}
use Rattle.bk_run.proofs.Ends.{report-from}
use Rattle.bk_run.proofs.serial_runs.run_with_texts.Goals as goal

pub returns-in-Ok-report_bytes-clause-report : goal.returns-in-Ok-report_bytes-clause-report
returns-in-Ok-report_bytes-clause-report g c =
    let k = c.args.trace.now.config in
    let p = c.instrs.result.now in
    let y = c.in-Ok.ended.counted.hardware in
    let events = c.in-Ok.ended.end.events.items in
    subst (λ (q : List Form). IsReport k q c.args.trace.now.lines events c.in-Ok-report_bytes.report.items) c.instrs.ensures.value
    (report-from k y.config p c.args.trace.now.lines events (state_of y) c.in-Ok.ended.counted.counts c.in-Ok.ended.end.complete
    c.in-Ok-report_bytes.report.items
    c.in-Ok.ensures.config c.in-Ok.ensures.state c.in-Ok.ensures.counts c.in-Ok.ensures.ok.made.told c.in-Ok-report_bytes.ensures)
