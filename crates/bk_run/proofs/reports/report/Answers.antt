use Rattle.std.proofs.Common.{List, subst, refl}
use Rattle.bk_isa.specs.declared.form.Form.{Form}
use Rattle.bk_run.specs.Report.{IsReport}
use Rattle.bk_system.specs.Systems.{state_of}
use Rattle.bk_run.proofs.Ends.{told-from, report-from}
use Rattle.bk_run.proofs.reports.report.Goals as goal

pub returns-in-Ok : goal.returns-in-Ok
returns-in-Ok c =
    let k = c.args.trace.now.config in
    let p = c.instrs-program.result.now in
    let y = c.in_ok-counted.counted.hardware in
    let told = told-from k y.config p c.args.trace.now.lines c.args.events.now c.args.events.now c.history.result.now (state_of y)
    c.rested-rested.result c.in_ok-complete.complete
    refl c.in_ok-counted.ensures.config c.in_ok-counted.ensures.state c.history.ensures c.rested-rested.ensures c.in_ok-complete.ensures in
    subst (λ (q : List Form). IsReport k q c.args.trace.now.lines c.args.events.now c.in-Ok.bytes.items) c.instrs-program.ensures.value
    (report-from k y.config p c.args.trace.now.lines c.args.events.now (state_of y) c.in_ok-counted.counted.counts c.in_ok-complete.complete
    c.in-Ok.bytes.items
    c.in_ok-counted.ensures.config c.in_ok-counted.ensures.state c.in_ok-counted.ensures.counts told c.in-Ok.ensures)
