use Rattle.std.specs.Fn.{FnReturnsAt}
use Rattle.bk_system.specs.Systems.{state_of}
use Rattle.bk_run.specs.Jobs.{Job, job_of}
use Rattle.bk_run.proofs.Ends.{made-run, made-ended, made-spent}
use Rattle.bk_run.proofs.serial_runs.run_to_end.Goals as goal

pub returns-in-None-clause-ok : goal.returns-in-None-clause-ok
returns-in-None-clause-ok g c =
    let y = c.in-Ok.made.counted.hardware in
    let events = c.in-Ok.made.events.items in
    let job : Job = job_of (FnReturnsAt g.F.Fn c.args.victim.now.pick) c.args.program.now c.args.trace.now c.args.budget in
    let made = made-run job y.config events (state_of y) c.is_finished-complete.result c.in-Ok.ensures.greedy c.in-Ok.ensures.within
    c.in-Ok.ensures.config c.in-Ok.ensures.state c.is_finished-complete.ensures in
    made-ended job y.config events (state_of y) c.is_finished-complete.result made c.in-Ok.ensures.config c.in-Ok.ensures.state
    c.in-None.ensures

pub returns-in-Some-clause-fault : goal.returns-in-Some-clause-fault
returns-in-Some-clause-fault g c =
    let y = c.in-Ok.made.counted.hardware in
    let events = c.in-Ok.made.events.items in
    let job : Job = job_of (FnReturnsAt g.F.Fn c.args.victim.now.pick) c.args.program.now c.args.trace.now c.args.budget in
    let made = made-run job y.config events (state_of y) c.is_finished-complete.result c.in-Ok.ensures.greedy c.in-Ok.ensures.within
    c.in-Ok.ensures.config c.in-Ok.ensures.state c.is_finished-complete.ensures in
    made-spent job y.config events (state_of y) c.is_finished-complete.result c.in-Some.field-0 made c.in-Ok.ensures.whole
    c.in-Ok.ensures.config c.in-Ok.ensures.state c.in-Some.ensures
