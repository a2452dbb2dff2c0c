use Rattle.std.proofs.Common.{◌++◌, ◌∙◌, subst, ap}
use Rattle.std.specs.Fn.{FnReturnsAt}
use Rattle.bk_base.specs.Places.{Shape}
use Rattle.bk_rounds.specs.Tasks.{task_of}
use Rattle.bk_system.specs.Runs.{run}
use Rattle.bk_system.specs.State.{opening}
use Rattle.bk_parallel.specs.Stands.{Stand}
use Rattle.bk_parallel.proofs.WholeRuns.{stand-opening, begin, go-on, whole}
use Rattle.bk_parallel.proofs.run.run_agents.Goals as goal

pub loop-init : goal.loop-init
loop-init g c =
    let k = c.args.trace.now.config in
    let made = c.in_ok-agents.ensures in
    begin (task_of (FnReturnsAt g.F.Fn c.args.victim.pick) c.args.program.now c.args.trace.now) c.new-events.result.items
    c.in_ok-agents.agents.items c.new-events.ensures.items
    (subst (λ (x : Shape). Stand x (opening x) c.in_ok-agents.agents.items) c.config-config.ensures.value
    (stand-opening c.config-config.result c.in_ok-agents.agents.items made.team made.apart made.opening made.entries))

pub make_round-requires-clause-stand : goal.make_round-requires-clause-stand
make_round-requires-clause-stand g c κs within =
    (run c.args.trace.now.config c.args.program.now c.loop.events.items, c.loop.invariant.stand)

pub returns-then-made : goal.returns-then-made
returns-then-made g c =
    let task = task_of (FnReturnsAt g.F.Fn c.args.victim.pick) c.args.program.now c.args.trace.now in
    whole task c.loop.events.items c.in_ok-made.made.events.items c.loop.agents.items c.in_ok-made.made.agents.items c.in_ok-made.made.last
    c.if-made.true c.loop.invariant
    (c.in_ok-made.ensures (run c.args.trace.now.config c.args.program.now c.loop.events.items) c.loop.invariant.stand)

pub loop-preserved : goal.loop-preserved
loop-preserved g c =
    let task = task_of (FnReturnsAt g.F.Fn c.args.victim.pick) c.args.program.now c.args.trace.now in
    go-on task c.loop.events.items c.in_ok-made.made.events.items c.extend_from_slice.new.self.items c.loop.agents.items
    c.in_ok-made.made.agents.items c.in_ok-made.made.last
    ((c.in_ok-extend_from_slice.ensures).items ∙ ap (λ es. c.loop.events.items ++ es) c.deref-in-loop.ensures.value) c.loop.invariant
    (c.in_ok-made.ensures (run c.args.trace.now.config c.args.program.now c.loop.events.items) c.loop.invariant.stand)
