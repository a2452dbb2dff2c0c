use Rattle.std.proofs.Common.{◌≤◌, arith, subst, sym}
use Rattle.bk_base.specs.Places.{Shape}
use Rattle.bk_base.specs.declared.config.TheConstants.{MOST_CACHES}
use Rattle.bk_engine.specs.Engine as engines
use Rattle.bk_system.proofs.WithinNeed.{ran-within}
use Rattle.bk_system.proofs.hardware.Hardware.run_choice.Goals as goal

pub send_sent-requires-clause-commands : goal.send_sent-requires-clause-commands
send_sent-requires-clause-commands c = λ j l.
    let few = subst (λ (k : Shape). k.caches ≤ MOST_CACHES) (sym c.args.self.now.engine_config) c.args.self.now.few_caches in
    let within = ran-within c.args.self.now.engine.config (engines.state_of c.args.self.now.engine)
    (engines.state_of c.step_into.new.self) c.args.program.now c.args.choice _ c.step_into.new.sent.items c.in-Ran.popped few
    c.in-Ran.ensures.step.1 in
    let room = c.requires.room.command j l in
    omega (arith, within.commands, room)

pub send_sent-requires-clause-memout : goal.send_sent-requires-clause-memout
send_sent-requires-clause-memout c =
    let few = subst (λ (k : Shape). k.caches ≤ MOST_CACHES) (sym c.args.self.now.engine_config) c.args.self.now.few_caches in
    let within = ran-within c.args.self.now.engine.config (engines.state_of c.args.self.now.engine)
    (engines.state_of c.step_into.new.self) c.args.program.now c.args.choice _ c.step_into.new.sent.items c.in-Ran.popped few
    c.in-Ran.ensures.step.1 in
    omega (arith, within.memory, c.requires.room.memout)
