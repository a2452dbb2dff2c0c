use Rattle.std.proofs.Common.{sym, subst, ◌∙◌, inr, ℕ}
use Rattle.std.specs.Fn.{FnReturnsAt}
use Rattle.bk_base.specs.Places.{Shape}
use Rattle.bk_system.specs.Routes.{IsChannel}
use Rattle.bk_rounds.specs.Ends.{IsOutward}
use Rattle.bk_rounds.specs.Tasks.{task_of}
use Rattle.bk_rounds.proofs.AfterTurns.{take-works, take-waits, idle-works, idle-waits, make-works, send-works, all-sent}
use Rattle.bk_rounds.proofs.agent.Agent.turn.Goals as goal

pub returns-in_default-clause-works : goal.returns-in_default-clause-works
returns-in_default-clause-works g c begun works =
    take-works
    (task_of (FnReturnsAt g.F.Fn c.args.victim.now.pick) c.args.program.now c.args.trace.now) begun
    c.args.self.now c.take.new.self c.requires.config c.in_ok-take.ensures.number c.in_ok-take.ensures.outlets
    c.in_ok-take.ensures.entries c.requires.sent c.in_ok-take.ensures.takes works

pub returns-then-not-branch-clause-works : goal.returns-then-not-branch-clause-works
returns-then-not-branch-clause-works g c begun works =
    idle-works
    (task_of (FnReturnsAt g.F.Fn c.args.victim.now.pick) c.args.program.now c.args.trace.now) begun
    c.take.new.self c.make.new.self c.in-Some.stamp c.in_ok-make.field-0 c.in_ok-make.ensures.number c.in_ok-make.ensures.inlets
    c.in_ok-make.ensures.outlets c.if-not-branch.true c.in_ok-make.ensures.makes
    (take-works
    (task_of (FnReturnsAt g.F.Fn c.args.victim.now.pick) c.args.program.now c.args.trace.now) begun
    c.args.self.now c.take.new.self c.requires.config c.in_ok-take.ensures.number c.in_ok-take.ensures.outlets
    c.in_ok-take.ensures.entries c.requires.sent c.in_ok-take.ensures.takes works)

pub returns-then-not-branch-clause-sent : goal.returns-then-not-branch-clause-sent
returns-then-not-branch-clause-sent g c begun works =
    inr (idle-waits
    (task_of (FnReturnsAt g.F.Fn c.args.victim.now.pick) c.args.program.now c.args.trace.now)
    c.take.new.self c.make.new.self c.in-Some.stamp c.in_ok-make.field-0 c.args.self.now.hardware.config c.args.self.now.number
    c.in_ok-take.ensures.config c.in_ok-take.ensures.number c.if-not-branch.true c.in_ok-make.ensures.makes
    (take-waits c.args.self.now c.take.new.self c.in_ok-take.ensures.config c.in_ok-take.ensures.number c.requires.sent
    c.in_ok-take.ensures.takes))

pub returns-then-send-clause-works : goal.returns-then-send-clause-works
returns-then-send-clause-works g c begun works =
    send-works
    (task_of (FnReturnsAt g.F.Fn c.args.victim.now.pick) c.args.program.now c.args.trace.now) begun
    c.make.new.self c.send.new.self
    (c.requires.config ∙ sym c.in_ok-take.ensures.config ∙ sym c.in_ok-make.ensures.config)
    c.send.ensures.number c.send.ensures.inlets c.send.ensures.clock c.send.ensures.entries c.send.ensures.sends
    (make-works
    (task_of (FnReturnsAt g.F.Fn c.args.victim.now.pick) c.args.program.now c.args.trace.now) begun
    c.take.new.self c.make.new.self c.in-Some.stamp c.in_ok-make.field-0 (c.requires.config ∙ sym c.in_ok-take.ensures.config)
    c.in_ok-make.ensures.config c.in_ok-make.ensures.number c.in_ok-make.ensures.inlets c.in_ok-make.ensures.outlets
    (take-waits c.args.self.now c.take.new.self c.in_ok-take.ensures.config c.in_ok-take.ensures.number c.requires.sent
    c.in_ok-take.ensures.takes)
    c.if-not-branch.false c.in-Some.ensures.1 c.in_ok-make.ensures.makes c.channels_are_within.ensures
    (take-works
    (task_of (FnReturnsAt g.F.Fn c.args.victim.now.pick) c.args.program.now c.args.trace.now) begun
    c.args.self.now c.take.new.self c.requires.config c.in_ok-take.ensures.number c.in_ok-take.ensures.outlets
    c.in_ok-take.ensures.entries c.requires.sent c.in_ok-take.ensures.takes works))

pub returns-then-send-clause-sent : goal.returns-then-send-clause-sent
returns-then-send-clause-sent g c begun works =
    inr (all-sent
    (task_of (FnReturnsAt g.F.Fn c.args.victim.now.pick) c.args.program.now c.args.trace.now) begun
    c.send.new.self c.args.self.now.hardware.config c.args.self.now.number c.requires.config
    (c.send.ensures.number ∙ c.in_ok-make.ensures.number ∙ c.in_ok-take.ensures.number)
    (returns-then-send-clause-works g c begun works)
    (λ channel there outward. c.send.ensures.all c.if-send.true channel
    (subst (λ (k : Shape). IsChannel k channel) (sym (c.in_ok-make.ensures.config ∙ c.in_ok-take.ensures.config)) there)
    (subst (λ (k : Shape). IsOutward k c.make.new.self.number channel)
    (sym (c.in_ok-make.ensures.config ∙ c.in_ok-take.ensures.config))
    (subst (λ (n : ℕ). IsOutward c.args.self.now.hardware.config n channel)
    (sym (c.in_ok-make.ensures.number ∙ c.in_ok-take.ensures.number)) outward))))

pub returns-else-send-clause-works : goal.returns-else-send-clause-works
returns-else-send-clause-works g c begun works =
    send-works
    (task_of (FnReturnsAt g.F.Fn c.args.victim.now.pick) c.args.program.now c.args.trace.now) begun
    c.make.new.self c.send.new.self
    (c.requires.config ∙ sym c.in_ok-take.ensures.config ∙ sym c.in_ok-make.ensures.config)
    c.send.ensures.number c.send.ensures.inlets c.send.ensures.clock c.send.ensures.entries c.send.ensures.sends
    (make-works
    (task_of (FnReturnsAt g.F.Fn c.args.victim.now.pick) c.args.program.now c.args.trace.now) begun
    c.take.new.self c.make.new.self c.in-Some.stamp c.in_ok-make.field-0 (c.requires.config ∙ sym c.in_ok-take.ensures.config)
    c.in_ok-make.ensures.config c.in_ok-make.ensures.number c.in_ok-make.ensures.inlets c.in_ok-make.ensures.outlets
    (take-waits c.args.self.now c.take.new.self c.in_ok-take.ensures.config c.in_ok-take.ensures.number c.requires.sent
    c.in_ok-take.ensures.takes)
    c.if-not-branch.false c.in-Some.ensures.1 c.in_ok-make.ensures.makes c.channels_are_within.ensures
    (take-works
    (task_of (FnReturnsAt g.F.Fn c.args.victim.now.pick) c.args.program.now c.args.trace.now) begun
    c.args.self.now c.take.new.self c.requires.config c.in_ok-take.ensures.number c.in_ok-take.ensures.outlets
    c.in_ok-take.ensures.entries c.requires.sent c.in_ok-take.ensures.takes works))
