use Rattle.std.proofs.Common.{refl, inl, inr, length, arith}
use Rattle.std.specs.Fn.{FnReturnsAt}
use Rattle.bk_system.specs.Systems.{state_of}
use Rattle.bk_rounds.specs.Tasks.{task_of}
use Rattle.bk_rounds.specs.declared.turns.Turn.TheVariants.{Idle, Made}
use Rattle.bk_rounds.proofs.AfterTurns.{fresh-works}
use Rattle.bk_rounds.proofs.SameAgents.{same-agent, same-again, waits-on, made-on}
use Rattle.bk_rounds.proofs.agent.Agent.round.Goals as goal
use Rattle.bk_rounds.proofs.agent.Agent.round.Goals.{in-Made+else-left-eq0, in-Idle+else-patience-eq0}

pub loop-init : goal.loop-init
loop-init g c = record {
  same = same-agent c.args.self.now;
  works = fresh-works (task_of (FnReturnsAt g.F.Fn c.args.victim.now.pick) c.args.program.now c.args.trace.now)
      c.args.self.now c.requires.config c.requires.fresh;
  waits = c.requires.fresh.waits;
  made = inl refl;
  some_left = omega arith;
  patient = omega arith;
  count = refl;
}

pub returns-then-left-eq0-clause-works : goal.returns-then-left-eq0-clause-works
returns-then-left-eq0-clause-works g c = c.in_ok-turn.ensures.works (state_of c.args.self.now.hardware) c.loop.invariant.works

pub returns-then-patience-eq0-clause-works : goal.returns-then-patience-eq0-clause-works
returns-then-patience-eq0-clause-works g c = c.in_ok-turn.ensures.works (state_of c.args.self.now.hardware) c.loop.invariant.works

pub returns-in-Stopped-clause-works : goal.returns-in-Stopped-clause-works
returns-in-Stopped-clause-works g c = c.in_ok-turn.ensures.works (state_of c.args.self.now.hardware) c.loop.invariant.works

pub loop-preserved : goal.loop-preserved
loop-preserved g c =
    let same = same-again c.args.self.now c.loop.self c.turn.new.self c.loop.invariant.same c.in_ok-turn.ensures.same in
    let works = c.in_ok-turn.ensures.works (state_of c.args.self.now.hardware) c.loop.invariant.works in
    let sent = c.in_ok-turn.ensures.sent (state_of c.args.self.now.hardware) c.loop.invariant.works in
    elim c.match-branch-2.branch [
      | in-Made+else-left-eq0 w ↦
          let longer = c.in_ok-turn.ensures.made w.in-Made.is in
          record {
            same = same;
            works = works;
            waits = waits-on c.args.self.now c.loop.self (state_of c.turn.new.self.hardware) c.in_ok-turn.field-0 Made
                c.loop.invariant.same w.in-Made.is (λ e. absurd (cc (e))) sent;
            made = inr (omega (arith, longer));
            some_left = omega (arith, w.left-is, w.if-left-eq0.false);
            patient = omega (arith, w.patience-is, c.loop.invariant.patient);
            count = omega (arith, w.left-is, w.patience-is, c.loop.invariant.count, c.loop.invariant.some_left);
          }
      | in-Idle+else-patience-eq0 w ↦
          record {
            same = same;
            works = works;
            waits = waits-on c.args.self.now c.loop.self (state_of c.turn.new.self.hardware) c.in_ok-turn.field-0 Idle
                c.loop.invariant.same w.in-Idle.is (λ e. absurd (cc (e))) sent;
            made = made-on c.loop.left c.match-branch-2.left (length c.loop.self.entries.items) (length c.turn.new.self.entries.items)
                w.left-is c.in_ok-turn.ensures.longer c.loop.invariant.made;
            some_left = omega (arith, w.left-is, c.loop.invariant.some_left);
            patient = omega (arith, w.patience-is, w.if-patience-eq0.false);
            count = omega (arith, w.left-is, w.patience-is, c.loop.invariant.count, c.loop.invariant.patient);
          }
    ]
