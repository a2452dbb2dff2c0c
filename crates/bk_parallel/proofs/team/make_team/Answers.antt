use Rattle.std.proofs.Common.{◌≡◌, ℕ, ◌+◌, ap, subst, arith}
use Rattle.bk_base.specs.Places.{Shape}
use Rattle.bk_parallel.proofs.Making.{AreNew, no-agents, one-more, new-team, new-apart, new-opening, new-entries}
use Rattle.bk_parallel.proofs.team.make_team.Goals as goal

pub loop-number-init : goal.loop-number-init
loop-number-init c = no-agents c.args.config c.new-agents.result.items c.new-agents.ensures.items

pub loop-number-preserved : goal.loop-number-preserved
loop-number-preserved c =
    one-more c.args.config c.loop-number.number c.loop-number.agents.items c.push.new.self.items c.in_ok-agent.field-0
    (c.in_ok-push.ensures).items c.loop-number.invariant c.in_ok-agent.ensures

all : (c : goal.After-loop-number) → AreNew c.args.config (c.args.config.caches + 2) c.loop-number.agents.items
all c =
    let caches : c.config.inside.caches ≡ c.args.config.caches = ap (λ (k : Shape). k.caches) c.config.view_is in
    let last : c.loop-number.number ≡ c.args.config.caches + 2 =
    omega (arith, caches, c.loop-number-test.false, c.loop-number.auto.number-end) in
    subst (λ (n : ℕ). AreNew c.args.config n c.loop-number.agents.items) last c.loop-number.invariant

pub returns-clause-team : goal.returns-clause-team
returns-clause-team c = new-team c.args.config c.loop-number.agents.items (all c)

pub returns-clause-apart : goal.returns-clause-apart
returns-clause-apart c = new-apart c.args.config c.loop-number.agents.items (all c)

pub returns-clause-opening : goal.returns-clause-opening
returns-clause-opening c = new-opening c.args.config c.loop-number.agents.items (all c)

pub returns-clause-entries : goal.returns-clause-entries
returns-clause-entries c = new-entries c.args.config c.loop-number.agents.items (all c)
