use Rattle.std.proofs.Common.{◌<◌, ◌≤◌, length, get_or, refl, ap, ◌∙◌, arith}
use Rattle.std.proofs.lemmas.Option.{slice_get-get_or}
use Rattle.bk_parallel.proofs.Emptying.{none-emptied, one-emptied, all-different, all-entries, all-empty}
use Rattle.bk_parallel.proofs.team.journals_of.Goals as goal

pub loop-place-init : goal.loop-place-init
loop-place-init c = none-emptied c.args.config c.args.agents.now c.new-journals.result.items c.requires c.new-journals.ensures.items

pub loop-place-preserved : goal.loop-place-preserved
loop-place-preserved c =
    let h = c.loop-place.invariant in
    let inside : c.loop-place.place < length c.loop-place.agents = omega (arith, h.many, c.loop-place-test.true) in
    let agent = get_or c.loop-place.agents c.loop-place.place c.index-agents-place.result in
    one-emptied c.args.config c.args.agents.now c.loop-place.agents c.loop-place.journals.items c.push.new.self.items
    c.loop-place.place agent (record agent { entries = c.replace-entries.new.dest })
    (record { agent = agent.number; entries = c.replace-entries.result }) h
    (slice_get-get_or c.loop-place.agents c.loop-place.place c.index-agents-place.result inside)
    (record {
      number = refl;
      hardware = refl;
      inlets = refl;
      outlets = refl;
      entries = ap (λ v. v.items) c.replace-entries.ensures.after ∙ c.new.ensures.items;
    })
    (c.in_ok-push.ensures).items refl (ap (λ v. v.items) c.replace-entries.ensures.value)

whole : (c : goal.After-loop-place) → length c.loop-place.agents ≤ c.loop-place.place
whole c = omega (arith, c.loop-place.invariant.many, c.loop-place-test.false)

pub returns-clause-different : goal.returns-clause-different
returns-clause-different c =
    all-different c.args.config c.args.agents.now c.loop-place.agents c.loop-place.journals.items c.loop-place.place c.loop-place.invariant
    (whole c)

pub returns-clause-entries : goal.returns-clause-entries
returns-clause-entries c =
    all-entries c.args.config c.args.agents.now c.loop-place.agents c.loop-place.journals.items c.loop-place.place c.loop-place.invariant
    (whole c)

pub returns-clause-empty : goal.returns-clause-empty
returns-clause-empty c =
    all-empty c.args.config c.args.agents.now c.loop-place.agents c.loop-place.journals.items c.loop-place.place c.loop-place.invariant
    (whole c)

pub returns-clause-team : goal.returns-clause-team
returns-clause-team c = c.loop-place.invariant.team

pub returns-clause-states : goal.returns-clause-states
returns-clause-states c = c.loop-place.invariant.states

pub returns-clause-inlets : goal.returns-clause-inlets
returns-clause-inlets c = c.loop-place.invariant.inlets

pub returns-clause-outlets : goal.returns-clause-outlets
returns-clause-outlets c = c.loop-place.invariant.outlets
