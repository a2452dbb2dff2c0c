use Rattle.std.proofs.Common.{◌≡◌, true, List, [], ◌++◌, length, take, drop, sym, ap, ◌∙◌, subst}
use Rattle.bk_base.specs.Places.{Shape}
use Rattle.bk_threads.specs.declared.merging.Journal.{Journal}
use Rattle.bk_threads.specs.Journals.{IsMerge}
use Rattle.bk_rounds.specs.Tasks.{task_of}
use Rattle.std.specs.Fn.{FnReturnsAt}
use Rattle.std.specs.Vec.{vec_len}
use Rattle.std.proofs.lemmas.Bool.{eqb-true}
use Rattle.std.proofs.lemmas.List.{nil_from_length}
use Rattle.bk_parallel.specs.Joined.{AreJoined}
use Rattle.bk_parallel.specs.Teams.{IsTeam}
use Rattle.bk_parallel.proofs.Worked.{opens-as, closes-as, empties-as, team-back, opened-ready, worked-team, worked-joined, advances}
use Rattle.bk_parallel.proofs.run.make_round.Goals as goal
use Rattle.bk_parallel.proofs.run.make_round.Goals.{then-idle, else-idle}

pub side_by_side-requires-clause-ready : goal.side_by_side-requires-clause-ready
side_by_side-requires-clause-ready g c κs within =
    let k = c.args.trace.now.config in
    let config = c.config-config.result in
    let same = c.config-config.ensures.value in
    let stand = c.requires.stand.1 in
    let opened = c.open.new.agents in
    let given = c.in_ok-open.ensures in
    let came : take c.args.agents.len (opened ++ drop (length opened) c.args.agents.items) ≡ opened =
    team-back k config c.args.agents.items c.deref_mut.result.now opened c.args.agents.len same c.deref_mut.ensures.value
    c.deref_mut.ensures.len stand.team.count given.team in
    let opens = opens-as k config c.args.channels.now c.args.agents.items c.deref_mut.result.now opened
    (take c.args.agents.len (opened ++ drop (length opened) c.args.agents.items)) same c.deref_mut.ensures.value (sym came)
    (record { team = given.team; joined = given.joined; unused = given.unused; states = given.states; entries = given.entries }) in
    opened-ready k c.requires.stand.0 c.args.channels.now c.args.agents.items
    (take c.args.agents.len (opened ++ drop (length opened) c.args.agents.items)) c.requires.channels stand opens

pub close-requires-clause-team : goal.close-requires-clause-team
close-requires-clause-team g c =
    let k = c.args.trace.now.config in
    let config = c.config-config.result in
    let same = c.config-config.ensures.value in
    let stand = c.requires.stand.1 in
    let opened = c.open.new.agents in
    let given = c.in_ok-open.ensures in
    let came : take c.args.agents.len (opened ++ drop (length opened) c.args.agents.items) ≡ opened =
    team-back k config c.args.agents.items c.deref_mut.result.now opened c.args.agents.len same c.deref_mut.ensures.value
    c.deref_mut.ensures.len stand.team.count given.team in
    let opens = opens-as k config c.args.channels.now c.args.agents.items c.deref_mut.result.now opened
    (take c.args.agents.len (opened ++ drop (length opened) c.args.agents.items)) same c.deref_mut.ensures.value (sym came)
    (record { team = given.team; joined = given.joined; unused = given.unused; states = given.states; entries = given.entries }) in
    let raw = take c.args.agents.len (opened ++ drop (length opened) c.args.agents.items) in
    let task = task_of (FnReturnsAt g.F.Fn c.args.victim.pick) c.args.program.now c.args.trace.now in
    let worked = c.in_ok-worked.worked.items in
    let has = c.in_ok-worked.ensures in
    subst (λ (x : Shape). IsTeam x c.deref_mut-2.result.now) (sym same)
    (subst (IsTeam k) (sym c.deref_mut-2.ensures.value)
    (worked-team task c.in_ok-worked.idle raw worked opens.team has.count has.worked))

pub close-requires-clause-joined : goal.close-requires-clause-joined
close-requires-clause-joined g c =
    let k = c.args.trace.now.config in
    let config = c.config-config.result in
    let same = c.config-config.ensures.value in
    let stand = c.requires.stand.1 in
    let opened = c.open.new.agents in
    let given = c.in_ok-open.ensures in
    let came : take c.args.agents.len (opened ++ drop (length opened) c.args.agents.items) ≡ opened =
    team-back k config c.args.agents.items c.deref_mut.result.now opened c.args.agents.len same c.deref_mut.ensures.value
    c.deref_mut.ensures.len stand.team.count given.team in
    let opens = opens-as k config c.args.channels.now c.args.agents.items c.deref_mut.result.now opened
    (take c.args.agents.len (opened ++ drop (length opened) c.args.agents.items)) same c.deref_mut.ensures.value (sym came)
    (record { team = given.team; joined = given.joined; unused = given.unused; states = given.states; entries = given.entries }) in
    let raw = take c.args.agents.len (opened ++ drop (length opened) c.args.agents.items) in
    let task = task_of (FnReturnsAt g.F.Fn c.args.victim.pick) c.args.program.now c.args.trace.now in
    let worked = c.in_ok-worked.worked.items in
    let has = c.in_ok-worked.ensures in (
      opens.joined.0,
      subst (λ (x : Shape). AreJoined x c.args.channels.now opens.joined.0 c.deref_mut-2.result.now) (sym same)
          (subst (AreJoined k c.args.channels.now opens.joined.0) (sym c.deref_mut-2.ensures.value)
          (worked-joined task c.in_ok-worked.idle raw worked opens.team has.count has.worked c.args.channels.now opens.joined.0
          opens.joined.1)),
    )

pub returns : goal.returns
returns g c = λ s standing.
    let k = c.args.trace.now.config in
    let config = c.config-config.result in
    let same = c.config-config.ensures.value in
    let stand = c.requires.stand.1 in
    let opened = c.open.new.agents in
    let given = c.in_ok-open.ensures in
    let came : take c.args.agents.len (opened ++ drop (length opened) c.args.agents.items) ≡ opened =
    team-back k config c.args.agents.items c.deref_mut.result.now opened c.args.agents.len same c.deref_mut.ensures.value
    c.deref_mut.ensures.len stand.team.count given.team in
    let opens = opens-as k config c.args.channels.now c.args.agents.items c.deref_mut.result.now opened
    (take c.args.agents.len (opened ++ drop (length opened) c.args.agents.items)) same c.deref_mut.ensures.value (sym came)
    (record { team = given.team; joined = given.joined; unused = given.unused; states = given.states; entries = given.entries }) in
    let raw = take c.args.agents.len (opened ++ drop (length opened) c.args.agents.items) in
    let task = task_of (FnReturnsAt g.F.Fn c.args.victim.pick) c.args.program.now c.args.trace.now in
    let worked = c.in_ok-worked.worked.items in
    let has = c.in_ok-worked.ensures in
    let shut = c.close.new.agents in
    let close = c.in_ok-close.ensures in
    let many = (worked-team task c.in_ok-worked.idle raw worked opens.team has.count has.worked).count in
    let closes = closes-as k config worked c.deref_mut-2.result.now shut same c.deref_mut-2.ensures.value
    (record { team = close.team; apart = close.apart; closed = close.closed; entries = close.entries }) in
    let shut_raw = take c.in_ok-worked.worked.len (shut ++ drop (length shut) worked) in
    let shut_came : shut_raw ≡ shut =
    team-back k config worked c.deref_mut-2.result.now shut c.in_ok-worked.worked.len same c.deref_mut-2.ensures.value
    c.deref_mut-2.ensures.len many close.team in
    let emptied = c.journals_of.new.agents in
    let took = c.in_ok-journals.ensures in
    let emptied_raw = take c.in_ok-worked.worked.len (emptied ++ drop (length emptied) shut_raw) in
    let emptied_came : emptied_raw ≡ emptied =
    team-back k config shut_raw c.deref_mut-3.result.now emptied c.in_ok-worked.worked.len same c.deref_mut-3.ensures.value
    c.deref_mut-3.ensures.len (ap length shut_came ∙ closes.team.count) took.team in
    let empties = empties-as k config shut c.deref_mut-3.result.now emptied emptied_raw c.in_ok-journals.journals.items same
    (c.deref_mut-3.ensures.value ∙ shut_came) (sym emptied_came)
    (record {
      told = took.entries;
      empty = took.empty;
      team = took.team;
      states = took.states;
      inlets = took.inlets;
      outlets = took.outlets;
    }) in
    let merge = subst (λ (all : List Journal). IsMerge all c.in_ok-events.events.items) c.deref.ensures.value c.in_ok-events.ensures in
    let ends : c.if-idle.last ≡ true → (c.in_ok-worked.idle ≡ true) × (c.in_ok-events.events.items ≡ []) =
    elim c.if-idle.branch [
      | then-idle w ↦ λ is. (
        w.if-idle.true,
        nil_from_length c.in_ok-events.events.items
            (sym c.in_ok-events.events.ok.0 ∙ eqb-true (vec_len c.in_ok-events.events) 0
            (sym w.is_empty-last.ensures ∙ sym w.last-is ∙ is)),
      )
      | else-idle w ↦ λ is. let off = sym w.last-is ∙ is in absurd (cc (off))
    ] in
    advances task s c.in_ok-worked.idle c.if-idle.last c.args.channels.now c.args.agents.items raw worked shut emptied_raw
    c.in_ok-journals.journals.items c.in_ok-events.events.items c.requires.channels standing opens has.count has.worked closes empties merge
    ends
