use Rattle.std.proofs.Common.{◌≡◌, refl, ◌++◌, length, take, drop, get_or, sym, subst}
use Rattle.std.proofs.lemmas.Option.{slice_get-get_or}
use Rattle.bk_system.specs.State.{opening}
use Rattle.bk_parallel.specs.Joined.{AreBetween}
use Rattle.bk_parallel.proofs.Beginnings.{can-begin}
use Rattle.bk_parallel.proofs.WholeRuns.{stand-opening}
use Rattle.bk_parallel.proofs.Worked.{opens-as, team-back, opened-ready}
use Rattle.bk_parallel.proofs.tests.opened.Goals as goal

pub returns-clause-can : goal.returns-clause-can
returns-clause-can c = λ n d l.
    let k = c.args.config in
    let made = c.in_ok-agents.ensures in
    let given = c.in_ok-open.ensures in
    let new = c.in_ok-agents.agents.items in
    let opened = c.open.new.agents in
    let raw = take c.in_ok-agents.agents.len (opened ++ drop (length opened) new) in
    let came : raw ≡ opened =
    team-back k k new c.deref_mut.result.now opened c.in_ok-agents.agents.len refl c.deref_mut.ensures.value c.deref_mut.ensures.len
    made.team.count given.team in
    let opens = opens-as k k c.deref.result.now new c.deref_mut.result.now opened raw refl c.deref_mut.ensures.value (sym came)
    (record { team = given.team; joined = given.joined; unused = given.unused; states = given.states; entries = given.entries }) in
    can-begin k raw opens.team
    (opened-ready k (opening k) c.deref.result.now new raw (subst (AreBetween k) (sym c.deref.ensures.value) c.in_ok-channels.ensures)
    (stand-opening k new made.team made.apart made.opening made.entries) opens)
    n (get_or raw n d) (slice_get-get_or raw n d l)
