-- What a round of all agents, side by side, is in the lists of all, and what it comes to.
use Rattle.std.proofs.Common.{◌≡◌, inl, inr, ℕ, ◌+◌, ◌≤◌, Bool, true, List, [], ◌++◌, Option, Some, length, map, take, drop, slice_get, sym, ap, ◌∙◌, subst, append-nil, arith}
use Rattle.std.proofs.lemmas.List.{take_all, drop_all}
use Rattle.std.proofs.lemmas.Option.{slice_get_cases, slice_get_within}
use Rattle.atomic_table.specs.Seated.{TableId}
use Rattle.bk_base.specs.Places.{Shape}
use Rattle.bk_msg.specs.declared.row.Row.{Row}
use Rattle.bk_rounds.specs.declared.agent.Agent.{Agent}
use Rattle.bk_rounds.specs.Ends.{took, sent, inlet_channel, outlet_channel, inlet_table, outlet_table}
use Rattle.bk_rounds.specs.Tasks.{Task, IsIdle}
use Rattle.bk_rounds.specs.Work.{IsWork}
use Rattle.bk_system.specs.declared.channel.Channel.{Channel}
use Rattle.bk_system.specs.declared.event.Event.{Event}
use Rattle.bk_system.specs.State.{State}
use Rattle.bk_system.specs.Systems.{state_of}
use Rattle.bk_threads.specs.declared.merging.Journal.{Journal}
use Rattle.bk_threads.specs.Agents.{Channels}
use Rattle.bk_threads.specs.Journals.{entries_of, IsMerge}
use Rattle.bk_parallel.specs.Joined.{AreBetween, AreJoined, AreUnused, AreClosed}
use Rattle.bk_parallel.specs.Rounds.{IsReady, HasWorked}
use Rattle.bk_parallel.specs.Stands.{Stand, Advances}
use Rattle.bk_parallel.specs.Teams.{IsAgent, IsTeam, AreApart, state_in, inlets_in, outlets_in, entries_in, clock_in, state_at, inlets_at, outlets_at, entries_at}
use Rattle.bk_parallel.proofs.RoundDone.{WorkAt, IsRoundOf, joins, stands, rests}
use Rattle.bk_parallel.proofs.Stands.{agent-at, all-ready}

-- a list that was handed over and came back as long as before is the list that came back
pub back : {X : Type 0} (xs now new : List X) (n : ℕ) → now ≡ xs → length now ≡ n → length new ≡ length xs
    → take n (new ++ drop (length new) xs) ≡ new
back xs now new n is many same =
    let all : length xs ≤ length new = omega (arith, same) in
    ap (λ rest. take n (new ++ rest)) (drop_all (length new) xs all)
    ∙ ap (take n) (append-nil new)
    ∙ take_all n new (omega (arith, same, many, ap length is))

-- THE WORK OF ALL

module _ (task : Task) (idle : Bool) (opened worked : List Agent) (team : IsTeam task.config opened)
    (count : length worked ≡ length opened)
    (work : (n : ℕ) (old new : Agent) → slice_get opened n ≡ Some old → slice_get worked n ≡ Some new
    → HasWorked task idle old new)
  where
    abbrev k : Shape
    k = task.config

    -- the agent of a number, before and after
    record Both (n : ℕ) : Type 0 where
      old : Agent
      new : Agent
      before : slice_get opened n ≡ Some old
      after : slice_get worked n ≡ Some new
      has : HasWorked task idle old new

    both : (n : ℕ) → IsAgent k n → Both n
    both n l =
        let was = agent-at k opened n team l in
        elim (slice_get_cases worked n).1 [
          | inl found ↦ record {
            old = was.0;
            new = found.0;
            before = was.1;
            after = found.2;
            has = work n was.0 found.0 was.1 found.2;
          }
          | inr past ↦ absurd (omega (arith, past.0, count, team.count, l))
        ]

    pub worked-team : IsTeam k worked
    worked-team = record {
      count = count ∙ team.count;
      each = λ n new e.
          let within = slice_get_within worked n new e in
          let was = agent-at k opened n team (omega (arith, within, count, team.count)) in
          let same = (work n was.0 new was.1 e).same in
          let member = team.each n was.0 was.1 in
          record { number = same.number ∙ member.number; config = same.config ∙ member.config };
    }

    pub worked-joined : (list : List Channel) (queues : Channel → TableId) → AreJoined k list queues opened
        → AreJoined k list queues worked
    worked-joined list queues joined = record {
      inlets = λ n l. let b = both n l in
          ap (λ o. map inlet_channel (inlets_in o)) b.after ∙ b.has.same.inlets
          ∙ sym (ap (λ o. map inlet_channel (inlets_in o)) b.before) ∙ joined.inlets n l;
      outlets = λ n l. let b = both n l in
          ap (λ o. map outlet_channel (outlets_in o)) b.after ∙ b.has.same.outlets
          ∙ sym (ap (λ o. map outlet_channel (outlets_in o)) b.before) ∙ joined.outlets n l;
      inlet_tables = λ n l. let b = both n l in
          ap (λ o. map inlet_table (inlets_in o)) b.after ∙ b.has.same.inlet_tables
          ∙ sym (ap (λ o. map inlet_table (inlets_in o)) b.before) ∙ joined.inlet_tables n l;
      outlet_tables = λ n l. let b = both n l in
          ap (λ o. map outlet_table (outlets_in o)) b.after ∙ b.has.same.outlet_tables
          ∙ sym (ap (λ o. map outlet_table (outlets_in o)) b.before) ∙ joined.outlet_tables n l;
    }

    work-at : (n : ℕ) → IsAgent k n → WorkAt task (state_at k opened) worked n
    work-at n l =
        let b = both n l in
        let number = b.has.same.number ∙ (team.each n b.old b.before).number in
        subst (λ (o : Option Agent). IsWork task n (state_at k opened n) (state_in k o) (took k (inlets_in o)) (sent k (outlets_in o))
        (clock_in o) (entries_in o)) (sym b.after)
        (subst (λ (o : Option Agent). IsWork task n (state_in k o) (state_of b.new.hardware) (took k b.new.inlets.items)
        (sent k b.new.outlets.items) b.new.clock b.new.entries.items) (sym b.before)
        (subst (λ (i : ℕ). IsWork task i (state_of b.old.hardware) (state_of b.new.hardware) (took k b.new.inlets.items)
        (sent k b.new.outlets.items) b.new.clock b.new.entries.items) number b.has.works))

    idle-at : idle ≡ true → (n : ℕ) → IsAgent k n → IsIdle k task.program task.operations (state_at k worked n) n
    idle-at is n l =
        let b = both n l in
        subst (λ (o : Option Agent). IsIdle k task.program task.operations (state_in k o) n) (sym b.after)
        (subst (λ (i : ℕ). IsIdle k task.program task.operations (state_of b.new.hardware) i) (team.each n b.old b.before).number
        (b.has.rests is))

-- WHAT THE CALLS OF A ROUND ANSWER

pub record Opens (k : Shape) (list : List Channel) (old opened : List Agent) : Type 0 where
  pub team : IsTeam k opened
  pub joined : (queues : Channel → TableId) × AreJoined k list queues opened
  pub unused : AreUnused opened
  pub states : (n : ℕ) → state_at k opened n ≡ state_at k old n
  pub entries : (n : ℕ) → entries_at opened n ≡ entries_at old n

pub record Closes (k : Shape) (worked shut : List Agent) : Type 0 where
  pub team : IsTeam k shut
  pub apart : AreApart shut
  pub closed : (left : Channels Channel Row) × AreClosed k worked shut left
  pub entries : (n : ℕ) → entries_at shut n ≡ entries_at worked n

pub record Empties (k : Shape) (shut emptied : List Agent) (journals : List Journal) : Type 0 where
  pub told : (n : ℕ) → entries_of journals n ≡ entries_at shut n
  pub empty : (n : ℕ) → entries_at emptied n ≡ []
  pub team : IsTeam k emptied
  pub states : (n : ℕ) → state_at k emptied n ≡ state_at k shut n
  pub inlets : (n : ℕ) → inlets_at emptied n ≡ inlets_at shut n
  pub outlets : (n : ℕ) → outlets_at emptied n ≡ outlets_at shut n

pub opened-ready : (k : Shape) (s : State) (list : List Channel) (old opened : List Agent) → AreBetween k list → Stand k s old
    → Opens k list old opened → (n : ℕ) (agent : Agent) → slice_get opened n ≡ Some agent → IsReady k agent
opened-ready k s list old opened between stand opens =
    all-ready k s list opens.joined.0 old opened between stand opens.team opens.joined.1 opens.unused opens.states opens.entries

module _ (task : Task) (s : State) (idle last : Bool) (list : List Channel) (old opened worked shut emptied : List Agent)
    (journals : List Journal) (events : List Event) (between : AreBetween task.config list) (stand : Stand task.config s old)
    (opens : Opens task.config list old opened) (count : length worked ≡ length opened)
    (work : (n : ℕ) (was new : Agent) → slice_get opened n ≡ Some was → slice_get worked n ≡ Some new
    → HasWorked task idle was new)
    (closes : Closes task.config worked shut) (empties : Empties task.config shut emptied journals) (merge : IsMerge journals events)
  where
    abbrev left : Channels Channel Row
    left = closes.closed.0

    round : IsRoundOf task s old opened worked shut emptied left list journals events between
    round = record {
      stand = stand;
      states = opens.states;
      works = work-at task idle opened worked opens.team count work;
      team = worked-team task idle opened worked opens.team count work;
      inlets = (worked-joined task idle opened worked opens.team count work list opens.joined.0 opens.joined.1).inlets;
      shut = closes.closed.1;
      parted = closes.apart;
      told = λ n. empties.told n ∙ closes.entries n;
      merge = merge;
      last = empties.team;
      same_states = empties.states;
      same_inlets = empties.inlets;
      same_outlets = empties.outlets;
      empty = empties.empty;
    }

    pub advances : (last ≡ true → (idle ≡ true) × (events ≡ [])) → Advances task s events emptied last
    advances told =
        let together = joins task s old opened worked shut emptied left list journals events between round in
        record {
          stand = stands task s old opened worked shut emptied left list journals events between round;
          tight = together.tight;
          due = together.due;
          ended = λ is.
              let both_are = told is in
              rests task s old opened worked shut emptied left list journals events between round both_are.1
              (idle-at task idle opened worked opens.team count work both_are.0);
        }

-- THE SAME, OF LISTS AND A CONFIGURATION AS THE CODE NAMES THEM

pub opens-as : (k config : Shape) (list : List Channel) (old now opened raw : List Agent) → config ≡ k → now ≡ old
    → opened ≡ raw
    → Opens config list now opened → Opens k list old raw
opens-as k config list old now opened raw same is came h =
    subst (λ (x : List Agent). Opens k list old x) came
    (subst (λ (x : List Agent). Opens k list x opened) is (subst (λ (x : Shape). Opens x list now opened) same h))

pub closes-as : (k config : Shape) (worked now shut : List Agent) → config ≡ k → now ≡ worked → Closes config now shut
    → Closes k worked shut
closes-as k config worked now shut same is h =
    subst (λ (x : List Agent). Closes k x shut) is (subst (λ (x : Shape). Closes x now shut) same h)

pub empties-as : (k config : Shape) (shut now emptied raw : List Agent) (journals : List Journal) → config ≡ k → now ≡ shut
    → emptied ≡ raw → Empties config now emptied journals → Empties k shut raw journals
empties-as k config shut now emptied raw journals same is came h =
    subst (λ (x : List Agent). Empties k shut x journals) came
    (subst (λ (x : List Agent). Empties k x emptied journals) is (subst (λ (x : Shape). Empties x now emptied journals) same h))

pub team-back : (k config : Shape) (items now new : List Agent) (n : ℕ) → config ≡ k → now ≡ items → length now ≡ n
    → length items ≡ k.caches + 2 → IsTeam config new → take n (new ++ drop (length new) items) ≡ new
team-back k config items now new n same is many count team =
    back items now new n is many (team.count ∙ ap (λ (x : Shape). x.caches + 2) same ∙ sym count)
