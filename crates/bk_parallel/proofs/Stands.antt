-- Between rounds the agents are together a system at a state, and each may begin a round once the channels are open.
use Rattle.std.proofs.Common.{◌≡◌, ◌≢◌, ℕ, ◌+◌, ◌≤◌, true, List, Some, None, map, slice_get, sym, ap, ◌∙◌, subst, arith, inl, inr}
use Rattle.std.proofs.lemmas.Option.{slice_get_cases, slice_get_within}
use Rattle.std.specs.List.{All, AllPairs}
use Rattle.atomic_table.specs.Seated.{TableId}
use Rattle.bk_agents.specs.Held.{HoldsFirst}
use Rattle.bk_agents.specs.Parts.{part_of}
use Rattle.bk_base.specs.Places.{Shape}
use Rattle.bk_rounds.specs.declared.agent.Agent.{Agent}
use Rattle.bk_rounds.specs.declared.ends.Inlet.{Inlet}
use Rattle.bk_rounds.specs.declared.ends.Outlet.{Outlet}
use Rattle.bk_rounds.specs.Ends.{AreInlets, AreOutlets, IsInward, IsOutward, inlet_channel, outlet_channel, taken_of, sent_to, is_in}
use Rattle.bk_rounds.specs.Reading.{packets_in}
use Rattle.bk_rounds.specs.Work.{IsSent}
use Rattle.bk_system.specs.declared.channel.Channel.{Channel}
use Rattle.bk_system.specs.Routes.{heads_of, IsChannel}
use Rattle.bk_system.specs.State.{State}
use Rattle.bk_system.specs.Systems.{state_of}
use Rattle.bk_parallel.specs.Joined.{AreBetween, AreJoined, AreUnused, ending_at, beginning_at}
use Rattle.bk_parallel.specs.Rounds.{IsReady}
use Rattle.bk_parallel.specs.Stands.{Stand}
use Rattle.bk_parallel.specs.Teams.{IsAgent, IsMember, IsTeam, state_in, inlets_in, outlets_in, entries_in, state_at, inlets_at, outlets_at, entries_at}
use Rattle.bk_parallel.proofs.Chosen.{ending-channels, ending-inward, ending-different, beginning-channels, beginning-outward, beginning-different, beginning-whole}

-- of a team, there is an agent of each number
pub agent-at : (k : Shape) (agents : List Agent) (n : ℕ) → IsTeam k agents → IsAgent k n
    → (agent : Agent) × (slice_get agents n ≡ Some agent)
agent-at k agents n team l = elim (slice_get_cases agents n).1 [
  | inl found ↦ (found.0, found.2)
  | inr past ↦ absurd (omega (arith, past.0, team.count, l))
]

-- and of no other number
pub none-at : (k : Shape) (agents : List Agent) (n : ℕ) → IsTeam k agents → k.caches + 2 ≤ n → slice_get agents n ≡ None
none-at k agents n team far = elim (slice_get_cases agents n).1 [
  | inl found ↦ absurd (omega (arith, found.1, team.count, far))
  | inr past ↦ past.1
]

-- AN AGENT WITH ITS ENDS MAY BEGIN A ROUND

module _ (k : Shape) (s : State) (channels : List Channel) (queues : Channel → TableId) (old opened : List Agent)
    (between : AreBetween k channels) (stand : Stand k s old) (team : IsTeam k opened)
    (joined : AreJoined k channels queues opened) (unused : AreUnused opened)
    (states : (n : ℕ) → state_at k opened n ≡ state_at k old n) (entries : (n : ℕ) → entries_at opened n ≡ entries_at old n)
  where
    module _ (n : ℕ) (agent : Agent) (is : slice_get opened n ≡ Some agent) (l : IsAgent k n) where
      abbrev member : IsMember k n agent
      member = team.each n agent is

      state : state_of agent.hardware ≡ state_at k old n
      state = sym (ap (state_in k) is) ∙ states n

      inlets : inlets_at opened n ≡ agent.inlets.items
      inlets = ap inlets_in is

      outlets : outlets_at opened n ≡ agent.outlets.items
      outlets = ap outlets_in is

      inlet-channels : ending_at k n channels ≡ map inlet_channel agent.inlets.items
      inlet-channels = sym (joined.inlets n l) ∙ ap (map inlet_channel) inlets

      outlet-channels : beginning_at k n channels ≡ map outlet_channel agent.outlets.items
      outlet-channels = sym (joined.outlets n l) ∙ ap (map outlet_channel) outlets

      are-inlets : AreInlets k n agent.inlets.items
      are-inlets = record {
        channels = subst (All (IsChannel k)) inlet-channels (ending-channels k n channels between);
        inward = subst (All (IsInward k n)) inlet-channels (ending-inward k n channels between);
        different = subst (AllPairs (λ channel other. channel ≢ other)) inlet-channels (ending-different k n channels between);
      }

      are-outlets : AreOutlets k n agent.outlets.items
      are-outlets = record {
        channels = subst (All (IsChannel k)) outlet-channels (beginning-channels k n channels between);
        outward = subst (All (IsOutward k n)) outlet-channels (beginning-outward k n channels between);
        different = subst (AllPairs (λ channel other. channel ≢ other)) outlet-channels (beginning-different k n channels between);
        whole = λ channel there outward. subst (λ (all : List Channel). is_in channel all ≡ true) outlet-channels
            (beginning-whole k n channels between channel there outward);
      }

      -- in the agent's own configuration and number, which are these
      waits : IsSent agent.hardware.config agent.number (state_of agent.hardware)
      waits =
          subst (λ (x : Shape). IsSent x agent.number (state_of agent.hardware)) (sym member.config)
          (subst (λ (i : ℕ). IsSent k i (state_of agent.hardware)) (sym member.number)
          (subst (IsSent k n) (sym state) (stand.sent n l)))

      holds : HoldsFirst (part_of agent.hardware.config (state_of agent.hardware) agent.number) (heads_of (state_of agent.hardware))
      holds =
          subst (λ (x : Shape). HoldsFirst (part_of x (state_of agent.hardware) agent.number) (heads_of (state_of agent.hardware)))
          (sym member.config)
          (subst (λ (i : ℕ). HoldsFirst (part_of k (state_of agent.hardware) i) (heads_of (state_of agent.hardware))) (sym member.number)
          (subst (λ (t : State). HoldsFirst (part_of k t n) (heads_of t)) (sym state) (stand.holds n l)))

      pub is-ready : IsReady k agent
      is-ready = record {
        inlets = subst (λ (i : ℕ). AreInlets k i agent.inlets.items) (sym member.number) are-inlets;
        outlets = subst (λ (i : ℕ). AreOutlets k i agent.outlets.items) (sym member.number) are-outlets;
        fresh = record {
          took = λ channel. ap (packets_in agent.hardware.config)
              (ap (λ (all : List Inlet). taken_of all channel) (sym inlets) ∙ unused.taken n channel);
          sent = λ channel. ap (packets_in agent.hardware.config)
              (ap (λ (all : List Outlet). sent_to all channel) (sym outlets) ∙ unused.sent n channel);
          entries = sym (ap entries_in is) ∙ entries n ∙ stand.entries n;
          waits = waits;
          holds = holds;
        };
      }

    -- each agent that is there
    pub all-ready : (n : ℕ) (agent : Agent) → slice_get opened n ≡ Some agent → IsReady k agent
    all-ready n agent is =
        let within = slice_get_within opened n agent is in
        is-ready n agent is (omega (arith, within, team.count))
