-- The work of all agents in one round is a round of the system's agents, and so comes to a list of events.
use Rattle.std.proofs.Common.{◌≡◌, ℕ, ◌+◌, ◌<◌, ◌≤◌, Bool, List, [], ◌∷◌, ◌++◌, refl, sym, ap, ◌∙◌, subst, ◌⊎◌, inl, inr, append_assoc, append-nil, eq-eqb, ne_eqb, arith}
use Rattle.std.specs.Prelude.{◌≢◌, if◌then◌else◌}
use Rattle.std.proofs.lemmas.Bool.{cases_eq, cases_lt}
use Rattle.std.proofs.lemmas.List.{map-append}
use Rattle.std.proofs.lemmas.List.Elements.{All-nil}
use Rattle.bk_base.specs.Places.{Shape}
use Rattle.bk_msg.specs.declared.row.Row.{Row}
use Rattle.bk_system.specs.declared.channel.Channel.{Channel}
use Rattle.bk_system.specs.declared.channel.Channel.TheVariants as channels
use Rattle.bk_system.specs.declared.event.Event.{Event}
use Rattle.bk_system.specs.Routes.{channel_of, is_same, begins_at, ends_at, IsChannel}
use Rattle.bk_system.specs.Runs.{run_from}
use Rattle.bk_system.specs.State.{State}
use Rattle.bk_agents.specs.Parts.{Part, part_of}
use Rattle.bk_threads.specs.declared.merging.Journal.{Journal}
use Rattle.bk_threads.specs.Agents.{Packet, Channels, sent_by}
use Rattle.bk_threads.specs.Journals.{entries_of, IsMerge}
use Rattle.bk_threads.specs.Rounds.{IsBy, IsWalkOf, IsRound, ComesTo, HoldsAlone}
use Rattle.bk_threads.specs.System.{SystemStep, message_of, messages_of, packets_of}
use Rattle.bk_threads.specs.Walks.{part_after, streams_after}
use Rattle.bk_threads.proofs.Rounds.{rounds_run, rounds_keep}
use Rattle.bk_rounds.specs.Tasks.{Task, IsDue}
use Rattle.bk_rounds.specs.Work.{brought, stream}
use Rattle.bk_rounds.proofs.Teams.{IsAgent, IsTeamWork, Joins}

-- CHANNELS

below : (n number : ℕ) → (n < number) ⊎ (n < number → ⊥)
below n number = whether (cases_lt n number)
  where
    whether : (n < number) ⊎ (number ≤ n) → (n < number) ⊎ (n < number → ⊥)
    whether (inl l) = inl l
    whether (inr far) = inr (λ l. absurd (omega (arith, l, far)))

both-below : (a b : Type 0) → a ⊎ (a → ⊥) → b ⊎ (b → ⊥) → (a × b) ⊎ (a × b → ⊥)
both-below a b (inl x) (inl y) = inl (x, y)
both-below a b (inl x) (inr none) = inr (λ h. none h.1)
both-below a b (inr none) d = inr (λ h. none h.0)

-- one is between agents of the configuration, or it isn't
pub is-there : (k : Shape) (channel : Channel) → IsChannel k channel ⊎ (IsChannel k channel → ⊥)
is-there k (channels.Request from) = below from k.caches
is-there k (channels.Command to) = below to k.caches
is-there k (channels.Fill to from) = both-below (to < k.caches) (from < k.caches) (below to k.caches) (below from k.caches)
is-there k (channels.Response from) = below from k.caches
is-there k channels.Memout = inl tt
is-there k channels.Memin = inl tt

-- and then both of its ends are agents
ends-there : (k : Shape) (channel : Channel) → IsChannel k channel → IsAgent k (begins_at k channel) × IsAgent k (ends_at k channel)
ends-there k (channels.Request from) l = (omega (arith, l), omega arith)
ends-there k (channels.Command to) l = (omega arith, omega (arith, l))
ends-there k (channels.Fill to from) l = (omega (arith, l.1), omega (arith, l.0))
ends-there k (channels.Response from) l = (omega (arith, l), omega arith)
ends-there k channels.Memout l = (omega arith, omega arith)
ends-there k channels.Memin l = (omega arith, omega arith)

-- messages as packets, and back
there_back : (stamp : ℕ) (ms : List Row) → messages_of (packets_of stamp ms) ≡ ms
there_back stamp [] = refl
there_back stamp (m ∷ ms) = ap (λ rest. m ∷ rest) (there_back stamp ms)

-- THE ROUND

module _ (task : Task) (s : State) (journals : List Journal) (begun now : ℕ → State) (took sent : ℕ → Channels Channel Row)
    (clock : ℕ → ℕ) (left : Channels Channel Row) (team : IsTeamWork task s journals begun now took sent clock left) where
  abbrev k : Shape
  k = task.config

  abbrev IsSome : ℕ → Type 0
  IsSome n = (n < k.caches + 2) ⊎ (k.caches + 2 ≤ n)

  -- the steps of an agent, and what its channels bring it; of a number that is no agent's there are none
  abbrev steps-at : (n : ℕ) → IsSome n → List SystemStep
  steps-at n (inl agent) = (team.works n agent).steps
  steps-at n (inr none) = []

  abbrev streams-at : (n : ℕ) → IsSome n → Channels Channel Row
  streams-at n (inl agent) = stream k n (begun n) (team.works n agent).steps (took n)
  streams-at n (inr none) = λ channel. packets_of 0 (channel_of s channel)

  abbrev steps : ℕ → List SystemStep
  steps n = steps-at n (cases_lt n (k.caches + 2))

  abbrev streams : ℕ → Channels Channel Row
  streams n = streams-at n (cases_lt n (k.caches + 2))

  -- what is left in a channel between two agents: in the queue, and with the one that sends
  abbrev left-at : (channel : Channel) → IsChannel k channel ⊎ (IsChannel k channel → ⊥)
      → (begins_at k channel ≡ ends_at k channel) ⊎ (begins_at k channel ≢ ends_at k channel) → List (Packet Row)
  left-at channel (inl there) (inr apart) =
      left channel ++ packets_of (clock (begins_at k channel)) (channel_of (now (begins_at k channel)) channel)
  left-at channel (inl there) (inl same) = []
  left-at channel (inr none) same = []

  abbrev remains : Channels Channel Row
  remains channel = left-at channel (is-there k channel) (cases_eq (begins_at k channel) (ends_at k channel))

  walk-at : (n : ℕ) (d : IsSome n) → IsWalkOf k task.program n (part_of k s n) (streams-at n d) (entries_of journals n) (steps-at n d)
  walk-at n (inl agent) =
      subst (λ (part : Part). IsWalkOf k task.program n part (stream k n (begun n) (team.works n agent).steps (took n))
      (entries_of journals n) (team.works n agent).steps) (team.parts n agent) (team.works n agent).walk
  walk-at n (inr none) = record {
    alone = tt;
    own = All-nil (IsBy n);
    by_stamp = λ i j d before within. absurd (omega arith);
    told = team.others n none;
  }

  -- what a channel that brings what was taken of it brings, and one of an agent to itself
  brought-taken : (n : ℕ) (ss : List SystemStep) (channel : Channel) → begins_at k channel ≢ n
      → brought k n ss (took n) channel ≡ took n channel
  brought-taken n ss channel apart =
      ap (λ (b : Bool). if b then sent_by ss channel else took n channel) (ne_eqb (begins_at k channel) n apart)

  brought-own : (n : ℕ) (ss : List SystemStep) (channel : Channel) → begins_at k channel ≡ n
      → brought k n ss (took n) channel ≡ sent_by ss channel
  brought-own n ss channel same =
      ap (λ (b : Bool). if b then sent_by ss channel else took n channel) (eq-eqb (begins_at k channel) n same)

  -- a stream begins with what the state has in the channel
  held-first : (channel : Channel) (agent : IsAgent k (ends_at k channel)) (more : List (Packet Row))
      → packets_of 0 (channel_of s channel) ++ more ≡ packets_of 0 (channel_of (begun (ends_at k channel)) channel) ++ more
  held-first channel agent more =
      ap (λ (ms : List Row). packets_of 0 ms ++ more) (sym (team.inboxes channel agent))

  abbrev Whole : (channel : Channel) → IsSome (begins_at k channel) → IsSome (ends_at k channel)
      → IsChannel k channel ⊎ (IsChannel k channel → ⊥)
      → (begins_at k channel ≡ ends_at k channel) ⊎ (begins_at k channel ≢ ends_at k channel) → Type 0
  Whole channel db de there same =
      packets_of 0 (channel_of s channel) ++ sent_by (steps-at (begins_at k channel) db) channel
      ≡ streams-at (ends_at k channel) de channel ++ left-at channel there same

  whole-own : (channel : Channel) (ss : List SystemStep) (de : IsSome (ends_at k channel)) → begins_at k channel ≡ ends_at k channel
      → sent_by ss channel ≡ sent_by (steps-at (ends_at k channel) de) channel
      → packets_of 0 (channel_of s channel) ++ sent_by ss channel ≡ streams-at (ends_at k channel) de channel ++ []
  whole-own channel ss (inl agent) same agree =
      ap (λ (ps : List (Packet Row)). packets_of 0 (channel_of s channel) ++ ps)
      (agree ∙ sym (brought-own (ends_at k channel) (team.works (ends_at k channel) agent).steps channel same))
      ∙ held-first channel agent
      (brought k (ends_at k channel) (team.works (ends_at k channel) agent).steps (took (ends_at k channel)) channel)
      ∙ sym (append-nil (stream k (ends_at k channel) (begun (ends_at k channel)) (team.works (ends_at k channel) agent).steps
      (took (ends_at k channel)) channel))
  whole-own channel ss (inr none) same agree =
      ap (λ (ps : List (Packet Row)). packets_of 0 (channel_of s channel) ++ ps) agree

  nothing-sent : (channel : Channel) (db : IsSome (begins_at k channel)) → (IsChannel k channel → ⊥)
      → sent_by (steps-at (begins_at k channel) db) channel ≡ []
  nothing-sent channel (inr none) away = refl
  nothing-sent channel (inl agent) away = whether ((team.works (begins_at k channel) agent).through channel)
    where
      whether : IsChannel k channel ⊎ (sent_by (team.works (begins_at k channel) agent).steps channel ≡ [])
          → sent_by (team.works (begins_at k channel) agent).steps channel ≡ []
      whether (inl there) = absurd (away there)
      whether (inr none) = none

  nothing-took : (channel : Channel) → (IsChannel k channel → ⊥) → took (ends_at k channel) channel ≡ []
  nothing-took channel away = whether (team.none channel)
    where
      whether : IsChannel k channel ⊎ (took (ends_at k channel) channel ≡ []) → took (ends_at k channel) channel ≡ []
      whether (inl there) = absurd (away there)
      whether (inr none) = none

  whole-away : (channel : Channel) (ss : List SystemStep) (de : IsSome (ends_at k channel))
      → begins_at k channel ≢ ends_at k channel → (IsChannel k channel → ⊥) → sent_by ss channel ≡ []
      → packets_of 0 (channel_of s channel) ++ sent_by ss channel ≡ streams-at (ends_at k channel) de channel ++ []
  whole-away channel ss (inl agent) apart away none =
      ap (λ (ps : List (Packet Row)). packets_of 0 (channel_of s channel) ++ ps)
      (none ∙ sym (brought-taken (ends_at k channel) (team.works (ends_at k channel) agent).steps channel apart
      ∙ nothing-took channel away))
      ∙ held-first channel agent
      (brought k (ends_at k channel) (team.works (ends_at k channel) agent).steps (took (ends_at k channel)) channel)
      ∙ sym (append-nil (stream k (ends_at k channel) (begun (ends_at k channel)) (team.works (ends_at k channel) agent).steps
      (took (ends_at k channel)) channel))
  whole-away channel ss (inr none) apart away nothing =
      ap (λ (ps : List (Packet Row)). packets_of 0 (channel_of s channel) ++ ps) nothing

  -- what was sent between two agents is what was taken, what was left, and what was not sent
  four : (held took_there left_there unsent : List (Packet Row))
      → held ++ ((took_there ++ left_there) ++ unsent) ≡ (held ++ took_there) ++ (left_there ++ unsent)
  four held took_there left_there unsent =
      ap (λ (ps : List (Packet Row)). held ++ ps) (append_assoc took_there left_there unsent)
      ∙ sym (append_assoc held took_there (left_there ++ unsent))

  whole-between : (channel : Channel) (db : IsSome (begins_at k channel)) (de : IsSome (ends_at k channel))
      (there : IsChannel k channel) (apart : begins_at k channel ≢ ends_at k channel) → Whole channel db de (inl there) (inr apart)
  whole-between channel (inr none) de there apart = absurd (omega (arith, (ends-there k channel there).0, none))
  whole-between channel (inl b) (inr none) there apart = absurd (omega (arith, (ends-there k channel there).1, none))
  whole-between channel (inl b) (inl e) there apart =
      ap (λ (ps : List (Packet Row)). packets_of 0 (channel_of s channel) ++ ps)
      ((team.works (begins_at k channel) b).outbox channel (record { here = refl; elsewhere = λ same. apart (sym same) })
      ∙ ap (λ (ps : List (Packet Row)).
      ps ++ packets_of (clock (begins_at k channel)) (channel_of (now (begins_at k channel)) channel)) (team.queues channel there apart))
      ∙ four (packets_of 0 (channel_of s channel)) (took (ends_at k channel) channel) (left channel)
      (packets_of (clock (begins_at k channel)) (channel_of (now (begins_at k channel)) channel))
      ∙ ap (λ (ps : List (Packet Row)). ps ++ (left channel
      ++ packets_of (clock (begins_at k channel)) (channel_of (now (begins_at k channel)) channel)))
      (held-first channel e (took (ends_at k channel) channel)
      ∙ ap (λ (ps : List (Packet Row)). packets_of 0 (channel_of (begun (ends_at k channel)) channel) ++ ps)
      (sym (brought-taken (ends_at k channel) (team.works (ends_at k channel) e).steps channel apart)))

  whole-at : (channel : Channel) (db : IsSome (begins_at k channel)) (de : IsSome (ends_at k channel))
      (there : IsChannel k channel ⊎ (IsChannel k channel → ⊥))
      (same : (begins_at k channel ≡ ends_at k channel) ⊎ (begins_at k channel ≢ ends_at k channel))
      → (begins_at k channel ≡ ends_at k channel
      → sent_by (steps-at (begins_at k channel) db) channel ≡ sent_by (steps-at (ends_at k channel) de) channel)
      → Whole channel db de there same
  whole-at channel db de (inl there) (inr apart) agree = whole-between channel db de there apart
  whole-at channel db de (inl there) (inl same) agree =
      whole-own channel (steps-at (begins_at k channel) db) de same (agree same)
  whole-at channel db de (inr away) (inl same) agree =
      whole-own channel (steps-at (begins_at k channel) db) de same (agree same)
  whole-at channel db de (inr away) (inr apart) agree =
      whole-away channel (steps-at (begins_at k channel) db) de apart away (nothing-sent channel db away)

  abbrev round : IsRound k task.program s journals
  round = record {
    steps = steps;
    streams = streams;
    held = λ channel. packets_of 0 (channel_of s channel);
    left = remains;
    walks = λ n. walk-at n (cases_lt n (k.caches + 2));
    carried = λ channel. there_back 0 (channel_of s channel);
    whole = λ channel. whole-at channel (cases_lt (begins_at k channel) (k.caches + 2)) (cases_lt (ends_at k channel) (k.caches + 2))
        (is-there k channel) (cases_eq (begins_at k channel) (ends_at k channel))
        (λ same. ap (λ (n : ℕ). sent_by (steps n) channel) same);
  }

  -- WHAT IT COMES TO

  due-at : (n : ℕ) (d : IsSome n) → HoldsAlone (IsDue task.policy k task.operations) (part_of k s n) (steps-at n d)
  due-at n (inl agent) =
      subst (λ (part : Part). HoldsAlone (IsDue task.policy k task.operations) part (team.works n agent).steps) (team.parts n agent)
      (team.works n agent).due
  due-at n (inr none) = tt

  part-at : (n : ℕ) (d : IsSome n) → IsAgent k n → part_after (part_of k s n) (steps-at n d) ≡ part_of k (now n) n
  part-at n (inl agent) there =
      ap (λ (part : Part). part_after part (team.works n agent).steps) (sym (team.parts n agent)) ∙ sym (team.works n agent).part
  part-at n (inr none) there = absurd (omega (arith, none, there))

  inbox-at : (channel : Channel) (d : IsSome (ends_at k channel)) → IsAgent k (ends_at k channel)
      → messages_of (streams_after is_same (streams-at (ends_at k channel) d) (steps-at (ends_at k channel) d) channel)
      ≡ channel_of (now (ends_at k channel)) channel
  inbox-at channel (inl agent) there = sym ((team.works (ends_at k channel) agent).inbox channel refl)
  inbox-at channel (inr none) there = absurd (omega (arith, none, there))

  module _ (events : List Event) (merge : IsMerge journals events) where
    comes : ComesTo k task.program s journals round events
    comes = rounds_run k task.program s journals events round merge

    abbrev after : State
    after = run_from k task.program s events

    holds-then : (channel : Channel) (there : IsChannel k channel ⊎ (IsChannel k channel → ⊥))
        (same : (begins_at k channel ≡ ends_at k channel) ⊎ (begins_at k channel ≢ ends_at k channel))
        → IsAgent k (ends_at k channel)
        → channel_of after channel
        ≡ messages_of (streams_after is_same (streams (ends_at k channel)) (steps (ends_at k channel)) channel
        ++ left-at channel there same)
        → channel_of after channel ≡ channel_of (now (ends_at k channel)) channel ++ messages_of (left-at channel there same)
    holds-then channel there same agent e =
        e ∙ map-append message_of (streams_after is_same (streams (ends_at k channel)) (steps (ends_at k channel)) channel)
        (left-at channel there same)
        ∙ ap (λ (ms : List Row). ms ++ messages_of (left-at channel there same))
        (inbox-at channel (cases_lt (ends_at k channel) (k.caches + 2)) agent)

    between-at : (channel : Channel) (d : IsChannel k channel ⊎ (IsChannel k channel → ⊥))
        (same : (begins_at k channel ≡ ends_at k channel) ⊎ (begins_at k channel ≢ ends_at k channel))
        → IsChannel k channel → begins_at k channel ≢ ends_at k channel
        → channel_of after channel
        ≡ messages_of (streams_after is_same (streams (ends_at k channel)) (steps (ends_at k channel)) channel ++ left-at channel d same)
        → channel_of after channel ≡ channel_of (now (ends_at k channel)) channel
        ++ (messages_of (left channel) ++ channel_of (now (begins_at k channel)) channel)
    between-at channel (inr away) same there apart e = absurd (away there)
    between-at channel (inl here) (inl same) there apart e = absurd (apart same)
    between-at channel (inl here) (inr differ) there apart e =
        holds-then channel (inl here) (inr differ) (ends-there k channel there).1 e
        ∙ ap (λ (ms : List Row). channel_of (now (ends_at k channel)) channel ++ ms)
        (map-append message_of (left channel)
        (packets_of (clock (begins_at k channel)) (channel_of (now (begins_at k channel)) channel))
        ∙ ap (λ (ms : List Row). messages_of (left channel) ++ ms)
        (there_back (clock (begins_at k channel)) (channel_of (now (begins_at k channel)) channel)))

    alone-at : (channel : Channel) (d : IsChannel k channel ⊎ (IsChannel k channel → ⊥))
        (same : (begins_at k channel ≡ ends_at k channel) ⊎ (begins_at k channel ≢ ends_at k channel))
        → IsAgent k (ends_at k channel)
        → channel_of after channel
        ≡ messages_of (streams_after is_same (streams (ends_at k channel)) (steps (ends_at k channel)) channel ++ left-at channel d same)
        → (IsChannel k channel × (begins_at k channel ≢ ends_at k channel))
        ⊎ (channel_of after channel ≡ channel_of (now (ends_at k channel)) channel)
    alone-at channel (inl there) (inr apart) agent e = inl (there, apart)
    alone-at channel (inl there) (inl same) agent e =
        inr (holds-then channel (inl there) (inl same) agent e ∙ append-nil (channel_of (now (ends_at k channel)) channel))
    alone-at channel (inr away) same agent e =
        inr (holds-then channel (inr away) same agent e ∙ append-nil (channel_of (now (ends_at k channel)) channel))

    pub work-joins : Joins task s now left events
    work-joins = record {
      tight = comes.tight;
      due = rounds_keep (IsDue task.policy k task.operations) k task.program s journals events round merge
          (λ n. due-at n (cases_lt n (k.caches + 2)));
      parts = λ n agent. comes.parts n ∙ part-at n (cases_lt n (k.caches + 2)) agent;
      between = λ channel there apart. between-at channel (is-there k channel) (cases_eq (begins_at k channel) (ends_at k channel)) there
          apart (comes.channels channel);
      alone = λ channel agent. alone-at channel (is-there k channel) (cases_eq (begins_at k channel) (ends_at k channel)) agent
          (comes.channels channel);
    }
