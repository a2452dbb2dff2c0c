-- After a round, once its channels are closed and its journals merged, the agents together are the system at the state to which the
-- events of the round lead.
use Rattle.std.proofs.Common.{◌≡◌, ◌≢◌, ◌⊎◌, inl, inr, ℕ, ◌+◌, ◌<◌, ◌≤◌, Bool, true, false, List, [], ◌∷◌, ◌++◌, Option, Some, None, length, map, refl, sym, ap, ◌∙◌, subst, append-nil, arith, eqb, ltb, cond, get_or, if◌then◌else◌}
use Rattle.std.proofs.lemmas.Bool.{cases_eq, cases_lt, eq-eqb, ne_eqb}
use Rattle.std.proofs.lemmas.List.Elements.{All-head, All-tail}
use Rattle.std.proofs.lemmas.Option.{same_Some}
use Rattle.std.specs.List.{All}
use Rattle.bk_agents.specs.Held.{HoldsFirst, held_head}
use Rattle.bk_agents.specs.Local.{popped_channel}
use Rattle.bk_agents.specs.Parts.{CachePart, EnginePart, MemoryPart, NoPart, part_of}
use Rattle.bk_base.specs.Places.{Shape}
use Rattle.bk_engine.specs.declared.parts.Choice.{Choice}
use Rattle.bk_engine.specs.declared.parts.Head.{Head}
use Rattle.bk_engine.specs.declared.parts.TheConstants.{CLASS_RESPONSE, CLASS_MEMORY, CLASS_REQUEST}
use Rattle.bk_msg.specs.declared.row.Row.{Row}
use Rattle.bk_rounds.specs.declared.agent.Agent.{Agent}
use Rattle.bk_rounds.specs.declared.ends.Inlet.{Inlet}
use Rattle.bk_rounds.specs.Ends.{IsOutward, took, sent, taken_of, inlet_channel}
use Rattle.bk_rounds.specs.Reading.{packets_in}
use Rattle.bk_rounds.specs.Tasks.{Task, IsIdle}
use Rattle.bk_rounds.specs.Work.{IsWork}
use Rattle.bk_rounds.proofs.Joining.{is-there, work-joins}
use Rattle.bk_rounds.proofs.Teams.{IsTeamWork, Joins}
use Rattle.bk_system.specs.declared.channel.Channel.{Channel}
use Rattle.bk_system.specs.declared.channel.Channel.TheVariants as channels
use Rattle.bk_system.specs.declared.event.Event.{Event}
use Rattle.bk_system.specs.Events.{first}
use Rattle.bk_system.specs.Routes.{channel_of, heads_of, is_same, begins_at, ends_at, engine_number, memory_number, IsChannel}
use Rattle.bk_system.specs.Runs.{run_from, completed_by}
use Rattle.bk_run.specs.Greedy.{IsEnd}
use Rattle.bk_agents.proofs.SameChannel.{same-channel}
use Rattle.bk_threads.specs.Rounds.{entry_of}
use Rattle.bk_threads.proofs.Orders.{not_nil, filter-yes}
use Rattle.bk_parallel.proofs.Chosen.{ending-channels}
use Rattle.bk_parallel.proofs.Idle.{Agree, same-idle, all-idle}
use Rattle.bk_system.specs.State.{State}
use Rattle.bk_threads.specs.declared.merging.Journal.{Journal}
use Rattle.bk_threads.specs.declared.merging.Stamped.{Stamped}
use Rattle.bk_threads.specs.Agents.{Channels, Packet, sent_by}
use Rattle.bk_threads.specs.Journals.{entries_of, event_of, own, at_stamp, IsMerge}
use Rattle.bk_threads.specs.System.{SystemStep, messages_of, packets_of}
use Rattle.bk_parallel.specs.Joined.{IsBetween, AreBetween, AreClosed, ending_at}
use Rattle.bk_parallel.specs.Teams.{IsAgent, IsTeam, AreApart, inlets_in, entries_in, state_at, inlets_at, outlets_at, entries_at, clock_at}
use Rattle.bk_parallel.specs.Stands.{Stand}
use Rattle.bk_parallel.proofs.Stands.{none-at}

-- CHANNELS

is-between : (k : Shape) (channel : Channel) → IsBetween k channel ⊎ (IsBetween k channel → ⊥)
is-between k channel = whether (is-there k channel) (cases_eq (begins_at k channel) (ends_at k channel))
  where
    whether : IsChannel k channel ⊎ (IsChannel k channel → ⊥)
        → (begins_at k channel ≡ ends_at k channel) ⊎ (begins_at k channel ≢ ends_at k channel)
        → IsBetween k channel ⊎ (IsBetween k channel → ⊥)
    whether (inl there) (inr apart) = inl (record { there = there; apart = apart })
    whether (inl there) (inl same) = inr (λ h. h.apart same)
    whether (inr away) same = inr (λ h. away h.there)

-- a channel of the configuration begins at an agent
begins-at-agents : (k : Shape) (channel : Channel) → IsChannel k channel → IsAgent k (begins_at k channel)
begins-at-agents k (channels.Request from) l = omega (arith, l)
begins-at-agents k (channels.Command to) l = omega arith
begins-at-agents k (channels.Fill to from) l = omega (arith, l.1)
begins-at-agents k (channels.Response from) l = omega (arith, l)
begins-at-agents k channels.Memout l = omega arith
begins-at-agents k channels.Memin l = omega arith

-- nothing is taken of a channel that isn't one of the configuration
not-taken : (inlets : List Inlet) (channel : Channel) → All (λ other. is_same other channel ≡ false) (map inlet_channel inlets)
    → taken_of inlets channel ≡ []
not-taken [] channel none = refl
not-taken (inlet ∷ inlets) channel none =
    ap (λ (b : Bool). if b then inlet.receiver.taken else taken_of inlets channel)
    (All-head (λ other. is_same other channel ≡ false) inlet.channel (map inlet_channel inlets) none)
    ∙ not-taken inlets channel (All-tail (λ other. is_same other channel ≡ false) inlet.channel (map inlet_channel inlets) none)

-- THE HEAD THAT THE ENGINE HOLDS

if-engine : (choice : Choice) (k : Shape) (channel : Channel) → popped_channel choice ≡ Some channel
    → ends_at k channel ≡ engine_number k
if-engine choice k channel e = whether (eqb choice.class CLASS_RESPONSE) (eqb choice.class CLASS_MEMORY) (eqb choice.class CLASS_REQUEST) e
  where
    whether : (a b c : Bool) → (cond a (Some (channels.Response choice.source)) (cond b (Some channels.Memin)
        (cond c (Some (channels.Request choice.source)) None))) ≡ Some channel → ends_at k channel ≡ engine_number k
    whether true b c h = ap (ends_at k) (sym (same_Some (channels.Response choice.source) channel h))
    whether false true c h = ap (ends_at k) (sym (same_Some channels.Memin channel h))
    whether false false true h = ap (ends_at k) (sym (same_Some (channels.Request choice.source) channel h))
    whether false false false h = absurd (cc (h))

held-engine : (k : Shape) (s : State) (n : ℕ) (head : Head) → held_head (part_of k s n) ≡ Some head → n ≡ engine_number k
held-engine k s n head e = elim (cases_eq n (engine_number k)) [
  | inl same ↦ same
  | inr differ ↦ absurd (none-held (ltb n k.caches) (eqb n (engine_number k)) (eqb n (memory_number k))
      (ne_eqb n (engine_number k) differ) e)
]
  where
    none-held : (a b c : Bool) → b ≡ false → held_head (cond a (CachePart (s.caches n) (length (completed_by n s.history)))
        (cond b (EnginePart s.engine) (cond c (MemoryPart s.memory) NoPart))) ≡ Some head → ⊥
    none-held true b c off h = absurd (cc (h))
    none-held false true c off h = absurd (cc (off))
    none-held false false true off h = absurd (cc (h))
    none-held false false false off h = absurd (cc (h))

first-of-more : (xs ys : List Row) (m : Row) → first xs ≡ Some m → first (xs ++ ys) ≡ Some m
first-of-more [] ys m e = absurd (cc (e))
first-of-more (x ∷ xs) ys m e = e

-- nothing comes of an empty list alone
no-element : {X Y : Type 0} (f : X → Y) (xs : List X) → [] ≡ map f xs → xs ≡ []
no-element f [] e = refl
no-element f (x ∷ xs) e = absurd (cc (e))

-- THE ROUND

-- what one agent has done, by the lists of all
abbrev pub WorkAt : Task → (begun : ℕ → State) → List Agent → ℕ → Type 0
WorkAt task begun worked n =
    IsWork task n (begun n) (state_at task.config worked n) (took task.config (inlets_at worked n))
    (sent task.config (outlets_at worked n)) (clock_at worked n) (entries_at worked n)

module _ (task : Task) (s : State) (old opened worked closed emptied : List Agent) (left : Channels Channel Row)
    (list : List Channel) (journals : List Journal) (events : List Event) (between : AreBetween task.config list)
  where
    abbrev k : Shape
    k = task.config

    -- what is known of a round: each call's answer
    pub record IsRoundOf : Type 0 where
      pub stand : Stand k s old
      pub states : (n : ℕ) → state_at k opened n ≡ state_at k old n
      pub works : (n : ℕ) → IsAgent k n → WorkAt task (state_at k opened) worked n
      pub team : IsTeam k worked
      pub inlets : (n : ℕ) → IsAgent k n → map inlet_channel (inlets_at worked n) ≡ ending_at k n list
      pub shut : AreClosed k worked closed left
      pub parted : AreApart closed
      pub told : (n : ℕ) → entries_of journals n ≡ entries_at worked n
      pub merge : IsMerge journals events
      pub last : IsTeam k emptied
      pub same_states : (n : ℕ) → state_at k emptied n ≡ state_at k closed n
      pub same_inlets : (n : ℕ) → inlets_at emptied n ≡ inlets_at closed n
      pub same_outlets : (n : ℕ) → outlets_at emptied n ≡ outlets_at closed n
      pub empty : (n : ℕ) → entries_at emptied n ≡ []

    module _ (round : IsRoundOf) where
      abbrev now : ℕ → State
      now n = state_at k worked n

      not-of : (channel : Channel) → (IsChannel k channel → ⊥) → (n : ℕ) → IsAgent k n
          → All (λ other. is_same other channel ≡ false) (map inlet_channel (inlets_at worked n))
      not-of channel away n l = subst (All (λ other. is_same other channel ≡ false)) (sym (round.inlets n l))
          (λ i d within. differ (get_or (ending_at k n list) i d) (ending-channels k n list between i d within))
        where
          differ : (other : Channel) → IsChannel k other → is_same other channel ≡ false
          differ other there = whether (is_same other channel) refl
            where
              whether : (b : Bool) → is_same other channel ≡ b → is_same other channel ≡ false
              whether true e = absurd (away (subst (IsChannel k) ((same-channel other channel).0 e) there))
              whether false e = e

      -- of no channel but those of the configuration was anything taken
      nothing-took : (channel : Channel) → IsChannel k channel ⊎ (IsChannel k channel → ⊥)
          → IsChannel k channel ⊎ (took k (inlets_at worked (ends_at k channel)) channel ≡ [])
      nothing-took channel (inl there) = inl there
      nothing-took channel (inr away) = inr (ap (packets_in k) (at (cases_lt (ends_at k channel) (k.caches + 2))))
        where
          at : (ends_at k channel < k.caches + 2) ⊎ (k.caches + 2 ≤ ends_at k channel)
              → taken_of (inlets_at worked (ends_at k channel)) channel ≡ []
          at (inl l) = not-taken (inlets_at worked (ends_at k channel)) channel (not-of channel away (ends_at k channel) l)
          at (inr far) = ap (λ (o : Option Agent). taken_of (inlets_in o) channel) (none-at k worked (ends_at k channel) round.team far)

      team-work : IsTeamWork task s journals (state_at k opened) now (λ n. took k (inlets_at worked n))
          (λ n. sent k (outlets_at worked n)) (clock_at worked) left
      team-work = record {
        works = λ n l. subst (λ (entries : List Stamped).
            IsWork task n (state_at k opened n) (now n) (took k (inlets_at worked n)) (sent k (outlets_at worked n)) (clock_at worked n)
            entries) (sym (round.told n)) (round.works n l);
        others = λ n far. round.told n ∙ ap entries_in (none-at k worked n round.team far);
        parts = λ n l. ap (λ (t : State). part_of k t n) (round.states n) ∙ round.stand.parts n l;
        inboxes = λ channel l. ap (λ (t : State). channel_of t channel) (round.states (ends_at k channel))
            ∙ round.stand.inboxes channel l;
        queues = λ channel there apart. round.shut.queues channel (record { there = there; apart = apart });
        none = λ channel. nothing-took channel (is-there k channel);
      }

      pub joins : Joins task s now left events
      joins = work-joins task s journals (state_at k opened) now (λ n. took k (inlets_at worked n))
          (λ n. sent k (outlets_at worked n)) (clock_at worked) left team-work events round.merge

      abbrev after : State
      after = run_from k task.program s events

      abbrev later : ℕ → State
      later n = state_at k emptied n

      -- WHAT THE AGENTS HAVE THEN

      content : (n : ℕ) (channel : Channel) → channel_of (later n) channel ≡ channel_of (state_at k closed n) channel
      content n channel = ap (λ (t : State). channel_of t channel) (round.same_states n)

      part : (n : ℕ) → part_of k (later n) n ≡ part_of k (now n) n
      part n = ap (λ (t : State). part_of k t n) (round.same_states n) ∙ round.shut.parts n

      inbox : (channel : Channel) → IsAgent k (ends_at k channel) → IsBetween k channel ⊎ (IsBetween k channel → ⊥)
          → channel_of (later (ends_at k channel)) channel ≡ channel_of after channel
      inbox channel l (inl leads) =
          content (ends_at k channel) channel ∙ round.shut.received channel leads ∙ sym (joins.between channel leads.there leads.apart)
      inbox channel l (inr not) = whether (joins.alone channel l)
        where
          whether : (IsChannel k channel × (begins_at k channel ≢ ends_at k channel))
              ⊎ (channel_of after channel ≡ channel_of (now (ends_at k channel)) channel)
              → channel_of (later (ends_at k channel)) channel ≡ channel_of after channel
          whether (inl leads) = absurd (not (record { there = leads.0; apart = leads.1 }))
          whether (inr same) = content (ends_at k channel) channel ∙ round.shut.others channel not (ends_at k channel) ∙ sym same

      -- messages that are nothing as packets are nothing
      no-packets : (stamp : ℕ) (ms : List Row) → packets_of stamp ms ≡ [] → ms ≡ []
      no-packets stamp [] e = refl
      no-packets stamp (m ∷ ms) e = absurd (cc (e))

      both-none : (xs ys : List (Packet Row)) → xs ++ ys ≡ [] → (xs ≡ []) × (ys ≡ [])
      both-none [] ys e = (refl, e)
      both-none (x ∷ xs) ys e = absurd (cc (e))

      -- an agent that has sent nothing on a channel has nothing to be sent there
      unsent : (n : ℕ) (channel : Channel) (l : IsAgent k n) → IsOutward k n channel → sent_by (round.works n l).steps channel ≡ []
          → (sent k (outlets_at worked n) channel ≡ []) × (channel_of (now n) channel ≡ [])
      unsent n channel l outward none =
          let parts = both-none (sent k (outlets_at worked n) channel) (packets_of (clock_at worked n) (channel_of (now n) channel))
          (sym ((round.works n l).outbox channel outward) ∙ none) in
          (parts.0, no-packets (clock_at worked n) (channel_of (now n) channel) parts.1)

      outbox : (n : ℕ) (channel : Channel) → IsAgent k n → IsOutward k n channel
          → IsChannel k channel ⊎ (IsChannel k channel → ⊥)
          → channel_of (later n) channel ≡ []
      outbox n channel l outward (inl there) =
          content n channel
          ∙ subst (λ (i : ℕ). channel_of (state_at k closed i) channel ≡ []) outward.here
          (round.shut.given channel (record { there = there; apart = λ same. outward.elsewhere (sym same ∙ outward.here) }))
      outbox n channel l outward (inr away) =
          content n channel ∙ round.shut.others channel (λ leads. away leads.there) n
          ∙ (unsent n channel l outward (none ((round.works n l).through channel))).1
        where
          none : IsChannel k channel ⊎ (sent_by (round.works n l).steps channel ≡ []) → sent_by (round.works n l).steps channel ≡ []
          none (inl there) = absurd (away there)
          none (inr nothing) = nothing

      -- a head of a channel that leads to the agent is still there
      head-kept : (n : ℕ) (channel : Channel) (m : Row) → ends_at k channel ≡ n
          → IsBetween k channel ⊎ (IsBetween k channel → ⊥)
          → heads_of (now n) channel ≡ Some m → heads_of (later n) channel ≡ Some m
      head-kept n channel m ends (inl leads) e =
          ap first (content n channel
          ∙ subst (λ (i : ℕ). channel_of (state_at k closed i) channel ≡ channel_of (now i) channel
          ++ (messages_of (left channel) ++ channel_of (now (begins_at k channel)) channel)) ends (round.shut.received channel leads))
          ∙ first-of-more (channel_of (now n) channel) (messages_of (left channel) ++ channel_of (now (begins_at k channel)) channel) m e
      head-kept n channel m ends (inr not) e = ap first (content n channel ∙ round.shut.others channel not n) ∙ e

      holds : (n : ℕ) → IsAgent k n → HoldsFirst (part_of k (later n) n) (heads_of (later n))
      holds n l head channel held popped =
          let before : held_head (part_of k (now n) n) ≡ Some head = sym (ap held_head (part n)) ∙ held in
          let here = if-engine head.choice k channel popped ∙ sym (held-engine k (now n) n head before) in
          head-kept n channel head.message here (is-between k channel) ((round.works n l).holds head channel before popped)

      pub stands : Stand k after emptied
      stands = record {
        team = round.last;
        apart = record {
          inlets = λ n. round.same_inlets n ∙ round.parted.inlets n;
          outlets = λ n. round.same_outlets n ∙ round.parted.outlets n;
        };
        parts = λ n l. part n ∙ sym (joins.parts n l);
        inboxes = λ channel l. inbox channel l (is-between k channel);
        sent = λ n l channel outward. outbox n channel l outward (is-there k channel);
        holds = holds;
        entries = round.empty;
      }

      -- WHERE NO AGENT HAS MADE AN EVENT, AND NONE HAS ONE THAT IS ENABLED, THERE IS NONE IN THE SYSTEM

      module _ (none : events ≡ []) where
        no-entries : (n : ℕ) → entries_at worked n ≡ []
        no-entries n = sym (round.told n) ∙ unmerged (entries_of journals n) (λ stamp.
            sym (round.merge.kept n stamp)
            ∙ ap (λ all. at_stamp stamp (own n all)) (no-element event_of round.merge.entries (sym none ∙ round.merge.shown)))
          where
            unmerged : (entries : List Stamped) → ((stamp : ℕ) → at_stamp stamp entries ≡ []) → entries ≡ []
            unmerged [] e = refl
            unmerged (entry ∷ entries) e =
                absurd (not_nil entry (at_stamp entry.stamp entries)
                (sym (filter-yes (λ (other : Stamped). eqb other.stamp entry.stamp) entry entries (eq-eqb entry.stamp entry.stamp refl))
                ∙ e entry.stamp))

        none-sent : (n : ℕ) (l : IsAgent k n) (channel : Channel) → sent_by (round.works n l).steps channel ≡ []
        none-sent n l channel =
            ap (λ (steps : List SystemStep). sent_by steps channel)
            (no-element entry_of (round.works n l).steps (sym (no-entries n) ∙ (round.works n l).walk.told))

        stays : after ≡ s
        stays = ap (run_from k task.program s) none

        -- nothing is on its way
        none-left : (channel : Channel) → IsBetween k channel
            → messages_of (left channel) ++ channel_of (now (begins_at k channel)) channel ≡ []
        none-left channel leads =
            let l = begins-at-agents k channel leads.there in
            let given = unsent (begins_at k channel) channel l (record { here = refl; elsewhere = λ same. leads.apart (sym same) })
            (none-sent (begins_at k channel) l channel) in
            let rest = both-none (took k (inlets_at worked (ends_at k channel)) channel) (left channel)
            (sym (round.shut.queues channel leads) ∙ given.0) in
            rw (rest.1, given.1) refl

        same-inbox : (channel : Channel) → IsAgent k (ends_at k channel) → IsBetween k channel ⊎ (IsBetween k channel → ⊥)
            → channel_of (now (ends_at k channel)) channel ≡ channel_of s channel
        same-inbox channel l (inl leads) =
            sym (append-nil (channel_of (now (ends_at k channel)) channel))
            ∙ ap (λ (ms : List Row). channel_of (now (ends_at k channel)) channel ++ ms) (sym (none-left channel leads))
            ∙ sym (joins.between channel leads.there leads.apart)
            ∙ ap (λ (t : State). channel_of t channel) stays
        same-inbox channel l (inr not) = whether (joins.alone channel l)
          where
            whether : (IsChannel k channel × (begins_at k channel ≢ ends_at k channel))
                ⊎ (channel_of after channel ≡ channel_of (now (ends_at k channel)) channel)
                → channel_of (now (ends_at k channel)) channel ≡ channel_of s channel
            whether (inl leads) = absurd (not (record { there = leads.0; apart = leads.1 }))
            whether (inr same) = sym same ∙ ap (λ (t : State). channel_of t channel) stays

        agree : (n : ℕ) → IsAgent k n → Agree k (now n) s n
        agree n l = record {
          part = sym (joins.parts n l) ∙ ap (λ (t : State). part_of k t n) stays;
          heads = λ channel ends. ap first (subst (λ (i : ℕ). channel_of (now i) channel ≡ channel_of s channel) ends
              (same-inbox channel (subst (IsAgent k) (sym ends) l) (is-between k channel)));
        }

        pub rests : ((n : ℕ) → IsAgent k n → IsIdle k task.program task.operations (now n) n)
            → IsEnd k task.program s task.operations
        rests idle = all-idle k task.program task.operations s
            (λ n l. same-idle k task.program (now n) s task.operations n (agree n l) (idle n l))
