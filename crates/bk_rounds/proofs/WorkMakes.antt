-- An agent makes an event: its walk has one more step.
use Rattle.std.proofs.Common.{◌≡◌, ◌⊎◌, inl, inr, ℕ, ◌+◌, ◌≤◌, List, [], ◌∷◌, ◌++◌, Some, option_map, refl, sym, ap, ◌∙◌, subst, arith, append-nil, eq-eqb}
use Rattle.std.specs.Prelude.{All, slice_get, Bool, None, if◌then◌else◌}
use Rattle.std.proofs.lemmas.List.{map-append}
use Rattle.std.proofs.lemmas.List.Elements.{All-append, All-weaker, All-same, All-push, All-head, All-from_recursion}
use Rattle.bk_msg.specs.declared.row.Row.{Row}
use Rattle.bk_system.specs.declared.channel.Channel.{Channel}
use Rattle.bk_system.specs.declared.event.Event.{Event}
use Rattle.bk_system.specs.Queues.{EachWithin}
use Rattle.bk_system.specs.Routes.{channel_of, heads_of, is_same, begins_at, ends_at, IsChannel}
use Rattle.bk_system.specs.State.{State}
use Rattle.bk_agents.specs.Parts.{Part, part_of, agent_of}
use Rattle.bk_agents.specs.Held.{HoldsFirst}
use Rattle.bk_agents.specs.Local.{local_row, left_in, sent_on}
use Rattle.bk_agents.proofs.Ends.{touches-its-own}
use Rattle.bk_agents.proofs.Heads.{one-head-counts}
use Rattle.bk_agents.proofs.HeadsHeld.{holds-on}
use Rattle.bk_agents.proofs.HeadsThere.{touches-a-head}
use Rattle.bk_agents.proofs.SameChannel.{same-channel}
use Rattle.bk_threads.specs.declared.merging.Stamped.{Stamped}
use Rattle.bk_threads.specs.Agents.{Packet, Channels, heads, after_taking, sent_by}
use Rattle.bk_threads.specs.Walks.{Sees, part_after, streams_after}
use Rattle.bk_threads.specs.System.{SystemStep, message_of, messages_of, packets_of, effect_of, system_rules}
use Rattle.bk_threads.specs.Rounds.{IsWalkOf, entry_of, IsBy as IsOf}
use Rattle.bk_threads.proofs.RoundWalks.{all_keep}
use Rattle.bk_threads.proofs.SystemRunning.{channels_same}
use Rattle.bk_threads.proofs.Taking.{taking-same, taking-longer}
use Rattle.bk_rounds.specs.Ends.{IsOutward}
use Rattle.bk_rounds.specs.Moves.{IsBy, Acts}
use Rattle.bk_rounds.specs.Tasks.{Task, IsDue}
use Rattle.bk_rounds.specs.Work.{IsWork, IsSent, stream, brought}
use Rattle.bk_rounds.proofs.Appended.{part_after-more, sent_by-more, by_stamp-more, streams_after-more, walks_more, holds_more, packet_there, head_stays}
use Rattle.bk_rounds.proofs.Making.{Made, made, none_left, all_left, within-behind, all_by, by-left, brought-more}
use Rattle.bk_rounds.proofs.Streams.{stream-more, walk-longer, left-longer}
use Rattle.bk_rounds.proofs.Through.{sends-through, through-channel}

module _ (task : Task) (n : ℕ) (begun now new : State) (took sent : Channels Channel Row) (clock : ℕ) (entries : List Stamped)
    (event : Event) (work : IsWork task n begun now took sent clock entries) (waits : IsSent task.config n now)
    (own : agent_of task.config event ≡ n) (due : IsDue task.policy task.config task.operations (part_of task.config now n) event)
    (of : Made task.config task.program n now new event)
    (within : (channel : Channel) → EachWithin task.config (channel_of new channel)) where
  entry : Stamped
  entry = record { stamp = clock + 1; event = event }

  abbrev step : SystemStep
  step = record {
    agent = n;
    stamp = clock + 1;
    event = record { stamp = clock + 1; event = event };
    effect = effect_of n (clock + 1) of.local;
  }

  abbrev begins : Part
  begins = part_of task.config begun n

  abbrev before : Channels Channel Row
  before = stream task.config n begun work.steps took

  abbrev streams : Channels Channel Row
  streams = stream task.config n begun (work.steps ++ step ∷ []) took

  -- what was left of the streams until then
  abbrev left : Channels Channel Row
  left = streams_after is_same before work.steps

  -- WHAT THE EVENT SEES

  touched-here : (channel : Channel) → of.local.touched ≡ Some channel → ends_at task.config channel ≡ n
  touched-here channel at =
      touches-its-own task.config task.program (part_of task.config now n) (heads_of now) event of.local of.found channel at ∙ own

  -- at the channel that it touches stands a packet, with the message that stands first there in the state
  seen : (channel : Channel) → of.local.touched ≡ Some channel
      → (packet : Packet Row) × (rest : List (Packet Row)) × (left channel ≡ packet ∷ rest)
      × (Some packet.message ≡ heads_of now channel)
  seen channel at =
      let head = touches-a-head task.config task.program (part_of task.config now n) (heads_of now) event of.local of.found work.holds
      channel at in
      let there = packet_there (left channel) (channel_of now channel) head.0 (work.inbox channel (touched-here channel at)) head.1 in
      (there.0, there.1, there.2, there.3 ∙ sym head.1)

  enabled-at : (channels : Channels Channel Row)
      → ((channel : Channel) → of.local.touched ≡ Some channel
      → option_map message_of (heads channels channel) ≡ heads_of now channel)
      → system_rules task.config task.program n (part_after begins work.steps) (heads channels) step.event ≡ Some step.effect
  enabled-at channels same =
      ap (λ (b : Bool). if b then option_map (effect_of n (clock + 1))
      (local_row task.config task.program (part_after begins work.steps) (λ channel. option_map message_of (heads channels channel)) event)
      else None)
      (eq-eqb (agent_of task.config event) n own)
      ∙ ap (option_map (effect_of n (clock + 1)))
      (ap (λ (part : Part). local_row task.config task.program part (λ channel. option_map message_of (heads channels channel)) event)
      (sym work.part)
      ∙ one-head-counts task.config task.program (part_of task.config now n) (heads_of now)
      (λ channel. option_map message_of (heads channels channel)) event of.local of.found same)

  seen-at : (channels more : Channels Channel Row) → ((channel : Channel) → channels channel ≡ left channel ++ more channel)
      → (channel : Channel) → of.local.touched ≡ Some channel
      → option_map message_of (heads channels channel) ≡ heads_of now channel
  seen-at channels more longer channel at =
      let see = seen channel at in
      ap (λ (packets : List (Packet Row)). option_map message_of (slice_get packets 0))
      (longer channel ∙ ap (λ (packets : List (Packet Row)). packets ++ more channel) see.2)
      ∙ see.3

  sees-at : (channels more : Channels Channel Row) → ((channel : Channel) → channels channel ≡ left channel ++ more channel)
      → Sees channels step
  sees-at channels more longer channel at =
      let see = seen channel at in
      let by : see.0.stamp ≤ clock =
      All-head (IsBy clock) see.0 see.1 (All-same (IsBy clock) (see.0 ∷ see.1) (left channel) (sym see.2)
      (work.stamps channel (touched-here channel at))) in (
        see.0,
        see.1 ++ more channel,
        longer channel ∙ ap (λ (packets : List (Packet Row)). packets ++ more channel) see.2,
        omega (arith, by),
      )

  -- THE STREAMS ARE LONGER by what it sends to its own agent

  nothing_else : (channel : Channel) → (begins_at task.config channel ≡ n → ⊥) → step.effect.sent channel ≡ []
  nothing_else channel apart =
      (all_keep task.config task.program (λ i. part_after begins work.steps) left (step ∷ []) (
        enabled-at left (seen-at left (λ other. []) (λ other. sym (append-nil (left other)))),
        sees-at left (λ other. []) (λ other. sym (append-nil (left other))),
        tt,
      ) (refl, tt)).0.sends channel apart

  longer : (channel : Channel) → streams channel ≡ before channel ++ step.effect.sent channel
  longer channel =
      stream-more (packets_of 0 (channel_of begun channel)) (brought task.config n work.steps took channel)
      (brought task.config n (work.steps ++ step ∷ []) took channel) (step.effect.sent channel)
      (brought-more task.config n (sent_by work.steps channel) (sent_by (work.steps ++ step ∷ []) channel) (took channel)
      (step.effect.sent channel) channel (sent_by-more work.steps step channel) (nothing_else channel))

  left-then : (channel : Channel) → streams_after is_same streams work.steps channel ≡ left channel ++ step.effect.sent channel
  left-then =
      left-longer task.config task.program n begins before streams step.effect.sent work.steps longer work.walk.alone

  -- and what is left of them: what was left without the head that it takes off, and what it sends
  left-after : (channel : Channel)
      → streams_after is_same streams (work.steps ++ step ∷ []) channel
      ≡ after_taking is_same step.effect left channel ++ step.effect.sent channel
  left-after channel =
      streams_after-more is_same streams work.steps step channel
      ∙ taking-same is_same step.effect (λ other. left other ++ step.effect.sent other)
      (streams_after is_same streams work.steps) channel
      (left-then channel)
      ∙ taking-longer is_same same-channel step.effect left step.effect.sent channel
      (λ other at. let see = seen other at in (see.0, see.1, see.2))

  -- THE WORK

  past : All (λ (other : SystemStep). other.stamp ≤ clock + 1) work.steps
  past =
      All-weaker (λ (other : SystemStep). other.stamp ≤ clock) (λ (other : SystemStep). other.stamp ≤ clock + 1)
      (λ other by. omega (arith, by)) work.steps work.past

  walk : IsWalkOf task.config task.program n begins streams (entries ++ entry ∷ []) (work.steps ++ step ∷ [])
  unfolding entry
  walk = record {
    alone = walks_more is_same (system_rules task.config task.program) (ends_at task.config) n begins streams work.steps step
        (walk-longer task.config task.program n begins before streams step.effect.sent work.steps longer work.walk.alone)
        (enabled-at (streams_after is_same streams work.steps)
        (seen-at (streams_after is_same streams work.steps) step.effect.sent left-then))
        (sees-at (streams_after is_same streams work.steps) step.effect.sent left-then)
        touched-here;
    own = All-push (IsOf n) work.steps step work.walk.own (refl, refl);
    by_stamp = by_stamp-more work.steps step work.walk.by_stamp past;
    told = ap (λ (told : List Stamped). told ++ entry ∷ []) work.walk.told ∙ sym (map-append entry_of work.steps (step ∷ []));
  }

  inbox : (channel : Channel) → ends_at task.config channel ≡ n
      → channel_of new channel ≡ messages_of (streams_after is_same streams (work.steps ++ step ∷ []) channel)
  inbox channel here =
      of.channels channel
      ∙ ap (λ (ms : List Row). left_in of.local channel ms ++ sent_on n channel of.local.sent) (work.inbox channel here)
      ∙ channels_same (λ other. messages_of (left other)) left n n (clock + 1) of.local step.effect refl refl (λ other. refl) channel
      ∙ ap messages_of (sym (left-after channel))

  outbox : (channel : Channel) → IsOutward task.config n channel
      → sent_by (work.steps ++ step ∷ []) channel ≡ sent channel ++ packets_of (clock + 1) (channel_of new channel)
  outbox channel outward =
      let empty : channel_of now channel ≡ [] = waits channel outward in
      let sent-now : channel_of new channel ≡ sent_on n channel of.local.sent =
      of.channels channel
      ∙ ap (λ (ms : List Row). left_in of.local channel ms ++ sent_on n channel of.local.sent) empty
      ∙ ap (λ (ms : List Row). ms ++ sent_on n channel of.local.sent) (none_left of.local channel) in
      sent_by-more work.steps step channel
      ∙ ap (λ (packets : List (Packet Row)). packets ++ step.effect.sent channel)
      (work.outbox channel outward ∙ ap (λ (ms : List Row). sent channel ++ packets_of clock ms) empty ∙ append-nil (sent channel))
      ∙ ap (λ (ms : List Row). sent channel ++ packets_of (clock + 1) ms) (sym sent-now)

  through : (channel : Channel) → IsChannel task.config channel ⊎ (sent_by (work.steps ++ step ∷ []) channel ≡ [])
  through channel =
      whether (work.through channel)
      (through-channel task.config n channel of.local.sent
      (sends-through task.config task.program now n (heads_of now) event of.local of.found own)
      (within-behind task.config (left_in of.local channel (channel_of now channel)) (sent_on n channel of.local.sent)
      (subst (EachWithin task.config) (of.channels channel) (within channel))))
    where
      whether : IsChannel task.config channel ⊎ (sent_by work.steps channel ≡ [])
          → IsChannel task.config channel ⊎ (sent_on n channel of.local.sent ≡ [])
          → IsChannel task.config channel ⊎ (sent_by (work.steps ++ step ∷ []) channel ≡ [])
      whether (inl is) more = inl is
      whether (inr none) (inl is) = inl is
      whether (inr none) (inr no_more) =
          inr (sent_by-more work.steps step channel
          ∙ ap (λ (packets : List (Packet Row)). packets ++ step.effect.sent channel) none
          ∙ ap (packets_of (clock + 1)) no_more)

  holds : HoldsFirst (part_of task.config new n) (heads_of new)
  holds =
      subst (λ (part : Part). HoldsFirst part (heads_of new)) (sym of.part)
      (holds-on task.config task.program (part_of task.config now n) (heads_of now) (heads_of new) event of.local of.found work.holds
      (λ channel m head stays.
      ap (λ (ms : List Row). slice_get ms 0)
      (of.channels channel
      ∙ ap (λ (ms : List Row). ms ++ sent_on n channel of.local.sent) (all_left of.local channel (channel_of now channel) stays))
      ∙ head_stays (channel_of now channel) (sent_on n channel of.local.sent) m head))

  stamps : (channel : Channel) → ends_at task.config channel ≡ n
      → All (IsBy (clock + 1)) (streams_after is_same streams (work.steps ++ step ∷ []) channel)
  stamps channel here =
      All-same (IsBy (clock + 1)) (streams_after is_same streams (work.steps ++ step ∷ []) channel)
      (after_taking is_same step.effect left channel ++ step.effect.sent channel) (left-after channel)
      (All-append (IsBy (clock + 1)) (after_taking is_same step.effect left channel) (step.effect.sent channel)
      (by-left (clock + 1) step.effect left channel
      (All-weaker (IsBy clock) (IsBy (clock + 1)) (λ packet by. omega (arith, by)) (left channel) (work.stamps channel here)))
      (All-from_recursion (IsBy (clock + 1)) (step.effect.sent channel) (all_by (clock + 1) (sent_on n channel of.local.sent))))

  more : IsWork task n begun new took sent (clock + 1) (entries ++ entry ∷ [])
  more = record {
    steps = work.steps ++ step ∷ [];
    walk = walk;
    due = holds_more (IsDue task.policy task.config task.operations) begins work.steps step work.due
        (subst (λ (part : Part). IsDue task.policy task.config task.operations part event) work.part due);
    part = of.part ∙ sym (part_after-more begins work.steps step);
    inbox = inbox;
    outbox = outbox;
    through = through;
    holds = holds;
    stamps = stamps;
    past = All-push (λ (other : SystemStep). other.stamp ≤ clock + 1) work.steps step past (omega arith);
  }

pub work-makes : (task : Task) (n : ℕ) (begun now new : State) (took sent : Channels Channel Row) (clock : ℕ) (entries : List Stamped)
    (event : Event) (ms : List Row) → IsWork task n begun now took sent clock entries → IsSent task.config n now
    → Acts task n now new ms (Some event) → ((channel : Channel) → EachWithin task.config (channel_of new channel))
    → IsWork task n begun new took sent (clock + 1) (entries ++ record { stamp = clock + 1; event = event } ∷ [])
unfolding entry
work-makes task n begun now new took sent clock entries event ms work waits acts within =
    more task n begun now new took sent clock entries event work waits acts.0 acts.1
    (made task.config task.program n now new ms event acts.0 acts.2) within
