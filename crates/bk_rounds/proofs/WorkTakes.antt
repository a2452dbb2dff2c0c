-- An agent takes packets: they stand at the ends of its streams.
use Rattle.std.proofs.Common.{◌≡◌, ◌⊎◌, inl, inr, ℕ, ◌≤◌, Bool, true, false, eqb, List, [], ◌++◌, refl, sym, ap, ◌∙◌, arith, append-nil, eqb-true}
use Rattle.std.specs.Prelude.{slice_get, if◌then◌else◌}
use Rattle.std.proofs.lemmas.List.{map-append}
use Rattle.std.proofs.lemmas.List.Elements.{All-append, All-weaker, All-same}
use Rattle.bk_base.specs.Places.{Shape}
use Rattle.bk_msg.specs.declared.row.Row.{Row}
use Rattle.bk_system.specs.declared.channel.Channel.{Channel}
use Rattle.bk_system.specs.Routes.{channel_of, is_same, begins_at}
use Rattle.bk_system.specs.State.{State}
use Rattle.bk_agents.specs.Parts.{part_of}
use Rattle.bk_agents.specs.Held.{held_head}
use Rattle.bk_threads.specs.declared.merging.Stamped.{Stamped}
use Rattle.bk_threads.specs.Agents.{Packet, Channels, sent_by}
use Rattle.bk_threads.specs.Walks.{streams_after}
use Rattle.bk_threads.specs.System.{SystemStep, message_of, messages_of, packets_of}
use Rattle.bk_rounds.specs.Ends.{IsInward, IsOutward}
use Rattle.bk_rounds.specs.Moves.{IsBy, Takes}
use Rattle.bk_rounds.specs.Tasks.{Task}
use Rattle.bk_rounds.specs.Work.{IsWork, IsSent, stream, brought}
use Rattle.bk_rounds.proofs.Appended.{head_stays}
use Rattle.bk_rounds.proofs.Streams.{stream-more, walk-longer, left-longer}

none_out : (k : Shape) (n : ℕ) (channel : Channel) (more : List (Packet Row)) → IsInward k n channel ⊎ (more ≡ [])
    → IsOutward k n channel → more ≡ []
none_out k n channel more (inl inward) outward = absurd (outward.elsewhere inward.here)
none_out k n channel more (inr none) outward = none

pub is-sent-takes : (k : Shape) (n : ℕ) (now new : State) (took later : Channels Channel Row) (clock next : ℕ)
    → IsSent k n now → Takes k n now new took later clock next → IsSent k n new
is-sent-takes k n now new took later clock next waits takes channel outward =
    takes.inbox channel
    ∙ ap (λ (packets : List (Packet Row)). channel_of now channel ++ messages_of packets)
    (none_out k n channel (takes.more channel) (takes.inward channel) outward)
    ∙ append-nil (channel_of now channel) ∙ waits channel outward

-- what a channel brings is longer by what was taken: nothing was taken of one that begins at the agent
brought-longer : (k : Shape) (n : ℕ) (steps : List SystemStep) (took later : Channels Channel Row) (channel : Channel)
    (more : List (Packet Row)) → later channel ≡ took channel ++ more → IsInward k n channel ⊎ (more ≡ [])
    → brought k n steps later channel ≡ brought k n steps took channel ++ more
brought-longer k n steps took later channel more longer inward = whether (eqb (begins_at k channel) n) refl inward
  where
    whether : (b : Bool) → eqb (begins_at k channel) n ≡ b → IsInward k n channel ⊎ (more ≡ [])
        → (if b then sent_by steps channel else later channel) ≡ (if b then sent_by steps channel else took channel) ++ more
    whether false e inward = longer
    whether true e (inl inward) = absurd (inward.elsewhere (eqb-true (begins_at k channel) n e))
    whether true e (inr none) =
        sym (append-nil (sent_by steps channel)) ∙ ap (λ (packets : List (Packet Row)). sent_by steps channel ++ packets) (sym none)

pub work-takes : (task : Task) (n : ℕ) (begun now new : State) (took later sent : Channels Channel Row) (clock next : ℕ)
    (entries : List Stamped) → IsWork task n begun now took sent clock entries → IsSent task.config n now
    → Takes task.config n now new took later clock next → IsWork task n begun new later sent next entries
work-takes task n begun now new took later sent clock next entries work waits takes =
    let more : Channels Channel Row = takes.more in
    let longer : (channel : Channel)
    → stream task.config n begun work.steps later channel ≡ stream task.config n begun work.steps took channel ++ more channel =
    λ channel. stream-more (packets_of 0 (channel_of begun channel)) (brought task.config n work.steps took channel)
    (brought task.config n work.steps later channel) (more channel)
    (brought-longer task.config n work.steps took later channel (more channel) (takes.took_later channel) (takes.inward channel)) in
    let left : (channel : Channel)
    → streams_after is_same (stream task.config n begun work.steps later) work.steps channel
    ≡ streams_after is_same (stream task.config n begun work.steps took) work.steps channel ++ more channel =
    left-longer task.config task.program n (part_of task.config begun n) (stream task.config n begun work.steps took)
    (stream task.config n begun work.steps later) more work.steps longer work.walk.alone in
    let still : IsSent task.config n new = is-sent-takes task.config n now new took later clock next waits takes in record {
      steps = work.steps;
      walk = record {
        alone = walk-longer task.config task.program n (part_of task.config begun n) (stream task.config n begun work.steps took)
            (stream task.config n begun work.steps later) more work.steps longer work.walk.alone;
        own = work.walk.own;
        by_stamp = work.walk.by_stamp;
        told = work.walk.told;
      };
      due = work.due;
      part = takes.part ∙ work.part;
      inbox = λ channel here.
          takes.inbox channel ∙ ap (λ (ms : List Row). ms ++ messages_of (more channel)) (work.inbox channel here)
          ∙ sym (map-append message_of (streams_after is_same (stream task.config n begun work.steps took) work.steps channel)
          (more channel))
          ∙ ap messages_of (sym (left channel));
      outbox = λ channel outward.
          work.outbox channel outward
          ∙ ap (λ (ms : List Row). sent channel ++ packets_of clock ms) (waits channel outward)
          ∙ ap (λ (ms : List Row). sent channel ++ packets_of next ms) (sym (still channel outward));
      through = work.through;
      holds = λ head channel held at.
          ap (λ (ms : List Row). slice_get ms 0) (takes.inbox channel)
          ∙ head_stays (channel_of now channel) (messages_of (more channel)) head.message
          (work.holds head channel (ap held_head (sym takes.part) ∙ held) at);
      stamps = λ channel here.
          All-same (IsBy next) (streams_after is_same (stream task.config n begun work.steps later) work.steps channel)
          (streams_after is_same (stream task.config n begun work.steps took) work.steps channel ++ more channel) (left channel)
          (All-append (IsBy next) (streams_after is_same (stream task.config n begun work.steps took) work.steps channel)
          (more channel)
          (All-weaker (IsBy clock) (IsBy next) (λ packet by. omega (arith, by, takes.forward))
          (streams_after is_same (stream task.config n begun work.steps took) work.steps channel) (work.stamps channel here))
          (takes.stamps channel));
      past = All-weaker (λ (step : SystemStep). step.stamp ≤ clock) (λ (step : SystemStep). step.stamp ≤ next)
          (λ step by. omega (arith, by, takes.forward)) work.steps work.past;
    }
