-- The work of an agent in a round.
use Rattle.std.specs.Prelude.{◌≡◌, ◌⊎◌, ℕ, ◌≤◌, ◌==◌, if◌then◌else◌, List, [], ◌++◌, All}
use Rattle.bk_base.specs.Places.{Shape}
use Rattle.bk_msg.specs.declared.row.Row.{Row}
use Rattle.bk_system.specs.declared.channel.Channel.{Channel}
use Rattle.bk_system.specs.Routes.{channel_of, heads_of, is_same, begins_at, ends_at, IsChannel}
use Rattle.bk_system.specs.State.{State}
use Rattle.bk_agents.specs.Parts.{part_of}
use Rattle.bk_agents.specs.Held.{HoldsFirst}
use Rattle.bk_threads.specs.declared.merging.Stamped.{Stamped}
use Rattle.bk_threads.specs.Agents.{Channels, sent_by}
use Rattle.bk_threads.specs.Walks.{part_after, streams_after}
use Rattle.bk_threads.specs.System.{SystemStep, messages_of, packets_of}
use Rattle.bk_threads.specs.Rounds.{IsWalkOf, HoldsAlone}
use Rattle.bk_rounds.specs.Ends.{IsOutward}
use Rattle.bk_rounds.specs.Moves.{IsBy}
use Rattle.bk_rounds.specs.Tasks.{Task, IsDue}

-- What a channel brings agent n in a round: what the agent has taken of it; of one to itself, what it has sent there.
abbrev pub brought : Shape → ℕ → List SystemStep → Channels Channel Row → Channels Channel Row
brought k n steps took channel = if begins_at k channel == n then sent_by steps channel else took channel

-- And its stream: first what was there when the round began, as if it had been sent at stamp 0.
abbrev pub stream : Shape → ℕ → State → List SystemStep → Channels Channel Row → Channels Channel Row
stream k n begun steps took channel = packets_of 0 (channel_of begun channel) ++ brought k n steps took channel

-- Agent n has worked alone. It began at the state of its own hardware that is `begun`, and it is now at another; by now it has taken and
-- sent packets, and has made the entries of its journal. That was a walk on the streams: its part is what the walk left, each channel that
-- leads to it holds what the walk left of the stream, and what the walk has sent is what was sent, and then what is not sent yet.
pub record IsWork (task : Task) (n : ℕ) (begun now : State) (took sent : Channels Channel Row) (clock : ℕ) (entries : List Stamped)
    : Type 0 where
  pub steps : List SystemStep
  pub walk : IsWalkOf task.config task.program n (part_of task.config begun n) (stream task.config n begun steps took) entries steps
  pub due : HoldsAlone (IsDue task.policy task.config task.operations) (part_of task.config begun n) steps
  pub part : part_of task.config now n ≡ part_after (part_of task.config begun n) steps
  pub inbox : (channel : Channel) → ends_at task.config channel ≡ n
      → channel_of now channel ≡ messages_of (streams_after is_same (stream task.config n begun steps took) steps channel)
  pub outbox : (channel : Channel) → IsOutward task.config n channel
      → sent_by steps channel ≡ sent channel ++ packets_of clock (channel_of now channel)
  pub through : (channel : Channel) → IsChannel task.config channel ⊎ (sent_by steps channel ≡ [])
  pub holds : HoldsFirst (part_of task.config now n) (heads_of now)
  -- the clock is behind no stamp, neither of what is in the inbox nor of what was made
  pub stamps : (channel : Channel) → ends_at task.config channel ≡ n
      → All (IsBy clock) (streams_after is_same (stream task.config n begun steps took) steps channel)
  pub past : All (λ step. step.stamp ≤ clock) steps

-- nothing waits to be sent
abbrev pub IsSent : Shape → ℕ → State → Type 0
IsSent k n s = (channel : Channel) → IsOutward k n channel → channel_of s channel ≡ []
