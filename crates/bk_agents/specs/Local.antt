-- What an event does, told by its agent's own part and the heads of channels alone. A row a case, as in the system's table
-- (bk_system, `specs/Events.antt`), and with the same words.
use Rattle.std.specs.Prelude.{ℕ, ◌+◌, List, [], ◌∷◌, ◌++◌, Bool, true, false, ◌&&◌, ◌==◌, Option, Some, None, is_some, option_map, option_and_then, option_to_list, nat_lt, if◌then◌else◌, length, slice_get, drop}
use Rattle.bk_base.specs.Places.{Shape}
use Rattle.bk_base.specs.Tables.{put}
use Rattle.bk_base.specs.declared.op.Done.{Done}
use Rattle.bk_isa.specs.declared.form.Form.{Form}
use Rattle.bk_msg.specs.declared.row.Row.{Row}
use Rattle.bk_lce.specs.CacheTable as table
use Rattle.bk_lce.specs.CacheTable.{Transition}
use Rattle.bk_engine.specs.declared.parts.Choice.{Choice}
use Rattle.bk_engine.specs.declared.parts.TheConstants.{CLASS_RESPONSE, CLASS_MEMORY, CLASS_REQUEST}
use Rattle.bk_engine.specs.declared.heads.TheConstants.{HEAD_REQUEST, HEAD_COH_ACK}
use Rattle.bk_engine.specs.Engine.{EngineState}
use Rattle.bk_engine.specs.Step.{Outcome, runs, runs_to}
use Rattle.bk_system.specs.declared.event.Event.{Event}
use Rattle.bk_system.specs.declared.event.Event.TheVariants.{Issue, Command, Fill, Memory, Engine}
use Rattle.bk_system.specs.declared.event.Origin.{Origin}
use Rattle.bk_system.specs.Memory.{memory_after, answer_to}
use Rattle.bk_system.specs.State.{State}
use Rattle.bk_system.specs.Events.{Happening, is_choice, origins_of}
use Rattle.bk_agents.specs.Parts.{Part, CachePart, EnginePart, MemoryPart, NoPart}
use Rattle.bk_system.specs.declared.channel.Channel.TheVariants as channels
use Rattle.bk_system.specs.declared.channel.Channel.{Channel}
use Rattle.bk_system.specs.Routes.{channel_of, channel_for, is_same}

-- What an event leaves of its agent and does outside.
pub record Local : Type 0 where
  pub part : Part  -- the agent's, after it
  pub sent : List Row  -- in order
  pub touched : Option Channel  -- the one channel whose head it looks at or takes off
  pub pops : Bool  -- it takes that head off
  pub done : Option Done  -- the operation that completes
  pub taken : List Origin  -- of a request that is popped
  pub settled : List Origin  -- of a CohAck that is popped

-- A CACHE: a row of its table. A message that has one is taken off its channel.

abbrev pub cache_local : ℕ → Option Channel → Transition → Local
cache_local completed touched transition = record {
  part = CachePart transition.state (completed + length (option_to_list transition.done));
  sent = option_to_list transition.sent;
  touched = touched;
  pops = is_some touched;
  done = transition.done;
  taken = [];
  settled = [];
}

-- THE MEMORY: the head of its channel is done

abbrev pub memory_local : (ℕ → ℕ) → Row → Local
memory_local memory m = record {
  part = MemoryPart (memory_after memory m);
  sent = option_to_list (answer_to memory m);
  touched = Some channels.Memout;
  pops = true;
  done = None;
  taken = [];
  settled = [];
}

-- THE ENGINE: one instruction, where it has no reason not to run

-- the channel whose head a choice offers to `wfq`
abbrev pub offered_channel : Choice → Option Channel
offered_channel choice =
    if choice.class == CLASS_RESPONSE then Some (channels.Response choice.source)
    else if choice.class == CLASS_MEMORY then (if choice.source == 0 then Some channels.Memin else None)
    else if choice.class == CLASS_REQUEST then Some (channels.Request choice.source)
    else None

-- the channel off which `popq` takes the head that was taken from it by this choice; of memory it is the one, whatever the source
abbrev pub popped_channel : Choice → Option Channel
popped_channel choice =
    if choice.class == CLASS_RESPONSE then Some (channels.Response choice.source)
    else if choice.class == CLASS_MEMORY then Some channels.Memin
    else if choice.class == CLASS_REQUEST then Some (channels.Request choice.source)
    else None

abbrev pub offered : (Channel → Option Row) → Choice → Option Row
offered heads choice = option_and_then heads (offered_channel choice)

-- `popq` touches the channel of the engine's head, any other instruction the one that its choice offers: at all but `wfq` that is none
abbrev pub touched_by : Choice → Option Choice → Option Channel
touched_by choice None = offered_channel choice
touched_by choice (Some popped) = popped_channel popped

-- where a popped head comes from, if it has this number
abbrev pub origins_at : Shape → (Channel → Option Row) → ℕ → Option Choice → List Origin
origins_at k heads number None = []
origins_at k heads number (Some popped) = origins_of k number popped.source (offered heads popped)

abbrev pub engine_local : Shape → (Channel → Option Row) → Choice → Outcome → Local
engine_local k heads choice outcome = record {
  part = EnginePart outcome.engine;
  sent = outcome.sent;
  touched = touched_by choice outcome.popped;
  pops = is_some outcome.popped;
  done = None;
  taken = origins_at k heads HEAD_REQUEST outcome.popped;
  settled = origins_at k heads HEAD_COH_ACK outcome.popped;
}

abbrev pub can_run : Shape → List Form → EngineState → Choice → Option Row → Bool
can_run k program engine choice message =
    nat_lt choice.source k.caches && is_choice (slice_get program engine.core.place) choice && runs k engine program choice message

-- THE LOCAL ROW of an event, if it has one, by the part of its agent and the heads of the channels

abbrev pub local_row : Shape → List Form → Part → (Channel → Option Row) → Event → Option Local
local_row k program (CachePart cache completed) heads (Issue c way op) =
    option_map (cache_local completed None) (if nat_lt way k.ways then table.issue k cache c op way else None)
local_row k program (CachePart cache completed) heads (Command c) =
    option_map (cache_local completed (Some (channels.Command c))) (option_and_then (table.command k cache c) (heads (channels.Command c)))
local_row k program (CachePart cache completed) heads (Fill to from) =
    option_map (cache_local completed (Some (channels.Fill to from)))
    (if nat_lt from k.caches then option_and_then (table.fill k cache to) (heads (channels.Fill to from)) else None)
local_row k program (MemoryPart memory) heads Memory = option_map (memory_local memory) (heads channels.Memout)
local_row k program (EnginePart engine) heads (Engine choice) =
    if can_run k program engine choice (offered heads choice)
    then Some (engine_local k heads choice (runs_to k engine program choice (offered heads choice))) else None
local_row k program part heads event = None

-- THE SAME IN A SYSTEM: the part is put back, the head is taken off the channel that was touched, and what is sent goes to the ends of
-- the channels of its agent

abbrev pub is_touched : Option Channel → Channel → Bool
is_touched None channel = false
is_touched (Some touched) channel = is_same touched channel

-- what a channel has left
abbrev pub left_in : Local → Channel → List Row → List Row
left_in local channel ms = if local.pops && is_touched local.touched channel then drop 1 ms else ms

-- the messages of an agent that go on a channel
abbrev pub sent_on : ℕ → Channel → List Row → List Row
sent_on n channel [] = []
sent_on n channel (m ∷ ms) = if is_same (channel_for n m) channel then m ∷ sent_on n channel ms else sent_on n channel ms

-- a channel after it, by what all channels had
abbrev pub channel_after : (Channel → List Row) → ℕ → Local → Channel → List Row
channel_after contents n local channel = left_in local channel (contents channel) ++ sent_on n channel local.sent

abbrev pub with_part : State → ℕ → Part → State
with_part s n (CachePart cache completed) = record s { caches = put s.caches n cache }
with_part s n (EnginePart engine) = record s { engine = engine }
with_part s n (MemoryPart memory) = record s { memory = memory }
with_part s n NoPart = s

abbrev pub widened : State → ℕ → Local → Happening
widened s n local = record {
  state = record (with_part s n local.part) {
    request = λ from. channel_after (channel_of s) n local (channels.Request from);
    command = λ to. channel_after (channel_of s) n local (channels.Command to);
    response = λ from. channel_after (channel_of s) n local (channels.Response from);
    fill = λ to from. channel_after (channel_of s) n local (channels.Fill to from);
    memout = channel_after (channel_of s) n local channels.Memout;
    memin = channel_after (channel_of s) n local channels.Memin;
    history = s.history ++ option_to_list local.done;
    taken = s.taken ++ local.taken;
    settled = s.settled ++ local.settled;
  };
  sent = local.sent;
}
