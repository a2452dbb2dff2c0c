-- What each event does: a row a case. An event without a row isn't enabled, and changes nothing.
use Rattle.std.specs.Prelude.{ℕ, List, [], ◌∷◌, ◌++◌, Bool, true, false, ◌&&◌, Option, Some, None, nat_lt, ◌==◌, if◌then◌else◌, slice_get, drop}
use Rattle.std.specs.Option.{option_to_list}
use Rattle.bk_base.specs.Places.{Shape, group_of}
use Rattle.bk_base.specs.Tables.{put}
use Rattle.bk_base.specs.declared.op.Op.{Op}
use Rattle.bk_isa.specs.declared.form.Form.{Form}
use Rattle.bk_isa.specs.declared.form.Form.TheVariants.{Wfq}
use Rattle.bk_msg.specs.declared.row.Row.{Row}
use Rattle.bk_msg.specs.declared.row.Network.TheVariants as networks
use Rattle.bk_msg.specs.declared.row.Network.{Network}
use Rattle.bk_msg.specs.Networks.{network_of, address_of, receiver_of}
use Rattle.bk_lce.specs.CacheTable as table
use Rattle.bk_lce.specs.CacheTable.{Transition}
use Rattle.bk_engine.specs.declared.parts.Choice.{Choice}
use Rattle.bk_engine.specs.declared.parts.TheConstants.{CLASS_NONE, CLASS_RESPONSE, CLASS_MEMORY, CLASS_REQUEST}
use Rattle.bk_engine.specs.declared.heads.TheConstants.{HEAD_REQUEST, HEAD_COH_ACK}
use Rattle.bk_engine.specs.Heads.{head_number}
use Rattle.bk_engine.specs.Step.{Outcome, runs, runs_to}
use Rattle.bk_system.specs.declared.event.Event.{Event}
use Rattle.bk_system.specs.declared.event.Event.TheVariants.{Issue, Command, Fill, Memory, Engine}
use Rattle.bk_system.specs.declared.event.Origin.{Origin}
use Rattle.bk_system.specs.Memory.{memory_after, answer_to}
use Rattle.bk_system.specs.State.{State}

-- what an event leaves, and the messages that it sends, in order
pub record Happening : Type 0 where
  pub state : State
  pub sent : List Row

abbrev pub first : List Row → Option Row
first ms = slice_get ms 0

-- CHANNELS

-- a message at the end of the channel of a number, where it is of this network
abbrev pub added_if : Bool → ℕ → Row → (ℕ → List Row) → ℕ → List Row
added_if here c m channel = if here then put channel c (channel c ++ m ∷ []) else channel

abbrev pub is_request : Network → Bool
is_request networks.Request = true
is_request network = false

abbrev pub is_response : Network → Bool
is_response networks.Response = true
is_response network = false

abbrev pub is_fill : Network → Bool
is_fill networks.Fill = true
is_fill network = false

abbrev pub is_command : Network → Bool
is_command networks.Command = true
is_command network = false

abbrev pub is_memout : Network → Bool
is_memout networks.Memout = true
is_memout network = false

-- ISSUE, COMMAND AND FILL: a row of a cache's table

-- what cache c sends goes to the end of its channel of the message's network
abbrev pub requests_with : ℕ → Option Row → (ℕ → List Row) → ℕ → List Row
requests_with c None channel = channel
requests_with c (Some m) channel = added_if (is_request (network_of m)) c m channel

abbrev pub responses_with : ℕ → Option Row → (ℕ → List Row) → ℕ → List Row
responses_with c None channel = channel
responses_with c (Some m) channel = added_if (is_response (network_of m)) c m channel

-- a fill goes to the channel of its receiver from cache c
abbrev pub fills_with : ℕ → Option Row → (ℕ → ℕ → List Row) → ℕ → ℕ → List Row
fills_with c None channel = channel
fills_with c (Some m) channel = if is_fill (network_of m)
    then put channel (receiver_of m) (put (channel (receiver_of m)) c (channel (receiver_of m) c ++ m ∷ [])) else channel

abbrev pub with_taken : State → ℕ → Transition → Happening
with_taken s c taken = record {
  state = record s {
    caches = put s.caches c taken.state;
    request = requests_with c taken.sent s.request;
    response = responses_with c taken.sent s.response;
    fill = fills_with c taken.sent s.fill;
    history = s.history ++ option_to_list taken.done;
  };
  sent = option_to_list taken.sent;
}

abbrev pub cache_row : State → ℕ → Option Transition → Option Happening
cache_row s c None = None
cache_row s c (Some taken) = Some (with_taken s c taken)

-- a cache that is idle is given an operation; the cache and the way are of the configuration
abbrev pub issue_taken : Shape → State → ℕ → Op → ℕ → Option Transition
issue_taken k s c op way = if nat_lt c k.caches && nat_lt way k.ways then table.issue k (s.caches c) c op way else None

-- the head of a cache's command channel
abbrev pub command_of : Shape → State → ℕ → Option Row → Option Transition
command_of k s c None = None
command_of k s c (Some m) = table.command k (s.caches c) c m

abbrev pub command_taken : Shape → State → ℕ → Option Transition
command_taken k s c = if nat_lt c k.caches then command_of k s c (first (s.command c)) else None

abbrev pub without_command : State → ℕ → State
without_command s c = record s { command = put s.command c (drop 1 (s.command c)) }

-- the head of the fill channel to a cache from another
abbrev pub fill_of : Shape → State → ℕ → Option Row → Option Transition
fill_of k s to None = None
fill_of k s to (Some m) = table.fill k (s.caches to) to m

abbrev pub fill_taken : Shape → State → ℕ → ℕ → Option Transition
fill_taken k s to from = if nat_lt to k.caches && nat_lt from k.caches then fill_of k s to (first (s.fill to from)) else None

abbrev pub without_fill : State → ℕ → ℕ → State
without_fill s to from = record s { fill = put s.fill to (put (s.fill to) from (drop 1 (s.fill to from))) }

-- MEMORY: the head of its channel is done

abbrev pub access_row : State → Option Row → Option Happening
access_row s None = None
access_row s (Some m) = Some (record {
  state = record s { memout = drop 1 s.memout; memory = memory_after s.memory m; memin = s.memin ++ option_to_list (answer_to s.memory m) };
  sent = option_to_list (answer_to s.memory m);
})

-- ENGINE: one instruction, where it has no reason not to run

-- the head that a choice offers to `wfq`, of the responses, the memory's answers and the requests
abbrev pub offered_among : (ℕ → List Row) → List Row → (ℕ → List Row) → Choice → Option Row
offered_among response memin request choice =
    if choice.class == CLASS_RESPONSE then first (response choice.source)
    else if choice.class == CLASS_MEMORY then (if choice.source == 0 then first memin else None)
    else if choice.class == CLASS_REQUEST then first (request choice.source)
    else None

abbrev pub offered_head : State → Choice → Option Row
offered_head s choice = offered_among s.response s.memin s.request choice

abbrev pub is_wait : Option Form → Bool
is_wait (Some (Wfq _)) = true
is_wait _ = false

-- At `wfq` a choice names a channel; at other instructions it has no class, and source 0.
abbrev pub is_choice : Option Form → Choice → Bool
is_choice form choice = if is_wait form then true else choice.class == CLASS_NONE && choice.source == 0

-- the choice that names no channel
abbrev pub no_channel : Choice
no_channel = record { class = CLASS_NONE; source = 0 }

-- what the engine sends goes to the ends of its channels, one message after the other
abbrev pub commands_with : List Row → (ℕ → List Row) → ℕ → List Row
commands_with [] channel = channel
commands_with (m ∷ ms) channel = commands_with ms (added_if (is_command (network_of m)) (receiver_of m) m channel)

abbrev pub memout_with : List Row → List Row → List Row
memout_with [] channel = channel
memout_with (m ∷ ms) channel = memout_with ms (if is_memout (network_of m) then channel ++ m ∷ [] else channel)

-- where a head comes from, if it has this number: a request that is popped is taken, and a CohAck that is popped settles one
abbrev pub origins_of : Shape → ℕ → ℕ → Option Row → List Origin
origins_of k number source None = []
origins_of k number source (Some m) =
    if head_number m == number then record { cache = source; group = group_of k (address_of m) } ∷ [] else []

-- that of a popped head
abbrev pub popped_origins : Shape → State → ℕ → Option Choice → List Origin
popped_origins k s number None = []
popped_origins k s number (Some choice) = origins_of k number choice.source (offered_head s choice)

-- the channels of a class without a popped head
abbrev pub heads_left : ℕ → Option Choice → (ℕ → List Row) → ℕ → List Row
heads_left class None channel = channel
heads_left class (Some choice) channel = if choice.class == class
    then put channel choice.source (drop 1 (channel choice.source)) else channel

abbrev pub memin_left : Option Choice → List Row → List Row
memin_left None memin = memin
memin_left (Some choice) memin = if choice.class == CLASS_MEMORY then drop 1 memin else memin

abbrev pub with_outcome : Shape → State → Outcome → Happening
with_outcome k s outcome = record {
  state = record s {
    engine = outcome.engine;
    command = commands_with outcome.sent s.command;
    memout = memout_with outcome.sent s.memout;
    taken = s.taken ++ popped_origins k s HEAD_REQUEST outcome.popped;
    settled = s.settled ++ popped_origins k s HEAD_COH_ACK outcome.popped;
    response = heads_left CLASS_RESPONSE outcome.popped s.response;
    memin = memin_left outcome.popped s.memin;
    request = heads_left CLASS_REQUEST outcome.popped s.request;
  };
  sent = outcome.sent;
}

abbrev pub can_run : Shape → List Form → State → Choice → Bool
can_run k program s choice =
    nat_lt choice.source k.caches && is_choice (slice_get program s.engine.core.place) choice
    && runs k s.engine program choice (offered_head s choice)

abbrev pub engine_row : Shape → List Form → State → Choice → Option Happening
engine_row k program s choice = if can_run k program s choice
    then Some (with_outcome k s (runs_to k s.engine program choice (offered_head s choice))) else None

-- The row of an event, if it has one.
abbrev pub row : Shape → List Form → State → Event → Option Happening
row k program s (Issue c way op) = cache_row s c (issue_taken k s c op way)
row k program s (Command c) = cache_row (without_command s c) c (command_taken k s c)
row k program s (Fill to from) = cache_row (without_fill s to from) to (fill_taken k s to from)
row k program s Memory = access_row s (first s.memout)
row k program s (Engine choice) = engine_row k program s choice
