-- The calls that make an event: the room that they need, what they add to a system, and what they answer.
use Rattle.std.specs.Prelude.{◌≡◌, ℕ, ◌+◌, ◌<◌, ◌≤◌, ◌++◌, List, Bool, true, false, Option, Some, None, vec_len, vec_capacity, Result, Ok, Err}
use Rattle.std.specs.Option.{option_to_list}
use Rattle.bk_base.specs.Places.{Shape}
use Rattle.bk_base.specs.declared.op.Done.{Done}
use Rattle.bk_engine.specs.declared.parts.Choice.{Choice}
use Rattle.bk_engine.specs.declared.parts.TheConstants.{CLASS_RESPONSE, CLASS_REQUEST}
use Rattle.bk_engine.specs.declared.heads.TheConstants.{HEAD_REQUEST, HEAD_COH_ACK}
use Rattle.bk_msg.specs.Networks.{network_of, receiver_of}
use Rattle.bk_msg.specs.declared.row.Network.TheVariants.{Request, Response, Fill}
use Rattle.bk_msg.specs.declared.row.Row.{Row}
use Rattle.bk_msg.specs.declared.row.Row.TheVariants as rows
use Rattle.bk_system.specs.declared.needs.Need.{Need}
use Rattle.bk_system.specs.declared.hardware.Hardware.{Hardware}
use Rattle.bk_system.specs.Channels.{room}
use Rattle.bk_system.specs.State.{State}
use Rattle.bk_system.specs.Events.{Happening, requests_with, responses_with, fills_with, commands_with, memout_with}
use Rattle.bk_system.specs.Events.{popped_origins, heads_left, memin_left}
use Rattle.bk_system.specs.Needs.{most_commands, most_to_memory, most_origins}
use Rattle.bk_system.specs.Numbering.{fill_place}

-- room for the message that a step of cache c sends, if any, in its channel, and for the operation that it may complete
pub record HasRoomFor (y : Hardware) (c : ℕ) (sent : Option Row) : Type 0 where
  pub request : (m : Row) → sent ≡ Some m → network_of m ≡ Request → 1 ≤ room y.requests c
  pub response : (m : Row) → sent ≡ Some m → network_of m ≡ Response → 1 ≤ room y.responses c
  pub fill : (m : Row) → sent ≡ Some m → network_of m ≡ Fill → 1 ≤ room y.fills (fill_place (receiver_of m) c)
  pub history : vec_len y.history < vec_capacity y.history

-- the cache to which a message asks for a fill, if it does; of the head of a channel, if there is one
abbrev pub peer_of : Row → Option ℕ
peer_of (rows.StTr _ _ _ peer _ _ _) = Some peer
peer_of m = None

abbrev pub peer_in : Option Row → Option ℕ
peer_in None = None
peer_in (Some m) = peer_of m

-- room for all that an instruction of a need may send, and for the origin of the head that it may pop
pub record HasRoomForNeed (y : Hardware) (need : Need) : Type 0 where
  pub command : (c : ℕ) → c < y.config.caches → most_commands need ≤ room y.commands c
  pub memout : most_to_memory need ≤ room y.memout 0
  pub taken : vec_len y.taken + most_origins need ≤ vec_capacity y.taken
  pub settled : vec_len y.settled + most_origins need ≤ vec_capacity y.settled

-- what a step of cache c sends and completes, in the channels and in the history
abbrev pub with_step : State → ℕ → Option Row → Option Done → State
with_step s c sent done = record s {
  request = requests_with c sent s.request;
  response = responses_with c sent s.response;
  fill = fills_with c sent s.fill;
  history = s.history ++ option_to_list done;
}

-- the heads that the engine has popped are off their channels, and their origins are noted
abbrev pub with_popped : Shape → State → Option Choice → State
with_popped k s popped = record s {
  taken = s.taken ++ popped_origins k s HEAD_REQUEST popped;
  settled = s.settled ++ popped_origins k s HEAD_COH_ACK popped;
  response = heads_left CLASS_RESPONSE popped s.response;
  memin = memin_left popped s.memin;
  request = heads_left CLASS_REQUEST popped s.request;
}

-- what an instruction sends is in its channels
abbrev pub with_sent : State → List Row → State
with_sent s sent = record s { command = commands_with sent s.command; memout = memout_with sent s.memout }

-- An event's row, by what the event sent and left and whether it ran. One that didn't run changed nothing.
abbrev pub Answers : Option Happening → State → State → List Row → Bool → Type 0
Answers row old new sent true = row ≡ Some (record { state = new; sent = sent })
Answers row old new sent false = (row ≡ None) × (new ≡ old)

-- the same of a call that may fail, where nothing changes
abbrev pub Happens : {E : Type 0} → Option Happening → State → State → List Row → Result Bool E → Type 0
Happens row old new sent (Ok ran) = Answers row old new sent ran
Happens row old new sent (Err e) = new ≡ old
