-- One channel holds other messages than before, and all else is as it was.
use Rattle.std.specs.Prelude.{◌≡◌, List, if◌then◌else◌}
use Rattle.bk_msg.specs.declared.row.Row.{Row}
use Rattle.bk_system.specs.State.{State}
use Rattle.bk_system.specs.Routes.{channel_of, is_same}
use Rattle.bk_system.specs.declared.channel.Channel.{Channel}

pub record Holds (old new : State) (channel : Channel) (ms : List Row) : Type 0 where
  pub channels : (other : Channel) → channel_of new other ≡ (if is_same channel other then ms else channel_of old other)
  pub caches : new.caches ≡ old.caches
  pub engine : new.engine ≡ old.engine
  pub memory : new.memory ≡ old.memory
  pub history : new.history ≡ old.history
  pub taken : new.taken ≡ old.taken
  pub settled : new.settled ≡ old.settled
