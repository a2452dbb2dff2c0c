-- The head that the engine holds. It stays in its channel, until `popq` takes it off.
use Rattle.std.specs.Prelude.{◌≡◌, Option, Some, None}
use Rattle.bk_msg.specs.declared.row.Row.{Row}
use Rattle.bk_engine.specs.declared.parts.Head.{Head}
use Rattle.bk_agents.specs.Parts.{Part, EnginePart}
use Rattle.bk_system.specs.declared.channel.Channel.{Channel}
use Rattle.bk_agents.specs.Local.{popped_channel}

abbrev pub held_head : Part → Option Head
held_head (EnginePart engine) = engine.core.head
held_head part = None

-- it stands first in its channel
abbrev pub HoldsFirst : Part → (Channel → Option Row) → Type 0
HoldsFirst part heads = (head : Head) (channel : Channel) → held_head part ≡ Some head → popped_channel head.choice ≡ Some channel
    → heads channel ≡ Some head.message
