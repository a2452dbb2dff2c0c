-- Events one after the other, told by the parts of all agents and the channels alone.
use Rattle.std.specs.Prelude.{◌≡◌, ℕ, List, [], ◌∷◌, Some}
use Rattle.bk_base.specs.Places.{Shape}
use Rattle.bk_base.specs.Tables.{put}
use Rattle.bk_isa.specs.declared.form.Form.{Form}
use Rattle.bk_msg.specs.declared.row.Row.{Row}
use Rattle.bk_system.specs.declared.event.Event.{Event}
use Rattle.bk_system.specs.Events.{first}
use Rattle.bk_agents.specs.Parts.{Part, agent_of}
use Rattle.bk_system.specs.declared.channel.Channel.{Channel}
use Rattle.bk_agents.specs.Local.{Local, local_row, channel_after}

-- each has a local row where it stands, which changes its agent's part and the channels
abbrev pub Walks : Shape → List Form → (ℕ → Part) → (Channel → List Row) → List Event → Type 0
Walks k program parts contents [] = Unit {0}
Walks k program parts contents (event ∷ events) =
    (local : Local)
    × (local_row k program (parts (agent_of k event)) (λ channel. first (contents channel)) event ≡ Some local)
    × Walks k program (put parts (agent_of k event) local.part) (channel_after contents (agent_of k event) local) events
