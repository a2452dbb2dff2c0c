-- An agent and its work.
use Rattle.std.specs.Prelude.{◌≡◌, [], map}
use Rattle.bk_agents.specs.Held.{HoldsFirst}
use Rattle.bk_agents.specs.Parts.{part_of}
use Rattle.bk_system.specs.declared.channel.Channel.{Channel}
use Rattle.bk_system.specs.Routes.{heads_of}
use Rattle.bk_system.specs.State.{State}
use Rattle.bk_system.specs.Systems.{state_of}
use Rattle.bk_rounds.specs.declared.agent.Agent.{Agent}
use Rattle.bk_rounds.specs.Ends.{took, sent, inlet_channel, outlet_channel, inlet_table, outlet_table}
use Rattle.bk_rounds.specs.Tasks.{Task}
use Rattle.bk_rounds.specs.Work.{IsWork, IsSent}

-- what an agent has done since its hardware was at a state
abbrev pub Works : Task → State → Agent → Type 0
Works task begun agent = IsWork task agent.number begun (state_of agent.hardware) (took task.config agent.inlets.items)
    (sent task.config agent.outlets.items) agent.clock agent.entries.items

-- An agent begins a round: nothing was taken or sent yet, its journal is empty, nothing waits to be sent, and if it is the engine and holds
-- a head, then that stands first in its channel.
pub record IsFresh (agent : Agent) : Type 0 where
  pub took : (channel : Channel) → took agent.hardware.config agent.inlets.items channel ≡ []
  pub sent : (channel : Channel) → sent agent.hardware.config agent.outlets.items channel ≡ []
  pub entries : agent.entries.items ≡ []
  pub waits : IsSent agent.hardware.config agent.number (state_of agent.hardware)
  pub holds : HoldsFirst (part_of agent.hardware.config (state_of agent.hardware) agent.number) (heads_of (state_of agent.hardware))

-- what no round changes of an agent
pub record IsSame (old new : Agent) : Type 0 where
  pub number : new.number ≡ old.number
  pub config : new.hardware.config ≡ old.hardware.config
  pub inlets : map inlet_channel new.inlets.items ≡ map inlet_channel old.inlets.items
  pub outlets : map outlet_channel new.outlets.items ≡ map outlet_channel old.outlets.items
  pub inlet_tables : map inlet_table new.inlets.items ≡ map inlet_table old.inlets.items
  pub outlet_tables : map outlet_table new.outlets.items ≡ map outlet_table old.outlets.items
