-- The row of each event is the local row of its agent.
use Rattle.bk_system.specs.declared.event.Event.TheVariants as events
use Rattle.bk_agents.specs.Laws.{RowsAreLocal}
use Rattle.bk_agents.proofs.CacheRows.{issue-row, command-row, fill-row}
use Rattle.bk_agents.proofs.MemoryRow.{memory-row}
use Rattle.bk_agents.proofs.EngineRow.{engine-row}

pub rows-local : RowsAreLocal
rows-local k program s (events.Issue c way op) = issue-row k program s c way op
rows-local k program s (events.Command c) = command-row k program s c
rows-local k program s (events.Fill to from) = fill-row k program s to from
rows-local k program s events.Memory = memory-row k program s
rows-local k program s (events.Engine choice) = engine-row k program s choice
