pub mod Follows
mod Sums
mod Channels
mod Inside
mod WorldCounts
mod WorldHeads
mod WorldMessages
mod WorldSteps
mod WorldEvents
mod Due
mod DueFlushes
mod DueAfter
mod DuePopped
mod Rounds
mod Counted
mod Instructions
mod InstructionCounts
mod Pops
mod PopCounts
mod HeadsHad
mod EventCounts
mod EventBounds
pub mod TraceBounds
