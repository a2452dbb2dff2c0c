pub mod Reading
pub mod Ends
pub mod Tasks
pub mod Moves
pub mod Work
pub mod Agents
