pub mod Journals
pub mod Agents
pub mod Walks
pub mod System
pub mod Rounds
pub mod Laws
