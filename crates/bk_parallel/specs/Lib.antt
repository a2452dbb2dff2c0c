pub mod Teams
pub mod Joined
pub mod Opens
pub mod ClosesOne
pub mod Rounds
pub mod Runs
pub mod Stands
