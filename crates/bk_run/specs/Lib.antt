pub mod Completion
pub mod CountBounds
pub mod Greedy
pub mod Jobs
pub mod Log
pub mod Report
pub mod Schedule
pub mod Serial
