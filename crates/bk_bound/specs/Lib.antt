pub mod Bound
pub mod Runs
