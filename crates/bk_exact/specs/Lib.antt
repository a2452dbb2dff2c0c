pub mod Told
pub mod Exact
pub mod Agrees
pub mod After
pub mod Ties
pub mod Runs
