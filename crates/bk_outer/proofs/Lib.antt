mod Front
pub mod Taken
