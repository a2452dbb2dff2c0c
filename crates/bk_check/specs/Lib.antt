pub mod Accepted
pub mod Obligations
