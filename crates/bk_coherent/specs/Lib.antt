pub mod Coherent
pub mod Examples
pub mod Traffic
pub mod Statements
