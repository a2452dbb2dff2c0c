pub mod Mutants
pub mod Sources
