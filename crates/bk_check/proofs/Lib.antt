pub mod Least
pub mod Made
pub mod Mutants
pub mod Programs
pub mod Rows
pub mod Steps
