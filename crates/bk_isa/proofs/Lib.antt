pub mod Admitted
pub mod Examples
pub mod Forms
pub mod Operands
pub mod Operations
pub mod States
pub mod Words
