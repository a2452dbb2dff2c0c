pub mod Faults
pub mod Items
pub mod LineWords
pub mod Texts
