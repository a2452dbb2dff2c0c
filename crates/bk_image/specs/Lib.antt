pub mod Faults
pub mod Images
pub mod Reading
pub mod Spelling
