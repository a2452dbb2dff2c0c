pub mod Sound
pub mod Actions
pub mod Certified
