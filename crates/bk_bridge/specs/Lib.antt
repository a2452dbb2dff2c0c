pub mod Worlds
pub mod Formed
pub mod Fronts
pub mod Ranges
pub mod Steps
pub mod Readings
pub mod Effects
pub mod Acting
