pub mod InstructionLaws
pub mod Kept
pub mod Outward
pub mod Renewed
pub mod Sound
pub mod Wiping
