mod Images
mod Acts
mod Certifies
pub mod Stays
