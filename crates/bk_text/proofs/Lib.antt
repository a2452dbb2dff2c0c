pub mod Cuts
pub mod Digits
pub mod Joined
pub mod Laws
pub mod LineWords
pub mod Numerals
pub mod Places
