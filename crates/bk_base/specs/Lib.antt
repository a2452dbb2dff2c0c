pub mod Counting
pub mod Places
pub mod States
pub mod Tables
