pub mod Parts
pub mod Local
pub mod Walks
pub mod Held
pub mod Laws
