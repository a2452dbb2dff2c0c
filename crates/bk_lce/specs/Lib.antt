pub mod CacheArrays
pub mod CacheState
pub mod CacheTable
pub mod HasRow
pub mod Laws
pub mod Lists
pub mod Policies
