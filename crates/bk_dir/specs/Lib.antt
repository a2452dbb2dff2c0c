pub mod Contents
pub mod Directories
pub mod Laws
pub mod Lists
pub mod Segments
pub mod Summaries
