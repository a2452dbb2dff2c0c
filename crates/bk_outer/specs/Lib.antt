pub mod Counts
pub mod Reads
pub mod Shelf
pub mod Sink
