pub mod Faults
pub mod Generator
pub mod Grammar
pub mod Reading
pub mod Spelling
pub mod Traces
