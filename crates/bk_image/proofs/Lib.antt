pub mod Counted
pub mod Examples
mod Grown
pub mod Images
pub mod InstructionWords
pub mod Known
pub mod KnowLines
pub mod Loop
pub mod Numbers
