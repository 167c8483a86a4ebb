pub mod Decisions
pub mod Flags
pub mod Marks
