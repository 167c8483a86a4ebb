pub mod Heads
pub mod Passes
