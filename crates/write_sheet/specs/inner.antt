pub mod Heads
pub mod Parts
pub mod Steps
