pub mod OneRow
pub mod Sweep
