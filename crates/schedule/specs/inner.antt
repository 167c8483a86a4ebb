pub mod Runs
pub mod Segments
pub mod Starting
pub mod Writing
