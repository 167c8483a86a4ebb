pub mod Lengths
pub mod Placing
pub mod Putting
pub mod Runs
pub mod Strings
