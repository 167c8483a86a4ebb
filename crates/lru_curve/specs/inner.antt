pub mod Entries
pub mod Left
pub mod Passes
pub mod Used
