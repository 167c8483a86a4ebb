pub mod Beyond
pub mod Embedded
pub mod Entries
pub mod Examples
pub mod Halves
pub mod Joined
pub mod Joining
pub mod Lists
