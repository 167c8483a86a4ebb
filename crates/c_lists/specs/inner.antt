pub mod Apart
pub mod InPlace
pub mod Stored
