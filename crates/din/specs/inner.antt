pub mod FirstLine
pub mod Held
