pub mod Moves
pub mod Recorders
pub mod inner
