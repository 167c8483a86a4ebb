pub mod Curving
pub mod Exported
pub mod Recording
