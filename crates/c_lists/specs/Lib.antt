pub mod Figures
pub mod RecorderList
pub mod Recorders
pub mod Tables
pub mod inner
