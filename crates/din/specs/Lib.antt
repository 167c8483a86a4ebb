pub mod Import
pub mod Lines
pub mod Pages
pub mod Traced
pub mod inner
