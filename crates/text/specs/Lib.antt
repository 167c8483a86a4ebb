pub mod Keys
pub mod Texts
pub mod inner
