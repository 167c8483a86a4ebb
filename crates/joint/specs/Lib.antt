pub mod Figures
pub mod Joining
pub mod Joint
pub mod inner
