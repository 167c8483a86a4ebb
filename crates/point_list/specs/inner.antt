pub mod Held
pub mod Keys
pub mod Noting
pub mod Walk
