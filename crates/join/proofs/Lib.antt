pub mod Entries
pub mod Filling
pub mod Heads
pub mod Held
pub mod HeldHead
pub mod Told
