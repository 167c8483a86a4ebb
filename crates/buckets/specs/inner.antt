pub mod Pass
pub mod Search
