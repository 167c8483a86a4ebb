pub mod MarginResults
pub mod Places
pub mod Times
pub mod TouchMargins
