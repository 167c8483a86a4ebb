pub mod Conversions
pub mod Idle
pub mod Results
