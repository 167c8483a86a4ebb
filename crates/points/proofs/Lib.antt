pub mod Between
pub mod Curve
pub mod Examples
pub mod Lines
pub mod Lists
pub mod Sheets
pub mod Thresholds
