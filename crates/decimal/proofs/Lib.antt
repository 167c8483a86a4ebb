pub mod Digits
pub mod Leading
pub mod Padded
pub mod Readings
pub mod Scanned
pub mod Written
