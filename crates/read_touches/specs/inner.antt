pub mod Passed
pub mod TouchAtPlace
pub mod TouchesAtPlace
