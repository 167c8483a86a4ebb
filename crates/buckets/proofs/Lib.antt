pub mod Ending
pub mod Examples
pub mod Filling
pub mod FirstRow
pub mod Passing
pub mod Prices
pub mod Rounds
pub mod Touches
