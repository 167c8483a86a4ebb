pub mod Decisions
pub mod Modtotals
pub mod Passing
pub mod Touches
