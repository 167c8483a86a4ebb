pub mod Bounds
pub mod Finding
pub mod Folding
pub mod Passing
pub mod RowTotals
pub mod Tables
pub mod Touches
