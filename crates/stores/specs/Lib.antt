pub mod Demand
pub mod Modtotal
pub mod Plans
pub mod Rows
pub mod Stays
pub mod inner
