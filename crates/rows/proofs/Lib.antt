pub mod Alone
pub mod BillResults
pub mod Sizes
