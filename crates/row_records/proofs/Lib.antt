pub mod Examples
pub mod Found
