pub mod Answers
pub mod ByTime
pub mod Demand
pub mod Memory
pub mod Orders
pub mod Recency
pub mod Replacing
