pub mod PlanResults
pub mod Prices
