pub mod Billing
pub mod Tariff
