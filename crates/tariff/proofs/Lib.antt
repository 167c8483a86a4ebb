pub mod BillingExamples
pub mod Charges
pub mod TariffExamples
