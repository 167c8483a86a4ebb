pub mod FormPlans
pub mod MarkedPrices
