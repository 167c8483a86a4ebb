pub mod Listing
pub mod RowListing
pub mod inner
