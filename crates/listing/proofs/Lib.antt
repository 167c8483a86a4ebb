pub mod Counting
pub mod ListingMost
pub mod ListingParts
pub mod RowLines
pub mod RowParts
pub mod SheetListing
