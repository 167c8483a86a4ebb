pub mod Buckets
pub mod FirstRow
pub mod inner
