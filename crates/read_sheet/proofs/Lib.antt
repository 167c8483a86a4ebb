pub mod Answered
pub mod EntriesRead
pub mod HeadParts
pub mod ReadRows
pub mod ReadStages
pub mod ReadWarm
pub mod ValueLines
pub mod WarmTables
