pub mod Examples
pub mod Intervals
pub mod VerdictExamples
pub mod Windows
