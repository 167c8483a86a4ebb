pub mod Answers
pub mod Curve
pub mod Points
